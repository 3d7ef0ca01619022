-- `lexer::layout_call::layout_at` meets its contract. Assumes nothing.
use Prim.Native.Nat.{ℕ}
use mathlib.Core.Path.{◌≡◌, sym, ◌∙◌}
use mathlib.Core.List.{List}
use borrow.Author.Rules.{rules}
use lib.ListN.{length}
use Rattle.lexer.specs.Cursor.{Valid}
use Rattle.lexer.specs.Layout.{layout_text, stepped}
use Rattle.lexer.specs.LayoutCall.{Given}
use Rattle.lexer.specs.declared.refusal.Fault.{Fault}
use Rattle.lexer.specs.declared.cursor.Cursor.{Cursor}
use Rattle.lexer.specs.Layout.{Layout}
use Rattle.std.specs.declared.option.Option.TheVariants.{Some, None}
use Rattle.std.specs.declared.result.Result.TheVariants.{Ok, Err}
use Rattle.lexer.proofs.HandedOn.{handed_on}
use Rattle.lexer.proofs.LayoutCalls.{given, given-refused, given-none}
use Rattle.lexer.proofs.layout_call.layout_at.Goals as goal
use Rattle.lexer.specs.Refusal.{refuse}
use Rattle.lexer.specs.declared.layout_call.LayoutRead.{LayoutRead}

-- the ways out: r is what the layout text at the cursor came to
module _ (s : List ℕ) (c : Cursor) (r : Layout) (f : r ≡ stepped s c (layout_text s c.offset)) where
  refused : (w : Fault) → r ≡ Err w → refuse w c ≡ given s c
  refused w g = sym (given-refused s c w (sym f ∙ g))

  none : r ≡ (Ok None) → Ok (LayoutRead.Absent c) ≡ given s c
  none g = sym (given-none s c (sym f ∙ g))

  there : (next : Cursor) → Valid (length s) c → r ≡ Ok (Some next) → Given s c next
  there next v g = record { valid = v; text = sym f ∙ g }

ruleset ways = (handed_on, refused, none, there, rules)

pub returns-in-Err : goal.returns-in-Err
returns-in-Err c = search ways

pub returns-in-None : goal.returns-in-None
returns-in-None c = search ways
