-- `lexer::layout_call::next_layout` meets its contract. Assumes nothing.
use Prim.Native.Nat.{ℕ}
use mathlib.Core.Path.{◌≡◌}
use mathlib.Core.Bool.{Bool, true, false}
use mathlib.Core.List.{List}
use borrow.Author.Rules.{rules}
use lib.ListN.{length}
use Rattle.lexer.specs.Cursor.{valid}
use Rattle.lexer.specs.LayoutCall.{next_layout, LayoutAnswer}
use Rattle.lexer.specs.Token.{not_valid}
use Rattle.lexer.specs.declared.refusal.Fault.{Fault}
use Rattle.lexer.specs.declared.cursor.Cursor.{Cursor}
use Rattle.lexer.proofs.HandedOn.{handed_on}
use Rattle.lexer.proofs.Cursors.{tested-valid}
use Rattle.lexer.proofs.LayoutCalls.{given}
use Rattle.lexer.proofs.layout_call.next_layout.Goals as goal
use Rattle.lexer.specs.Refusal.{refuse}

module _ (s : List ℕ) (c : Cursor) (t : Bool) (e : t ≡ valid (length s) c) where
  read : (r : LayoutAnswer) → t ≡ true → r ≡ given s c → r ≡ next_layout s c
  read r f g = cc

  refused : (w : Fault) → t ≡ false → w ≡ not_valid → refuse w c ≡ next_layout s c
  refused w f g = cc

ruleset ways = (handed_on, tested-valid, read, refused, rules)

pub layout_at-requires : goal.layout_at-requires
layout_at-requires c = search ways
