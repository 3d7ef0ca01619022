-- `lexer::layout_call::layout_given` meets its contract. Assumes nothing.
use Prim.Native.Nat.{ℕ, ◌<◌}
use mathlib.Core.Path.{◌≡◌, sym, ◌∙◌, ap}
use mathlib.Core.Bool.{cond}
use mathlib.Core.List.{List}
use native.Mathlib.Omega.{arith}
use borrow.Author.Rules.{rules}
use lib.ListN.{length, get_or}
use Rattle.lexer.specs.Chars.{is, layout_char}
use Rattle.lexer.specs.Cursor.{move_to, Valid}
use Rattle.lexer.specs.LayoutCall.{layout_kind, Given}
use Rattle.lexer.specs.declared.cursor.Cursor.{Cursor}
use Rattle.lexer.specs.declared.layout_call.LayoutKind.{LayoutKind}
use Rattle.lexer.specs.declared.layout_call.LayoutKind.TheVariants.{Blanks, SingleLine, Bracketed}
use Rattle.lexer.proofs.HandedOn.{handed_on}
use Rattle.lexer.proofs.LayoutCalls.{blanks_end, given, is_run, kind_run, text_there, given-text}
use Rattle.lexer.proofs.layout_call.layout_given.Goals as goal
use Rattle.lexer.specs.declared.layout_call.LayoutRead.{LayoutRead}
use Rattle.std.specs.declared.result.Result.TheVariants.{Ok}

module _ (s : List ℕ) (c next : Cursor) (g : Given s c next) where
  starts : c.offset < length s
  starts = let t = text_there s c next g.text in omega (arith, t.ahead, t.inside)

  valid-here : Valid (length s) c
  valid-here = g.valid

  -- the ways out: k is the kind
  module _ (k : LayoutKind) (e : k ≡ layout_kind (get_or s c.offset 0)) where
    of_kind : (d : Cursor) → d ≡ move_to s c (cond (is_run k) (blanks_end s c.offset) (text_there s c next g.text).end) → Ok (LayoutRead.Text k c.offset d) ≡ given s c
    of_kind d m = let r : is_run k ≡ is layout_char (get_or s c.offset 0) = ap is_run e ∙ kind_run (get_or s c.offset 0) in sym (given-text s c next g.text ∙ cc (r, e, m))

    blanks : k ≡ Blanks → (d : Cursor) → d ≡ move_to s c (blanks_end s c.offset) → Ok (LayoutRead.Text k c.offset d) ≡ given s c
    blanks f d m = of_kind d (rw f m)

    line : k ≡ SingleLine → Ok (LayoutRead.Text k c.offset next) ≡ given s c
    line f = of_kind next (rw f (text_there s c next g.text).there)

    bracketed : k ≡ Bracketed → Ok (LayoutRead.Text k c.offset next) ≡ given s c
    bracketed f = of_kind next (rw f (text_there s c next g.text).there)

ruleset ways = (handed_on, starts, valid-here, blanks, line, bracketed, rules)

pub bounds-text-start : goal.bounds-text-start
bounds-text-start c = search ways

pub returns-in-Blanks : goal.returns-in-Blanks
returns-in-Blanks c = search ways

pub returns-in-Bracketed : goal.returns-in-Bracketed
returns-in-Bracketed c = search ways

pub returns-in-SingleLine : goal.returns-in-SingleLine
returns-in-SingleLine c = search ways
