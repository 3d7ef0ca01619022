-- Whether a byte is a mark does not hang on the layout before it. Assumes nothing.
use Prim.Native.Nat.{ℕ}
use mathlib.Core.Path.{◌≡◌, refl, sym, ◌∙◌, ap}
use mathlib.Core.Bool.{Bool, true, false, cond, true≢false}
use lib.Dec.{eqb}
use Rattle.lexer.specs.Chars.{open_paren}
use Rattle.lexer.specs.Token.{mark, is_mark}
use Rattle.lexer.specs.declared.kind.Kind.TheVariants.{Open, OpenCT}
use Rattle.lexer.specs.Token.{Mark}
use Rattle.std.specs.declared.option.Option.TheVariants.{Some, None}

paren : (t e : Bool) (m : Mark) → is_mark (cond e (cond t (Some Open) (Some OpenCT)) m) ≡ is_mark (cond e (Some OpenCT) m)
paren t false m = refl
paren true true m = refl
paren false true m = refl

pub as-bare : (t : Bool) (b : ℕ) → is_mark (mark t b) ≡ is_mark (mark false b)
unfolding mark
as-bare t b = paren t (eqb b open_paren) _

pub none : (m : Mark) → is_mark m ≡ false → m ≡ None
none (Some k) e = absurd (true≢false e)
none None e = refl

pub bare : (t : Bool) (b : ℕ) → mark t b ≡ None → mark false b ≡ None
bare t b e = none (mark false b) (sym (as-bare t b) ∙ ap is_mark e)
