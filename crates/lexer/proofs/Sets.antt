-- That a range of bytes has the members of a class is one test over all bytes, which antt computes. Assumes nothing.
use Prim.Native.Nat.{ℕ, ◌<◌}
use mathlib.Core.Path.{◌≡◌, sym, ◌∙◌, ap}
use mathlib.Core.Bool.{Bool, true, false, not, true≢false}
use borrow.Author.Tests.{ne_eqb}
use lib.Dec.{T, eqb}
use Rattle.lexer.specs.Chars.{within}
use Rattle.lexer.proofs.Table.{agree, agreed}

module _ (q : ℕ → Bool) (lo hi b : ℕ) (r : Bool) (e : r ≡ within lo hi b) (h : b < 256) where
  pub in-range : T (agree (within lo hi) q 256) → r ≡ q b
  in-range t = e ∙ agreed (within lo hi) q 256 t b h

differ : (v : Bool) → v ≡ not v → ⊥
differ true e = true≢false e
differ false e = true≢false (sym e)

-- two bytes, or two classes, on which a test differs are not the same
pub apart : (f : ℕ → Bool) (x y : ℕ) → f x ≡ not (f y) → eqb x y ≡ false
apart f x y e = ne_eqb x y (λ h. differ (f y) (sym (ap f h) ∙ e))
