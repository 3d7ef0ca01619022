-- A float token has the value that it has with its digits and its exponent stopped at `beyond`, where they are beyond the limits. Assumes nothing.
use Prim.Native.Nat.{ℕ, ◌-◌, ◌≤◌, min}
use mathlib.Core.Path.{◌≡◌, refl, sym, ◌∙◌, ap}
use mathlib.Core.Logic.{inl, inr}
use mathlib.Core.Bool.{Bool, true, false}
use native.Mathlib.Nat.{le_refl, le_of_lt, min-eq_left, min-eq_right}
use native.Mathlib.Omega.{arith}
use Rattle.lexer.specs.Digits.{beyond}
use Rattle.lexer.specs.Float.{scale_of, scale, float_value}
use Rattle.lexer.proofs.float.Grid.{le_or_lt}
use Rattle.lexer.proofs.float.Values.{many_digits, many_tens}
use Rattle.lexer.proofs.float.Ways.{exponent-beyond, exponent_more}
use Rattle.std.specs.declared.option.Option.TheVariants.{None}

-- a text's length, so no token has more fraction digits
abbrev pub most_digits : ℕ
most_digits = 65535

-- what is the same from beyond on does not tell a number from the number stopped there
stopped : {A : Type 0} (g : ℕ → A) (a : A) → ((n : ℕ) → beyond ≤ n → a ≡ g n) → (n : ℕ) → g (min n beyond) ≡ g n
stopped g a same n = elim (le_or_lt n beyond) [
  | inl h ↦ ap g (min-eq_left h)
  | inr h ↦ ap g (min-eq_right (le_of_lt h)) ∙ sym (same beyond (le_refl beyond)) ∙ same n (le_of_lt h)
]

module _ (m : ℕ) (f : ℕ) (few : f ≤ most_digits) where
  far : (minus : Bool) (x : ℕ) → beyond ≤ x → None ≡ float_value m minus x f
  far true x h = exponent-beyond m true x f refl (omega arith)
  far false x h = exponent_more m false x f refl None (omega arith) (many_tens m (scale_of true (x - f)) (omega arith))

pub float_capped : (m : ℕ) (minus : Bool) (x f : ℕ) → f ≤ most_digits → float_value (min m beyond) minus (min x beyond) f ≡ float_value m minus x f
float_capped m minus x f few =
    stopped (λ (n : ℕ). float_value n minus (min x beyond) f) None (λ (n : ℕ) (h : beyond ≤ n). many_digits n (scale minus (min x beyond) f) (omega arith)) m
    ∙ stopped (λ (n : ℕ). float_value m minus n f) None (far m f few minus) x
