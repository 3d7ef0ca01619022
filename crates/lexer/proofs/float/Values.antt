-- A float token has a value just where it is within the limits, and the value is the one double nearest to m times ten to the e. Assumes nothing.
use Prim.Native.Nat.{ℕ, ◌+◌, ◌-◌, ◌*◌, ◌^◌, ◌≤◌, ◌<◌}
use mathlib.Core.Path.{◌≡◌, refl, sym, ◌∙◌, ap, subst}
use mathlib.Core.Logic.{inl, inr}
use mathlib.Core.Bool.{Bool, true, false, not, cond}
use native.Mathlib.Nat.{lt_of_le_of_lt, lt_of_lt_of_le, mul_assoc, mul-one, one-mul, mul-le-mul, mul-le-mul_right, mul-le-mul_left, pow-le-pow_right}
use native.Mathlib.Omega.{arith}
use borrow.Author.Tests.{le-leb, lt-leb}
use lib.Dec.{T, lit<}
use lib.Pow.{pow-add}
use lib.Ieee.{Float, nan, inf, fin, is_nan}
use Rattle.lexer.specs.Float.{Scale, Limits, largest_digits, largest_tens, scale_of, scale, over, under, value, within_limits}
use Rattle.lexer.specs.Nearest.{Nearest}
use Rattle.lexer.proofs.float.Grid.{le_or_lt}
use Rattle.lexer.proofs.float.Doubles.{round-nearest, nearest_unique}
use Rattle.lexer.proofs.float.Tens.{ten_pos}
use Rattle.std.specs.declared.option.Option.TheVariants.{Some, None}

-- ---- within the limits the value is nearest, and no other is

under-pos : (up : Bool) (k : ℕ) → 0 < under (scale_of up k)
under-pos true k = lit< tt
under-pos false k = ten_pos k

half_room : (m : ℕ) (up : Bool) (k : ℕ) → Limits m (scale_of up k) → over m (scale_of up k) * 2 < 2 ^ 1024 * under (scale_of up k)
half_room m true k h = lt_of_le_of_lt (mul-le-mul_right 2 (mul-le-mul h.digits (pow-le-pow_right {n = 10} (lit< tt) h.power))) (lit< tt)
half_room m false k h =
    lt_of_le_of_lt (mul-le-mul_right 2 h.digits) (lt_of_lt_of_le (lit< {n = 2 ^ 1024 * 1} tt) (mul-le-mul_left (2 ^ 1024) (ten_pos k)))

module _ (m : ℕ) (s : Scale) (h : Limits m s) where
  pub value-nearest : Nearest (value m s) (over m s) (under s)
  value-nearest = round-nearest (over m s) (under s) (under-pos s.up s.tens) (half_room m s.up s.tens h)

  pub value_only : (v : Float) → Nearest v (over m s) (under s) → v ≡ value m s
  value_only v n = nearest_unique (over m s) (under s) (under-pos s.up s.tens) v (value m s) n value-nearest

-- ---- beyond the limits and within them

module _ (m : ℕ) (s : Scale) where
  pub many_digits : largest_digits < m → None ≡ within_limits m s
  unfolding within_limits
  many_digits h = cc (lt-leb m largest_digits h)

  pub many_tens : largest_tens < s.tens → None ≡ within_limits m s
  unfolding within_limits
  many_tens l = elim (le_or_lt m largest_digits) [
    | inl h ↦ cc (le-leb m largest_digits h, lt-leb s.tens largest_tens l)
    | inr h ↦ many_digits h
  ]

  pub inside : Limits m s → Some (value m s) ≡ within_limits m s
  unfolding within_limits
  inside h = cc (le-leb m largest_digits h.digits, le-leb s.tens largest_tens h.power)

-- ---- the cases of `scale`

module _ (minus : Bool) (x f : ℕ) where
  pub scale-minus : minus ≡ true → scale minus x f ≡ scale_of false (x + f)
  unfolding scale
  scale-minus e = cc

  pub scale-up : minus ≡ false → f ≤ x → scale minus x f ≡ scale_of true (x - f)
  unfolding scale
  scale-up e h = cc (le-leb f x h)

  pub scale-down : minus ≡ false → x < f → scale minus x f ≡ scale_of false (f - x)
  unfolding scale
  scale-down e h = cc (lt-leb f x h)

-- ---- document 01's e: over / under is m times ten to the x, or by it after a minus, by ten to the f

ten_split : (a b c : ℕ) → a + b ≡ c → 10 ^ a * 10 ^ b ≡ 10 ^ c
ten_split a b c e = sym (pow-add 10 a b) ∙ ap (λ (n : ℕ). 10 ^ n) e

module _ (m x f : ℕ) where
  abbrev pub Exact : Bool → Scale → Type 0
  Exact minus s = over m s * (cond minus (10 ^ x) 1 * 10 ^ f) ≡ m * cond minus 1 (10 ^ x) * under s

  pub scale_exact : (minus : Bool) → Exact minus (scale minus x f)
  unfolding scale
  scale_exact true = rw (ten_split x f (x + f) refl, mul-one m) refl
  scale_exact false = elim (le_or_lt f x) [
    | inl h ↦ subst (Exact false) (sym (scale-up false x f refl h)) (rw (one-mul (10 ^ f), mul-one (m * 10 ^ x), mul_assoc m (10 ^ (x - f)) (10 ^ f), ten_split (x - f) f x (omega arith)) refl)
    | inr h ↦ subst (Exact false) (sym (scale-down false x f refl h)) (rw (one-mul (10 ^ f), mul_assoc m (10 ^ x) (10 ^ (f - x)), ten_split x (f - x) f (omega arith)) refl)
  ]

-- ---- document 01's sentence: the answer is a value v just where m and e are within the limits and v is the double nearest to m times ten to the e

module _ (m : ℕ) (s : Scale) (v : Float) where
  pub value_says : within_limits m s ≡ Some v → Limits m s × Nearest v (over m s) (under s)
  value_says e = elim (le_or_lt m largest_digits) [
    | inl h ↦ elim (le_or_lt s.tens largest_tens) [
      | inl l ↦
          let t : Limits m s = record { digits = h; power = l } in
          let i = inside m s t in
          let w : value m s ≡ v = cc in
          (t, subst (λ (z : Float). Nearest z (over m s) (under s)) w (value-nearest m s t))
      | inr l ↦ let i = many_tens m s l in let z : ◌≡◌ {A = ℕ} 0 1 = cc in absurd (omega arith)
    ]
    | inr h ↦ let i = many_digits m s h in let z : ◌≡◌ {A = ℕ} 0 1 = cc in absurd (omega arith)
  ]

  pub says_value : Limits m s → Nearest v (over m s) (under s) → within_limits m s ≡ Some v
  says_value t n =
      let i = inside m s t in
      let w = value_only m s t v n in
      cc

-- for a caller that reads a value's bits
pub value_no_nan : (m : ℕ) (s : Scale) (v : Float) → within_limits m s ≡ Some v → T (not (is_nan v))
unfolding is_nan
value_no_nan m s nan e = absurd (value_says m s nan e).1.double
value_no_nan m s (inf t) e = tt
value_no_nan m s (fin t n d) e = tt
