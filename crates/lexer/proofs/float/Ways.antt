-- The ways out of the functions of `src/float`, each from the facts that hold there. Assumes nothing.
use Prim.Native.Nat.{ℕ, ◌+◌, ◌-◌, ◌^◌, ◌≤◌, ◌<◌}
use mathlib.Core.Path.{◌≡◌, sym, ◌∙◌, ap, subst}
use mathlib.Core.Bool.{Bool, true, false}
use native.Mathlib.Omega.{arith}
use lib.IntN.{pos}
use lib.ListN.{get_or}
use lib.Ieee.{Float, nan, binary64, of_int, mul, div}
use lib.Ieee.Back.{round_whole}
use lib.Ieee.Exact.{HasValue}
use Rattle.lexer.specs.Float.{Scale, Limits, Scaled, largest_digits, largest_tens, scale_of, over, under, value, within_limits, float_value}
use Rattle.lexer.specs.Nearest.{Nearest}
use Rattle.lexer.specs.Float.{Floated}
use Rattle.std.specs.declared.option.Option.TheVariants.{Some, None}
use Rattle.lexer.proofs.float.Tens.{tens, power_at, ten_pos, mul_at, div-at}
use Rattle.lexer.proofs.float.Values.{value-nearest, many_tens, inside, scale-minus, scale-up, scale-down}

-- ---- the two ways out of `scaled`

module _ (m : ℕ) (up : Bool) (k : ℕ) (h : Limits m (scale_of up k)) where
  digits : HasValue (of_int binary64 (pos m)) false m 1
  unfolding of_int
  digits = round_whole binary64 false m h.digits

  power : HasValue (get_or tens k nan) false (10 ^ k) 1
  power = let l = h.power in power_at k (omega arith)

  scaled_is : (r : Float) → r ≡ value m (scale_of up k) → Scaled m (scale_of up k) r
  scaled_is r e = record {
    is = e;
    nearest = subst (λ (z : Float). Nearest z (over m (scale_of up k)) (under (scale_of up k))) (sym e) (value-nearest m (scale_of up k) h);
  }

  pub goes_up : up ≡ true → Scaled m (scale_of up k) (mul binary64 (of_int binary64 (pos m)) (get_or tens k nan))
  goes_up e =
      scaled_is (mul binary64 (of_int binary64 (pos m)) (get_or tens k nan))
      (mul_at binary64 (of_int binary64 (pos m)) (get_or tens k nan) m (10 ^ k) digits power ∙ ap (λ (b : Bool). value m (scale_of b k)) (sym e))

  pub goes_down : up ≡ false → Scaled m (scale_of up k) (div binary64 (of_int binary64 (pos m)) (get_or tens k nan))
  goes_down e =
      scaled_is (div binary64 (of_int binary64 (pos m)) (get_or tens k nan))
      (div-at binary64 (of_int binary64 (pos m)) (get_or tens k nan) m (10 ^ k) (ten_pos k) digits power ∙ ap (λ (b : Bool). value m (scale_of b k)) (sym e))

-- ---- the way out of `within_limits` with a value

pub value-inside : (m : ℕ) (s : Scale) (r : Float) → m ≤ largest_digits → s.tens ≤ largest_tens → Scaled m s r → Some r ≡ within_limits m s
value-inside m s r h l v = let i = inside m s (record { digits = h; power = l }) in cc

-- ---- the ways out of `float_value`

module _ (m : ℕ) (minus : Bool) (x f : ℕ) where
  module _ (e : minus ≡ true) where
    sum_beyond : largest_tens < x + f → None ≡ float_value m minus x f
    sum_beyond h = many_tens m (scale_of false (x + f)) h ∙ ap (within_limits m) (sym (scale-minus minus x f e))

    pub exponent-beyond : largest_tens < x → None ≡ float_value m minus x f
    exponent-beyond h = sum_beyond (omega arith)

    pub fraction-beyond : largest_tens < f → None ≡ float_value m minus x f
    fraction-beyond h = sum_beyond (omega arith)

    pub both-down : (r : Floated) → r ≡ within_limits m (scale_of false (x + f)) → r ≡ float_value m minus x f
    both-down r h = h ∙ ap (within_limits m) (sym (scale-minus minus x f e))

  module _ (e : minus ≡ false) where
    pub exponent_more : (r : Floated) → f ≤ x → r ≡ within_limits m (scale_of true (x - f)) → r ≡ float_value m minus x f
    exponent_more r l h = h ∙ ap (within_limits m) (sym (scale-up minus x f e l))

    pub fraction_more : (r : Floated) → x < f → r ≡ within_limits m (scale_of false (f - x)) → r ≡ float_value m minus x f
    fraction_more r l h = h ∙ ap (within_limits m) (sym (scale-down minus x f e l))
