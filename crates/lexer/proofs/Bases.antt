-- Laws of digits in a base. Assumes nothing.
use mathlib.Core.Path.{◌≡◌, refl}
use mathlib.Core.Bool.{Bool, true, false, cond}
use mathlib.Core.List.{List, [], ◌∷◌}
use Prim.Native.Nat.{ℕ, zero, suc, ◌+◌, ◌-◌, ◌*◌, ◌<◌, ◌≤◌, min}
use native.Mathlib.Nat.{le-mul_of_pos_right}
use native.Mathlib.Decide.{dec_le}
use native.Mathlib.Omega.{arith}
use borrow.Author.Tests.{ltb-true}
use lib.ListN.{length, get_or, drop, length-drop}
use lib.Seq.{get_or-drop}
use Rattle.lexer.specs.Digits.{digit_of, is_digit, digits, digits_at, beyond, held}
use Rattle.lexer.specs.declared.digits.Digits.{Digits}
use Rattle.lexer.proofs.Cursors.{NoNewline}

-- no more digits
abbrev done : ℕ → ℕ → Digits
done v at = record { value = v; end = at }

choice : (P : Digits → Type 0) (t : Bool) (a b : Digits) → P a → P b → P (cond t a b)
choice P true a b p q = p
choice P false a b p q = q

-- two choices by one test end alike
alike : (t : Bool) (a b : Digits) (v w at : ℕ) → a.end ≡ b.end → (cond t a (done v at)).end ≡ (cond t b (done w at)).end
alike true a b v w at e = e
alike false a b v w at e = refl

-- what ends past `at` has gone on there
went_on : (t : Bool) (a : Digits) (v at i : ℕ) → at ≤ i → i < (cond t a (done v at)).end → (t ≡ true) × (i < a.end)
went_on true a v at i h k = (refl, k)
went_on false a v at i h k = absurd (omega arith)

-- ---- what is left of a text
module _ (base : ℕ) where
  -- where the digits end is the same, whatever was read before
  pub same_end : (v w at : ℕ) (xs : List ℕ) → (digits base v at xs).end ≡ (digits base w at xs).end
  unfolding digits
  same_end v w at [] = refl
  same_end v w at (x ∷ xs) = alike (is_digit base x) _ _ v w at (same_end (v * base + digit_of x) (w * base + digit_of x) (at + 1) xs)

  -- more digits make no less
  pub grows : (v at : ℕ) (xs : List ℕ) → 0 < base → v ≤ (digits base v at xs).value
  unfolding digits
  grows v at [] h = omega arith
  grows v at (x ∷ xs) h =
      let a : v ≤ v * base = le-mul_of_pos_right v h in
      let b = grows (v * base + digit_of x) (at + 1) xs h in
      choice (λ d. v ≤ d.value) (is_digit base x) _ _ (omega arith) (omega arith)

  pub digits_bounds : (v at : ℕ) (xs : List ℕ) → (at ≤ (digits base v at xs).end) × ((digits base v at xs).end ≤ at + length xs)
  unfolding digits
  digits_bounds v at [] = (omega arith, omega arith)
  digits_bounds v at (x ∷ xs) =
      let b = digits_bounds (v * base + digit_of x) (at + 1) xs in
      let p = b.0 in
      let q = b.1 in
      choice (λ d. (at ≤ d.end) × (d.end ≤ at + suc (length xs))) (is_digit base x) _ _ (omega arith, omega arith) (omega arith, omega arith)

  -- each byte before the end is a digit
  each : (v at : ℕ) (xs : List ℕ) (j : ℕ) → at + j < (digits base v at xs).end → is_digit base (get_or xs j 0) ≡ true
  unfolding digits
  each v at [] j h = absurd (omega arith)
  each v at (x ∷ xs) zero h = (went_on (is_digit base x) (digits base (v * base + digit_of x) (at + 1) xs) v at (at + 0) (omega arith) h).0
  each v at (x ∷ xs) (suc j) h =
      let k = (went_on (is_digit base x) (digits base (v * base + digit_of x) (at + 1) xs) v at (at + suc j) (omega arith) h).1 in
      each (v * base + digit_of x) (at + 1) xs j (omega arith)

  -- reading on from a value that is held makes no difference to what is held
  pub held-from : (v at : ℕ) (xs : List ℕ) → 0 < base → held (digits base (min v beyond) at xs) ≡ held (digits base v at xs)
  held-from v at xs h = go (dec_le v beyond)
    where
      go : Dec (v ≤ beyond) → held (digits base (min v beyond) at xs) ≡ held (digits base v at xs)
      go (yes k) = let e : min v beyond ≡ v = omega arith in rw e
      go (no k) =
          let a = grows (min v beyond) at xs h in
          let b = grows v at xs h in
          let e : min (digits base (min v beyond) at xs).value beyond ≡ min (digits base v at xs).value beyond = omega arith in
          cc (e, same_end (min v beyond) v at xs)

-- ---- a text
module _ (base v : ℕ) (s : List ℕ) (at : ℕ) where
  pub digits_end : at ≤ length s → (at ≤ (digits_at base v s at).end) × ((digits_at base v s at).end ≤ length s)
  digits_end h =
      let b = digits_bounds base v at (drop at s) in
      let p = b.0 in
      let q = b.1 in
      (p, omega (arith, length-drop at s))

  -- at a digit there is one at least
  pub digits-some : (b : ℕ) → drop at s ≡ b ∷ drop (at + 1) s → is_digit base b ≡ true → at < (digits_at base v s at).end
  unfolding digits
  digits-some b r d =
      let e : (digits_at base v s at).end ≡ (digits_at base (v * base + digit_of b) s (at + 1)).end = cc in
      let k = (digits_bounds base (v * base + digit_of b) (at + 1) (drop (at + 1) s)).0 in
      omega arith

  -- each byte before the end is a digit
  pub digits_each : (i : ℕ) → at ≤ i → i < (digits_at base v s at).end → is_digit base (get_or s i 0) ≡ true
  digits_each i h k =
      let m : at + (i - at) ≡ i = omega arith in
      let e = each base v at (drop at s) (i - at) (omega arith) in
      rw (get_or-drop at s (i - at) 0, m) at e

  -- no digit is a newline, which stands for 16
  pub digits_plain : base ≤ 16 → NoNewline s at (digits_at base v s at).end
  unfolding digit_of
  digits_plain few i h k n =
      let d = ltb-true (digit_of (get_or s i 0)) base (digits_each i h k) in
      let e : digit_of (get_or s i 0) ≡ 16 = rw n in
      omega arith
