-- The double that `round` gives is nearest (`round-nearest`), and no other is (`nearest_unique`). Assumes nothing.
-- A finite double is c * 2 ^ r units, with c below 2 ^ 53 and the format's smallest value, 2 ^ -1074, as the unit; so `Grid` decides.
use Prim.Native.Nat.{ℕ, zero, suc, ◌+◌, ◌-◌, ◌*◌, ◌/◌, ◌%◌, ◌^◌, ◌≤◌, ◌<◌, zero-le}
use mathlib.Core.Path.{◌≡◌, refl, sym, ◌∙◌, ap, subst}
use mathlib.Core.Logic.{inl, inr}
use mathlib.Core.Bool.{Bool, true, false, ◌&&◌, cond, true≢false}
use native.Mathlib.Nat.{le_refl, le_trans, le_of_eq, le_antisymm, le_of_lt, lt_of_lt_of_le, lt_of_le_of_lt, zero-mul, mul-one, mul_assoc, mul_comm, mul_left_comm, mul_right_comm, mul-le-mul_right, le_of_mul-le-mul_right, mul-lt-mul_of_pos_right, lt_of_mul-lt-mul_right, mul-pos, mul-sub, add-mul, mul-div_cancel, eq-or-lt_of_le, le-add_left, lt_trans, eq_of_mul-eq-mul_right}
use native.Mathlib.Omega.{arith}
use lib.Dec.{T, leb, ltb, eqb, ltb→lt, leb→le, lit<, lit≤}
use lib.IntN.{ℤ, pos, negsuc}
use lib.Pow.{pow-add, pow_pos, pow-lt}
use lib.Ieee.{Float, nan, inf, fin, up, down, binary64, hid, top, size, fits, odd, round, to_bits, of_bits}
use lib.Ieee.Fits.{and_l, and_r, down_pos, round-fits, odd-fits}
use lib.Ieee.Exact.{HasValue, odd_sign}
use lib.Ieee.Bits.{of_bits-to_bits}
use lib.Ieee.Order.{drop, kept}
use lib.Ieee.Scale.{overflow, round_val}
use Rattle.lexer.specs.Nearest.{Double, gap, away, AsNear, Tied, Size, Written, Even, Nearest}
use Rattle.lexer.proofs.float.Grid.{le_or_lt, Full, full_exists, full_unique, EvenSize, even_zero, even_kept, next-short, between, middle_nearer, grid_least, grid_tie, result_le}

-- ---- a finite double in units

pub record Units (x : Float) : Type 0 where
  pub c : ℕ
  pub r : ℕ
  pub short : c < 2 ^ 53
  pub is : Size x (c * 2 ^ r)
  pub under : c * 2 ^ r < overflow binary64

abbrev place : ℤ → ℕ → ℕ
place (pos k) l = k + l
place (negsuc k) l = l - suc k

pow_le : (i j : ℕ) → 2 ^ i ≤ 2 ^ j → i ≤ j
pow_le i j h = elim (le_or_lt i j) [ inl l ↦ l | inr g ↦ let k = pow-lt g in absurd (omega arith) ]

back : (l k : ℕ) → k ≤ l → l - k + k ≡ l
back l k h = omega arith

size_is : (m : ℕ) (e : ℤ) (l : ℕ) → down e ≤ 2 ^ l → m * up e * 2 ^ l ≡ m * 2 ^ place e l * down e
size_is m (pos k) l h = mul_assoc m (2 ^ k) (2 ^ l) ∙ ap (λ (x : ℕ). m * x) (sym (pow-add 2 k l)) ∙ sym (mul-one (m * 2 ^ (k + l)))
size_is m (negsuc k) l h =
    ap (λ (x : ℕ). x * 2 ^ l) (mul-one m)
    ∙ ap (λ (x : ℕ). m * x) (ap (λ (x : ℕ). 2 ^ x) (sym (back l (suc k) (pow_le (suc k) l h))) ∙ pow-add 2 (l - suc k) (suc k))
    ∙ sym (mul_assoc m (2 ^ (l - suc k)) (2 ^ suc k))

-- a / d below t, and a / d is x / l
units_lt : (a d x l t : ℕ) → 0 < d → 0 < l → a * l ≡ x * d → a < t * d → x < l * t
units_lt a d x l t D L e h =
    let k : a * l < t * d * l = mul-lt-mul_of_pos_right h L in
    let s : t * d * l ≡ l * t * d = simp (mul_assoc, mul_comm, mul_left_comm) in
    lt_of_mul-lt-mul_right d (lt_of_le_of_lt (le_of_eq (sym e)) (lt_of_lt_of_le k (le_of_eq s)))

units_fin : (s : Bool) (m : ℕ) (e : ℤ) → T (fits binary64 (fin s m e)) → Units (fin s m e)
unfolding fits
units_fin s zero e t = record {
  c = 0;
  r = 0;
  short = pow_pos 53;
  is = ap (λ (x : ℕ). x * 2 ^ 1074) (zero-mul (up e)) ∙ zero-mul (2 ^ 1074) ∙ sym (zero-mul (down e));
  under = pow_pos 2098;
}
units_fin s (suc m) e t =
    let a : Bool = eqb (suc m % 2) 1 in
    let b : Bool = ltb (suc m) (2 ^ 53) in
    let c : Bool = leb (down e) (2 ^ 1074) in
    let d : Bool = ltb (suc m * up e) (2 ^ 1024 * down e) in
    let i = size_is (suc m) e 1074 (leb→le (down e) (2 ^ 1074) (and_r (a && b) c (and_l (a && b && c) d t))) in
    record {
      c = suc m;
      r = place e 1074;
      short = ltb→lt (suc m) (2 ^ 53) (and_r a b (and_l (a && b) c (and_l (a && b && c) d t)));
      is = i;
      under =
          subst (λ (z : ℕ). suc m * 2 ^ place e 1074 < z) (sym (pow-add 2 1074 1024))
          (units_lt (suc m * up e) (down e) (suc m * 2 ^ place e 1074) (2 ^ 1074) (2 ^ 1024) (down_pos e) (pow_pos 1074) i
          (ltb→lt (suc m * up e) (2 ^ 1024 * down e) (and_r (a && b && c) d t)));
    }

-- ---- the sign and the number of units say which double it is

bits_of : Bool → ℕ → ℕ
bits_of s n = let k = size n - 53 in cond s (top binary64) 0 + k * hid binary64 + n / 2 ^ k

bits_is : (s : Bool) (m : ℕ) (e : ℤ) (n : ℕ) → m * up e * 2 ^ 1074 ≡ n * down e → to_bits binary64 (fin s m e) ≡ bits_of s n
unfolding to_bits bits_of
bits_is s m e n h = ap (bits_of s) (ap (λ (x : ℕ). x / down e) h ∙ mul-div_cancel n (down_pos e))

pub same_double : (s : Bool) (m : ℕ) (e : ℤ) (k : ℕ) (d : ℤ) (n : ℕ) → T (fits binary64 (fin s m e)) → T (fits binary64 (fin s k d)) → Size (fin s m e) n → Size (fin s k d) n → fin s m e ≡ fin s k d
same_double s m e k d n p q v w =
    sym (of_bits-to_bits binary64 (fin s m e) p) ∙ ap (of_bits binary64) (bits_is s m e n v ∙ sym (bits_is s k d n w)) ∙ of_bits-to_bits binary64 (fin s k d) q

-- ---- the distance from num / den, in units: gap (n * den) (num * 2 ^ 1074) by den

gap-mul : (a b c : ℕ) → gap (a * c) (b * c) ≡ gap a b * c
gap-mul a b c =
    let x : a * c - b * c ≡ (a - b) * c = sub_mul a b in
    let y : b * c - a * c ≡ (b - a) * c = sub_mul b a in
    let z : gap a b * c ≡ (a - b) * c + (b - a) * c = add-mul (a - b) (b - a) c in
    omega arith
  where
    sub_mul : (a b : ℕ) → a * c - b * c ≡ (a - b) * c
    sub_mul a b = rw (mul_comm a c, mul_comm b c, mul_comm (a - b) c) (sym (mul-sub c a b))

-- a value's distance times l is the whole numbers' distance times the value's denominator
plus-away : (a d n l num den : ℕ) → a * l ≡ n * d → gap (a * den) (num * d) * l ≡ gap (n * den) (num * l) * d
plus-away a d n l num den e =
    let x : a * den * l ≡ n * den * d = mul_right_comm a den l ∙ ap (λ (z : ℕ). z * den) e ∙ mul_right_comm n d den in
    let y : num * d * l ≡ num * l * d = mul_right_comm num d l in
    sym (gap-mul (a * den) (num * d) l) ∙ ap (λ (z : ℕ). gap z (num * d * l)) x ∙ ap (λ (z : ℕ). gap (n * den * d) z) y ∙ gap-mul (n * den) (num * l) d

minus-away : (a d n l num den : ℕ) → a * l ≡ n * d → (a * den + num * d) * l ≡ (n * den + num * l) * d
minus-away a d n l num den e =
    let x : a * den * l ≡ n * den * d = mul_right_comm a den l ∙ ap (λ (z : ℕ). z * den) e ∙ mul_right_comm n d den in
    let y : num * d * l ≡ num * l * d = mul_right_comm num d l in
    let u : (a * den + num * d) * l ≡ a * den * l + num * d * l = add-mul (a * den) (num * d) l in
    let v : (n * den + num * l) * d ≡ n * den * d + num * l * d = add-mul (n * den) (num * l) d in
    omega arith

module _ (a b p q l g h : ℕ) (L : 0 < l) (Q : 0 < p) (R : 0 < q) (x : a * l ≡ g * p) (y : b * l ≡ h * q) where
  left : a * q * l ≡ g * (p * q)
  left = mul_right_comm a q l ∙ ap (λ (z : ℕ). z * q) x ∙ mul_assoc g p q

  right : b * p * l ≡ h * (p * q)
  right = mul_right_comm b p l ∙ ap (λ (z : ℕ). z * p) y ∙ mul_right_comm h q p ∙ mul_assoc h p q

  near_intro : g ≤ h → a * q ≤ b * p
  near_intro k = le_of_mul-le-mul_right (le_trans (le_of_eq left) (le_trans (mul-le-mul_right (p * q) k) (le_of_eq (sym right)))) L

  near_elim : a * q ≤ b * p → g ≤ h
  near_elim k = le_of_mul-le-mul_right (le_trans (le_of_eq (sym left)) (le_trans (mul-le-mul_right l k) (le_of_eq right))) (mul-pos Q R)

near_level : (a b p q l g h : ℕ) → 0 < l → 0 < p → 0 < q → a * l ≡ g * p → b * l ≡ h * q → a * q ≡ b * p → g ≡ h
near_level a b p q l g h L P Q x y e =
    le_antisymm (near_elim a b p q l g h L P Q x y (le_of_eq e)) (near_elim b a q p l h g L Q P y x (le_of_eq (sym e)))

written_of : (x : Float) (n : ℕ) → Size x n → (w : Full 53 n) → Written x w.c w.q
written_of x n v w = record { short = w.short; full = w.full; value = subst (λ (z : ℕ). Size x z) (sym w.is) v }

even_of : (x : Float) (n : ℕ) → Size x n → EvenSize 53 n → Even x
even_of x n v w = record {
  significand = w.written.c;
  exponent = w.written.q;
  written = written_of x n v w.written;
  even = w.even;
}

-- ---- the double that `round` makes is nearest

-- `omega` takes no number of more than 38 digits, and 2 ^ 1074 is one: so it gets variables
not-zero : (n : ℕ) → 0 < n → 0 ≡ n → ⊥
not-zero n a b = omega arith

gap-zero : (n : ℕ) → gap 0 n ≡ n
gap-zero n = omega arith

squeeze : (g s x : ℕ) → g ≤ s → g ≡ x + s → g ≡ s
squeeze g s x a b = omega arith

room : (n den num l t : ℕ) → 0 < l → n * den ≤ num * l * 2 → num * 2 < t * den → n < l * t
room n den num l t L h k =
    let x : num * 2 * l < t * den * l = mul-lt-mul_of_pos_right k L in
    let y : num * l * 2 ≡ num * 2 * l = mul_right_comm num l 2 in
    let z : t * den * l ≡ l * t * den = simp (mul_assoc, mul_comm, mul_left_comm) in
    lt_of_mul-lt-mul_right den (omega arith)

module _ (num den : ℕ) (D : 0 < den) where
  -- the fraction times den, in units
  abbrev wanted : ℕ
  wanted = num * 2 ^ 1074

  -- the result in units
  abbrev result : ℕ
  result = kept 53 wanted den * 2 ^ drop 53 wanted den

  P : 0 < 53
  P = lit< tt

  zero_least : gap (result * den) wanted ≤ wanted
  zero_least =
      subst (λ (x : ℕ). gap (result * den) wanted ≤ x) (ap (λ (x : ℕ). gap x wanted) (zero-mul den) ∙ gap-zero wanted)
      (grid_least 53 wanted den P D 0 0 (pow_pos 53))

  module _ (m : ℕ) (e : ℤ) (fit : T (fits binary64 (fin false m e))) (v : Size (fin false m e) result) where
    mine : away (fin false m e) num den * 2 ^ 1074 ≡ gap (result * den) wanted * down e
    mine = plus-away (m * up e) (down e) result (2 ^ 1074) num den v

    least : (y : Float) → Double y → AsNear (fin false m e) y num den
    least nan t = absurd t
    least (inf s) t = absurd t
    least (fin false n d) t =
        let u = units_fin false n d t in
        near_intro (away (fin false m e) num den) (away (fin false n d) num den) (down e) (down d) (2 ^ 1074) (gap (result * den) wanted) (gap (u.c * 2 ^ u.r * den) wanted)
        (pow_pos 1074) (down_pos e) (down_pos d) mine (plus-away (n * up d) (down d) (u.c * 2 ^ u.r) (2 ^ 1074) num den u.is)
        (grid_least 53 wanted den P D u.c u.r u.short)
    least (fin true n d) t =
        let u = units_fin true n d t in
        near_intro (away (fin false m e) num den) (away (fin true n d) num den) (down e) (down d) (2 ^ 1074) (gap (result * den) wanted) (u.c * 2 ^ u.r * den + wanted)
        (pow_pos 1074) (down_pos e) (down_pos d) mine (minus-away (n * up d) (down d) (u.c * 2 ^ u.r) (2 ^ 1074) num den u.is)
        (le_trans zero_least (le-add_left wanted (u.c * 2 ^ u.r * den)))

    tie_with : (c r : ℕ) → c < 2 ^ 53 → (c * 2 ^ r ≡ result → ⊥) → gap (result * den) wanted ≡ gap (c * 2 ^ r * den) wanted → Even (fin false m e)
    tie_with c r h n g = even_of (fin false m e) result v (even_kept 53 wanted den (lit≤ tt) D (grid_tie 53 wanted den P D c r h n g))

    -- 0 is as near
    tie_zero : gap (result * den) wanted ≡ wanted → Even (fin false m e)
    tie_zero g = elim (eq-or-lt_of_le (zero-le {n = result})) [
      | inl z ↦ even_of (fin false m e) result v (subst (λ (x : ℕ). EvenSize 53 x) z (even_zero 53))
      | inr l ↦
          tie_with 0 0 (pow_pos 53) (λ (z : 0 ≡ result). not-zero result l z)
          (g ∙ sym (ap (λ (x : ℕ). gap x wanted) (zero-mul den) ∙ gap-zero wanted))
    ]

    tie : (y : Float) → Double y → (y ≡ fin false m e → ⊥) → Tied (fin false m e) y num den → Even (fin false m e)
    tie nan t n l = absurd t
    tie (inf s) t n l = absurd t
    tie (fin false k d) t n l =
        let u = units_fin false k d t in
        tie_with u.c u.r u.short
        (λ (z : u.c * 2 ^ u.r ≡ result). n (same_double false k d m e result t fit (subst (λ (x : ℕ). Size (fin false k d) x) z u.is) v))
        (near_level (away (fin false m e) num den) (away (fin false k d) num den) (down e) (down d) (2 ^ 1074) (gap (result * den) wanted) (gap (u.c * 2 ^ u.r * den) wanted)
        (pow_pos 1074) (down_pos e) (down_pos d) mine (plus-away (k * up d) (down d) (u.c * 2 ^ u.r) (2 ^ 1074) num den u.is) l)
    tie (fin true k d) t n l =
        let u = units_fin true k d t in
        tie_zero
        (squeeze (gap (result * den) wanted) wanted (u.c * 2 ^ u.r * den) zero_least
        (near_level (away (fin false m e) num den) (away (fin true k d) num den) (down e) (down d) (2 ^ 1074) (gap (result * den) wanted) (u.c * 2 ^ u.r * den + wanted)
        (pow_pos 1074) (down_pos e) (down_pos d) mine (minus-away (k * up d) (down d) (u.c * 2 ^ u.r) (2 ^ 1074) num den u.is) l))

    fin-nearest : Nearest (fin false m e) num den
    fin-nearest = record { double = fit; plus = refl; least = least; tie = tie }

  of-value : (x : Float) → T (fits binary64 x) → HasValue x false result (2 ^ 1074) → Nearest x num den
  of-value nan t v = absurd v
  of-value (inf s) t v = absurd v
  of-value (fin true m e) t v = absurd (true≢false v.0)
  of-value (fin false m e) t v = fin-nearest m e t v.1

  under-nearest : result < overflow binary64 → Nearest (round binary64 false num den) num den
  under-nearest h = of-value (round binary64 false num den) (round-fits binary64 false num den) (round_val binary64 num den h)

  -- the fraction is below half the bound of the format, which is easier to see: the result is at most twice the fraction
  pub round-nearest : num * 2 < 2 ^ 1024 * den → Nearest (round binary64 false num den) num den
  round-nearest h =
      under-nearest
      (subst (λ (z : ℕ). result < z) (sym (pow-add 2 1074 1024)) (room result den num (2 ^ 1074) (2 ^ 1024) (pow_pos 1074) (result_le 53 wanted den P D) h))

size_unique : (s : Bool) (m : ℕ) (e : ℤ) (a b : ℕ) → Size (fin s m e) a → Size (fin s m e) b → a ≡ b
size_unique s m e a b v w = eq_of_mul-eq-mul_right (down e) (down_pos e) a b (sym v ∙ w)

clash : {a b : ℕ} → a < b → b ≤ a → ⊥
clash h k = omega arith

differ : {a b : ℕ} → a < b → a ≡ b → ⊥
differ h k = omega arith

-- ---- each finite double is written in just one way, so `Even` and its opposite are of the double

pub written_exists : (x : Float) → Double x → (c : ℕ) × (q : ℕ) × Written x c q
written_exists nan t = absurd t
written_exists (inf s) t = absurd t
written_exists (fin s m e) t =
    let u = units_fin s m e t in
    let f = full_exists 53 u.c u.r (lit≤ tt) u.short in
    (f.c, f.q, written_of (fin s m e) (u.c * 2 ^ u.r) u.is f)

pub written_unique : (x : Float) (c q d r : ℕ) → Written x c q → Written x d r → (c ≡ d) × (q ≡ r)
written_unique nan c q d r v w = absurd v.value
written_unique (inf s) c q d r v w = absurd v.value
written_unique (fin s m e) c q d r v w =
    full_unique 53 (lit< tt) v.short w.short v.full w.full (size_unique s m e (c * 2 ^ q) (d * 2 ^ r) v.value w.value)

-- ---- two nearest values are one

module _ (num den : ℕ) (D : 0 < den) where
  -- what a value that is nearest says of any other that is not negative, in units
  not_nearer : (m : ℕ) (e : ℤ) (n : ℕ) (z : Float) (k : ℕ) → Size (fin false m e) n → Nearest (fin false m e) num den → T (fits binary64 z) → HasValue z false k (2 ^ 1074)
      → gap (n * den) (num * 2 ^ 1074) ≤ gap (k * den) (num * 2 ^ 1074)
  not_nearer m e n nan k v near t w = absurd w
  not_nearer m e n (inf s) k v near t w = absurd w
  not_nearer m e n (fin true j d) k v near t w = absurd (true≢false w.0)
  not_nearer m e n (fin false j d) k v near t w =
      near_elim (away (fin false m e) num den) (away (fin false j d) num den) (down e) (down d) (2 ^ 1074) (gap (n * den) (num * 2 ^ 1074)) (gap (k * den) (num * 2 ^ 1074))
      (pow_pos 1074) (down_pos e) (down_pos d) (plus-away (m * up e) (down e) n (2 ^ 1074) num den v) (plus-away (j * up d) (down d) k (2 ^ 1074) num den w.1)
      (near.least (fin false j d) t)

  -- of two nearest values that differ both are even, so a double lies between them, and it is nearer
  no_two : (m : ℕ) (e : ℤ) (k : ℕ) (d : ℤ) (a b : ℕ) → Size (fin false m e) a → Size (fin false k d) b → b < overflow binary64 → a < b
      → Nearest (fin false m e) num den → Nearest (fin false k d) num den → Even (fin false m e) → Even (fin false k d) → ⊥
  no_two m e k d a b v w under l near near' ex ey =
      let c = ex.significand in
      let q = ex.exponent in
      let i : c * 2 ^ q ≡ a = size_unique false m e (c * 2 ^ q) a ex.written.value v in
      let j : ey.significand * 2 ^ ey.exponent ≡ b = size_unique false k d (ey.significand * 2 ^ ey.exponent) b ey.written.value w in
      let x : a < suc c * 2 ^ q = subst (λ (z : ℕ). z < suc c * 2 ^ q) i (mul-lt-mul_of_pos_right (le_refl (suc c)) (pow_pos q)) in
      let y : suc c * 2 ^ q < b =
      subst (λ (z : ℕ). suc c * 2 ^ q < z) j
      (between 53 (lit< tt) ex.written.short ey.written.short ex.written.full ey.written.full ex.even ey.even
      (subst (λ (z : ℕ). z < ey.significand * 2 ^ ey.exponent) (sym i) (subst (λ (z : ℕ). a < z) (sym j) l))) in
      let s : suc c < 2 ^ 53 = next-short 53 (lit< tt) c ex.written.short ex.even in
      let z = odd 54 false (suc c) q 1074 in
      let g : gap (a * den) (num * 2 ^ 1074) ≤ gap (suc c * 2 ^ q * den) (num * 2 ^ 1074) =
      not_nearer m e a z (suc c * 2 ^ q) v near
      (odd-fits binary64 54 false (suc c) q (lt_trans s (pow-lt {i = 53} {j = 54} (lit< tt))) (le_of_lt s) (lt_trans y under)) (odd_sign 54 false (suc c) q 1074) in
      let f : gap (a * den) (num * 2 ^ 1074) ≡ gap (b * den) (num * 2 ^ 1074) =
      le_antisymm (not_nearer m e a (fin false k d) b v near near'.double (refl, w)) (not_nearer k d b (fin false m e) a w near' near.double (refl, v)) in
      clash (middle_nearer a (suc c * 2 ^ q) b den (num * 2 ^ 1074) D x y f) g

  apart : (m : ℕ) (e : ℤ) (k : ℕ) (d : ℤ) (a b : ℕ) → Size (fin false m e) a → Size (fin false k d) b → b < overflow binary64 → a < b
      → Nearest (fin false m e) num den → Nearest (fin false k d) num den → ⊥
  apart m e k d a b v w under l near near' =
      let ne : fin false k d ≡ fin false m e → ⊥ = λ p. differ l (size_unique false m e a b v (subst (λ (z : Float). Size z b) p w)) in
      let lev : Tied (fin false m e) (fin false k d) num den = le_antisymm (near.least (fin false k d) near'.double) (near'.least (fin false m e) near.double) in
      no_two m e k d a b v w under l near near' (near.tie (fin false k d) near'.double ne lev) (near'.tie (fin false m e) near.double (λ p. ne (sym p)) (sym lev))

  pub nearest_unique : (x y : Float) → Nearest x num den → Nearest y num den → x ≡ y
  nearest_unique nan y p q = absurd p.double
  nearest_unique (inf s) y p q = absurd p.double
  nearest_unique (fin true m e) y p q = absurd (true≢false p.plus)
  nearest_unique (fin false m e) nan p q = absurd q.double
  nearest_unique (fin false m e) (inf t) p q = absurd q.double
  nearest_unique (fin false m e) (fin true k d) p q = absurd (true≢false q.plus)
  nearest_unique (fin false m e) (fin false k d) p q =
      let u = units_fin false m e p.double in
      let w = units_fin false k d q.double in
      let a = u.c * 2 ^ u.r in
      let b = w.c * 2 ^ w.r in
      elim (le_or_lt a b) [
        | inl h ↦ elim (eq-or-lt_of_le h) [
          | inl i ↦ same_double false m e k d b p.double q.double (subst (λ (z : ℕ). Size (fin false m e) z) i u.is) w.is
          | inr l ↦ absurd (apart m e k d a b u.is w.is w.under l p q)
        ]
        | inr l ↦ absurd (apart k d m e b a w.is u.is u.under l q p)
      ]
