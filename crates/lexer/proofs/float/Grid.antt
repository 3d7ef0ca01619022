-- Of the numbers c * 2 ^ r with c below 2 ^ p, the one that `round` takes for N / D is nearest, and at a tie it is even. Whole numbers only. Assumes nothing.
use Prim.Native.Nat.{ℕ, zero, suc, ◌+◌, ◌-◌, ◌*◌, ◌/◌, ◌%◌, ◌^◌, ◌≤◌, ◌<◌, compare, Ordering}
use mathlib.Core.Path.{◌≡◌, refl, sym, ◌∙◌, ap, subst}
use mathlib.Core.Logic.{◌⊎◌, inl, inr}
use mathlib.Core.Bool.{Bool, true, false, not}
use native.Mathlib.Nat.{le_trans, le_of_eq, lt_of_lt_of_le, mul_assoc, mul_comm, mul_left_comm, mul_right_comm, mul-le-mul_right, mul-lt-mul_of_pos_right, suc-mul, mul-pos, mod-lt, div-add-mod', div-div-eq-div-mul, le-div_iff_mul-le, eq-or-lt_of_le, pow-suc, mul-mod_left, lt_of_mul-lt-mul_right, eq_of_mul-eq-mul_right, zero-mul, mul-one}
use native.Mathlib.Omega.{arith}
use lib.Dec.{T, is_le, compare_is_eq, leb, eqb, leb→le, nleb→lt, eqb→eq, eqb_refl, lit<}
use lib.Pow.{pow-add, pow_pos, pow_mono}
use lib.Ieee.{nearest, size}
use lib.Ieee.Digits.{size_reaches}
use lib.Ieee.Fits.{nearest-le, kept-lt}
use lib.Ieee.Nearest.{closest, nearest-ge}
use lib.Ieee.Order.{drop, kept}
use Rattle.lexer.specs.Nearest.{gap}

pub le_or_lt : (a b : ℕ) → (a ≤ b) ⊎ (b < a)
le_or_lt a b = go (leb a b) (leb→le a b) (nleb→lt a b)
  where
    go : (t : Bool) → (T t → a ≤ b) → (T (not t) → b < a) → (a ≤ b) ⊎ (b < a)
    go true h k = inl (h tt)
    go false h k = inr (k tt)

-- ---- `closest`: the whole part w or the one above, by twice the remainder r

data Pick (q w r b : ℕ) : Type 0 where
  at-w : q ≡ w → r * 2 ≤ b → (r * 2 ≡ b → q % 2 ≡ 0) → Pick q w r b
  above_w : q ≡ suc w → b ≤ r * 2 → (r * 2 ≡ b → q % 2 ≡ 0) → Pick q w r b

tie_pick : (w r b t : ℕ) → w % 2 ≡ t → r * 2 ≡ b → Pick (w + t) w r b
tie_pick w r b zero e h = at-w (omega arith) (omega arith) (λ (k : r * 2 ≡ b). omega arith)
tie_pick w r b (suc t) e h = above_w (omega arith) (omega arith) (λ (k : r * 2 ≡ b). omega arith)

pick : (w r b : ℕ) → Pick (nearest w (compare (r * 2) b)) w r b
pick w r b = go (compare (r * 2) b) (leb→le (r * 2) b) (nleb→lt (r * 2) b) (eqb→eq (r * 2) b) (λ (e : r * 2 ≡ b). subst (λ (x : ℕ). T (eqb (r * 2) x)) e (eqb_refl (r * 2)))
  where
    go : (o : Ordering) → (T (is_le o) → r * 2 ≤ b) → (T (not (is_le o)) → b < r * 2) → (T (compare_is_eq o) → r * 2 ≡ b) → (r * 2 ≡ b → T (compare_is_eq o)) → Pick (nearest w o) w r b
    go Ordering.lt h k e n = at-w refl (h tt) (λ (x : r * 2 ≡ b). absurd (n x))
    go Ordering.eq h k e n = tie_pick w r b (w % 2) refl (e tt)
    go Ordering.gt h k e n = let l = k tt in above_w refl (omega arith) (λ (x : r * 2 ≡ b). absurd (n x))

-- another multiple J of b lies at W = w * b or below, or at W + b or above; a different one lies b further off
module _ (W b r a J : ℕ) (is : W + r ≡ a) (small : r < b) where
  below_least : r * 2 ≤ b → (J ≤ W) ⊎ (W + b ≤ J) → gap W a ≤ gap J a
  below_least h (inl l) = omega arith
  below_least h (inr l) = omega arith

  above_least : b ≤ r * 2 → (J ≤ W) ⊎ (W + b ≤ J) → gap (W + b) a ≤ gap J a
  above_least h (inl l) = omega arith
  above_least h (inr l) = omega arith

  below_tie : r * 2 ≤ b → (J + b ≤ W) ⊎ (W + b ≤ J) → gap W a ≡ gap J a → r * 2 ≡ b
  below_tie h (inl l) e = omega arith
  below_tie h (inr l) e = omega arith

  above_tie : b ≤ r * 2 → (J ≤ W) ⊎ (W + b + b ≤ J) → gap (W + b) a ≡ gap J a → r * 2 ≡ b
  above_tie h (inl l) e = omega arith
  above_tie h (inr l) e = omega arith

multiple_step : (b : ℕ) {i j : ℕ} → i < j → i * b + b ≤ j * b
multiple_step b {i} {j} h = le_trans (le_of_eq (sym (suc-mul i b))) (mul-le-mul_right b h)

around : (w b j : ℕ) → (j * b ≤ w * b) ⊎ (w * b + b ≤ j * b)
around w b j = elim (le_or_lt j w) [ inl h ↦ inl (mul-le-mul_right b h) | inr h ↦ inr (multiple_step b h) ]

differs : (w j : ℕ) → (j ≡ w → ⊥) → (j < w) ⊎ (w < j)
differs w j n = elim (le_or_lt j w) [ inl h ↦ elim (eq-or-lt_of_le h) [ inl e ↦ absurd (n e) | inr l ↦ inl l ] | inr h ↦ inr h ]

-- a multiple other than w * b
beside-w : (w b j : ℕ) → (j ≡ w → ⊥) → (j * b + b ≤ w * b) ⊎ (w * b + b ≤ j * b)
beside-w w b j n = elim (differs w j n) [ inl h ↦ inl (multiple_step b h) | inr h ↦ inr (multiple_step b h) ]

-- a multiple other than (w + 1) * b
beside-next : (w b j : ℕ) → (j ≡ suc w → ⊥) → (j * b ≤ w * b) ⊎ (w * b + b + b ≤ j * b)
beside-next w b j n =
    let s : suc w * b ≡ w * b + b = suc-mul w b in
    elim (differs (suc w) j n) [
      | inl h ↦ let l = multiple_step b h in inl (omega arith)
      | inr h ↦ let l = multiple_step b h in inr (omega arith)
    ]

module _ (a b : ℕ) (B : 0 < b) where
  whole : a / b * b + a % b ≡ a
  whole = div-add-mod' a b

  closest_least : (j : ℕ) → gap (closest a b * b) a ≤ gap (j * b) a
  closest_least j = go (pick (a / b) (a % b) b)
    where
      go : {q : ℕ} → Pick q (a / b) (a % b) b → gap (q * b) a ≤ gap (j * b) a
      go {q} (at-w e h t) = subst (λ (z : ℕ). gap (z * b) a ≤ gap (j * b) a) (sym e) (below_least (a / b * b) b (a % b) a (j * b) whole (mod-lt a B) h (around (a / b) b j))
      go {q} (above_w e h t) =
          subst (λ (z : ℕ). gap z a ≤ gap (j * b) a) (sym (ap (λ (z : ℕ). z * b) e ∙ suc-mul (a / b) b))
          (above_least (a / b * b) b (a % b) a (j * b) whole (mod-lt a B) h (around (a / b) b j))

  closest_tie : (j : ℕ) → (j ≡ closest a b → ⊥) → gap (closest a b * b) a ≡ gap (j * b) a → closest a b % 2 ≡ 0
  closest_tie j n g = go (pick (a / b) (a % b) b) n g
    where
      go : {q : ℕ} → Pick q (a / b) (a % b) b → (j ≡ q → ⊥) → gap (q * b) a ≡ gap (j * b) a → q % 2 ≡ 0
      go {q} (at-w e h t) n g =
          t (below_tie (a / b * b) b (a % b) a (j * b) whole (mod-lt a B) h (beside-w (a / b) b j (λ (x : j ≡ a / b). n (x ∙ sym e)))
          (subst (λ (z : ℕ). gap (z * b) a ≡ gap (j * b) a) e g))
      go {q} (above_w e h t) n g =
          t (above_tie (a / b * b) b (a % b) a (j * b) whole (mod-lt a B) h (beside-next (a / b) b j (λ (x : j ≡ suc (a / b)). n (x ∙ sym e)))
          (subst (λ (z : ℕ). gap z a ≡ gap (j * b) a) (ap (λ (z : ℕ). z * b) e ∙ suc-mul (a / b) b) g))

-- ---- the numbers c * 2 ^ r: a multiple of the unit, or one that lies below all that the unit's multiples have to decide

in_use : (z p : ℕ) → 0 < p → 0 < z - p → p - 1 + (z - p) < z
in_use z p P h = omega arith

room : (p j k : ℕ) → 0 < p → j < k → p + j ≤ p - 1 + k
room p j k P h = omega arith

back : (r k : ℕ) → k ≤ r → r - k + k ≡ r
back r k h = omega arith

further : (Y W N r g : ℕ) → W + r ≡ N → Y < W → g ≤ gap W N → g < gap Y N
further Y W N r g is l h = omega arith

module _ (p N D : ℕ) (P : 0 < p) (D0 : 0 < D) where
  abbrev unit : ℕ
  unit = D * 2 ^ drop p N D

  unit-pos : 0 < unit
  unit-pos = mul-pos D0 (pow_pos (drop p N D))

  -- the whole part has all its digits where some are dropped
  all_digits : 0 < drop p N D → 2 ^ (p - 1) ≤ N / unit
  all_digits K =
      let k = drop p N D in
      let a : 2 ^ (p - 1) * 2 ^ k ≤ N / D = le_trans (le_of_eq (sym (pow-add 2 (p - 1) k))) (size_reaches (N / D) (p - 1 + k) (in_use (size (N / D)) p P K)) in
      subst (λ (x : ℕ). 2 ^ (p - 1) ≤ x) (div-div-eq-div-mul N D (2 ^ k)) ((le-div_iff_mul-le (pow_pos k)).1 a)

  few_digits : N / unit < 2 ^ p
  few_digits = subst (λ (x : ℕ). x < 2 ^ p) (div-div-eq-div-mul N D (2 ^ drop p N D)) (kept-lt p (N / D))

  pub kept_le : kept p N D ≤ 2 ^ p
  kept_le = le_trans (nearest-le (N / unit) (compare (N % unit * 2) unit)) few_digits

  pub kept_ge : 0 < drop p N D → 2 ^ (p - 1) ≤ kept p N D
  kept_ge K = le_trans (all_digits K) (nearest-ge (N / unit) (compare (N % unit * 2) unit))

  -- the result, in units of 1 / D
  result : kept p N D * 2 ^ drop p N D * D ≡ kept p N D * unit
  result = mul_assoc (kept p N D) (2 ^ drop p N D) D ∙ ap (λ (x : ℕ). kept p N D * x) (mul_comm (2 ^ drop p N D) D)

  multiple : (c r : ℕ) → drop p N D ≤ r → c * 2 ^ r * D ≡ c * 2 ^ (r - drop p N D) * unit
  multiple c r h =
      let k = drop p N D in
      let e : 2 ^ r ≡ 2 ^ (r - k) * 2 ^ k = ap (λ (x : ℕ). 2 ^ x) (sym (back r k h)) ∙ pow-add 2 (r - k) k in
      ap (λ (x : ℕ). c * x * D) e ∙ simp (mul_assoc, mul_comm, mul_left_comm)

  multiple_is : (c r : ℕ) → drop p N D ≤ r → c * 2 ^ (r - drop p N D) * 2 ^ drop p N D ≡ c * 2 ^ r
  multiple_is c r h =
      let k = drop p N D in
      mul_assoc c (2 ^ (r - k)) (2 ^ k) ∙ ap (λ (x : ℕ). c * x) (sym (pow-add 2 (r - k) k) ∙ ap (λ (x : ℕ). 2 ^ x) (back r k h))

  fine_below : (c r : ℕ) → c < 2 ^ p → r < drop p N D → c * 2 ^ r * D < N / unit * unit
  fine_below c r C l =
      let k = drop p N D in
      let K : 0 < k = omega arith in
      let a : c * 2 ^ r < N / unit * 2 ^ k =
      lt_of_lt_of_le (mul-lt-mul_of_pos_right C (pow_pos r))
      (le_trans (le_of_eq (sym (pow-add 2 p r)))
      (le_trans (pow_mono (room p r k P l)) (le_trans (le_of_eq (pow-add 2 (p - 1) k)) (mul-le-mul_right (2 ^ k) (all_digits K))))) in
      lt_of_lt_of_le (mul-lt-mul_of_pos_right a D0) (le_of_eq (mul_assoc (N / unit) (2 ^ k) D ∙ ap (λ (x : ℕ). N / unit * x) (mul_comm (2 ^ k) D)))

  fine_further : (c r : ℕ) → c < 2 ^ p → r < drop p N D → gap (kept p N D * 2 ^ drop p N D * D) N < gap (c * 2 ^ r * D) N
  fine_further c r C l =
      subst (λ (x : ℕ). gap x N < gap (c * 2 ^ r * D) N) (sym result)
      (further (c * 2 ^ r * D) (N / unit * unit) N (N % unit) (gap (kept p N D * unit) N) (div-add-mod' N unit) (fine_below c r C l) (closest_least N unit unit-pos (N / unit)))

  pub grid_least : (c r : ℕ) → c < 2 ^ p → gap (kept p N D * 2 ^ drop p N D * D) N ≤ gap (c * 2 ^ r * D) N
  grid_least c r C = elim (le_or_lt (drop p N D) r) [
    | inl h ↦ rw (result, multiple c r h) (closest_least N unit unit-pos (c * 2 ^ (r - drop p N D)))
    | inr l ↦ let g = fine_further c r C l in omega arith
  ]

  pub grid_tie : (c r : ℕ) → c < 2 ^ p → (c * 2 ^ r ≡ kept p N D * 2 ^ drop p N D → ⊥) → gap (kept p N D * 2 ^ drop p N D * D) N ≡ gap (c * 2 ^ r * D) N → kept p N D % 2 ≡ 0
  grid_tie c r C n e = elim (le_or_lt (drop p N D) r) [
    | inl h ↦
        closest_tie N unit unit-pos (c * 2 ^ (r - drop p N D))
        (λ (x : c * 2 ^ (r - drop p N D) ≡ kept p N D). n (sym (multiple_is c r h) ∙ ap (λ (z : ℕ). z * 2 ^ drop p N D) x))
        (ap (λ (z : ℕ). gap z N) (sym result) ∙ e ∙ ap (λ (z : ℕ). gap z N) (multiple c r h))
    | inr l ↦ let g = fine_further c r C l in absurd (omega arith)
  ]

-- ---- a number as the format writes it: c * 2 ^ q, with p digits in c, or fewer where q is 0

pub record Full (p n : ℕ) : Type 0 where
  pub c : ℕ
  pub q : ℕ
  pub short : c < 2 ^ p
  pub full : (2 ^ (p - 1) ≤ c) ⊎ (q ≡ 0)
  pub is : c * 2 ^ q ≡ n

pub record EvenSize (p n : ℕ) : Type 0 where
  pub written : Full p n
  pub even : written.c % 2 ≡ 0

pow_even : (p : ℕ) → 0 < p → 2 ^ p % 2 ≡ 0
pow_even zero h = absurd (omega arith)
pow_even (suc p) h = ap (λ (x : ℕ). x % 2) (pow-suc 2 p) ∙ mul-mod_left (2 ^ p) 2

pow_down : (p : ℕ) → 0 < p → 2 ^ p ≡ 2 ^ (p - 1) * 2
pow_down p h = let e : p ≡ suc (p - 1) = omega arith in ap (λ (x : ℕ). 2 ^ x) e ∙ pow-suc 2 (p - 1)

zero_or_pos : (k : ℕ) → (k ≡ 0) ⊎ (0 < k)
zero_or_pos zero = inl refl
zero_or_pos (suc k) = inr (omega arith)

pub even_zero : (p : ℕ) → EvenSize p 0
even_zero p = record { written = record { c = 0; q = 0; short = pow_pos p; full = inr refl; is = refl }; even = refl }

module _ (p N D : ℕ) (P : 2 ≤ p) (D0 : 0 < D) where
  -- what `round` keeps is 2 ^ p where it rounds up to the next power of two, and is then written with one digit less
  carried : kept p N D ≡ 2 ^ p → Full p (kept p N D * 2 ^ drop p N D)
  carried e =
      let k = drop p N D in
      let d : 2 ^ p ≡ 2 ^ (p - 1) * 2 = pow_down p (omega arith) in
      let s : 0 < 2 ^ (p - 1) = pow_pos (p - 1) in
      record {
        c = 2 ^ (p - 1);
        q = suc k;
        short = omega arith;
        full = inl (omega arith);
        is = ap (λ (x : ℕ). 2 ^ (p - 1) * x) (pow-suc 2 k) ∙ sym (mul_assoc (2 ^ (p - 1)) (2 ^ k) 2) ∙ mul_right_comm (2 ^ (p - 1)) (2 ^ k) 2 ∙ ap (λ (x : ℕ). x * 2 ^ k) (sym d ∙ sym e);
      }

  as-kept : kept p N D < 2 ^ p → Full p (kept p N D * 2 ^ drop p N D)
  as-kept l = record {
    c = kept p N D;
    q = drop p N D;
    short = l;
    full = elim (zero_or_pos (drop p N D)) [ inl z ↦ inr z | inr h ↦ inl (kept_ge p N D (omega arith) D0 h) ];
    is = refl;
  }

  pub full_kept : Full p (kept p N D * 2 ^ drop p N D)
  full_kept = elim (eq-or-lt_of_le (kept_le p N D (omega arith) D0)) [ inl e ↦ carried e | inr l ↦ as-kept l ]

  pub even_kept : kept p N D % 2 ≡ 0 → EvenSize p (kept p N D * 2 ^ drop p N D)
  unfolding carried as-kept
  even_kept v = elim (eq-or-lt_of_le (kept_le p N D (omega arith) D0)) [
    | inl e ↦ record { written = carried e; even = pow_even (p - 1) (omega arith) }
    | inr l ↦ record { written = as-kept l; even = v }
  ]

-- a number that the format holds is what is kept of it
exact : (p c r : ℕ) → 0 < p → c < 2 ^ p → kept p (c * 2 ^ r) 1 * 2 ^ drop p (c * 2 ^ r) 1 ≡ c * 2 ^ r
exact p c r P C =
    let n = c * 2 ^ r in
    let x = kept p n 1 * 2 ^ drop p n 1 in
    let g : gap (x * 1) n ≤ gap (n * 1) n = grid_least p n 1 P (lit< tt) c r C in
    let a : x * 1 ≡ x = mul-one x in
    let b : n * 1 ≡ n = mul-one n in
    omega arith

pub full_exists : (p c r : ℕ) → 2 ≤ p → c < 2 ^ p → Full p (c * 2 ^ r)
full_exists p c r P C = subst (λ (x : ℕ). Full p x) (exact p c r (omega arith) C) (full_kept p (c * 2 ^ r) 1 P (lit< tt))

module _ (p : ℕ) (P : 0 < p) where
  step-over : {a b i j : ℕ} → i < j → a < 2 ^ p → 2 ^ (p - 1) ≤ b → a * 2 ^ i < b * 2 ^ j
  step-over {a} {b} {i} {j} l h k =
      lt_of_lt_of_le (mul-lt-mul_of_pos_right h (pow_pos i))
      (le_trans (le_of_eq (sym (pow-add 2 p i))) (le_trans (pow_mono (room p i j P l)) (le_trans (le_of_eq (pow-add 2 (p - 1) j)) (mul-le-mul_right (2 ^ j) k))))

  is_full : {a i : ℕ} → (2 ^ (p - 1) ≤ a) ⊎ (i ≡ 0) → 0 < i → 2 ^ (p - 1) ≤ a
  is_full (inl h) l = h
  is_full (inr z) l = absurd (omega arith)

  two-apart : {a b : ℕ} → a % 2 ≡ 0 → b % 2 ≡ 0 → a < b → suc a < b
  two-apart {a} {b} x y l = omega arith

  pub next-short : (c : ℕ) → c < 2 ^ p → c % 2 ≡ 0 → suc c < 2 ^ p
  next-short c h e = let z = pow_even p P in omega arith

  module _ {c q d r : ℕ} (C : c < 2 ^ p) (D : d < 2 ^ p) (cf : (2 ^ (p - 1) ≤ c) ⊎ (q ≡ 0)) (df : (2 ^ (p - 1) ≤ d) ⊎ (r ≡ 0)) where
    pub full_unique : c * 2 ^ q ≡ d * 2 ^ r → (c ≡ d) × (q ≡ r)
    full_unique h = elim (le_or_lt q r) [
      | inl le ↦ elim (eq-or-lt_of_le le) [
        | inl e ↦ (eq_of_mul-eq-mul_right (2 ^ r) (pow_pos r) c d (ap (λ (x : ℕ). c * 2 ^ x) (sym e) ∙ h), e)
        | inr l ↦ let g = step-over l C (is_full df (omega arith)) in absurd (omega arith)
      ]
      | inr l ↦ let g = step-over l D (is_full cf (omega arith)) in absurd (omega arith)
    ]

    -- of two numbers with even significands, the next number above the smaller lies below the larger
    pub between : c % 2 ≡ 0 → d % 2 ≡ 0 → c * 2 ^ q < d * 2 ^ r → suc c * 2 ^ q < d * 2 ^ r
    between ce de h = elim (le_or_lt q r) [
      | inl le ↦ elim (eq-or-lt_of_le le) [
        | inl e ↦
            let h' : c * 2 ^ r < d * 2 ^ r = subst (λ (x : ℕ). c * 2 ^ x < d * 2 ^ r) e h in
            subst (λ (x : ℕ). suc c * 2 ^ x < d * 2 ^ r) (sym e) (mul-lt-mul_of_pos_right (two-apart ce de (lt_of_mul-lt-mul_right (2 ^ r) h')) (pow_pos r))
        | inr l ↦ step-over l (next-short c C ce) (is_full df (omega arith))
      ]
      | inr l ↦ let g = step-over l D (is_full cf (omega arith)) in absurd (omega arith)
    ]

-- ---- what lies between two numbers that are as near is nearer
pub middle_nearer : (X Z Y D N : ℕ) → 0 < D → X < Z → Z < Y → gap (X * D) N ≡ gap (Y * D) N → gap (Z * D) N < gap (X * D) N
middle_nearer X Z Y D N D0 h k e =
    let a : X * D < Z * D = mul-lt-mul_of_pos_right h D0 in
    let b : Z * D < Y * D = mul-lt-mul_of_pos_right k D0 in
    omega arith

-- ---- no more than twice the fraction
pub result_le : (p N D : ℕ) → 0 < p → 0 < D → kept p N D * 2 ^ drop p N D * D ≤ N * 2
result_le p N D P D0 =
    let g = grid_least p N D P D0 0 0 (pow_pos p) in
    let z : 0 * 2 ^ 0 * D ≡ 0 = zero-mul D in
    let g' : gap (kept p N D * 2 ^ drop p N D * D) N ≤ gap 0 N = subst (λ (x : ℕ). gap (kept p N D * 2 ^ drop p N D * D) N ≤ gap x N) z g in
    omega arith
