-- A rule that one computed test finds at each entry of a table holds at any place of it. Assumes nothing.
use mathlib.Core.Path.{◌≡◌, refl, ◌∙◌, subst, sym}
use mathlib.Core.Bool.{Bool, true, false, not}
use mathlib.Core.List.{List, [], ◌∷◌}
use Prim.Native.Nat.{ℕ, zero, suc, ◌+◌, ◌<◌, zero-le, suc-le-suc}
use native.Mathlib.Nat.{add-zero, zero-add, add-suc, suc-add, le_of_suc-le-suc, not-suc-le-zero}
use borrow.Author.Tests.{eqb-true}
use lib.Dec.{T, eqb}
use lib.ListN.{length, get_or}

abbrev pub both : Bool → Bool → Bool
both true b = b
both false b = false

both_left : (a b : Bool) → T (both a b) → T a
both_left true b t = tt
both_left false b t = t

both_right : (a b : Bool) → T (both a b) → T b
both_right true b t = t
both_right false b t = absurd t

module _ {A : Type 0} (d : A) (f : ℕ → A → Bool) where
  -- the test f passes at each entry of the list and its place, counted from i
  abbrev pub every : ℕ → List A → Bool
  every i [] = true
  every i (x ∷ xs) = both (f i x) (every (suc i) xs)

  from : (xs : List A) (i : ℕ) → T (every i xs) → (k : ℕ) → k < length xs → T (f (i + k) (get_or xs k d))
  from [] i t k h = absurd (not-suc-le-zero h)
  from (x ∷ xs) i t zero h = subst (λ (m : ℕ). T (f m x)) (sym (add-zero i)) (both_left (f i x) (every (suc i) xs) t)
  from (x ∷ xs) i t (suc k) h =
      subst (λ (m : ℕ). T (f m (get_or xs k d))) (suc-add i k ∙ sym (add-suc i k))
      (from xs (suc i) (both_right (f i x) (every (suc i) xs) t) k (le_of_suc-le-suc h))

  pub at : (xs : List A) → T (every 0 xs) → (k : ℕ) → k < length xs → T (f k (get_or xs k d))
  at xs t k h = subst (λ (m : ℕ). T (f m (get_or xs k d))) (zero-add k) (from xs 0 t k h)

-- ---- two tests that agree on the first n numbers
abbrev pub alike : Bool → Bool → Bool
alike true b = b
alike false b = not b

alike_same : (a b : Bool) → T (alike a b) → a ≡ b
alike_same true true t = refl
alike_same true false t = absurd t
alike_same false true t = absurd t
alike_same false false t = refl

abbrev pub blanks : ℕ → List ℕ
blanks zero = []
blanks (suc n) = 0 ∷ blanks n

blanks-length : (n k : ℕ) → k < n → k < length (blanks n)
blanks-length zero k h = absurd (not-suc-le-zero h)
blanks-length (suc n) zero h = suc-le-suc zero-le
blanks-length (suc n) (suc k) h = suc-le-suc (blanks-length n k (le_of_suc-le-suc h))

-- one computed test finds that they agree
abbrev pub agree : (ℕ → Bool) → (ℕ → Bool) → ℕ → Bool
agree f g n = every 0 (λ i x. alike (f i) (g i)) 0 (blanks n)

pub agreed : (f g : ℕ → Bool) (n : ℕ) → T (agree f g n) → (k : ℕ) → k < n → f k ≡ g k
agreed f g n t k h = alike_same (f k) (g k) (at 0 (λ i x. alike (f i) (g i)) (blanks n) t k (blanks-length n k h))

-- and that two numberings do
abbrev pub alikes : (ℕ → ℕ) → (ℕ → ℕ) → ℕ → Bool
alikes f g n = agree (λ i. eqb (f i) (g i)) (λ i. true) n

pub matched : (f g : ℕ → ℕ) (n : ℕ) → T (alikes f g n) → (k : ℕ) → k < n → f k ≡ g k
matched f g n t k h = eqb-true (f k) (g k) (agreed (λ i. eqb (f i) (g i)) (λ i. true) n t k h)
