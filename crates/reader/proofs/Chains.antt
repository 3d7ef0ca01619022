-- Tokens one behind the other have the spans that the listing asks for. Assumes nothing.
use Prim.Native.Nat.{ℕ, zero, suc, ◌<◌, ◌≤◌}
use mathlib.Core.Path.{◌≡◌, sym, ap, ◌∙◌}
use mathlib.Core.List.{List, [], ◌∷◌, ◌++◌, map}
use native.Mathlib.Omega.{arith}
use lib.ListN.{length, get_or, take}
use lib.Seq.{get_or-take}
use Rattle.lexer.specs.Cursor.{longest}
use Rattle.reader.specs.Token.{Token}
use Rattle.reader.specs.Fault.{Chain, none, more}
use Rattle.reader.specs.Listing.{Source}

abbrev pub starts_of : List Token → List ℕ
starts_of ts = map (λ (t : Token). t.start) ts

abbrev pub ends_of : List Token → List ℕ
ends_of ts = map (λ (t : Token). t.end) ts

module _ (n : ℕ) where
  pub begins : {from : ℕ} {ts : List Token} → Chain n from ts → from ≤ n
  begins (none h) = h
  begins (more a b c) = let h = begins c in omega arith

  -- where each of them starts
  pub within : {from : ℕ} (us : List Token) (t : Token) (vs : List Token) → Chain n from (us ++ (t ∷ vs)) → (from ≤ t.start) × (t.start < n)
  within [] t vs (more a b c) = let h = begins c in (a, omega arith)
  within (u ∷ us) t vs (more a b c) = let h = within us t vs c in (omega (arith, h.0), h.1)

  ends_later : {from : ℕ} (ts : List Token) → Chain n from ts → (j : ℕ) → j < length ts → from < get_or (ends_of ts) j 0
  ends_later [] (none h) j l = absurd (omega arith)
  ends_later (t ∷ ts) (more a b c) zero l = omega arith
  ends_later (t ∷ ts) (more a b c) (suc j) l = let h = ends_later ts c j (omega arith) in omega arith

  ordered : {from : ℕ} (ts : List Token) → Chain n from ts → (i j : ℕ) → i ≤ j → j < length ts → get_or (starts_of ts) i 0 < get_or (ends_of ts) j 0
  ordered [] (none h) i j k l = absurd (omega arith)
  ordered (t ∷ ts) (more a b c) zero zero k l = b
  ordered (t ∷ ts) (more a b c) zero (suc j) k l = let h = ends_later ts c j (omega arith) in omega arith
  ordered (t ∷ ts) (more a b c) (suc i) zero k l = absurd (omega arith)
  ordered (t ∷ ts) (more a b c) (suc i) (suc j) k l = ordered ts c i j (omega arith) (omega arith)

  inside : {from : ℕ} (ts : List Token) → Chain n from ts → (j : ℕ) → j < length ts → get_or (ends_of ts) j 0 ≤ n
  inside [] (none h) j l = absurd (omega arith)
  inside (t ∷ ts) (more a b c) zero l = begins c
  inside (t ∷ ts) (more a b c) (suc j) l = inside ts c j (omega arith)

-- numbers of the tokens that stand in front of a slice
pub front_at : (f : Token → ℕ) (ts : List Token) (xs : List ℕ) → take (length ts) xs ≡ map f ts → (i : ℕ) → i < length ts → get_or xs i 0 ≡ get_or (map f ts) i 0
front_at f ts xs a i h = sym (get_or-take (length ts) xs i 0 h) ∙ ap (λ (l : List ℕ). get_or l i 0) a

-- the spans in front of the two slices are the tokens'
pub source_of : (s starts ends : List ℕ) (ts : List Token) (from : ℕ) → length s ≤ longest → length ts ≤ length starts → length ts ≤ length ends
    → take (length ts) starts ≡ starts_of ts → take (length ts) ends ≡ ends_of ts → Chain (length s) from ts → Source s starts ends (length ts)
source_of s starts ends ts from short p q a b c =
    record {
      short = short;
      started = p;
      ended = q;
      ordered =
          λ i j k l.
          let h : i < length ts = omega arith in
          rw (front_at (λ (t : Token). t.start) ts starts a i h, front_at (λ (t : Token). t.end) ts ends b j l) (ordered (length s) ts c i j k l);
      inside = λ j l. rw (front_at (λ (t : Token). t.end) ts ends b j l) (inside (length s) ts c j l);
    }
