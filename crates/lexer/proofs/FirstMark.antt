-- Where a comment ends, said of offsets: behind the first star that a slash follows. Assumes nothing.
use mathlib.Core.Path.{◌≡◌, refl, sym, ◌∙◌, ap, subst}
use mathlib.Core.Bool.{Bool, true, false, cond, ◌&&◌}
use mathlib.Core.List.{List, [], ◌∷◌}
use Prim.Native.Nat.{ℕ, zero, suc, ◌+◌, ◌-◌, ◌<◌, ◌≤◌}
use native.Mathlib.Decide.{dec_lt}
use native.Mathlib.Omega.{arith}
use borrow.Author.Tests.{eqb-true, eq-eqb}
use lib.Dec.{eqb}
use lib.ListN.{length, drop, get_or}
use Rattle.lexer.specs.Chars.{class_of, is, foreign_byte, star, slash}
use Rattle.lexer.specs.Layout.{begins_with, past, unclosed, comment_text}
use Rattle.lexer.specs.Refusal.{fault}
use Rattle.lexer.specs.declared.refusal.Refusal.TheVariants.{UnclosedComment, ForeignByte}
use Rattle.lexer.specs.Cursor.{Scan}
use Rattle.std.specs.declared.result.Result.TheVariants.{Ok, Err}
use Rattle.lexer.proofs.Cursors.{both}
use Rattle.lexer.proofs.Steps.{drop_at, drop_end}

-- a star that a slash follows, at i
pub record Closes (s : List ℕ) (i : ℕ) : Type 0 where
  pub inside : i + 1 < length s
  pub star_there : get_or s i 0 ≡ star
  pub slash_there : get_or s (i + 1) 0 ≡ slash

-- from `at` on, no such star and no foreign byte before i
pub record Clear (s : List ℕ) (at i : ℕ) : Type 0 where
  pub unmarked : (j : ℕ) → at ≤ j → j < i → Closes s j → ⊥
  pub known : (j : ℕ) → at ≤ j → j < i → is foreign_byte (get_or s j 0) ≡ false

-- the first such star from `at` on is at i, and no byte before it is foreign
pub record First (s : List ℕ) (at i : ℕ) : Type 0 where
  pub from : at ≤ i
  pub closes : Closes s i
  pub clear : Clear s at i

abbrev mark : List ℕ
mark = star ∷ slash ∷ []

-- ---- the test for the mark
module _ (s : List ℕ) (at : ℕ) where
  abbrev here : Bool
  here = begins_with mark (get_or s at 0 ∷ drop (at + 1) s)

  followed : at + 1 < length s → here ≡ eqb (get_or s at 0) star && (eqb (get_or s (at + 1) 0) slash && true)
  followed k = rw (drop_at s (at + 1) k)

  alone : length s ≤ at + 1 → here ≡ eqb (get_or s at 0) star && false
  alone k = rw (drop_end s (at + 1) k)

  and-false : (b : Bool) → b && false ≡ true → ⊥
  and-false true e = let z : ◌≡◌ {A = ℕ} 0 1 = cc in omega arith
  and-false false e = let z : ◌≡◌ {A = ℕ} 0 1 = cc in omega arith

  marked : here ≡ true → Closes s at
  marked e = go (dec_lt (at + 1) (length s))
    where
      go : Dec (at + 1 < length s) → Closes s at
      go (no k) = absurd (and-false (eqb (get_or s at 0) star) (sym (alone (omega arith)) ∙ e))
      go (yes k) =
          let p = both (eqb (get_or s at 0) star) _ (sym (followed k) ∙ e) in
          let q = both (eqb (get_or s (at + 1) 0) slash) true p.1 in
          record { inside = k; star_there = eqb-true (get_or s at 0) star p.0; slash_there = eqb-true (get_or s (at + 1) 0) slash q.0 }

  closed : Closes s at → here ≡ true
  closed c = followed c.inside ∙ cc (eq-eqb (get_or s at 0) star c.star_there, eq-eqb (get_or s (at + 1) 0) slash c.slash_there)

-- ---- no mark on the way
module _ (s : List ℕ) (at i : ℕ) where
  clear_none : i ≤ at → Clear s at i
  clear_none h = record { unmarked = λ j p q. absurd (omega arith); known = λ j p q. absurd (omega arith) }

  clear_less : Clear s at i → Clear s (at + 1) i
  clear_less c = record { unmarked = λ j p q. c.unmarked j (omega arith) q; known = λ j p q. c.known j (omega arith) q }

  clear_more : (Closes s at → ⊥) → is foreign_byte (get_or s at 0) ≡ false → Clear s (at + 1) i → Clear s at i
  clear_more n k c = record { unmarked = λ j p q. un j p (dec_lt at j) q; known = λ j p q. kn j p (dec_lt at j) q }
    where
      un : (j : ℕ) → at ≤ j → Dec (at < j) → j < i → Closes s j → ⊥
      un j l (yes p) q d = c.unmarked j (omega arith) q d
      un j l (no p) q d = let m : j ≡ at = omega arith in n (rw m at d)

      kn : (j : ℕ) → at ≤ j → Dec (at < j) → j < i → is foreign_byte (get_or s j 0) ≡ false
      kn j l (yes p) q = c.known j (omega arith) q
      kn j l (no p) q = let m : j ≡ at = omega arith in rw m k

-- ---- the scan, a byte at a time
star-known : (x : ℕ) → x ≡ star → is foreign_byte x ≡ false
unfolding class_of
star-known x e = cc

module _ (s : List ℕ) (o : ℕ) where
  -- where the comment whose slash is at o ends, from an offset on
  abbrev close : ℕ → Scan
  close at = past mark (unclosed o) at (drop at s)

  turned : ℕ → Bool → Bool → Scan
  turned at foreign closes = cond foreign (Err (fault ForeignByte at)) (cond closes (Ok (at + 2)) (close (at + 1)))

  turn : (at : ℕ) → at < length s → close at ≡ turned at (is foreign_byte (get_or s at 0)) (here s at)
  unfolding past turned
  turn at h = cc (drop_at s at h)

  -- at the end of the text, at a foreign byte, at a mark, and at another byte
  at-end : (at : ℕ) → length s ≤ at → close at ≡ unclosed o at
  unfolding past
  at-end at h = cc (drop_end s at h)

  at_foreign : (at : ℕ) → at < length s → is foreign_byte (get_or s at 0) ≡ true → close at ≡ Err (fault ForeignByte at)
  unfolding turned
  at_foreign at h k = turn at h ∙ cc

  at_mark : (at : ℕ) → Closes s at → close at ≡ Ok (at + 2)
  unfolding turned
  at_mark at c = turn at (omega (arith, c.inside)) ∙ cc (star-known (get_or s at 0) c.star_there, closed s at c)

  at_other : (at : ℕ) → at < length s → is foreign_byte (get_or s at 0) ≡ false → (Closes s at → ⊥) → close at ≡ close (at + 1)
  unfolding turned
  at_other at h k n = turn at h ∙ cc (k, unmarked (here s at) refl)
    where
      unmarked : (t : Bool) → here s at ≡ t → here s at ≡ false
      unmarked true e = absurd (n (marked s at e))
      unmarked false e = e

  -- over bytes that are clear
  over_clear : (n at i : ℕ) → i ≡ at + n → i ≤ length s → Clear s at i → close at ≡ close i
  over_clear zero at i e h c = let m : at ≡ i = omega arith in ap close m
  over_clear (suc n) at i e h c =
      at_other at (omega arith) (c.known at (omega arith) (omega arith)) (c.unmarked at (omega arith) (omega arith))
      ∙ over_clear n (at + 1) i (omega arith) h (clear_less s at i c)

  -- ---- the comment whose slash is at o
  from_there : (i : ℕ) → o + 2 ≤ i → i ≤ length s → Clear s (o + 2) i → comment_text s o ≡ close i
  from_there i h k c = over_clear (i - (o + 2)) (o + 2) i (omega arith) k c

  pub clear_end : o + 2 ≤ length s → Clear s (o + 2) (length s) → comment_text s o ≡ Err (fault UnclosedComment o)
  clear_end h c = from_there (length s) h (omega arith) c ∙ at-end (length s) (omega arith)

  pub clear_foreign : (i : ℕ) → o + 2 ≤ i → i < length s → Clear s (o + 2) i → is foreign_byte (get_or s i 0) ≡ true → comment_text s o ≡ Err (fault ForeignByte i)
  clear_foreign i h k c f = from_there i h (omega arith) c ∙ at_foreign i k f

  pub mark_first : (i : ℕ) → First s (o + 2) i → comment_text s o ≡ Ok (i + 2)
  mark_first i f = from_there i f.from (omega (arith, f.closes.inside)) f.clear ∙ at_mark i f.closes

  -- by what stands at the front, where the rest is known
  found : (at e : ℕ) → (close (at + 1) ≡ Ok e → First s (at + 1) (e - 2)) → (foreign closes : Bool) → is foreign_byte (get_or s at 0) ≡ foreign → here s at ≡ closes → turned at foreign closes ≡ Ok e → First s at (e - 2)
  unfolding turned
  found at e r true b k m f = let z : ◌≡◌ {A = ℕ} 0 1 = cc in absurd (omega arith)
  found at e r false true k m f =
      let q : at + 2 ≡ e = cc in
      let i : e - 2 ≡ at = omega arith in
      rw i (record { from = omega arith; closes = marked s at m; clear = clear_none s at at (omega arith) })
  found at e r false false k m f =
      let p = r f in
      let n : Closes s at → ⊥ = λ c. let g = closed s at c in let z : ◌≡◌ {A = ℕ} 0 1 = cc in omega arith in
      record { from = omega (arith, p.from); closes = p.closes; clear = clear_more s at (e - 2) n k p.clear }

  first_from : (n at e : ℕ) → length s ≤ at + n → close at ≡ Ok e → First s at (e - 2)
  first_from zero at e h f = let g = at-end at (omega arith) in let z : ◌≡◌ {A = ℕ} 0 1 = cc in absurd (omega arith)
  first_from (suc n) at e h f = go (dec_lt at (length s)) (λ g. first_from n (at + 1) e (omega arith) g)
    where
      go : Dec (at < length s) → (close (at + 1) ≡ Ok e → First s (at + 1) (e - 2)) → First s at (e - 2)
      go (no k) r = let g = at-end at (omega arith) in let z : ◌≡◌ {A = ℕ} 0 1 = cc in absurd (omega arith)
      go (yes k) r = found at e r (is foreign_byte (get_or s at 0)) (here s at) refl refl (sym (turn at k) ∙ f)

  pub first_mark : (e : ℕ) → comment_text s o ≡ Ok e → First s (o + 2) (e - 2)
  first_mark e f = first_from (length s) (o + 2) e (omega arith) f

-- what the text of the comment whose slash is at o comes to, from `at` on: its end, a foreign byte, or neither up to the end of the text
pub data Came (s : List ℕ) (o at : ℕ) : Scan → Type 0 where
  ends : (e : ℕ) → Came s o at (Ok e)
  foreign : (i : ℕ) → i < length s → is foreign_byte (get_or s i 0) ≡ true → Came s o at (Err (fault ForeignByte i))
  unended : Clear s at (length s) → Came s o at (Err (fault UnclosedComment o))

module _ (s : List ℕ) (o : ℕ) where
  came_on : (at : ℕ) → (Closes s at → ⊥) → is foreign_byte (get_or s at 0) ≡ false → {r : Scan} → Came s o (at + 1) r → Came s o at r
  came_on at n k (ends e) = ends e
  came_on at n k (foreign i h f) = foreign i h f
  came_on at n k (unended c) = unended (clear_more s at (length s) n k c)

  came_turned : (at : ℕ) → at < length s → Came s o (at + 1) (close s o (at + 1)) → (strange closes : Bool) → is foreign_byte (get_or s at 0) ≡ strange → here s at ≡ closes → Came s o at (turned s o at strange closes)
  unfolding turned
  came_turned at h r true b k m = foreign at h k
  came_turned at h r false true k m = ends (at + 2)
  came_turned at h r false false k m = came_on at (λ c. let g = closed s at c in let z : ◌≡◌ {A = ℕ} 0 1 = cc in omega arith) k r

  came_from : (n at : ℕ) → length s ≤ at + n → Came s o at (close s o at)
  came_from zero at h = subst (Came s o at) (sym (at-end s o at (omega arith))) (unended (clear_none s at (length s) (omega arith)))
  came_from (suc n) at h = go (dec_lt at (length s)) (came_from n (at + 1) (omega arith))
    where
      go : Dec (at < length s) → Came s o (at + 1) (close s o (at + 1)) → Came s o at (close s o at)
      go (no k) r = subst (Came s o at) (sym (at-end s o at (omega arith))) (unended (clear_none s at (length s) (omega arith)))
      go (yes k) r = subst (Came s o at) (sym (turn s o at k)) (came_turned at k r (is foreign_byte (get_or s at 0)) (here s at) refl refl)

  pub comment_came : Came s o (o + 2) (comment_text s o)
  comment_came = came_from (length s) (o + 2) (omega arith)
