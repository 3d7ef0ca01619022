-- Laws of stretches. Assumes nothing.
use Prim.Native.Nat.{ℕ, ◌+◌, ◌-◌, ◌<◌, ◌≤◌}
use mathlib.Core.Path.{◌≡◌, refl, ◌∙◌, ap}
use mathlib.Core.Logic.{⊎_elim}
use mathlib.Core.Bool.{Bool, true, false, cond}
use mathlib.Core.List.{List, [], ◌∷◌}
use native.Mathlib.Decide.{dec_le}
use native.Mathlib.Omega.{arith}
use borrow.Author.Tests.{leb-true, eqb-false}
use lib.Dec.{eqb, leb}
use lib.ListN.{length, get_or, drop}
use Rattle.lexer.specs.Chars.{is, class_of, foreign_byte, space, newline}
use Rattle.lexer.specs.Cursor.{along, move_to, Valid, Along}
use Rattle.lexer.specs.Stretch.{run_to, run_of, in_stretch, stretch_end}
use Rattle.lexer.specs.declared.cursor.Cursor.{Cursor}
use Rattle.lexer.proofs.Cursors.{both, NoNewline, can_move_along, move_along, move_offset, move_valid}
use Rattle.lexer.proofs.Looks.{inside_or_not}
use Rattle.lexer.proofs.Spans.{by_test}
use Rattle.lexer.proofs.Steps.{drop_at, drop_end}
use Rattle.lexer.proofs.Table.{agreed}

-- where a byte is left of the text
record Front (s : List ℕ) (at x : ℕ) (xs : List ℕ) : Type 0 where
  inside : at < length s
  it : get_or s at 0 ≡ x
  rest : drop (at + 1) s ≡ xs

front : (s : List ℕ) (at x : ℕ) (xs : List ℕ) → drop at s ≡ x ∷ xs → Front s at x xs
front s at x xs e = ⊎_elim none here (inside_or_not s at)
  where
    none : length s ≤ at → Front s at x xs
    none h = let z : ◌≡◌ {A = ℕ} 0 1 = cc (drop_end s at h) in absurd (omega arith)

    here : at < length s → Front s at x xs
    here h = record { inside = h; it = cc (drop_at s at h); rest = cc (drop_at s at h) }

-- ---- a run of bytes that pass a test
module _ (passes : ℕ → Bool) (s : List ℕ) where
  -- what each of its bytes hands on comes to its end
  module _ (P : ℕ → Type 0) (step : (i : ℕ) → i < length s → passes (get_or s i 0) ≡ true → P i → P (i + 1)) where
    carry : (xs : List ℕ) (at : ℕ) → drop at s ≡ xs → P at → P (run_to passes at xs)
    unfolding run_to
    carry [] at e h = h
    carry (x ∷ xs) at e h = let w = front s at x xs e in by_test P (passes x) _ _ (λ t. carry xs (at + 1) w.rest (step at w.inside (rw w.it t) h)) (λ _. h)

    pub run_carry : (at : ℕ) → P at → P (run_of passes s at)
    run_carry at h = carry (drop at s) at refl h

  -- what is the same before and behind each of its bytes is the same at both its ends
  pub along-run : {A : Type 0} (f : ℕ → A) → ((i : ℕ) → i < length s → passes (get_or s i 0) ≡ true → f i ≡ f (i + 1)) → (at : ℕ) → f at ≡ f (run_of passes s at)
  along-run f h at = run_carry (λ (n : ℕ). f at ≡ f n) (λ i l t e. e ∙ h i l t) at refl

  pub run-ahead : (at : ℕ) → at ≤ run_of passes s at
  run-ahead at = run_carry (λ (n : ℕ). at ≤ n) (λ i l t e. omega arith) at (omega arith)

  pub run_inside : (at : ℕ) → at ≤ length s → run_of passes s at ≤ length s
  run_inside at h = run_carry (λ (n : ℕ). n ≤ length s) (λ i l t e. omega arith) at h

  -- each byte on the way passes
  pub run-bytes : (at i : ℕ) → at ≤ i → i < run_of passes s at → passes (get_or s i 0) ≡ true
  run-bytes at i h l = run_carry (λ (n : ℕ). i < n → passes (get_or s i 0) ≡ true) more at (λ k. absurd (omega arith)) l
    where
      more : (j : ℕ) → j < length s → passes (get_or s j 0) ≡ true → (i < j → passes (get_or s i 0) ≡ true) → i < j + 1 → passes (get_or s i 0) ≡ true
      more j k t f m = go (dec_le j i)
        where
          go : Dec (j ≤ i) → passes (get_or s i 0) ≡ true
          go (yes n) = let w : i ≡ j = omega arith in rw w t
          go (no n) = f (omega arith)

  -- and none at its end
  abbrev Over : ℕ → Type 0
  Over e = e < length s → passes (get_or s e 0) ≡ false

  over : (xs : List ℕ) (at : ℕ) → drop at s ≡ xs → Over (run_to passes at xs)
  unfolding run_to
  over [] at e = λ h. let z : ◌≡◌ {A = ℕ} 0 1 = cc (drop_at s at h) in absurd (omega arith)
  over (x ∷ xs) at e = let w = front s at x xs e in by_test Over (passes x) _ _ (λ _. over xs (at + 1) w.rest) (λ t h. ap passes w.it ∙ t)

  pub run_no_more : (at : ℕ) → Over (run_of passes s at)
  run_no_more at = over (drop at s) at refl

  -- past a byte that passes it goes on, before another and with the text it ends
  module _ (at : ℕ) where
    pub run-on : at < length s → passes (get_or s at 0) ≡ true → run_of passes s at ≡ run_of passes s (at + 1)
    unfolding run_to
    run-on h t = cc (drop_at s at h)

    pub run-stops : at < length s → passes (get_or s at 0) ≡ false → run_of passes s at ≡ at
    unfolding run_to
    run-stops h t = cc (drop_at s at h)

    pub run-ended : length s ≤ at → run_of passes s at ≡ at
    unfolding run_to
    run-ended h = cc (drop_end s at h)

-- ---- a stretch
module _ (a b p q : ℕ) (s : List ℕ) where
  pub stretch_carry : (P : ℕ → Type 0) → ((i : ℕ) → i < length s → in_stretch a b p q (get_or s i 0) ≡ true → P i → P (i + 1)) → (at : ℕ) → P at → P (stretch_end a b p q s at)
  stretch_carry = run_carry (in_stretch a b p q) s

  pub stretch_ahead : (at : ℕ) → at ≤ stretch_end a b p q s at
  stretch_ahead = run-ahead (in_stretch a b p q) s

  pub stretch_inside : (at : ℕ) → at ≤ length s → stretch_end a b p q s at ≤ length s
  stretch_inside = run_inside (in_stretch a b p q) s

  pub stretch_bytes : (at i : ℕ) → at ≤ i → i < stretch_end a b p q s at → in_stretch a b p q (get_or s i 0) ≡ true
  stretch_bytes = run-bytes (in_stretch a b p q) s

pub along_stretch : {A : Type 0} (f : ℕ → A) (a b p q : ℕ) (s : List ℕ) → ((i : ℕ) → i < length s → in_stretch a b p q (get_or s i 0) ≡ true → f i ≡ f (i + 1)) → (at : ℕ) → f at ≡ f (stretch_end a b p q s at)
along_stretch f a b p q s = along-run (in_stretch a b p q) s f

-- ---- the bytes of a stretch
pub record InStretch (a b p q x : ℕ) : Type 0 where
  pub from : a ≤ x
  pub to : x ≤ b
  pub no_p : x ≡ p → ⊥
  pub no_q : x ≡ q → ⊥

unless : (t u : Bool) → cond t false u ≡ true → (t ≡ false) × (u ≡ true)
unless true u e = let z : ◌≡◌ {A = ℕ} 0 1 = cc in absurd (omega arith)
unless false u e = (refl, e)

pub in-stretch : (a b p q x : ℕ) → in_stretch a b p q x ≡ true → InStretch a b p q x
in-stretch a b p q x e =
    let g = unless (eqb x p) _ e in
    let h = unless (eqb x q) _ g.1 in
    let w = both (leb a x) (leb x b) h.1 in
    record { from = leb-true a x w.0; to = leb-true x b w.1; no_p = eqb-false x p g.0; no_q = eqb-false x q h.0 }

-- from space to tilde no byte is foreign, and none is a newline
pub stretch_known : (x : ℕ) → space ≤ x → x ≤ 126 → (is foreign_byte x ≡ false) × (x ≡ newline → ⊥)
unfolding class_of
stretch_known x h k =
    let m : x - space + space ≡ x = omega arith in
    (rw m at (agreed (λ i. is foreign_byte (i + space)) (λ i. false) 95 tt (x - space) (omega arith)), λ n. omega arith)

-- ---- a cursor that moves along such a stretch, to its end e, is d there
pub record Passed (s : List ℕ) (c : Cursor) (e : ℕ) (d : Cursor) : Type 0 where
  pub ahead : c.offset ≤ e
  pub inside : e ≤ length s
  pub there : d ≡ move_to s c e
  pub offset : d.offset ≡ e
  pub valid : Valid (length s) d

module _ (a b p q : ℕ) (lo : space ≤ a) (hi : b ≤ 126) (s : List ℕ) (c : Cursor) (v : Valid (length s) c) (e : ℕ) (f : e ≡ stretch_end a b p q s c.offset) where
  plain : NoNewline s c.offset e
  plain i h k =
      let w = in-stretch a b p q (get_or s i 0) (stretch_bytes a b p q s c.offset i h (rw f at k)) in
      (stretch_known (get_or s i 0) (omega (arith, w.from)) (omega (arith, w.to))).1

  on : c.offset ≤ e
  on = rw f (stretch_ahead a b p q s c.offset)

  in-text : e ≤ length s
  in-text = rw f (stretch_inside a b p q s c.offset v.offset)

  pub can_pass : Along c e
  can_pass = can_move_along (length s) c v e on in-text

  pub passed : (d : Cursor) → d ≡ along c (e - c.offset) → Passed s c e d
  passed d o =
      let m = o ∙ move_along s c e on in-text plain in
      record {
        ahead = on;
        inside = in-text;
        there = m;
        offset = ap (λ (x : Cursor). x.offset) m ∙ move_offset s c e on in-text;
        valid = rw m (move_valid s c e on in-text v);
      }
