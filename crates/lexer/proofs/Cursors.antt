-- Laws of cursors. Assumes nothing.
use mathlib.Core.Path.{◌≡◌, refl, sym, ◌∙◌, ap}
use mathlib.Core.Bool.{Bool, true, false, cond, ◌&&◌}
use mathlib.Core.List.{List, [], ◌∷◌, ◌++◌}
use Prim.Native.Nat.{ℕ, zero, suc, ◌+◌, ◌-◌, ◌<◌, ◌≤◌}
use native.Mathlib.Decide.{dec_le}
use native.Mathlib.Omega.{arith}
use borrow.Author.Tests.{leb-true, ne_eqb}
use lib.Dec.{eqb, leb}
use lib.ListN.{length, get_or, length-take, length-drop}
use lib.Seq.{take-add, drop-drop}
use Rattle.lexer.specs.Chars.{newline}
use Rattle.lexer.specs.Cursor.{longest, step, walk, part, move_to, along, valid, Valid, Movable, Along}
use Rattle.lexer.specs.declared.cursor.Cursor.{Cursor}
use Rattle.lexer.proofs.Steps.{part_at, part_none}

-- ---- valid cursors
pub both : (a b : Bool) → a && b ≡ true → (a ≡ true) × (b ≡ true)
both true b e = (refl, e)
both false b e = let z : ◌≡◌ {A = ℕ} 0 1 = cc in absurd (omega arith)

-- what the test of a cursor tells
pub is-valid : (n : ℕ) (c : Cursor) → valid n c ≡ true → Valid n c
unfolding valid
is-valid n c e =
    let p = both (leb n longest && leb c.offset n && leb c.line c.offset) _ e in
    let q = both (leb n longest && leb c.offset n) _ p.0 in
    let r = both (leb n longest) _ q.0 in
    record { short = leb-true _ _ r.0; offset = leb-true _ _ r.1; line = leb-true _ _ q.1; column = leb-true _ _ p.1 }

-- by the answer of the code's test
pub tested-valid : (n : ℕ) (c : Cursor) (t : Bool) → t ≡ valid n c → t ≡ true → Valid n c
tested-valid n c t e f = is-valid n c (sym e ∙ f)

either : (t : Bool) (a b n : ℕ) → a ≤ n → b ≤ n → cond t a b ≤ n
either true a b n h k = h
either false a b n h k = k

module _ (n : ℕ) (c : Cursor) (v : Valid n c) where
  pub movable : c.offset < n → Movable c
  movable h = record { offset = omega (arith, v.short); line = v.line; column = v.column }

  pub step-valid : (x : ℕ) → c.offset < n → Valid n (step c x)
  step-valid x h =
      record {
        short = v.short;
        offset = omega arith;
        line = either (eqb x newline) _ _ _ (omega (arith, v.line)) (omega (arith, v.line));
        column = either (eqb x newline) _ _ _ (omega arith) (omega (arith, v.column));
      }

  pub can_move_along : (e : ℕ) → c.offset ≤ e → e ≤ n → Along c e
  can_move_along e h k = record { before = h; short = omega (arith, v.short); line = v.line; column = v.column }

-- ---- moving
pub walk_offset : (c : Cursor) (xs : List ℕ) → (walk c xs).offset ≡ c.offset + length xs
unfolding walk
walk_offset c [] = omega arith
walk_offset c (x ∷ xs) = let k = walk_offset (step c x) xs in omega arith

walk_append : (c : Cursor) (xs ys : List ℕ) → walk c (xs ++ ys) ≡ walk (walk c xs) ys
unfolding walk
walk_append c [] ys = refl
walk_append c (x ∷ xs) ys = walk_append (step c x) xs ys

pub walk-valid : (n : ℕ) (c : Cursor) (xs : List ℕ) → Valid n c → c.offset + length xs ≤ n → Valid n (walk c xs)
unfolding walk
walk-valid n c [] v h = v
walk-valid n c (x ∷ xs) v h = walk-valid n (step c x) xs (step-valid n c v x (omega arith)) (omega arith)

length_part : (s : List ℕ) (a e : ℕ) → a ≤ e → e ≤ length s → length (part a e s) ≡ e - a
length_part s a e h k = simp (length-take, length-drop) (omega arith)

part_split : (s : List ℕ) (a b e : ℕ) → a ≤ b → b ≤ e → part a e s ≡ part a b s ++ part b e s
part_split s a b e h k =
    let m : (b - a) + (e - b) ≡ e - a = omega arith in
    let n : a + (b - a) ≡ b = omega arith in
    sym (rw (← m, take-add, drop-drop, n))

module _ (s : List ℕ) (c : Cursor) where
  -- no way at all
  pub move_here : move_to s c c.offset ≡ c
  unfolding move_to walk
  move_here = rw (part_none s c.offset)

  module _ (e : ℕ) where
    pub move_step : c.offset < e → e ≤ length s → move_to s c e ≡ move_to s (step c (get_or s c.offset 0)) e
    unfolding move_to walk
    move_step h k = rw (part_at s c.offset e h k)

    module _ (h : c.offset ≤ e) (k : e ≤ length s) where
      pub move_offset : (move_to s c e).offset ≡ e
      unfolding move_to
      move_offset = let o = walk_offset c (part c.offset e s) in omega (arith, length_part s c.offset e h k)

      pub move_valid : Valid (length s) c → Valid (length s) (move_to s c e)
      unfolding move_to
      move_valid v = walk-valid (length s) c (part c.offset e s) v (omega (arith, length_part s c.offset e h k))

      -- by way of b
      pub move_by : (b : ℕ) → c.offset ≤ b → b ≤ e → move_to s c e ≡ move_to s (move_to s c b) e
      unfolding move_to
      move_by b i j =
          let o : (walk c (part c.offset b s)).offset ≡ b = (let w = walk_offset c (part c.offset b s) in omega (arith, length_part s c.offset b i (omega arith))) in
          rw (part_split s c.offset b e i j) (walk_append c (part c.offset b s) (part b e s) ∙ ap (λ (n : ℕ). walk (walk c (part c.offset b s)) (part n e s)) (sym o))

  -- a cursor that was moved walked over the bytes up to where it stands
  pub over-bytes : (d : Cursor) (e : ℕ) → move_to s c e ≡ d → e ≡ d.offset → d ≡ walk c (part c.offset d.offset s)
  unfolding move_to
  over-bytes d e m o = sym m ∙ ap (λ (n : ℕ). walk c (part c.offset n s)) o

-- ---- moving along: no newline on the way
abbrev pub NoNewline : List ℕ → ℕ → ℕ → Type 0
NoNewline s a e = (i : ℕ) → a ≤ i → i < e → get_or s i 0 ≡ newline → ⊥

module _ (s : List ℕ) (a : ℕ) where
  pub plain_one : (get_or s a 0 ≡ newline → ⊥) → NoNewline s a (a + 1)
  plain_one n i h k e = let m : i ≡ a = omega arith in n (rw m at e)

  pub plain_both : (b e : ℕ) → NoNewline s a b → NoNewline s b e → NoNewline s a e
  plain_both b e p q i h k = go (dec_le b i)
    where
      go : Dec (b ≤ i) → get_or s i 0 ≡ newline → ⊥
      go (yes l) = q i l k
      go (no l) = p i h (omega arith)

-- past a character that is no newline
abbrev next : Cursor → Cursor
next c = record { offset = c.offset + 1; line = c.line; column = c.column + 1 }

-- k characters from the cursor on
along_by : (s : List ℕ) (k : ℕ) (c : Cursor) → c.offset + k ≤ length s → NoNewline s c.offset (c.offset + k) → move_to s c (c.offset + k) ≡ along c k
along_by s zero c h p =
    let a : c.offset + 0 ≡ c.offset = omega arith in
    let b : c.column + 0 ≡ c.column = omega arith in
    rw (a, b) (move_here s c)
along_by s (suc k) c h p =
    let a : c.offset + 1 + k ≡ c.offset + suc k = omega arith in
    let b : c.column + 1 + k ≡ c.column + suc k = omega arith in
    let f = ne_eqb (get_or s c.offset 0) newline (p c.offset (omega arith) (omega arith)) in
    let m : step c (get_or s c.offset 0) ≡ next c = cc in
    let r = along_by s k (next c) (omega arith) (λ i j l. p i (omega arith) (omega arith)) in
    move_step s c (c.offset + suc k) (omega arith) h ∙ ap (λ (d : Cursor). move_to s d (c.offset + suc k)) m ∙ rw (a, b) at r

pub move_along : (s : List ℕ) (c : Cursor) (e : ℕ) → c.offset ≤ e → e ≤ length s → NoNewline s c.offset e → along c (e - c.offset) ≡ move_to s c e
move_along s c e h k p =
    let m : c.offset + (e - c.offset) ≡ e = omega arith in
    sym (along_by s (e - c.offset) c (omega arith) (λ i j l. p i j (omega arith))) ∙ ap (move_to s c) m
