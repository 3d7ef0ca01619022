-- Where a scan can stop, and scans from a cursor. Assumes nothing.
use mathlib.Core.Path.{◌≡◌, refl, sym, ◌∙◌, ap}
use mathlib.Core.Bool.{Bool, true, false, cond}
use mathlib.Core.List.{List, [], ◌∷◌}
use Prim.Native.Nat.{ℕ, ◌+◌, ◌-◌, ◌<◌, ◌≤◌}
use native.Mathlib.Omega.{arith}
use lib.Dec.{eqb}
use lib.ListN.{length, drop, get_or, length-drop}
use Rattle.lexer.specs.Chars.{is, foreign_byte, space}
use Rattle.lexer.specs.Cursor.{step, move_to}
use Rattle.lexer.specs.Layout.{begins_with, past, moved}
use Rattle.lexer.specs.Stretch.{in_stretch, stretch_end}
use Rattle.lexer.specs.declared.cursor.Cursor.{Cursor}
use Rattle.std.specs.declared.result.Result.TheVariants.{Ok, Err}
use Rattle.lexer.specs.Cursor.{Scan}
use Rattle.lexer.proofs.Cursors.{both, move_step, move_by}
use Rattle.lexer.proofs.Steps.{drop_at}
use Rattle.lexer.proofs.Stretches.{InStretch, Passed, along_stretch, in-stretch, stretch_known}

-- a scan stops from lo to hi, both included, if it stops
abbrev pub Between : ℕ → ℕ → Scan → Type 0
Between lo hi (Ok e) = (lo ≤ e) × (e ≤ hi)
Between lo hi (Err w) = Unit {0}

pub choice : (lo hi : ℕ) (t : Bool) (a b : Scan) → (t ≡ true → Between lo hi a) → (t ≡ false → Between lo hi b) → Between lo hi (cond t a b)
choice lo hi true a b p q = p refl
choice lo hi false a b p q = q refl

pub wider : (lo hi lo' hi' : ℕ) (r : Scan) → lo' ≤ lo → hi ≤ hi' → Between lo hi r → Between lo' hi' r
wider lo hi lo' hi' (Ok e) p q h = omega arith
wider lo hi lo' hi' (Err w) p q h = tt

-- what stands at the front is no longer than the whole
fits : (xs ys : List ℕ) → begins_with xs ys ≡ true → length xs ≤ length ys
fits [] ys e = omega arith
fits (x ∷ xs) [] e = let z : ◌≡◌ {A = ℕ} 0 1 = cc in absurd (omega arith)
fits (x ∷ xs) (y ∷ ys) e = let h = fits xs ys (both (eqb y x) (begins_with xs ys) e).1 in omega arith

-- behind a mark, or where `none` stops, k further on at least
module _ (mark : List ℕ) (none : ℕ → Scan) (k : ℕ) (long : k ≤ length mark) (last : (at : ℕ) → Between (at + k) at (none at)) where
  pub past_bounds : (at : ℕ) (xs : List ℕ) → Between (at + k) (at + length xs) (past mark none at xs)
  unfolding past
  past_bounds at [] = wider (at + k) at _ _ (none at) (omega arith) (omega arith) (last at)
  past_bounds at (x ∷ xs) =
      choice _ _ (is foreign_byte x) _ _ (λ _. tt)
      (λ _. choice _ _ (begins_with mark (x ∷ xs)) _ _ (λ e. let h = fits mark (x ∷ xs) e in omega arith)
      (λ _. wider (at + 1 + k) (at + 1 + length xs) _ _ (past mark none (at + 1) xs) (omega arith) (omega arith) (past_bounds (at + 1) xs)))

  pub past_ends : (s : List ℕ) (at : ℕ) → at ≤ length s → Between (at + k) (length s) (past mark none at (drop at s))
  past_ends s at h =
      let m : at + (length s - at) ≡ length s = omega arith in
      rw m at (rw length-drop at (past_bounds at (drop at s)))

-- a scan that stops further on, from the cursor or from the next one
module _ (s : List ℕ) (c : Cursor) (h : c.offset < length s) where
  pub moved-step : (r : Scan) → Between (c.offset + 1) (length s) r → moved s c r ≡ moved s (step c (get_or s c.offset 0)) r
  unfolding moved
  moved-step (Ok e) b = rw (move_step s c e (omega arith) b.1)
  moved-step (Err w) b = refl

-- a scan that stops behind b, from the cursor or from the one at b
pub moved-by : (s : List ℕ) (c : Cursor) (b : ℕ) (r : Scan) → c.offset ≤ b → Between b (length s) r → moved s c r ≡ moved s (move_to s c b) r
unfolding moved
moved-by s c b (Ok e) h k = ap Ok (move_by s c e (omega (arith, k.0)) k.1 b h k.0)
moved-by s c b (Err w) h k = refl

-- along a stretch of plain bytes, of which none begins the mark
module _ (mark : List ℕ) (none : ℕ → Scan) (s : List ℕ) where
  abbrev scan : ℕ → Scan
  scan n = past mark none n (drop n s)

  module _ (p q : ℕ) (apart : (x : ℕ) (ys : List ℕ) → InStretch space 126 p q x → begins_with mark (x ∷ ys) ≡ false) where
    plain_byte : (i : ℕ) → i < length s → in_stretch space 126 p q (get_or s i 0) ≡ true → scan i ≡ scan (i + 1)
    unfolding past
    plain_byte i h t =
        let w = in-stretch space 126 p q (get_or s i 0) t in
        let k = (stretch_known (get_or s i 0) w.from w.to).0 in
        cc (drop_at s i h, apart (get_or s i 0) (drop (i + 1) s) w)

    module _ (c : Cursor) (e : ℕ) (f : e ≡ stretch_end space 126 p q s c.offset) (d : Cursor) (w : Passed s c e d) where
      pub past-along : Between e (length s) (scan e) → moved s c (scan c.offset) ≡ moved s d (scan d.offset)
      past-along h =
          let k = along_stretch scan space 126 p q s plain_byte c.offset ∙ ap scan (sym f) in
          ap (moved s c) k ∙ moved-by s c e (scan e) w.ahead h ∙ ap (λ (x : Cursor). moved s x (scan e)) (sym w.there)
          ∙ ap (λ (n : ℕ). moved s d (scan n)) (sym w.offset)
