-- The same bytes, read from a cursor that is further on, give the same, further on. Assumes nothing.
use mathlib.Core.Path.{◌≡◌, refl, ◌∙◌, ap}
use mathlib.Core.Bool.{Bool, true, false, cond}
use mathlib.Core.List.{List, [], ◌∷◌}
use Prim.Native.Nat.{ℕ, zero, suc, ◌+◌}
use native.Mathlib.Omega.{arith}
use borrow.Author.Tests.{lt-ltb, le-ltb, ltb-true, ltb-false}
use lib.Dec.{eqb, ltb}
use lib.ListN.{take}
use Rattle.lexer.specs.Chars.{is, layout_char, foreign_byte, newline, percent, star, slash}
use Rattle.lexer.specs.Cursor.{start_cursor, step, walk}
use Rattle.lexer.specs.Refusal.{fault}
use Rattle.lexer.specs.Token.{lexeme, refused, token_since}
use Rattle.lexer.specs.declared.refusal.Fault.{Fault}
use Rattle.lexer.specs.declared.refusal.Refusal.TheVariants.{EndOfText, ForeignByte}
use Rattle.lexer.specs.declared.cursor.Cursor.{Cursor}
use Rattle.chunks.specs.Hand.{to_next}
use Rattle.chunks.specs.Layouts.{Turned, on, wait, refused as stop, opened, slashed, starred, wait_of, turn, ahead}
use Rattle.chunks.specs.Reader.{Passed, stopped, carried, pass, moved_by, judged, given, reading}
use Rattle.chunks.specs.Shift.{shift_fault, shift_token}
use Rattle.chunks.specs.Verdict.{Verdict, settled, too_long, waiting, verdict}
use Rattle.chunks.specs.declared.hand.Next.{Next}
use Rattle.chunks.specs.Given.{read_to}
use Rattle.std.specs.declared.result.Result.{Result}
use Rattle.chunks.specs.declared.layout.Mode.{Mode}
use Rattle.chunks.specs.declared.layout.Mode.TheVariants.{Blank as blank, Line as line, Inside as inside}
use Rattle.chunks.specs.declared.layout.Why.{Why}
use Rattle.chunks.specs.declared.layout.Why.TheVariants.{Starts as starts, Waits as waits, Stops as stops}
use Rattle.chunks.proofs.Moves.{step-moved, moved_walk, moved-start}
use Rattle.std.specs.declared.result.Result.TheVariants.{Ok, Err}

-- ---- the same, further on by d, or by the cursor c
abbrev pub shift_mode : ℕ → Mode → Mode
shift_mode d blank = blank
shift_mode d line = line
shift_mode d (inside o) = inside (d + o)

abbrev shift_why : ℕ → Why → Why
shift_why d starts = starts
shift_why d (waits w) = waits (shift_fault d w)
shift_why d (stops w) = stops (shift_fault d w)

abbrev shift_turn : ℕ → Turned → Turned
shift_turn d (Ok n) = on (shift_mode d n.mode) n.more
shift_turn d (Err y) = Err (shift_why d y)

abbrev shift_passed : Cursor → Passed → Passed
shift_passed c (stopped m e u y) = stopped (shift_mode c.offset m) (moved_by c e) u (shift_why c.offset y)

abbrev pub shift_next : Cursor → Result Next Fault → Result Next Fault
shift_next c (Ok (Next.Token t)) = Ok (Next.Token (read_to (shift_token c.offset t.token) (moved_by c t.next)))
shift_next c (Ok (Next.More m d l)) = Ok (Next.More (shift_mode c.offset m) (moved_by c d) (c.offset + l))
shift_next c (Err w) = Err (shift_fault c.offset w)

-- ---- one turn
cond_of : {A B : Type 0} (f : A → B) (t : Bool) (a b : A) (a' b' : B) → a' ≡ f a → b' ≡ f b → cond t a' b' ≡ f (cond t a b)
cond_of f true a b a' b' p q = p
cond_of f false a b a' b' p q = q

wait_shifted : (d : ℕ) (m : Mode) (at : ℕ) → wait_of (shift_mode d m) (d + at) ≡ shift_fault d (wait_of m at)
wait_shifted d blank at = refl
wait_shifted d line at = refl
wait_shifted d (inside o) at = refl

module _ (d at : ℕ) where
  two_on : d + at + 2 ≡ d + (at + 2)
  two_on = omega arith

  one_on : d + at + 1 ≡ d + (at + 1)
  one_on = omega arith

  opened_shifted : (u : List ℕ) → opened (d + at) u ≡ shift_turn d (opened at u)
  unfolding opened
  opened_shifted [] = ap (λ (i : ℕ). wait (fault EndOfText i)) two_on
  opened_shifted (z ∷ zs) = cond_of (shift_turn d) (is foreign_byte z) _ _ _ _ (ap (λ (i : ℕ). stop (fault ForeignByte i)) two_on) refl

  slashed_shifted : (u : List ℕ) → slashed (d + at) u ≡ shift_turn d (slashed at u)
  unfolding slashed
  slashed_shifted [] = ap (λ (i : ℕ). wait (fault EndOfText i)) one_on
  slashed_shifted (y ∷ ys) =
      cond_of (shift_turn d) (is foreign_byte y) _ _ _ _ (ap (λ (i : ℕ). stop (fault ForeignByte i)) one_on)
      (cond_of (shift_turn d) (eqb y star) _ _ _ _ (opened_shifted ys) refl)

  starred_shifted : (u : List ℕ) → starred (d + at) u ≡ shift_turn d (starred at u)
  unfolding starred
  starred_shifted [] = refl
  starred_shifted (y ∷ ys) = cond_of (shift_turn d) (eqb y slash) _ _ _ _ refl refl

turn_shifted : (d : ℕ) (m : Mode) (at : ℕ) (u : List ℕ) → turn (shift_mode d m) (d + at) u ≡ shift_turn d (turn m at u)
unfolding turn
turn_shifted d blank at [] = refl
turn_shifted d line at [] = refl
turn_shifted d (inside o) at [] = refl
turn_shifted d blank at (x ∷ xs) =
    cond_of (shift_turn d) (is foreign_byte x) _ _ _ _ refl
    (cond_of (shift_turn d) (is layout_char x) _ _ _ _ refl
    (cond_of (shift_turn d) (eqb x percent) _ _ _ _ refl
    (cond_of (shift_turn d) (eqb x slash) _ _ _ _ (slashed_shifted d at xs)
    refl)))
turn_shifted d line at (x ∷ xs) = cond_of (shift_turn d) (is foreign_byte x) _ _ _ _ refl (cond_of (shift_turn d) (eqb x newline) _ _ _ _ refl refl)
turn_shifted d (inside o) at (x ∷ xs) =
    cond_of (shift_turn d) (is foreign_byte x) _ _ _ _ refl
    (cond_of (shift_turn d) (eqb x star) _ _ _ _ (starred_shifted d o xs) refl)

ahead_shifted : (d k : ℕ) (m : Mode) (at : ℕ) (u : List ℕ) → ahead k (shift_mode d m) (d + at) u ≡ shift_turn d (ahead k m at u)
unfolding ahead
ahead_shifted d zero m at u = turn_shifted d m at u
ahead_shifted d (suc k) m at u = refl

-- ---- passing
pass_shifted : (c : Cursor) (u : List ℕ) (m : Mode) (k : ℕ) (e : Cursor) → pass (shift_mode c.offset m) k (moved_by c e) u ≡ shift_passed c (pass m k e u)
unfolding pass carried
pass_shifted c [] m k e = ap (λ (w : Fault). stopped (shift_mode c.offset m) (moved_by c e) [] (waits w)) (wait_shifted c.offset m e.offset)
pass_shifted c (x ∷ xs) m k e =
    ap by (ahead_shifted c.offset k m e.offset (x ∷ xs)) ∙ go (λ m' j. pass_shifted c xs m' j (step e x)) (ahead k m e.offset (x ∷ xs))
  where
    by : Turned → Passed
    by t = carried t (λ m' j. pass m' j (step (moved_by c e) x) xs) (stopped (shift_mode c.offset m) (moved_by c e) (x ∷ xs))

    go : ((m' : Mode) (j : ℕ) → pass (shift_mode c.offset m') j (moved_by c (step e x)) xs ≡ shift_passed c (pass m' j (step e x) xs)) → (t : Turned)
        → by (shift_turn c.offset t) ≡ shift_passed c (carried t (λ m' j. pass m' j (step e x) xs) (stopped m e (x ∷ xs)))
    go f (Ok n) = ap (λ (i : Cursor). pass (shift_mode c.offset n.mode) n.more i xs) (step-moved c e x) ∙ f n.mode n.more
    go f (Err y) = refl

-- ---- the next token
judged_shifted : (c : Cursor) (m : Mode) (e : Cursor) (l : ℕ) (u : List ℕ) (v : Verdict) → to_next (judged (shift_mode c.offset m) (moved_by c e) (c.offset + l) u v) ≡ shift_next c (to_next (judged m e l u v))
unfolding to_next judged
judged_shifted c m e l u (settled (lexeme t n x)) =
    let o : c.offset + e.offset + t.start ≡ c.offset + (e.offset + t.start) = omega arith in
    ap (λ (i : ℕ). Ok (Next.Token (read_to (record { kind = t.kind; value = t.value; start = i; layout = c.offset + l }) (walk (moved_by c e) (take n u))))) o
    ∙ ap (λ (d : Cursor). Ok (Next.Token (read_to (shift_token c.offset (token_since l (shift_token e.offset t))) d))) (moved_walk c e (take n u))
judged_shifted c m e l u (settled (refused w)) =
    let o : c.offset + e.offset + w.offset ≡ c.offset + (e.offset + w.offset) = omega arith in
    ap (λ (i : ℕ). Err (fault w.refusal i)) o
judged_shifted c m e l u too_long = refl
judged_shifted c m e l u waiting = refl

-- whether layout stands before the token
before_shifted : (d a b : ℕ) → ltb (d + a) (d + b) ≡ ltb a b
before_shifted d a b = go (ltb a b) refl
  where
    go : (t : Bool) → ltb a b ≡ t → ltb (d + a) (d + b) ≡ t
    go true e = let k = ltb-true a b e in lt-ltb (d + a) (d + b) (omega arith)
    go false e = let k = ltb-false a b e in le-ltb (d + a) (d + b) (omega arith)

given_shifted : (ended : Bool) (c : Cursor) (l : ℕ) (p : Passed) → to_next (given ended (c.offset + l) (shift_passed c p)) ≡ shift_next c (to_next (given ended l p))
unfolding to_next given
given_shifted ended c l (stopped m e u starts) =
    ap (λ (b : Bool). to_next (judged (shift_mode c.offset m) (moved_by c e) (c.offset + l) u (verdict ended b u))) (before_shifted c.offset l e.offset)
    ∙ judged_shifted c m e l u (verdict ended (ltb l e.offset) u)
given_shifted true c l (stopped m e u (waits w)) = refl
given_shifted false c l (stopped m e u (waits w)) = refl
given_shifted ended c l (stopped m e u (stops w)) = refl

-- from a cursor that is further on by c, and with layout that began so much further on
pub reading_shifted : (ended : Bool) (m : Mode) (c e : Cursor) (l : ℕ) (u : List ℕ) → to_next (reading ended (shift_mode c.offset m) (moved_by c e) (c.offset + l) u) ≡ shift_next c (to_next (reading ended m e l u))
reading_shifted ended m c e l u = ap (λ (p : Passed). to_next (given ended (c.offset + l) p)) (pass_shifted c u m zero e) ∙ given_shifted ended c l (pass m zero e u)

-- from the cursor c, where layout begins, or from the start and then further on
pub reading-from_start : (ended : Bool) (c : Cursor) (u : List ℕ) → to_next (reading ended blank c c.offset u) ≡ shift_next c (to_next (reading ended blank start_cursor 0 u))
reading-from_start ended c u = ap (λ (e : Cursor). to_next (reading ended blank e e.offset u)) (moved-start c) ∙ reading_shifted ended blank c start_cursor 0 u
