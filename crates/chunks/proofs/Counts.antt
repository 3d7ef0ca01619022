-- What is given of the bytes at hand leaves the others at hand, and a cursor that can move over them. Assumes nothing.
use mathlib.Core.Path.{◌≡◌, refl, sym}
use mathlib.Core.Bool.{Bool, true, false, cond}
use mathlib.Core.List.{List, [], append-nil}
use Prim.Native.Nat.{ℕ, ◌+◌, ◌<◌, ◌≤◌}
use native.Mathlib.Omega.{arith}
use lib.Dec.{ltb}
use lib.ListN.{length, take, drop, length-drop}
use lib.Seq.{length-take-le}
use Rattle.lexer.specs.Cursor.{longest, walk, Valid}
use Rattle.lexer.specs.Token.{lexeme, refused}
use Rattle.lexer.specs.declared.refusal.Fault.{Fault}
use Rattle.lexer.specs.declared.cursor.Cursor.{Cursor}
use Rattle.lexer.proofs.Cursors.{walk_offset, walk-valid}
use Rattle.chunks.specs.Reader.{Passed, stopped, pass, Gives, handed, more, never, judged, given, reading, Passable}
use Rattle.chunks.specs.Verdict.{Verdict, settled, too_long, waiting, verdict}
use Rattle.chunks.specs.declared.layout.Mode.{Mode}
use Rattle.chunks.specs.declared.layout.Why.TheVariants.{Starts, Waits, Stops}
use Rattle.chunks.proofs.Hands.{hand_right}
use Rattle.chunks.proofs.Passing.{OnwardTo, pass-onward}
use Rattle.chunks.proofs.Verdicts.{Right}

-- of the bytes between two offsets u is left, from the cursor d on
pub record Rest (from sum : ℕ) (d : Cursor) (u : List ℕ) : Type 0 where
  pub ahead : from ≤ d.offset
  pub count : d.offset + length u ≡ sum
  pub able : Passable (length u) d

abbrev pub Counts : ℕ → ℕ → Gives → Type 0
Counts from sum (handed t d u) = Rest (from + 1) sum d u × (from ≤ t.start)
Counts from sum (more m d l u) = Rest from sum d u
Counts from sum (never w) = Unit {0}

module _ (from sum : ℕ) (m : Mode) (d : Cursor) (l : ℕ) (u : List ℕ) (r : Rest from sum d u) where
  -- past the first e of them
  further : (e : ℕ) → 0 < e → e ≤ length u → Rest (from + 1) sum (walk d (take e u)) (drop e u)
  further e i h =
      let o = walk_offset d (take e u) in
      let n = length-take-le e u h in
      let k = length-drop e u in
      let a = r.ahead in
      let c = r.count in
      let s = r.able.short in
      let v : Valid longest (walk d (take e u)) = walk-valid longest d (take e u) (record { short = omega arith; offset = omega arith; line = r.able.line; column = r.able.column }) (omega arith) in
      record { ahead = omega arith; count = omega arith; able = record { short = omega arith; line = v.line; column = v.column } }

  judged_counts : (layout : Bool) (some : 0 < length u) (ended : Bool) (k : Verdict) → Right layout u 0 u [] (sym (append-nil u)) (omega arith) some ended (λ _. refl) k → Counts from sum (judged m d l u k)
  unfolding judged
  judged_counts layout some ended (settled (lexeme t e x)) q = (further e q.1.0 q.1.1, (let a = r.ahead in omega arith))
  judged_counts layout some ended (settled (refused w)) q = tt
  judged_counts layout some ended too_long q = tt
  judged_counts layout some ended waiting q = r

  waits_counts : (w : Fault) (ended : Bool) → Counts from sum (cond ended (never w) (more m d l u))
  waits_counts w true = tt
  waits_counts w false = r

given_counts : (ended : Bool) (l : ℕ) (c : Cursor) (n : ℕ) (p : Passed) → OnwardTo c n p → Counts c.offset (c.offset + n) (given ended l p)
unfolding given
given_counts ended l c n (stopped m d u Starts) o =
    let layout = ltb l d.offset in
    judged_counts c.offset (c.offset + n) m d l u (record { ahead = o.ahead; count = o.left; able = o.able }) layout (o.some refl) ended (verdict ended layout u) (hand_right layout ended u (o.some refl))
given_counts ended l c n (stopped m d u (Waits w)) o = waits_counts c.offset (c.offset + n) m d l u (record { ahead = o.ahead; count = o.left; able = o.able }) w ended
given_counts ended l c n (stopped m d u (Stops w)) o = tt

pub reading_counts : (ended : Bool) (m : Mode) (c : Cursor) (l : ℕ) (u : List ℕ) → Passable (length u) c → Counts c.offset (c.offset + length u) (reading ended m c l u)
reading_counts ended m c l u a = given_counts ended l c (length u) (pass m 0 c u) (pass-onward m c u a (pass m 0 c u) refl)
