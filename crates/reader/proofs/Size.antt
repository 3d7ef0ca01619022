-- What the machine holds, frames, place numbers and nodes together, never exceeds the tokens that it has read and one for the bottom.
-- So arrays of 1,024 serve for a clause of 1,024 tokens, and its tree has at most 1,023 nodes. Assumes nothing.
use Prim.Native.Nat.{ℕ, ◌+◌, ◌≤◌, ◌<◌}
use mathlib.Core.Path.{◌≡◌, refl, ap}
use mathlib.Core.Bool.{Bool, true, false, cond}
use mathlib.Core.Option.{Option, none, some}
use mathlib.Core.List.{List, [], ◌∷◌}
use native.Mathlib.Omega.{arith}
use lib.ListN.{length}
use Rattle.reader.specs.Token.{Stop, close, close_list, close_curly, bar, double_bar, comma, end_mark, Tok, tok}
use Rattle.reader.specs.Ops.{Pre, Inf, pre_prio, pre_bound, prio, left_bound, right_bound, Table, roled}
use Rattle.reader.specs.Tree.{NodeKind, plain}
use Rattle.reader.specs.Machine.{nd, Out, op, Bracket, top, in_round, in_curly, in_seq, in_tail, Frame, waiting, opened, Frames, Shape, squares, braces, State, want, pend, begun, have, dead, done, bound, Act, end_round, end_call, end_list, end_tail, end_curly, next_place, to_tail, end_clause, act_of, separates, inside, shuts, above_all, Sight, seen_name, seen_number, seen_var_or_string, seen_round, seen_square, seen_brace, seen_stop, see, stop_of, glues, lt?, Red, red, push_as, emit, reduce, act, act_if, closing, comma_step, stop_step, infix_step, glued_step, want_step, have_step, prefix_as, prefix_step, op_step, pend_step, begun_on, begun_step, step, run, start, size, Numbered, none_left, one_more}
use Rattle.reader.specs.Weight.{sizes, weight}

red_size : Red → ℕ
red_size (red fs out) = sizes fs + length out

cond_le : (v : Bool) (s t : State) (b : ℕ) → weight s ≤ b → weight t ≤ b → weight (cond v s t) ≤ b
cond_le true s t b h k = h
cond_le false s t b h k = k

dead_le : (b : ℕ) → weight dead ≤ b
unfolding weight
dead_le b = omega arith

push_size : (i p b : ℕ) (x : Red) → weight (push_as i p b x) ≤ red_size x + 1
unfolding push_as red_size weight sizes size
push_size i p b (red fs out) = cond_le (lt? p (bound fs)) _ _ _ (omega arith) (dead_le _)

inside-size : (h : Shape) (i : ℕ) → size (opened (inside h i)) ≡ 1
unfolding inside size
inside-size squares i = refl
inside-size braces i = refl

module _ (word : NodeKind → ℕ → ℕ) where
  reduce-size : (b : ℕ) (fs : Frames) (out : Out) → red_size (reduce word b fs out) ≡ sizes fs + length out
  unfolding reduce red_size sizes size
  reduce-size b [] out = refl
  reduce-size b (opened br ∷ fs) out = refl
  reduce-size b (waiting (op i k p c) ∷ fs) out = go (lt? p b) (reduce-size b fs (emit word (op i k p c) ∷ out))
    where
      go : (v : Bool) → red_size (reduce word b fs (emit word (op i k p c) ∷ out)) ≡ sizes fs + length (emit word (op i k p c) ∷ out) →
          red_size (cond v (reduce word b fs (emit word (op i k p c) ∷ out)) (red (waiting (op i k p c) ∷ fs) out)) ≡ 1 + sizes fs + length out
      go true h = omega arith
      go false h = refl

  act-size : {x : Stop} {br : Bracket} (a : Act x br) (fs : Frames) (out : Out) → weight (act word a fs out) ≤ size (opened br) + sizes fs + length out + 1
  unfolding weight act sizes size
  act-size end_round fs out = omega arith
  act-size end_call fs out = omega arith
  act-size end_list fs out = omega arith
  act-size end_tail fs out = omega arith
  act-size end_curly fs out = omega arith
  act-size next_place fs out = omega arith
  act-size to_tail fs out = omega arith
  act-size end_clause fs out = omega arith

  act_if-size : {x : Stop} {br : Bracket} (a : Option (Act x br)) (fs : Frames) (out : Out) → weight (act_if word a fs out) ≤ size (opened br) + sizes fs + length out + 1
  unfolding act_if
  act_if-size none fs out = dead_le _
  act_if-size (some a) fs out = act-size a fs out

  closing-size : (x : Stop) (r : Red) → weight (closing word x r) ≤ red_size r + 1
  unfolding closing red_size sizes
  closing-size x (red [] out) = dead_le _
  closing-size x (red (waiting o ∷ fs) out) = dead_le _
  closing-size x (red (opened br ∷ fs) out) = act_if-size (act_of x br) fs out

  comma-size : (i : ℕ) (r : Red) → weight (comma_step word i r) ≤ red_size r + 1
  unfolding comma_step
  comma-size i (red fs out) = cond_le (separates fs) _ _ _ (closing-size comma (red fs out)) (push_size i 1000 1001 (red fs out))

  closed-size : (x : Stop) (fs : Frames) (out : Out) → weight (closing word x (reduce word above_all fs out)) ≤ sizes fs + length out + 1
  closed-size x fs out = omega (arith, closing-size x (reduce word above_all fs out), reduce-size above_all fs out)

  stop_size : (x : Stop) (i : ℕ) (fs : Frames) (out : Out) → weight (stop_step word x i fs out) ≤ sizes fs + length out + 1
  unfolding stop_step
  stop_size close i fs out = closed-size close fs out
  stop_size close_list i fs out = closed-size close_list fs out
  stop_size close_curly i fs out = closed-size close_curly fs out
  stop_size bar i fs out = closed-size bar fs out
  stop_size double_bar i fs out = closed-size double_bar fs out
  stop_size comma i fs out = omega (arith, comma-size i (reduce word 1000 fs out), reduce-size 1000 fs out)
  stop_size end_mark i fs out = closed-size end_mark fs out

  infix_size : (i : ℕ) (r : Option Inf) (fs : Frames) (out : Out) → weight (infix_step word i r fs out) ≤ sizes fs + length out + 1
  unfolding infix_step
  infix_size i none fs out = dead_le _
  infix_size i (some r) fs out =
      omega (arith, push_size i (prio r) (right_bound r) (reduce word (left_bound r) fs out), reduce-size (left_bound r) fs out)

  glued_size : (i : ℕ) (fs : Frames) (out : Out) (k : Sight) → weight (glued_step word i fs out k) ≤ sizes fs + length out + 1
  unfolding glued_step weight sizes size
  glued_size i fs out (seen_name e m r s) = omega arith
  glued_size i fs out (seen_number s low) = omega arith
  glued_size i fs out seen_var_or_string = omega arith
  glued_size i fs out (seen_round ct) = omega arith
  glued_size i fs out seen_square = omega arith
  glued_size i fs out seen_brace = omega arith
  glued_size i fs out (seen_stop x) = omega arith

  want_size : (fs : Frames) (out : Out) (i : ℕ) (k : Sight) → weight (want_step word fs out i k) ≤ sizes fs + length out + 1
  unfolding want_step weight sizes size
  want_size fs out i (seen_name e m r s) = omega arith
  want_size fs out i (seen_number s true) = omega arith
  want_size fs out i (seen_number s false) = omega arith
  want_size fs out i seen_var_or_string = omega arith
  want_size fs out i (seen_round ct) = omega arith
  want_size fs out i seen_square = omega arith
  want_size fs out i seen_brace = omega arith
  want_size fs out i (seen_stop x) = omega arith

  have_size : (fs : Frames) (out : Out) (i : ℕ) (k : Sight) → weight (have_step word fs out i k) ≤ sizes fs + length out + 1
  unfolding have_step
  have_size fs out i (seen_name e m r s) = infix_size i s fs out
  have_size fs out i (seen_number s low) = dead_le _
  have_size fs out i seen_var_or_string = dead_le _
  have_size fs out i (seen_round ct) = dead_le _
  have_size fs out i seen_square = dead_le _
  have_size fs out i seen_brace = dead_le _
  have_size fs out i (seen_stop x) = stop_size x i fs out

  prefix_size : (i : ℕ) (r : Option Pre) (fs : Frames) (out : Out) (j : ℕ) (k : Sight) → weight (prefix_step word i r fs out j k) ≤ sizes fs + length out + 2
  unfolding prefix_step prefix_as sizes size
  prefix_size i none fs out j k = dead_le _
  prefix_size i (some r) fs out j k =
      cond_le (lt? (pre_prio r) (bound fs)) _ _ _ (omega (arith, want_size (waiting (op i false (pre_prio r) (pre_bound r)) ∷ fs) out j k)) (dead_le _)

  op_size : (z : Option Stop) (i : ℕ) (r : Option Pre) (fs : Frames) (out : Out) (j : ℕ) (k : Sight) → weight (op_step word z i r fs out j k) ≤ sizes fs + length out + 2
  unfolding op_step red_size
  op_size none i r fs out j k = prefix_size i r fs out j k
  op_size (some x) i r fs out j k = omega (arith, closing-size x (red fs (nd i (word plain 0) ∷ out)))

  pend_size : (i e : ℕ) (m : Bool) (r : Option Pre) (s : Option Inf) (fs : Frames) (out : Out) (j : ℕ) (k : Sight) →
      weight (pend_step word i e m r s fs out j k) ≤ sizes fs + length out + 2
  unfolding pend_step
  pend_size i e m r s fs out j k =
      cond_le (glues m e k) _ _ _ (omega (arith, glued_size i fs out k))
      (cond_le (roled r s) _ _ _ (op_size (stop_of k) i r fs out j k) (omega (arith, have_size fs (nd i (word plain 0) ∷ out) j k)))

  begun_on-size : (z : Option Stop) (h : Shape) (i : ℕ) (fs : Frames) (out : Out) (j : ℕ) (k : Sight) → weight (begun_on word z h i fs out j k) ≤ sizes fs + length out + 2
  unfolding begun_on weight sizes
  begun_on-size none h i fs out j k = omega (arith, want_size (opened (inside h i) ∷ fs) out j k, inside-size h i)
  begun_on-size (some x) h i fs out j k = cond_le (shuts h x) _ _ _ (omega arith) (dead_le _)

  pub step-size : (s : State) (j : ℕ) (k : Sight) → weight (step word s j k) ≤ weight s + 1
  unfolding step weight begun_step
  step-size (want fs out) j k = want_size fs out j k
  step-size (pend i e m r s fs out) j k = omega (arith, pend_size i e m r s fs out j k)
  step-size (begun h i fs out) j k = omega (arith, begun_on-size (stop_of k) h i fs out j k)
  step-size (have fs out) j k = have_size fs out j k
  step-size dead j k = omega arith
  step-size (done out) j k = omega arith

  module _ (T : Table) where
    run-size : (s : State) (ts : List Tok) → weight (run word T s ts) ≤ weight s + length ts
    unfolding run
    run-size s [] = omega arith
    run-size s (tok i k ∷ ts) = omega (arith, run-size (step word s i (see T k)) ts, step-size s i (see T k))

    -- what is held after the tokens ts
    pub run-weight : (ts : List Tok) → weight (run word T start ts) ≤ length ts + 1
    unfolding weight sizes size
    run-weight ts = omega (arith, run-size start ts)

    -- a clause has more tokens than its tree has nodes
    pub nodes_fit : (ts : List Tok) (out : Out) → run word T start ts ≡ done out → length out < length ts
    unfolding weight
    nodes_fit ts out e = omega (arith, run-weight ts, ap weight e)

-- What the arrays hold in a state

unfoldable pub frames_in : State → Frames
frames_in (want fs out) = fs
frames_in (pend i e m r s fs out) = fs
frames_in (begun h i fs out) = fs
frames_in (have fs out) = fs
frames_in dead = []
frames_in (done out) = []

unfoldable pub nodes_in : State → Out
nodes_in (want fs out) = out
nodes_in (pend i e m r s fs out) = out
nodes_in (begun h i fs out) = out
nodes_in (have fs out) = out
nodes_in dead = []
nodes_in (done out) = out

size_low : (f : Frame) → 1 ≤ size f
unfolding size
size_low (waiting o) = omega arith
size_low (opened top) = omega arith
size_low (opened in_round) = omega arith
size_low (opened (in_curly i)) = omega arith
size_low (opened (in_seq k i c)) = omega arith
size_low (opened (in_tail i c)) = omega arith

pub count_low : (fs : Frames) → length fs ≤ sizes fs
unfolding sizes
count_low [] = omega arith
count_low (f ∷ fs) = omega (arith, size_low f, count_low fs)

pub numbered : (n : ℕ) (fs : Frames) → sizes fs ≤ n → Numbered n fs
unfolding sizes
numbered n [] h = none_left
numbered n (f ∷ fs) h = one_more {f = f} (omega arith) (numbered n fs (omega arith))

sizes_in : (s : State) → sizes (frames_in s) + length (nodes_in s) ≤ weight s
unfolding frames_in nodes_in weight sizes
sizes_in (want fs out) = omega arith
sizes_in (pend i e m r s fs out) = omega arith
sizes_in (begun h i fs out) = omega arith
sizes_in (have fs out) = omega arith
sizes_in dead = omega arith
sizes_in (done out) = omega arith

module _ (word : NodeKind → ℕ → ℕ) (T : Table) (ts : List Tok) where
  pub words_fit : length (frames_in (run word T start ts)) + length (nodes_in (run word T start ts)) ≤ length ts + 1
  words_fit =
      let s = run word T start ts in
      omega (arith, run-weight word T ts, sizes_in s, count_low (frames_in s))

  pub places_fit : Numbered (length ts + 1) (frames_in (run word T start ts))
  places_fit =
      let s = run word T start ts in
      numbered (length ts + 1) (frames_in s) (omega (arith, run-weight word T ts, sizes_in s))
