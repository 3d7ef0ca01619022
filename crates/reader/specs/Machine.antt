-- The machine that reads a clause: one stack of frames, one token at a time, dead at the first token that cannot stand.
-- The contracts of the code cite it; what it is worth is in proofs/Theorems. It works in the code's order: a stop first completes operators, then
-- looks at the bracket. `word` packs a node's kind and arity. Assumes nothing.
use Rattle.std.specs.Prelude.{ℕ, ◌+◌, ◌≤◌, Bool, true, false, ◌&&◌, cond, List, [], ◌∷◌, ◌++◌, eqb, ltb}
use Rattle.std.proofs.Math.Option.{Option, none, some}
use Rattle.reader.specs.Token.{Stop, close, close_list, close_curly, bar, double_bar, comma, end_mark, Terminal, name, number, var_or_string, round, square, brace, stop, Tok, tok}
use Rattle.reader.specs.Ops.{Pre, Inf, pre_prio, pre_bound, prio, left_bound, right_bound, Table, prefix_of, infix_of, is_minus, roled}
use Rattle.reader.specs.Tree.{NodeKind, plain, negative, call, prefix, infx, list, list_tail, curly, empty_list, empty_curly}

-- A node: token index, packed kind and arity. The last written comes first.
pub data Node : Type 0 where
  nd : ℕ → ℕ → Node

abbrev pub Out : Type 0
Out = List Node

-- Which sequence of places: a call's or a list's.
pub data Seq : Type 0 where
  in_call in_list : Seq

-- What encloses the place that is being read: in a sequence, the name's or bracket's index and how many places stand before this one.
pub data Bracket : Type 0 where
  top in_round : Bracket
  in_curly : ℕ → Bracket
  in_seq : Seq → ℕ → ℕ → Bracket
  in_tail : ℕ → ℕ → Bracket

-- An operator that waits for its right operand: its token's index, is it infix, its priority, the bound of that operand.
pub data Op : Type 0 where
  op : ℕ → Bool → ℕ → ℕ → Op

pub data Frame : Type 0 where
  waiting : Op → Frame
  opened : Bracket → Frame

abbrev pub Frames : Type 0
Frames = List Frame

-- `[` or `{`
pub data Shape : Type 0 where
  squares braces : Shape

pub data State : Type 0 where
  want : Frames → Out → State  -- an operand is expected
  pend : ℕ → ℕ → Bool → Option Pre → Option Inf → Frames → Out → State  -- after a name there: index, end, minus?, its roles
  begun : Shape → ℕ → Frames → Out → State  -- after `[` or `{`
  have : Frames → Out → State  -- a term of priority 0 has ended
  dead : State
  done : Out → State

-- the priority of the place inside a bracket
unfoldable pub place_of : Bracket → ℕ
place_of top = 1200
place_of in_round = 1200
place_of (in_curly i) = 1200
place_of (in_seq k i c) = 999
place_of (in_tail i c) = 999

-- the bound of an operand that comes next
unfoldable pub bound : Frames → ℕ
bound [] = 0
bound (waiting (op i k p b) ∷ fs) = b
bound (opened br ∷ fs) = place_of br + 1

-- What a stop does where a place may end.
pub data Act : Stop → Bracket → Type 0 where
  end_round : Act close in_round
  end_call : {i c : ℕ} → Act close (in_seq in_call i c)
  end_list : {i c : ℕ} → Act close_list (in_seq in_list i c)
  end_tail : {i c : ℕ} → Act close_list (in_tail i c)
  end_curly : {i : ℕ} → Act close_curly (in_curly i)
  next_place : {k : Seq} {i c : ℕ} → Act comma (in_seq k i c)
  to_tail : {i c : ℕ} → Act bar (in_seq in_list i c)
  end_clause : Act end_mark top

unfoldable pub act_of : (x : Stop) (br : Bracket) → Option (Act x br)
act_of close top = none
act_of close in_round = some end_round
act_of close (in_curly i) = none
act_of close (in_seq in_call i c) = some end_call
act_of close (in_seq in_list i c) = none
act_of close (in_tail i c) = none
act_of close_list top = none
act_of close_list in_round = none
act_of close_list (in_curly i) = none
act_of close_list (in_seq in_call i c) = none
act_of close_list (in_seq in_list i c) = some end_list
act_of close_list (in_tail i c) = some end_tail
act_of close_curly top = none
act_of close_curly in_round = none
act_of close_curly (in_curly i) = some end_curly
act_of close_curly (in_seq k i c) = none
act_of close_curly (in_tail i c) = none
act_of bar top = none
act_of bar in_round = none
act_of bar (in_curly i) = none
act_of bar (in_seq in_call i c) = none
act_of bar (in_seq in_list i c) = some to_tail
act_of bar (in_tail i c) = none
act_of double_bar br = none
act_of comma top = none
act_of comma in_round = none
act_of comma (in_curly i) = none
act_of comma (in_seq k i c) = some next_place
act_of comma (in_tail i c) = none
act_of end_mark top = some end_clause
act_of end_mark in_round = none
act_of end_mark (in_curly i) = none
act_of end_mark (in_seq k i c) = none
act_of end_mark (in_tail i c) = none

-- a bracket whose commas separate stands on top
unfoldable pub separates : Frames → Bool
separates [] = false
separates (waiting o ∷ fs) = false
separates (opened top ∷ fs) = false
separates (opened in_round ∷ fs) = false
separates (opened (in_curly i) ∷ fs) = false
separates (opened (in_seq k i c) ∷ fs) = true
separates (opened (in_tail i c) ∷ fs) = true

-- which bracket a shape opens, what closes it at once, and the node then
unfoldable pub inside : Shape → ℕ → Bracket
inside squares i = in_seq in_list i 0
inside braces i = in_curly i

unfoldable pub shuts : Shape → Stop → Bool
shuts squares close = false
shuts squares close_list = true
shuts squares close_curly = false
shuts squares bar = false
shuts squares double_bar = false
shuts squares comma = false
shuts squares end_mark = false
shuts braces close = false
shuts braces close_list = false
shuts braces close_curly = true
shuts braces bar = false
shuts braces double_bar = false
shuts braces comma = false
shuts braces end_mark = false

unfoldable pub empty_kind : Shape → NodeKind
empty_kind squares = empty_list
empty_kind braces = empty_curly

-- above every priority
abbrev pub above_all : ℕ
above_all = 1201

-- What the machine sees of a token. A name: where it ends, is it the minus, its roles. A number: where it begins, and has it the lowest integer's magnitude. A round
-- bracket: is it OpenCT.
pub data Sight : Type 0 where
  seen_name : ℕ → Bool → Option Pre → Option Inf → Sight
  seen_number : ℕ → Bool → Sight
  seen_var_or_string : Sight
  seen_round : Bool → Sight
  seen_square seen_brace : Sight
  seen_stop : Stop → Sight

unfoldable pub see : Table → Terminal → Sight
see T (name x e) = seen_name e (is_minus x) (prefix_of T x) (infix_of T x)
see T (number s low) = seen_number s low
see T var_or_string = seen_var_or_string
see T (round ct) = seen_round ct
see T square = seen_square
see T brace = seen_brace
see T (stop x) = seen_stop x

unfoldable pub stop_of : Sight → Option Stop
stop_of (seen_name e m r s) = none
stop_of (seen_number s low) = none
stop_of seen_var_or_string = none
stop_of (seen_round ct) = none
stop_of seen_square = none
stop_of seen_brace = none
stop_of (seen_stop x) = some x

-- the grammar's `blocks`, of what is seen: is it the minus, where it ends, the next token
unfoldable pub glues : Bool → ℕ → Sight → Bool
glues minus e (seen_name f m r s) = false
glues minus e (seen_number s low) = minus && eqb e s
glues minus e seen_var_or_string = false
glues minus e (seen_round ct) = ct
glues minus e seen_square = false
glues minus e seen_brace = false
glues minus e (seen_stop x) = false

-- kept shut, so that a test can be rewritten
unfoldable pub lt? : ℕ → ℕ → Bool
lt? a b = ltb a b

-- what is left where operators have been completed
pub data Red : Type 0 where
  red : Frames → Out → Red

-- an infix operator of priority p, whose right operand has the bound b
unfoldable pub push_as : ℕ → ℕ → ℕ → Red → State
push_as i p b (red fs out) = cond (lt? p (bound fs)) (want (waiting (op i true p b) ∷ fs) out) dead

module _ (word : NodeKind → ℕ → ℕ) where
  -- the node of an operator that is complete
  unfoldable pub emit : Op → Node
  emit (op i true p b) = nd i (word infx 2)
  emit (op i false p b) = nd i (word prefix 1)

  -- complete the operators on top whose priority is below b
  unfoldable pub reduce : ℕ → Frames → Out → Red
  reduce b [] out = red [] out
  reduce b (waiting (op i k p c) ∷ fs) out =
      cond (lt? p b) (reduce b fs (emit (op i k p c) ∷ out)) (red (waiting (op i k p c) ∷ fs) out)
  reduce b (opened br ∷ fs) out = red (opened br ∷ fs) out

  -- the nodes of the place are out, and fs lies under its bracket
  unfoldable pub act : {x : Stop} {br : Bracket} → Act x br → Frames → Out → State
  act end_round fs out = have fs out
  act (end_call {i} {c}) fs out = have fs (nd i (word call (c + 1)) ∷ out)
  act (end_list {i} {c}) fs out = have fs (nd i (word list (c + 1)) ∷ out)
  act (end_tail {i} {c}) fs out = have fs (nd i (word list_tail (c + 1)) ∷ out)
  act (end_curly {i}) fs out = have fs (nd i (word curly 1) ∷ out)
  act (next_place {k} {i} {c}) fs out = want (opened (in_seq k i (c + 1)) ∷ fs) out
  act (to_tail {i} {c}) fs out = want (opened (in_tail i (c + 1)) ∷ fs) out
  act end_clause fs out = done out

  unfoldable pub act_if : {x : Stop} {br : Bracket} → Option (Act x br) → Frames → Out → State
  act_if none fs out = dead
  act_if (some a) fs out = act a fs out

  -- a stop where nothing of the place waits
  unfoldable pub closing : Stop → Red → State
  closing x (red [] out) = dead
  closing x (red (waiting o ∷ fs) out) = dead
  closing x (red (opened br ∷ fs) out) = act_if (act_of x br) fs out

  -- The comma completes what is below 1000. Where it separates, that is all of the place.
  unfoldable pub comma_step : ℕ → Red → State
  comma_step i (red fs out) = cond (separates fs) (closing comma (red fs out)) (push_as i 1000 1001 (red fs out))

  unfoldable pub stop_step : Stop → ℕ → Frames → Out → State
  stop_step close i fs out = closing close (reduce above_all fs out)
  stop_step close_list i fs out = closing close_list (reduce above_all fs out)
  stop_step close_curly i fs out = closing close_curly (reduce above_all fs out)
  stop_step bar i fs out = closing bar (reduce above_all fs out)
  stop_step double_bar i fs out = closing double_bar (reduce above_all fs out)
  stop_step comma i fs out = comma_step i (reduce 1000 fs out)
  stop_step end_mark i fs out = closing end_mark (reduce above_all fs out)

  unfoldable pub infix_step : ℕ → Option Inf → Frames → Out → State
  infix_step i none fs out = dead
  infix_step i (some r) fs out = push_as i (prio r) (right_bound r) (reduce (left_bound r) fs out)

  -- after a name that an OpenCT or a glued number follows: a call, or a negative number
  unfoldable pub glued_step : ℕ → Frames → Out → Sight → State
  glued_step i fs out (seen_name e m r s) = dead
  glued_step i fs out (seen_number s low) = have fs (nd i (word negative 0) ∷ out)
  glued_step i fs out seen_var_or_string = dead
  glued_step i fs out (seen_round ct) = want (opened (in_seq in_call i 0) ∷ fs) out
  glued_step i fs out seen_square = dead
  glued_step i fs out seen_brace = dead
  glued_step i fs out (seen_stop x) = dead

  unfoldable pub want_step : Frames → Out → ℕ → Sight → State
  want_step fs out i (seen_name e m r s) = pend i e m r s fs out
  want_step fs out i (seen_number s low) = cond low dead (have fs (nd i (word plain 0) ∷ out))
  want_step fs out i seen_var_or_string = have fs (nd i (word plain 0) ∷ out)
  want_step fs out i (seen_round ct) = want (opened in_round ∷ fs) out
  want_step fs out i seen_square = begun squares i fs out
  want_step fs out i seen_brace = begun braces i fs out
  want_step fs out i (seen_stop x) = dead

  unfoldable pub have_step : Frames → Out → ℕ → Sight → State
  have_step fs out i (seen_name e m r s) = infix_step i s fs out
  have_step fs out i (seen_number s low) = dead
  have_step fs out i seen_var_or_string = dead
  have_step fs out i (seen_round ct) = dead
  have_step fs out i seen_square = dead
  have_step fs out i seen_brace = dead
  have_step fs out i (seen_stop x) = stop_step x i fs out

  -- the name i becomes a prefix operator of priority p, and the token j is the first of its operand
  unfoldable pub prefix_as : ℕ → ℕ → ℕ → Frames → Out → ℕ → Sight → State
  prefix_as i p b fs out j k = cond (lt? p (bound fs)) (want_step (waiting (op i false p b) ∷ fs) out j k) dead

  unfoldable pub prefix_step : ℕ → Option Pre → Frames → Out → ℕ → Sight → State
  prefix_step i none fs out j k = dead
  prefix_step i (some r) fs out j k = prefix_as i (pre_prio r) (pre_bound r) fs out j k

  -- after an operator name that nothing glued follows: alone in its place where a stop follows, else a prefix operator
  unfoldable pub op_step : Option Stop → ℕ → Option Pre → Frames → Out → ℕ → Sight → State
  op_step none i r fs out j k = prefix_step i r fs out j k
  op_step (some x) i r fs out j k = closing x (red fs (nd i (word plain 0) ∷ out))

  unfoldable pub pend_step : ℕ → ℕ → Bool → Option Pre → Option Inf → Frames → Out → ℕ → Sight → State
  pend_step i e m r s fs out j k =
      cond (glues m e k) (glued_step i fs out k)
      (cond (roled r s) (op_step (stop_of k) i r fs out j k) (have_step fs (nd i (word plain 0) ∷ out) j k))

  -- after `[` or `{`: the closing bracket at once, or the first token of a place
  unfoldable pub begun_on : Option Stop → Shape → ℕ → Frames → Out → ℕ → Sight → State
  begun_on none h i fs out j k = want_step (opened (inside h i) ∷ fs) out j k
  begun_on (some x) h i fs out j k = cond (shuts h x) (have fs (nd i (word (empty_kind h) 0) ∷ out)) dead

  unfoldable pub begun_step : Shape → ℕ → Frames → Out → ℕ → Sight → State
  begun_step h i fs out j k = begun_on (stop_of k) h i fs out j k

  -- one token: its index, and what is seen of it
  unfoldable pub step : State → ℕ → Sight → State
  step (want fs out) j k = want_step fs out j k
  step (pend i e m r s fs out) j k = pend_step i e m r s fs out j k
  step (begun h i fs out) j k = begun_step h i fs out j k
  step (have fs out) j k = have_step fs out j k
  step dead j k = dead
  step (done out) j k = dead

  unfoldable pub run : Table → State → List Tok → State
  run T s [] = s
  run T s (tok i k ∷ ts) = run T (step s i (see T k)) ts

abbrev pub start : State
start = want (opened top ∷ []) []

-- no token can follow
unfoldable pub is_dead : State → Bool
is_dead (want fs out) = false
is_dead (pend i e m r s fs out) = false
is_dead (begun h i fs out) = false
is_dead (have fs out) = false
is_dead dead = true
is_dead (done out) = false

-- the numbers of what is written, first to last
unfoldable pub laid : Out → List ℕ
laid [] = []
laid (nd i w ∷ out) = laid out ++ (i ∷ w ∷ [])

-- What the machine answers: the tree's numbers, or no reading.
unfoldable pub answer : State → Option (List ℕ)
answer (want fs out) = none
answer (pend i e m r s fs out) = none
answer (begun h i fs out) = none
answer (have fs out) = none
answer dead = none
answer (done out) = some (laid out)

-- How much a frame counts for: one, and the places before the one that is being read.
unfoldable pub size : Frame → ℕ
size (waiting o) = 1
size (opened top) = 1
size (opened in_round) = 1
size (opened (in_curly i)) = 1
size (opened (in_seq k i c)) = c + 1
size (opened (in_tail i c)) = c + 1

-- every frame counts for n at most
pub data Numbered (n : ℕ) : Frames → Type 0 where
  none_left : Numbered n []
  one_more : {f : Frame} {fs : Frames} → size f ≤ n → Numbered n fs → Numbered n (f ∷ fs)
