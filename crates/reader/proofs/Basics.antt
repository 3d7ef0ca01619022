-- Facts that both directions use: tests, roles and bounds, lists of waiting operators, nodes. Assumes nothing.
use Prim.Native.Nat.{ℕ, ◌+◌, ◌≤◌, ◌<◌}
use mathlib.Core.Path.{◌≡◌, refl, ap, subst}
use mathlib.Core.Bool.{Bool, true, false}
use mathlib.Core.Option.{some}
use mathlib.Core.List.{List, [], ◌∷◌, ◌++◌}
use native.Mathlib.Omega.{arith}
use native.Mathlib.Decide.{dec_lt}
use borrow.Author.Tests.{lt-ltb, le-ltb, ltb-true}
use Rattle.reader.specs.Token.{Stop, Terminal, name, number, var_or_string, round, square, brace, stop}
use Rattle.reader.specs.Ops.{Pre, fx, fy, Inf, xfx, xfy, yfx, pre_prio, pre_bound, prio, left_bound, right_bound, Table, prefix_of, infix_of, IsInfix}
use Rattle.reader.specs.Tree.{NodeKind, Tree, node, Forest, nil, ◌◂◌, arity, snoc}
use Rattle.reader.specs.Grammar.{blocks}
use Rattle.reader.specs.Machine.{see, glues, nd, Out, Op, op, waiting, opened, Frames, Bracket, bound, lt?, red, emit, reduce, Act, end_round, end_call, end_list, end_tail, end_curly, next_place, to_tail, end_clause, act_of}

-- Tests

pub lt?_yes : {a b : ℕ} → a < b → lt? a b ≡ true
unfolding lt?
lt?_yes {a} {b} h = lt-ltb a b h

pub lt?_no : {a b : ℕ} → b ≤ a → lt? a b ≡ false
unfolding lt?
lt?_no {a} {b} h = le-ltb a b h

pub lt?-true : (a b : ℕ) → lt? a b ≡ true → a < b
unfolding lt?
lt?-true a b e = ltb-true a b e

-- What the machine sees of a token blocks as the grammar says.
pub glues-blocks : (T : Table) (m : Bool) (e : ℕ) (k : Terminal) → glues m e (see T k) ≡ blocks m e k
unfolding glues see blocks
glues-blocks T m e (name x f) = refl
glues-blocks T m e (number s low) = refl
glues-blocks T m e var_or_string = refl
glues-blocks T m e (round ct) = refl
glues-blocks T m e square = refl
glues-blocks T m e brace = refl
glues-blocks T m e (stop x) = refl

-- Roles

pub pre_bound-≤ : (r : Pre) → pre_bound r ≤ pre_prio r + 1
unfolding pre_bound pre_prio
pre_bound-≤ (fx p) = omega arith
pre_bound-≤ (fy p) = omega arith

pub left_bound-≤ : (r : Inf) → left_bound r ≤ prio r + 1
unfolding left_bound prio
left_bound-≤ (xfx p) = omega arith
left_bound-≤ (xfy p) = omega arith
left_bound-≤ (yfx p) = omega arith

pub right_bound-≤ : (r : Inf) → right_bound r ≤ prio r + 1
unfolding right_bound prio
right_bound-≤ (xfx p) = omega arith
right_bound-≤ (xfy p) = omega arith
right_bound-≤ (yfx p) = omega arith

-- What the theory asks of a table. An admitted one has it (Table).
pub record Fair (T : Table) : Type 0 where
  pub prefix_low : (x : List ℕ) (r : Pre) → prefix_of T x ≡ some r → 1 ≤ pre_prio r
  pub infix_low : (x : List ℕ) (r : Inf) → infix_of T x ≡ some r → 1 ≤ prio r
  pub no_yfx_xfy : {k l : Terminal} (p : ℕ) → IsInfix T k (yfx p) → IsInfix T l (xfy p) → ⊥
  pub no_yfx_fy : {k : Terminal} (p : ℕ) (x : List ℕ) → IsInfix T k (yfx p) → prefix_of T x ≡ some (fy p) → ⊥

module _ (T : Table) where
  -- No infix operator completes an operator of priority p whose operand has the bound b, if it may stand in that operand.
  pub data Guard : Frames → Type 0 where
    guard_bracket : {br : Bracket} {fs : Frames} → Guard (opened br ∷ fs)
    guard_op : {i p b : ℕ} {k : Bool} {fs : Frames} →
        ((l : Terminal) (r : Inf) → IsInfix T l r → prio r < b → left_bound r ≤ p) → Guard (waiting (op i k p b) ∷ fs)

  module _ (fair : Fair T) where
    -- the one use of the last rule for tables
    guard_y : (p : ℕ) → ((k : Terminal) → IsInfix T k (yfx p) → ⊥) → (l : Terminal) (r : Inf) → IsInfix T l r → prio r < p + 1 → left_bound r ≤ p
    unfolding prio left_bound
    guard_y p free l (xfx q) x h = omega arith
    guard_y p free l (xfy q) x h = omega arith
    guard_y p free l (yfx q) x h = elim (dec_lt q p) [
      | yes less ↦ omega arith
      | no less ↦
          let same : q ≡ p = omega arith in
          absurd (free l (subst (λ (z : ℕ). IsInfix T l (yfx z)) same x))
    ]

    guard_x : (p : ℕ) (l : Terminal) (r : Inf) → IsInfix T l r → prio r < p → left_bound r ≤ p
    guard_x p l r x h = omega (arith, left_bound-≤ r)

    pub guard_pre : {i : ℕ} {fs : Frames} (x : List ℕ) (r : Pre) → prefix_of T x ≡ some r → Guard (waiting (op i false (pre_prio r) (pre_bound r)) ∷ fs)
    unfolding pre_prio pre_bound
    guard_pre x (fx p) e = guard_op (guard_x p)
    guard_pre x (fy p) e = guard_op (guard_y p (λ k y. fair.no_yfx_fy p x y e))

    pub guard_inf : {i : ℕ} {fs : Frames} (l : Terminal) (r : Inf) → IsInfix T l r → Guard (waiting (op i true (prio r) (right_bound r)) ∷ fs)
    unfolding prio right_bound
    guard_inf l (xfx p) x = guard_op (guard_x p)
    guard_inf l (xfy p) x = guard_op (guard_y p (λ k y. fair.no_yfx_xfy p y x))
    guard_inf l (yfx p) x = guard_op (guard_x p)

-- Lists of waiting operators

unfoldable pub over : List Op → Frames → Frames
over [] fs = fs
over (o ∷ ops) fs = waiting o ∷ over ops fs

-- each priority is below b
pub data Below (b : ℕ) : List Op → Type 0 where
  below_nil : Below b []
  below_cons : {i p c : ℕ} {k : Bool} {ops : List Op} → p < b → Below b ops → Below b (op i k p c ∷ ops)

pub below_mono : {b c : ℕ} {ops : List Op} → b ≤ c → Below b ops → Below c ops
below_mono h below_nil = below_nil
below_mono h (below_cons {p} l r) = below_cons {p = p} (omega arith) (below_mono h r)

pub below_last : {b p : ℕ} {ops : List Op} (i : ℕ) (k : Bool) (c : ℕ) → Below b ops → p < b → Below b (ops ++ (op i k p c ∷ []))
below_last i k c below_nil h = below_cons h below_nil
below_last i k c (below_cons l r) h = below_cons l (below_last i k c r h)

pub over_last : (ops : List Op) (o : Op) (fs : Frames) → over (ops ++ (o ∷ [])) fs ≡ over ops (waiting o ∷ fs)
unfolding over
over_last [] o fs = refl
over_last (x ∷ ops) o fs = ap (λ (z : Frames). waiting x ∷ z) (over_last ops o fs)

module _ (word : NodeKind → ℕ → ℕ) where
  -- all of them are completed
  unfoldable pub flush : List Op → Out → Out
  flush [] out = out
  flush (o ∷ ops) out = flush ops (emit word o ∷ out)

  pub flush_last : (ops : List Op) (o : Op) (out : Out) → flush (ops ++ (o ∷ [])) out ≡ emit word o ∷ flush ops out
  unfolding flush
  flush_last [] o out = refl
  flush_last (p ∷ ops) o out = flush_last ops o (emit word p ∷ out)

  -- The operators over fs are completed, and fs stays.
  reduce-over : (b : ℕ) (fs : Frames) (out : Out) {ops : List Op} → Below b ops → ((o : Out) → reduce word b fs o ≡ red fs o) →
      reduce word b (over ops fs) out ≡ red fs (flush ops out)
  unfolding reduce flush over
  reduce-over b fs out below_nil stuck = stuck out
  reduce-over b fs out (below_cons {i} {p} {c} {k} l r) stuck = rw (lt?_yes l) (reduce-over b fs (emit word (op i k p c) ∷ out) r stuck)

  pub reduce_bracket : (b : ℕ) (br : Bracket) (fs : Frames) (out : Out) {ops : List Op} → Below b ops →
      reduce word b (over ops (opened br ∷ fs)) out ≡ red (opened br ∷ fs) (flush ops out)
  unfolding reduce
  reduce_bracket b br fs out l = reduce-over b (opened br ∷ fs) out l (λ o. refl)

  module _ (T : Table) where
    stuck : (l : Terminal) (r : Inf) → IsInfix T l r → (fs : Frames) (out : Out) → Guard T fs → prio r < bound fs → reduce word (left_bound r) fs out ≡ red fs out
    unfolding reduce bound
    stuck l r x [] out g h = elim g [ ]
    stuck l r x (opened br ∷ fs) out guard_bracket h = refl
    stuck l r x (waiting (op i k p b) ∷ fs) out (guard_op f) h = rw (lt?_no (f l r x h))

    pub reduce_infix : (l : Terminal) (r : Inf) → IsInfix T l r → (fs : Frames) (out : Out) {ops : List Op} → Below (left_bound r) ops → Guard T fs → prio r < bound fs →
        reduce word (left_bound r) (over ops fs) out ≡ red fs (flush ops out)
    reduce_infix l r x fs out b g h = reduce-over (left_bound r) fs out b (λ o. stuck l r x fs o g h)

-- Nodes: the encoding of a tree from its last node to its first, in front of what came before.
module _ (word : NodeKind → ℕ → ℕ) where
  unfoldable mutual
    pub push : Tree → Out → Out
    push (node i k f) out = nd i (word k (arity f)) ∷ pushes f out

    pub pushes : Forest → Out → Out
    pushes nil out = out
    pushes (t ◂ f) out = pushes f (push t out)

  pub pushes_snoc : (f : Forest) (t : Tree) (out : Out) → pushes (snoc f t) out ≡ push t (pushes f out)
  unfolding pushes snoc
  pushes_snoc nil t out = refl
  pushes_snoc (u ◂ f) t out = pushes_snoc f t (push u out)

pub arity-snoc : (f : Forest) (t : Tree) → arity (snoc f t) ≡ arity f + 1
unfolding arity snoc
arity-snoc nil t = refl
arity-snoc (u ◂ f) t = ap (λ (z : ℕ). z + 1) (arity-snoc f t)

-- Stops

pub act-of : {x : Stop} {br : Bracket} (a : Act x br) → act_of x br ≡ some a
unfolding act_of
act-of end_round = refl
act-of end_call = refl
act-of end_list = refl
act-of end_tail = refl
act-of end_curly = refl
act-of next_place = refl
act-of to_tail = refl
act-of end_clause = refl
