-- Completeness: on the tokens of a reading the machine ends with the reading's nodes. By induction on the reading. Assumes nothing.
use Prim.Native.Nat.{ℕ, ◌+◌, ◌≤◌, ◌<◌}
use mathlib.Core.Path.{◌≡◌, refl, ap, ◌∙◌}
use mathlib.Core.Bool.{Bool, true, false}
use mathlib.Core.Option.{none, some}
use mathlib.Core.List.{List, [], ◌∷◌, ◌++◌}
use native.Mathlib.Omega.{arith}
use borrow.Author.Tests.{eq-eqb}
use Rattle.reader.specs.Token.{Stop, close_list, close_curly, comma, Terminal, name, number, var_or_string, round, square, brace, stop, Tok, tok}
use Rattle.reader.specs.Ops.{Pre, Inf, xfy, pre_prio, pre_bound, prio, left_bound, right_bound, Table, prefix_of, infix_of, is_minus, roled, is_op, IsInfix, named, the_comma}
use Rattle.reader.specs.Tree.{NodeKind, plain, negative, call, prefix, infx, list, list_tail, curly, empty_list, empty_curly, Tree, node, leaf, Forest, nil, ◌◂◌, arity, snoc}
use Rattle.reader.specs.Grammar.{blocks, Term, a_number, a_var_or_string, a_name, a_negative, a_call, a_round, a_list, a_list_tail, a_curly, an_empty_list, an_empty_curly, a_prefix, an_infix, Args, one, more, Place, alone, whole, Clause, clause}
use Rattle.reader.specs.Machine.{nd, Out, Op, op, Seq, in_call, in_list, Bracket, top, in_round, in_curly, in_seq, in_tail, waiting, opened, Frames, Shape, squares, braces, State, want, pend, begun, have, done, place_of, bound, Act, end_round, end_call, end_list, end_tail, end_curly, next_place, to_tail, end_clause, separates, inside, shuts, empty_kind, above_all, see, stop_of, glues, red, push_as, emit, act, act_if, closing, comma_step, stop_step, infix_step, glued_step, want_step, have_step, prefix_as, prefix_step, op_step, pend_step, begun_on, begun_step, step, run, start}
use Rattle.reader.proofs.Basics.{lt?_yes, glues-blocks, pre_bound-≤, left_bound-≤, right_bound-≤, Fair, Guard, guard_bracket, guard_pre, guard_inf, over, Below, below_nil, below_mono, below_last, over_last, flush, flush_last, reduce_bracket, reduce_infix, push, pushes, pushes_snoc, arity-snoc, act-of}

-- What follows a term: neither a bracket nor a number.
pub data Follow : List Tok → Type 0 where
  by_name : {i e : ℕ} {x : List ℕ} {r : List Tok} → Follow (tok i (name x e) ∷ r)
  by_stop : {i : ℕ} {x : Stop} {r : List Tok} → Follow (tok i (stop x) ∷ r)

-- What starts a term: no stop.
pub data Starts (T : Table) : List Tok → Type 0 where
  starts : {i : ℕ} {k : Terminal} {r : List Tok} → stop_of (see T k) ≡ none → Starts T (tok i k ∷ r)

-- What ends a place inside br.
pub data Ends (br : Bracket) : List Tok → Type 0 where
  ends : {i : ℕ} {x : Stop} {r : List Tok} → Act x br → Ends br (tok i (stop x) ∷ r)

module _ (word : NodeKind → ℕ → ℕ) (T : Table) where
  abbrev Run : State → List Tok → State
  Run s ts = run word T s ts

  -- where the machine stands after the stop that ends a place whose nodes are out
  after : {br : Bracket} {rest : List Tok} → Ends br rest → Frames → Out → State
  after (ends {r} a) fs out = Run (act word a fs out) r

  -- where the machine stands after a term of priority p: further operators wait, which are the term's own
  record Reach (p : ℕ) (ts rest : List Tok) (t : Tree) (fs : Frames) (out : Out) : Type 0 where
    above : List Op
    output : Out
    runs : Run (want fs out) ts ≡ Run (have (over above fs) output) rest
    owed : flush word above output ≡ push word t out
    below : Below (p + 1) above

  follow_infix : {i : ℕ} {k : Terminal} {r : Inf} {us : List Tok} → IsInfix T k r → Follow (tok i k ∷ us)
  follow_infix (named e) = by_name
  follow_infix the_comma = by_stop

  follow_ends : {br : Bracket} {rest : List Tok} → Ends br rest → Follow rest
  follow_ends (ends a) = by_stop

  term_starts : {p : ℕ} {ts rest : List Tok} {t : Tree} → Term T p ts rest t → Starts T ts
  unfolding stop_of see
  term_starts a_number = starts refl
  term_starts a_var_or_string = starts refl
  term_starts (a_name f) = starts refl
  term_starts (a_call d) = starts refl
  term_starts (a_round d) = starts refl
  term_starts (a_list d) = starts refl
  term_starts (a_list_tail d e g) = starts refl
  term_starts (a_curly d) = starts refl
  term_starts an_empty_list = starts refl
  term_starts an_empty_curly = starts refl
  term_starts (a_negative m) = starts refl
  term_starts (a_prefix e p b d l) = starts refl
  term_starts (an_infix d l x p e q) = term_starts d

  place_starts : {b : ℕ} {ts rest : List Tok} {t : Tree} → Place T b ts rest t → Starts T ts
  unfolding stop_of see
  place_starts (alone o) = starts refl
  place_starts (whole d l) = term_starts d

  args_start : {ts rest : List Tok} {f : Forest} → Args T ts rest f → Starts T ts
  args_start (one d) = place_starts d
  args_start (more d e) = place_starts d

  -- The end of a place

  closing-act : {x : Stop} {br : Bracket} (a : Act x br) (fs : Frames) (out : Out) → closing word x (red (opened br ∷ fs) out) ≡ act word a fs out
  unfolding closing act_if
  closing-act a fs out = rw (act-of a)

  -- every operator of the place is completed
  stop_act : {x : Stop} {br : Bracket} (a : Act x br) (i : ℕ) (fs : Frames) (out : Out) {ops : List Op} → Below (place_of br + 1) ops →
      stop_step word x i (over ops (opened br ∷ fs)) out ≡ act word a fs (flush word ops out)
  unfolding stop_step comma_step separates place_of
  stop_act end_round i fs out l = rw (reduce_bracket word above_all in_round fs out l) (closing-act end_round fs _)
  stop_act (end_call {i = j} {c}) i fs out l = rw (reduce_bracket word above_all (in_seq in_call j c) fs out (below_mono (omega arith) l)) (closing-act end_call fs _)
  stop_act (end_list {i = j} {c}) i fs out l = rw (reduce_bracket word above_all (in_seq in_list j c) fs out (below_mono (omega arith) l)) (closing-act end_list fs _)
  stop_act (end_tail {i = j} {c}) i fs out l = rw (reduce_bracket word above_all (in_tail j c) fs out (below_mono (omega arith) l)) (closing-act end_tail fs _)
  stop_act (end_curly {i = j}) i fs out l = rw (reduce_bracket word above_all (in_curly j) fs out l) (closing-act end_curly fs _)
  stop_act (next_place {k} {i = j} {c}) i fs out l = rw (reduce_bracket word 1000 (in_seq k j c) fs out l) (closing-act next_place fs _)
  stop_act (to_tail {i = j} {c}) i fs out l = rw (reduce_bracket word above_all (in_seq in_list j c) fs out (below_mono (omega arith) l)) (closing-act to_tail fs _)
  stop_act end_clause i fs out l = rw (reduce_bracket word above_all top fs out l) (closing-act end_clause fs _)

  have_ends : {br : Bracket} {rest : List Tok} (fs : Frames) (out : Out) {ops : List Op} → Below (place_of br + 1) ops → (E : Ends br rest) →
      Run (have (over ops (opened br ∷ fs)) out) rest ≡ after E fs (flush word ops out)
  unfolding run step have_step see after
  have_ends fs out l (ends {i} {r} a) = ap (λ (z : State). Run z r) (stop_act a i fs out l)

  -- After a name

  alone_ends : {br : Bracket} {rest : List Tok} (i e : ℕ) (x : List ℕ) (fs : Frames) (out : Out) → is_op T x ≡ true → (E : Ends br rest) →
      Run (pend i e (is_minus x) (prefix_of T x) (infix_of T x) (opened br ∷ fs) out) rest ≡ after E fs (nd i (word plain 0) ∷ out)
  unfolding run step pend_step glues see op_step stop_of after
  alone_ends i e x fs out o (ends {r} a) = rw o (ap (λ (z : State). Run z r) (closing-act a fs (nd i (word plain 0) ∷ out)))

  name_follow : {rest : List Tok} (i e : ℕ) (x : List ℕ) (fs : Frames) (out : Out) → is_op T x ≡ false → Follow rest →
      Run (pend i e (is_minus x) (prefix_of T x) (infix_of T x) fs out) rest ≡ Run (have fs (nd i (word plain 0) ∷ out)) rest
  unfolding run step pend_step glues see
  name_follow i e x fs out o by_name = rw o
  name_follow i e x fs out o by_stop = rw o

  roled_pre : {r : Pre} (x : List ℕ) → prefix_of T x ≡ some r → is_op T x ≡ true
  unfolding roled
  roled_pre x e = rw e

  name_prefix : {j : ℕ} {k : Terminal} (i e : ℕ) (x : List ℕ) (r : Pre) (fs : Frames) (out : Out) (us : List Tok) →
      prefix_of T x ≡ some r → blocks (is_minus x) e k ≡ false → Starts T (tok j k ∷ us) → pre_prio r < bound fs →
      Run (pend i e (is_minus x) (prefix_of T x) (infix_of T x) fs out) (tok j k ∷ us)
      ≡ Run (want (waiting (op i false (pre_prio r) (pre_bound r)) ∷ fs) out) (tok j k ∷ us)
  unfolding run step pend_step op_step prefix_step prefix_as
  name_prefix {k} i e x r fs out us p b (starts n) h = rw (glues-blocks T (is_minus x) e k, b, roled_pre x p, n, p, lt?_yes h)

  -- After an operand

  joins : (fs : Frames) → 1000 < bound fs → separates fs ≡ false
  unfolding bound separates place_of
  joins [] h = refl
  joins (waiting o ∷ fs) h = refl
  joins (opened top ∷ fs) h = refl
  joins (opened in_round ∷ fs) h = refl
  joins (opened (in_curly i) ∷ fs) h = refl
  joins (opened (in_seq k i c) ∷ fs) h = absurd (omega arith)
  joins (opened (in_tail i c) ∷ fs) h = absurd (omega arith)

  push_yes : (i p b : ℕ) (fs : Frames) (out : Out) → p < bound fs → push_as i p b (red fs out) ≡ want (waiting (op i true p b) ∷ fs) out
  unfolding push_as
  push_yes i p b fs out h = rw (lt?_yes h)

  have_infix : {k : Terminal} (r : Inf) → IsInfix T k r → (i : ℕ) (fs : Frames) (out : Out) {ops : List Op} →
      Below (left_bound r) ops → Guard T fs → prio r < bound fs →
      have_step word (over ops fs) out i (see T k) ≡ want (waiting (op i true (prio r) (right_bound r)) ∷ fs) (flush word ops out)
  unfolding have_step see infix_step stop_step comma_step prio left_bound right_bound
  have_infix r (named {x} {e} q) i fs out b g h =
      rw (q, reduce_infix word T (name x e) r (named q) fs out b g h) (push_yes i (prio r) (right_bound r) fs (flush word _ out) h)
  have_infix r the_comma i fs out b g h =
      rw (reduce_infix word T (stop comma) (xfy 1000) the_comma fs out b g h, joins fs h) (push_yes i 1000 1001 fs (flush word _ out) h)

  -- The cases of the induction, with what the induction gives as hypotheses

  reach0 : {p : ℕ} {ts rest : List Tok} {t : Tree} {fs : Frames} {out : Out} (output : Out) →
      Run (want fs out) ts ≡ Run (have fs output) rest → output ≡ push word t out → Reach p ts rest t fs out
  unfolding flush over
  reach0 output e q = record { above = []; output = output; runs = e; owed = q; below = below_nil }

  case_plain : {i : ℕ} {k : Terminal} {rest : List Tok} {fs : Frames} {out : Out} → want_step word fs out i (see T k) ≡ have fs (nd i (word plain 0) ∷ out) →
      Reach 0 (tok i k ∷ rest) rest (leaf i) fs out
  unfolding run step push arity
  case_plain {i} {rest} {out} e = reach0 (nd i (word plain 0) ∷ out) (ap (λ (z : State). Run z rest) e) refl

  want_number : (i s : ℕ) (fs : Frames) (out : Out) → want_step word fs out i (see T (number s false)) ≡ have fs (nd i (word plain 0) ∷ out)
  unfolding want_step see
  want_number i s fs out = refl

  want_var_or_string : (i : ℕ) (fs : Frames) (out : Out) → want_step word fs out i (see T var_or_string) ≡ have fs (nd i (word plain 0) ∷ out)
  unfolding want_step see
  want_var_or_string i fs out = refl

  case_name : {i e : ℕ} {x : List ℕ} {rest : List Tok} {fs : Frames} {out : Out} → is_op T x ≡ false → Follow rest →
      Reach 0 (tok i (name x e) ∷ rest) rest (leaf i) fs out
  unfolding run step want_step see push arity
  case_name {i} {e} {x} {fs} {out} f w = reach0 (nd i (word plain 0) ∷ out) (name_follow i e x fs out f w) refl

  blocks_glued : (m low : Bool) (e : ℕ) → m ≡ true → glues m e (see T (number e low)) ≡ true
  unfolding glues see
  blocks_glued m low e h = rw h (eq-eqb e e refl)

  pend_glued : (i e j : ℕ) (low : Bool) (x : List ℕ) (fs : Frames) (out : Out) → is_minus x ≡ true →
      pend_step word i e (is_minus x) (prefix_of T x) (infix_of T x) fs out j (see T (number e low)) ≡ have fs (nd i (word negative 0) ∷ out)
  unfolding pend_step glued_step see
  pend_glued i e j low x fs out m = rw (blocks_glued (is_minus x) low e m)

  case_negative : {i e j : ℕ} {low : Bool} {x : List ℕ} {rest : List Tok} {fs : Frames} {out : Out} → is_minus x ≡ true →
      Reach 0 (tok i (name x e) ∷ tok j (number e low) ∷ rest) rest (node i negative nil) fs out
  unfolding run step want_step see push arity
  case_negative {i} {e} {j} {low} {x} {rest} {fs} {out} m =
      reach0 (nd i (word negative 0) ∷ out) (ap (λ (z : State). Run z rest) (pend_glued i e j low x fs out m)) refl

  case_call : {i e j : ℕ} {x : List ℕ} {us rest : List Tok} {f : Forest} {fs : Frames} {out : Out} (d : ℕ) → arity f ≡ d + 1 →
      Run (want (opened (in_seq in_call i 0) ∷ fs) out) us ≡ Run (have fs (nd i (word call (d + 1)) ∷ pushes word f out)) rest →
      Reach 0 (tok i (name x e) ∷ tok j (round true) ∷ us) rest (node i call f) fs out
  unfolding run step want_step see pend_step glues glued_step push
  case_call {i} {f} {out} d q h = reach0 (nd i (word call (d + 1)) ∷ pushes word f out) h (rw q)

  case_round : {i : ℕ} {ct : Bool} {us rest : List Tok} {t : Tree} {fs : Frames} {out : Out} →
      Run (want (opened in_round ∷ fs) out) us ≡ Run (have fs (push word t out)) rest → Reach 0 (tok i (round ct) ∷ us) rest t fs out
  unfolding run step want_step see
  case_round {t} {out} h = reach0 (push word t out) h refl

  -- after `[` and `{`, the next token starts the first place
  begun_starts : {us : List Tok} (h : Shape) (i : ℕ) (fs : Frames) (out : Out) → Starts T us →
      Run (begun h i fs out) us ≡ Run (want (opened (inside h i) ∷ fs) out) us
  unfolding run step begun_step begun_on
  begun_starts h i fs out (starts n) = rw n

  case_list : {i : ℕ} {us rest : List Tok} {f : Forest} {fs : Frames} {out : Out} (d : ℕ) → Starts T us → arity f ≡ d + 1 →
      Run (want (opened (in_seq in_list i 0) ∷ fs) out) us ≡ Run (have fs (nd i (word list (d + 1)) ∷ pushes word f out)) rest →
      Reach 0 (tok i square ∷ us) rest (node i list f) fs out
  unfolding run step want_step see inside push
  case_list {i} {f} {fs} {out} d w q h = reach0 (nd i (word list (d + 1)) ∷ pushes word f out) (begun_starts squares i fs out w ∙ h) (rw q)

  case_tail : {i : ℕ} {us rest : List Tok} {g : Forest} {fs : Frames} {out : Out} (d : ℕ) (vs : List Tok) (f : Forest) (t : Tree) →
      Starts T us → arity f ≡ d + 1 → snoc f t ≡ g →
      Run (want (opened (in_seq in_list i 0) ∷ fs) out) us ≡ Run (want (opened (in_tail i (d + 1)) ∷ fs) (pushes word f out)) vs →
      Run (want (opened (in_tail i (d + 1)) ∷ fs) (pushes word f out)) vs ≡ Run (have fs (nd i (word list_tail (d + 1 + 1)) ∷ push word t (pushes word f out))) rest →
      Reach 0 (tok i square ∷ us) rest (node i list_tail g) fs out
  unfolding run step want_step see inside push
  case_tail {i} {fs} {out} d vs f t w q g h l =
      reach0 (nd i (word list_tail (d + 1 + 1)) ∷ push word t (pushes word f out)) (begun_starts squares i fs out w ∙ h ∙ l)
      (rw (← g, arity-snoc f t, pushes_snoc word f t out, q))

  case_curly : {i : ℕ} {us rest : List Tok} {t : Tree} {fs : Frames} {out : Out} → Starts T us →
      Run (want (opened (in_curly i) ∷ fs) out) us ≡ Run (have fs (nd i (word curly 1) ∷ push word t out)) rest →
      Reach 0 (tok i brace ∷ us) rest (node i curly (t ◂ nil)) fs out
  unfolding run step want_step see inside push arity
  case_curly {i} {t} {fs} {out} w h = reach0 (nd i (word curly 1) ∷ push word t out) (begun_starts braces i fs out w ∙ h) refl

  case_empty_list : {i k : ℕ} {rest : List Tok} {fs : Frames} {out : Out} →
      Reach 0 (tok i square ∷ tok k (stop close_list) ∷ rest) rest (node i empty_list nil) fs out
  unfolding run step want_step see begun_step begun_on stop_of shuts empty_kind push arity
  case_empty_list {i} {out} = reach0 (nd i (word empty_list 0) ∷ out) refl refl

  case_empty_curly : {i k : ℕ} {rest : List Tok} {fs : Frames} {out : Out} →
      Reach 0 (tok i brace ∷ tok k (stop close_curly) ∷ rest) rest (node i empty_curly nil) fs out
  unfolding run step want_step see begun_step begun_on stop_of shuts empty_kind push arity
  case_empty_curly {i} {out} = reach0 (nd i (word empty_curly 0) ∷ out) refl refl

  case_prefix : {i e j p q : ℕ} {x : List ℕ} {r : Pre} {k : Terminal} {us rest : List Tok} {t : Tree} {fs : Frames} {out : Out} →
      prefix_of T x ≡ some r → pre_prio r ≡ p → blocks (is_minus x) e k ≡ false → Starts T (tok j k ∷ us) → q < pre_bound r → p < bound fs →
      Reach q (tok j k ∷ us) rest t (waiting (op i false (pre_prio r) (pre_bound r)) ∷ fs) out →
      Reach p (tok i (name x e) ∷ tok j k ∷ us) rest (node i prefix (t ◂ nil)) fs out
  unfolding run step want_step see push arity emit
  case_prefix {i} {e} {j} {p} {q} {x} {r} {k} {us} {fs} {out} a y b w l h R =
      let high : pre_prio r < bound fs = omega arith in
      let last : pre_prio r < p + 1 = omega arith in
      let low : q + 1 ≤ p + 1 = omega (arith, pre_bound-≤ r) in
      let o = op i false (pre_prio r) (pre_bound r) in
      record {
        above = R.above ++ (o ∷ []);
        output = R.output;
        runs = name_prefix i e x r fs out us a b w high ∙ rw (over_last R.above o fs) R.runs;
        owed = flush_last word R.above o R.output ∙ ap (λ (z : Out). nd i (word prefix 1) ∷ z) R.owed;
        below = below_last i false (pre_bound r) (below_mono low R.below) last;
      }

  case_infix : {i p l q : ℕ} {k : Terminal} {r : Inf} {ts us rest : List Tok} {t u : Tree} {fs : Frames} {out : Out} →
      l < left_bound r → IsInfix T k r → prio r ≡ p → q < right_bound r → Guard T fs → p < bound fs →
      Reach l ts (tok i k ∷ us) t fs out →
      Reach q us rest u (waiting (op i true (prio r) (right_bound r)) ∷ fs) (push word t out) →
      Reach p ts rest (node i infx (t ◂ u ◂ nil)) fs out
  unfolding run step push arity emit
  case_infix {i} {p} {l} {q} {r} {us} {fs} a x y b g h R S =
      let high : prio r < bound fs = omega arith in
      let last : prio r < p + 1 = omega arith in
      let low : q + 1 ≤ p + 1 = omega (arith, right_bound-≤ r) in
      let left : l + 1 ≤ left_bound r = omega arith in
      let o = op i true (prio r) (right_bound r) in
      record {
        above = S.above ++ (o ∷ []);
        output = S.output;
        runs =
            R.runs ∙ ap (λ (z : State). Run z us) (have_infix r x i fs R.output (below_mono left R.below) g high)
            ∙ rw (R.owed, over_last S.above o fs) S.runs;
        owed = flush_last word S.above o S.output ∙ ap (λ (z : Out). nd i (word infx 2) ∷ z) S.owed;
        below = below_last i true (right_bound r) (below_mono low S.below) last;
      }

  place_alone : {rest : List Tok} (i e : ℕ) (x : List ℕ) (br : Bracket) (fs : Frames) (out : Out) → is_op T x ≡ true → (E : Ends br rest) →
      Run (want (opened br ∷ fs) out) (tok i (name x e) ∷ rest) ≡ after E fs (push word (leaf i) out)
  unfolding run step want_step see push arity
  place_alone i e x br fs out o E = alone_ends i e x fs out o E

  place_whole : {b p : ℕ} {ts rest : List Tok} {t : Tree} (br : Bracket) (fs : Frames) (out : Out) → b ≡ place_of br → p ≤ b → (E : Ends br rest) →
      Reach p ts rest t (opened br ∷ fs) out → Run (want (opened br ∷ fs) out) ts ≡ after E fs (push word t out)
  place_whole {b} {p} br fs out h l E R =
      let low : p + 1 ≤ place_of br + 1 = omega arith in
      R.runs ∙ have_ends fs R.output (below_mono low R.below) E ∙ ap (λ (z : Out). after E fs z) R.owed

  place-of : {p b : ℕ} (br : Bracket) (fs : Frames) → b ≡ place_of br → p ≤ b → p < bound (opened br ∷ fs)
  unfolding bound
  place-of br fs h l = omega arith

  some_args : {ts rest : List Tok} {f : Forest} → Args T ts rest f → (d : ℕ) × (arity f ≡ d + 1)
  unfolding arity
  some_args (one d) = (0, refl)
  some_args (more {f} d e) = (arity f, refl)

  mutual
    unfolding after run act pushes arity place_of bound

    comp : {p : ℕ} {ts rest : List Tok} {t : Tree} → Term T p ts rest t → Fair T → Follow rest → (fs : Frames) (out : Out) → Guard T fs → p < bound fs →
        Reach p ts rest t fs out
    comp (a_number {i} {s}) fair w fs out g h = case_plain (want_number i s fs out)
    comp (a_var_or_string {i}) fair w fs out g h = case_plain (want_var_or_string i fs out)
    comp (a_name n) fair w fs out g h = case_name n w
    comp (a_call {i} x) fair w fs out g h =
        let d = some_args x in case_call d.0 d.1 (comp_args x fair in_call i 0 d.0 fs out (λ z. ends end_call) (omega (arith, d.1)))
    comp (a_round x) fair w fs out g h = case_round (comp_place x fair in_round fs out refl (ends end_round))
    comp (a_list {i} x) fair w fs out g h =
        let d = some_args x in case_list d.0 (args_start x) d.1 (comp_args x fair in_list i 0 d.0 fs out (λ z. ends end_list) (omega (arith, d.1)))
    comp (a_list_tail {i} {vs} {f} {t} x y q) fair w fs out g h =
        let d = some_args x in
        case_tail d.0 vs f t (args_start x) d.1 q (comp_args x fair in_list i 0 d.0 fs out (λ z. ends to_tail) (omega (arith, d.1)))
        (comp_place y fair (in_tail i (d.0 + 1)) fs (pushes word f out) refl (ends end_tail))
    comp (a_curly {i} x) fair w fs out g h = case_curly (place_starts x) (comp_place x fair (in_curly i) fs out refl (ends end_curly))
    comp an_empty_list fair w fs out g h = case_empty_list
    comp an_empty_curly fair w fs out g h = case_empty_curly
    comp (a_negative m) fair w fs out g h = case_negative m
    comp (a_prefix {i} {x} {r} e p b d l) fair w fs out g h =
        case_prefix e p b (term_starts d) l h (comp d fair w (waiting (op i false (pre_prio r) (pre_bound r)) ∷ fs) out (guard_pre T fair x r e) l)
    comp (an_infix {i} {k} {r} {t} d l x p e q) fair w fs out g h =
        case_infix l x p q g h (comp d fair (follow_infix x) fs out g (omega (arith, left_bound-≤ r)))
        (comp e fair w (waiting (op i true (prio r) (right_bound r)) ∷ fs) (push word t out) (guard_inf T fair k r x) q)

    -- c places stand before these, and d before the last of them
    comp_args : {ts rest : List Tok} {f : Forest} → Args T ts rest f → Fair T → (k : Seq) (i c d : ℕ) (fs : Frames) (out : Out) →
        (E : (z : ℕ) → Ends (in_seq k i z) rest) → c + arity f ≡ d + 1 →
        Run (want (opened (in_seq k i c) ∷ fs) out) ts ≡ after (E d) fs (pushes word f out)
    comp_args (one {t} x) fair k i c d fs out E h =
        let same : c ≡ d = omega arith in
        comp_place x fair (in_seq k i c) fs out refl (E c) ∙ ap (λ (z : ℕ). after (E z) fs (push word t out)) same
    comp_args (more {t} x y) fair k i c d fs out E h =
        comp_place x fair (in_seq k i c) fs out refl (ends next_place) ∙ comp_args y fair k i (c + 1) d fs (push word t out) E (omega arith)

    comp_place : {b : ℕ} {ts rest : List Tok} {t : Tree} → Place T b ts rest t → Fair T → (br : Bracket) (fs : Frames) (out : Out) → b ≡ place_of br → (E : Ends br rest) →
        Run (want (opened br ∷ fs) out) ts ≡ after E fs (push word t out)
    comp_place (alone {i} {e} {x} o) fair br fs out h E = place_alone i e x br fs out o E
    comp_place (whole d l) fair br fs out h E = place_whole br fs out h l E (comp d fair (follow_ends E) (opened br ∷ fs) out guard_bracket (place-of br fs h l))

  -- COMPLETENESS
  pub complete : {ts : List Tok} {t : Tree} → Fair T → Clause T ts t → Run start ts ≡ done (push word t [])
  unfolding after run act place_of
  complete fair (clause p) = comp_place p fair top [] [] refl (ends end_clause)
