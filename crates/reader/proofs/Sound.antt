-- Soundness: what the machine accepts has a reading, with the nodes that the machine wrote. What the frames hold are partial readings, and each
-- step keeps that. Assumes nothing.
use Prim.Native.Nat.{ℕ, ◌+◌, ◌≤◌, ◌<◌}
use mathlib.Core.Path.{◌≡◌, refl, ap, sym, ◌∙◌, subst}
use mathlib.Core.Bool.{Bool, true, false, ◌&&◌, cond, false≢true}
use mathlib.Core.Option.{Option, none, some}
use mathlib.Core.List.{List, [], ◌∷◌}
use native.Mathlib.Omega.{arith}
use lib.Dec.{eqb}
use borrow.Author.Tests.{eqb-true}
use Rattle.reader.specs.Token.{Stop, close, close_list, close_curly, bar, double_bar, comma, end_mark, Terminal, name, number, var_or_string, round, square, brace, stop, Tok, tok}
use Rattle.reader.specs.Ops.{Pre, fx, fy, Inf, xfx, xfy, yfx, pre_prio, pre_bound, prio, left_bound, right_bound, Table, prefix_of, infix_of, is_minus, is_op, IsInfix, named, the_comma}
use Rattle.reader.specs.Tree.{NodeKind, plain, negative, call, prefix, infx, list, list_tail, curly, Tree, node, Forest, nil, ◌◂◌, arity, snoc}
use Rattle.reader.specs.Grammar.{blocks, Term, a_number, a_var_or_string, a_name, a_negative, a_call, a_round, a_list, a_list_tail, a_curly, an_empty_list, an_empty_curly, a_prefix, an_infix, Args, one, more, Place, alone, whole, Clause, clause}
use Rattle.reader.specs.Machine.{nd, Out, op, Seq, in_call, in_list, Bracket, top, in_round, in_curly, in_seq, in_tail, waiting, opened, Frames, Shape, squares, braces, State, want, pend, begun, have, dead, done, place_of, bound, Act, end_round, end_call, end_list, end_tail, end_curly, next_place, to_tail, end_clause, act_of, separates, inside, shuts, empty_kind, see, stop_of, lt?, Red, red, push_as, emit, reduce, act, act_if, closing, comma_step, stop_step, infix_step, glued_step, want_step, have_step, prefix_as, prefix_step, op_step, pend_step, begun_on, begun_step, step, run, start}
use Rattle.reader.proofs.Basics.{lt?-true, glues-blocks, Fair, push, pushes, pushes_snoc, arity-snoc}

-- the tokens that open a sequence of places, at ts, and where its first place begins
pub data Opens : Seq → ℕ → List Tok → List Tok → Type 0 where
  opens_call : {i e j : ℕ} {x : List ℕ} {us : List Tok} → Opens in_call i (tok i (name x e) ∷ tok j (round true) ∷ us) us
  opens_list : {i : ℕ} {us : List Tok} → Opens in_list i (tok i square ∷ us) us

pub data Opener : Shape → Terminal → Type 0 where
  is_square : Opener squares square
  is_brace : Opener braces brace

module _ (word : NodeKind → ℕ → ℕ) (T : Table) (source : List Tok) where
  mutual
    -- Read so far from the tokens `source`: inside br, which stands on fs, a place begins at ts, and out is written.
    pub data Inside : Bracket → Frames → List Tok → Out → Type 0 where
      at_top : Inside top [] source []
      of_round : {i : ℕ} {ct : Bool} {fs : Frames} {us : List Tok} {out : Out} → Held fs (tok i (round ct) ∷ us) out → Inside in_round fs us out
      of_curly : {i : ℕ} {fs : Frames} {us : List Tok} {out : Out} → Held fs (tok i brace ∷ us) out → Inside (in_curly i) fs us out
      first : {i : ℕ} {k : Seq} {fs : Frames} {ts us : List Tok} {out : Out} → Opens k i ts us → Held fs ts out → Inside (in_seq k i 0) fs us out
      next : {i c d j : ℕ} {k : Seq} {fs : Frames} {ts us : List Tok} {out output : Out} {t : Tree} →
          Inside (in_seq k i c) fs ts out → Place T 999 ts (tok j (stop comma) ∷ us) t → push word t out ≡ output → c + 1 ≡ d →
          Inside (in_seq k i d) fs us output
      of_tail : {i c d j : ℕ} {fs : Frames} {ts us : List Tok} {out output : Out} {t : Tree} →
          Inside (in_seq in_list i c) fs ts out → Place T 999 ts (tok j (stop bar) ∷ us) t → push word t out ≡ output → c + 1 ≡ d →
          Inside (in_tail i d) fs us output

    -- The same for an operand behind the frames fs.
    pub data Held : Frames → List Tok → Out → Type 0 where
      base : {br : Bracket} {fs : Frames} {ts : List Tok} {out : Out} → Inside br fs ts out → Held (opened br ∷ fs) ts out
      after_prefix : {i e j p b : ℕ} {x : List ℕ} {r : Pre} {k : Terminal} {fs : Frames} {us : List Tok} {out : Out} →
          Held fs (tok i (name x e) ∷ tok j k ∷ us) out → prefix_of T x ≡ some r → pre_prio r ≡ p → pre_bound r ≡ b → p < bound fs →
          blocks (is_minus x) e k ≡ false → Held (waiting (op i false p b) ∷ fs) (tok j k ∷ us) out
      after_infix : {i l p b : ℕ} {k : Terminal} {r : Inf} {fs : Frames} {ts us : List Tok} {out output : Out} {t : Tree} →
          Held fs ts out → Term T l ts (tok i k ∷ us) t → l < left_bound r → IsInfix T k r → prio r ≡ p → right_bound r ≡ b →
          p < bound fs → push word t out ≡ output → Held (waiting (op i true p b) ∷ fs) us output

  -- What is known of a state when ts is left to read.
  pub data Inv : State → List Tok → Type 0 where
    i_want : {fs : Frames} {ts : List Tok} {out : Out} → Held fs ts out → Inv (want fs out) ts
    i_pend : {i e : ℕ} {x : List ℕ} {m : Bool} {r : Option Pre} {s : Option Inf} {fs : Frames} {ts : List Tok} {out : Out} →
        Held fs (tok i (name x e) ∷ ts) out → is_minus x ≡ m → prefix_of T x ≡ r → infix_of T x ≡ s → Inv (pend i e m r s fs out) ts
    i_begun : {h : Shape} {i : ℕ} {k : Terminal} {fs : Frames} {ts : List Tok} {out : Out} →
        Opener h k → Held fs (tok i k ∷ ts) out → Inv (begun h i fs out) ts
    i_have : {fs : Frames} {ts us : List Tok} {out output : Out} {t : Tree} →
        Held fs ts out → Term T 0 ts us t → push word t out ≡ output → Inv (have fs output) us
    i_dead : {ts : List Tok} → Inv dead ts
    i_done : {i : ℕ} {ts : List Tok} {out : Out} {t : Tree} → Place T 1200 source (tok i (stop end_mark) ∷ ts) t → push word t [] ≡ out → Inv (done out) ts

  -- The operators of priority below b are completed.
  record Reduced (b : ℕ) (rest : List Tok) (result : Red) : Type 0 where
    left : Frames
    output : Out
    is : result ≡ red left output
    from : List Tok
    before : Out
    tree : Tree
    level : ℕ
    held : Held left from before
    term : Term T level from rest tree
    fits : level < bound left
    low : level < b
    nodes : push word tree before ≡ output

  stays : {p b : ℕ} {fs : Frames} {ts rest : List Tok} {before out : Out} {t : Tree} →
      Held fs ts before → Term T p ts rest t → p < bound fs → p < b → push word t before ≡ out → Reduced b rest (red fs out)
  stays {p} {fs} {ts} {before} {out} {t} s d h k e =
      record { left = fs; output = out; is = refl; from = ts; before = before; tree = t; level = p; held = s; term = d; fits = h; low = k; nodes = e }

  tested : {b : ℕ} {rest : List Tok} {x y : Red} (p : ℕ) → (p < b → Reduced b rest x) → Reduced b rest y → Reduced b rest (cond (lt? p b) x y)
  tested {b} {rest} {x} {y} p f r = go (lt? p b) refl
    where
      go : (v : Bool) → lt? p b ≡ v → Reduced b rest (cond v x y)
      go true h = f (lt?-true p b h)
      go false h = r

  reduced : {p b : ℕ} {fs : Frames} {ts rest : List Tok} {before out : Out} {t : Tree} →
      Held fs ts before → Term T p ts rest t → p < bound fs → p < b → push word t before ≡ out → Reduced b rest (reduce word b fs out)
  unfolding bound reduce push arity emit
  reduced (base l) d h k e = stays (base l) d h k e
  reduced {p = p} (after_prefix {i} {p = q} s x v w y c) d h k e =
      tested q (λ z. reduced {p = q} s (a_prefix x v c d (omega arith)) y z (ap (λ (z : Out). nd i (word prefix 1) ∷ z) e)) (stays (after_prefix s x v w y c) d h k e)
  reduced {p = p} {t = u} (after_infix {i} {p = q} s c l x v w y o) d h k e =
      tested q (λ z. reduced {p = q} s (an_infix c l x v d (omega arith)) y z (ap (λ (z : Out). nd i (word infx 2) ∷ z) (ap (λ (z : Out). push word u z) o ∙ e)))
      (stays (after_infix s c l x v w y o) d h k e)

  -- The end of a place

  -- the places of a sequence, from its opening on
  record Unwound (k : Seq) (i c : ℕ) (fs : Frames) (rest : List Tok) (f : Forest) (out : Out) : Type 0 where
    from : List Tok
    begin : List Tok
    before : Out
    forest : Forest
    opens : Opens k i from begin
    held : Held fs from before
    args : Args T begin rest forest
    nodes : pushes word forest before ≡ pushes word f out
    children : arity forest ≡ c + arity f

  unwind : {i c : ℕ} {k : Seq} {fs : Frames} {ts rest : List Tok} {out : Out} {f : Forest} →
      Inside (in_seq k i c) fs ts out → Args T ts rest f → Unwound k i c fs rest f out
  unfolding pushes arity
  unwind {f} (first {ts} {us} {out} o s) a =
      record { from = ts; begin = us; before = out; forest = f; opens = o; held = s; args = a; nodes = refl; children = omega arith }
  unwind {f} (next {t} l p e q) a =
      let u = unwind l (more p a) in
      record {
        from = u.from;
        begin = u.begin;
        before = u.before;
        forest = u.forest;
        opens = u.opens;
        held = u.held;
        args = u.args;
        nodes = u.nodes ∙ ap (λ (z : Out). pushes word f z) e;
        children = omega (arith, u.children);
      }

  call_term : {i : ℕ} {ts us rest : List Tok} {f : Forest} (j : ℕ) → Opens in_call i ts us → Args T us (tok j (stop close) ∷ rest) f → Term T 0 ts rest (node i call f)
  call_term j opens_call d = a_call d

  list_term : {i : ℕ} {ts us rest : List Tok} {f : Forest} (j : ℕ) → Opens in_list i ts us → Args T us (tok j (stop close_list) ∷ rest) f → Term T 0 ts rest (node i list f)
  list_term j opens_list d = a_list d

  tail_term : {i : ℕ} {ts us vs rest : List Tok} {f : Forest} {t : Tree} (j l : ℕ) → Opens in_list i ts us →
      Args T us (tok j (stop bar) ∷ vs) f → Place T 999 vs (tok l (stop close_list) ∷ rest) t → Term T 0 ts rest (node i list_tail (snoc f t))
  tail_term j l opens_list x y = a_list_tail x y refl

  end-call : {i c : ℕ} {fs : Frames} {rest : List Tok} {out output : Out} {t : Tree} (j : ℕ) →
      Unwound in_call i c fs (tok j (stop close) ∷ rest) (t ◂ nil) out → push word t out ≡ output → Inv (have fs (nd i (word call (c + 1)) ∷ output)) rest
  unfolding push arity
  end-call {i} {c} {output} j u e =
      let n : arity u.forest ≡ c + 1 = omega (arith, u.children) in
      let o = u.nodes ∙ e in
      let same : push word (node i call u.forest) u.before ≡ nd i (word call (c + 1)) ∷ output = cc in
      i_have u.held (call_term j u.opens u.args) same

  end-list : {i c : ℕ} {fs : Frames} {rest : List Tok} {out output : Out} {t : Tree} (j : ℕ) →
      Unwound in_list i c fs (tok j (stop close_list) ∷ rest) (t ◂ nil) out → push word t out ≡ output → Inv (have fs (nd i (word list (c + 1)) ∷ output)) rest
  unfolding push arity
  end-list {i} {c} {output} j u e =
      let n : arity u.forest ≡ c + 1 = omega (arith, u.children) in
      let o = u.nodes ∙ e in
      let same : push word (node i list u.forest) u.before ≡ nd i (word list (c + 1)) ∷ output = cc in
      i_have u.held (list_term j u.opens u.args) same

  end-tail : {i c : ℕ} {fs : Frames} {us rest : List Tok} {out middle output : Out} {t v : Tree} (j l : ℕ) →
      Unwound in_list i c fs (tok j (stop bar) ∷ us) (t ◂ nil) out → push word t out ≡ middle →
      Place T 999 us (tok l (stop close_list) ∷ rest) v → push word v middle ≡ output → Inv (have fs (nd i (word list_tail (c + 1 + 1)) ∷ output)) rest
  unfolding push arity
  end-tail {i} {c} {output} {v} j l u x p y =
      let n : arity u.forest ≡ c + 1 = omega (arith, u.children) in
      let o = u.nodes ∙ x in
      let q = arity-snoc u.forest v in
      let r = pushes_snoc word u.forest v u.before in
      let same : push word (node i list_tail (snoc u.forest v)) u.before ≡ nd i (word list_tail (c + 1 + 1)) ∷ output = cc in
      i_have u.held (tail_term j l u.opens u.args p) same

  acted : {x : Stop} {br : Bracket} {i : ℕ} {fs : Frames} {ts rest : List Tok} {before out : Out} {t : Tree} (a : Act x br) →
      Inside br fs ts before → Place T (place_of br) ts (tok i (stop x) ∷ rest) t → push word t before ≡ out → Inv (act word a fs out) rest
  unfolding act place_of push arity
  acted end_round (of_round s) p e = i_have s (a_round p) e
  acted {i} end_call l p q = end-call i (unwind l (one p)) q
  acted {i} end_list l p q = end-list i (unwind l (one p)) q
  acted {i} {rest} {out} (end_tail {i = j}) (of_tail {c} {d} {j = k} {fs} l p e q) r y =
      subst (λ (z : ℕ). Inv (have fs (nd j (word list_tail (z + 1)) ∷ out)) rest) q (end-tail k i (unwind l (one p)) e r y)
  acted (end_curly {i}) (of_curly s) p e = i_have s (a_curly p) (ap (λ (z : Out). nd i (word curly 1) ∷ z) e)
  acted next_place l p e = i_want (base (next l p e refl))
  acted to_tail l p e = i_want (base (of_tail l p e refl))
  acted end_clause at_top p e = i_done p e

  acted_if : {x : Stop} {br : Bracket} {i : ℕ} {fs : Frames} {ts rest : List Tok} {before out : Out} {t : Tree} (a : Option (Act x br)) →
      Inside br fs ts before → Place T (place_of br) ts (tok i (stop x) ∷ rest) t → push word t before ≡ out → Inv (act_if word a fs out) rest
  unfolding act_if
  acted_if none l p e = i_dead
  acted_if (some a) l p e = acted a l p e

  -- An operand has ended.

  left_bound-≥ : (r : Inf) → prio r ≤ left_bound r
  unfolding left_bound prio
  left_bound-≥ (xfx p) = omega arith
  left_bound-≥ (xfy p) = omega arith
  left_bound-≥ (yfx p) = omega arith

  right_bound-≥ : (r : Inf) → prio r ≤ right_bound r
  unfolding right_bound prio
  right_bound-≥ (xfx p) = omega arith
  right_bound-≥ (xfy p) = omega arith
  right_bound-≥ (yfx p) = omega arith

  pre_bound-≥ : (r : Pre) → pre_prio r ≤ pre_bound r
  unfolding pre_bound pre_prio
  pre_bound-≥ (fx p) = omega arith
  pre_bound-≥ (fy p) = omega arith

  infix-low : {k : Terminal} (r : Inf) → Fair T → IsInfix T k r → 1 ≤ prio r
  unfolding prio
  infix-low r fair (named {x} e) = fair.infix_low x r e
  infix-low r fair the_comma = omega arith

  left_low : {k : Terminal} (r : Inf) → Fair T → IsInfix T k r → 0 < left_bound r
  left_low r fair x = omega (arith, left_bound-≥ r, infix-low r fair x)

  held_low : {fs : Frames} {ts : List Tok} {out : Out} → Fair T → Held fs ts out → 0 < bound fs
  unfolding bound
  held_low fair (base l) = omega arith
  held_low fair (after_prefix {x} {r} s e v w y b) = omega (arith, pre_bound-≥ r, fair.prefix_low x r e)
  held_low fair (after_infix {r} s d l x v w y q) = omega (arith, right_bound-≥ r, infix-low r fair x)

  pushed : {i : ℕ} {k : Terminal} {rest : List Tok} {result : Red} (r : Inf) →
      IsInfix T k r → Reduced (left_bound r) (tok i k ∷ rest) result → Inv (push_as i (prio r) (right_bound r) result) rest
  unfolding push_as
  pushed {i} {rest} r x R = rw R.is (go (lt? (prio r) (bound R.left)) refl)
    where
      go : (v : Bool) → lt? (prio r) (bound R.left) ≡ v → Inv (cond v (want (waiting (op i true (prio r) (right_bound r)) ∷ R.left) R.output) dead) rest
      go true w = i_want (after_infix R.held R.term R.low x refl refl (lt?-true (prio r) (bound R.left) w) R.nodes)
      go false w = i_dead

  closed_on : {x : Stop} {i p : ℕ} {fs : Frames} {ts rest : List Tok} {before out : Out} {t : Tree} →
      Held fs ts before → Term T p ts (tok i (stop x) ∷ rest) t → p < bound fs → push word t before ≡ out → Inv (closing word x (red fs out)) rest
  unfolding closing bound
  closed_on {x} {p} (base {br} l) d h e =
      let fits : p ≤ place_of br = omega arith in
      acted_if (act_of x br) l (whole d fits) e
  closed_on (after_prefix s x v w y b) d h e = i_dead
  closed_on (after_infix s c l x v w y q) d h e = i_dead

  closed : {x : Stop} {i b : ℕ} {rest : List Tok} {result : Red} → Reduced b (tok i (stop x) ∷ rest) result → Inv (closing word x result) rest
  closed {x} {rest} R = subst (λ (z : Red). Inv (closing word x z) rest) (sym R.is) (closed_on R.held R.term R.fits R.nodes)

  commaed : {i : ℕ} {rest : List Tok} (result : Red) → Reduced 1000 (tok i (stop comma) ∷ rest) result → Inv (comma_step word i result) rest
  unfolding comma_step left_bound prio right_bound
  commaed {i} {rest} (red fs out) R = go (separates fs)
    where
      go : (v : Bool) → Inv (cond v (closing word comma (red fs out)) (push_as i 1000 1001 (red fs out))) rest
      go true = closed R
      go false = pushed (xfy 1000) the_comma R

  stopped : {i : ℕ} {fs : Frames} {ts rest : List Tok} {before out : Out} {t : Tree} (x : Stop) → Fair T →
      Held fs ts before → Term T 0 ts (tok i (stop x) ∷ rest) t → push word t before ≡ out → Inv (stop_step word x i fs out) rest
  unfolding stop_step
  stopped close fair s d e = closed (reduced s d (held_low fair s) (omega arith) e)
  stopped close_list fair s d e = closed (reduced s d (held_low fair s) (omega arith) e)
  stopped close_curly fair s d e = closed (reduced s d (held_low fair s) (omega arith) e)
  stopped bar fair s d e = closed (reduced s d (held_low fair s) (omega arith) e)
  stopped double_bar fair s d e = closed (reduced s d (held_low fair s) (omega arith) e)
  stopped {fs} {out} comma fair s d e = commaed (reduce word 1000 fs out) (reduced s d (held_low fair s) (omega arith) e)
  stopped end_mark fair s d e = closed (reduced s d (held_low fair s) (omega arith) e)

  infixed : {i e : ℕ} {x : List ℕ} {fs : Frames} {ts rest : List Tok} {before out : Out} {t : Tree} (r : Option Inf) → Fair T → infix_of T x ≡ r →
      Held fs ts before → Term T 0 ts (tok i (name x e) ∷ rest) t → push word t before ≡ out → Inv (infix_step word i r fs out) rest
  unfolding infix_step
  infixed none fair q s d e = i_dead
  infixed {e = f} (some r) fair q s d e = pushed r (named q) (reduced s d (held_low fair s) (left_low r fair (named {e = f} q)) e)

  haved : {fs : Frames} {ts rest : List Tok} {before out : Out} {t : Tree} → Fair T → (i : ℕ) (k : Terminal) →
      Held fs ts before → Term T 0 ts (tok i k ∷ rest) t → push word t before ≡ out → Inv (have_step word fs out i (see T k)) rest
  unfolding have_step see
  haved fair i (name x e) s d q = infixed (infix_of T x) fair refl s d q
  haved fair i (number n low) s d q = i_dead
  haved fair i var_or_string s d q = i_dead
  haved fair i (round ct) s d q = i_dead
  haved fair i square s d q = i_dead
  haved fair i brace s d q = i_dead
  haved fair i (stop x) s d q = stopped x fair s d q

  -- An operand is expected.

  wanted : {fs : Frames} {rest : List Tok} {out : Out} (i : ℕ) (k : Terminal) → Held fs (tok i k ∷ rest) out → Inv (want_step word fs out i (see T k)) rest
  unfolding want_step see push arity
  wanted i (name x e) s = i_pend s refl refl refl
  wanted i (number n true) s = i_dead
  wanted i (number n false) s = i_have s a_number refl
  wanted i var_or_string s = i_have s a_var_or_string refl
  wanted i (round ct) s = i_want (base (of_round s))
  wanted i square s = i_begun is_square s
  wanted i brace s = i_begun is_brace s
  wanted i (stop x) s = i_dead

  stop-of : (k : Terminal) (x : Stop) → stop_of (see T k) ≡ some x → k ≡ stop x
  unfolding stop_of see
  stop-of (name y e) x q = absurd (let z : ◌≡◌ {A = ℕ} 0 1 = cc in omega arith)
  stop-of (number n low) x q = absurd (let z : ◌≡◌ {A = ℕ} 0 1 = cc in omega arith)
  stop-of var_or_string x q = absurd (let z : ◌≡◌ {A = ℕ} 0 1 = cc in omega arith)
  stop-of (round ct) x q = absurd (let z : ◌≡◌ {A = ℕ} 0 1 = cc in omega arith)
  stop-of square x q = absurd (let z : ◌≡◌ {A = ℕ} 0 1 = cc in omega arith)
  stop-of brace x q = absurd (let z : ◌≡◌ {A = ℕ} 0 1 = cc in omega arith)
  stop-of (stop y) x q = cc

  -- after `[` or `{`

  placed : {h : Shape} {i : ℕ} {k : Terminal} {fs : Frames} {ts : List Tok} {out : Out} → Opener h k → Held fs (tok i k ∷ ts) out → Inside (inside h i) fs ts out
  unfolding inside
  placed is_square s = first opens_list s
  placed is_brace s = of_curly s

  shut : {h : Shape} {i j : ℕ} {k : Terminal} {fs : Frames} {rest : List Tok} {out : Out} (x : Stop) → Opener h k →
      Held fs (tok i k ∷ tok j (stop x) ∷ rest) out → Inv (cond (shuts h x) (have fs (nd i (word (empty_kind h) 0) ∷ out)) dead) rest
  unfolding shuts empty_kind push arity
  shut close is_square s = i_dead
  shut close_list is_square s = i_have s an_empty_list refl
  shut close_curly is_square s = i_dead
  shut bar is_square s = i_dead
  shut double_bar is_square s = i_dead
  shut comma is_square s = i_dead
  shut end_mark is_square s = i_dead
  shut close is_brace s = i_dead
  shut close_list is_brace s = i_dead
  shut close_curly is_brace s = i_have s an_empty_curly refl
  shut bar is_brace s = i_dead
  shut double_bar is_brace s = i_dead
  shut comma is_brace s = i_dead
  shut end_mark is_brace s = i_dead

  begun-on : {h : Shape} {i j : ℕ} {k l : Terminal} {fs : Frames} {rest : List Tok} {out : Out} (z : Option Stop) → stop_of (see T l) ≡ z → Opener h k →
      Held fs (tok i k ∷ tok j l ∷ rest) out → Inv (begun_on word z h i fs out j (see T l)) rest
  unfolding begun_on
  begun-on {j} {l} none q o s = wanted j l (base (placed o s))
  begun-on {i} {j} {k} {l} {fs} {rest} {out} (some x) q o s =
      shut x o (subst (λ (z : Terminal). Held fs (tok i k ∷ tok j z ∷ rest) out) (stop-of l x q) s)

  -- A name stands where an operand is expected.

  negative_term : {i e j s : ℕ} {low : Bool} {x : List ℕ} {rest : List Tok} (m : Bool) → is_minus x ≡ m → m && eqb e s ≡ true →
      Term T 0 (tok i (name x e) ∷ tok j (number s low) ∷ rest) rest (node i negative nil)
  negative_term {i} {e} {j} {s} {low} {x} {rest} true q h =
      subst (λ (z : ℕ). Term T 0 (tok i (name x e) ∷ tok j (number z low) ∷ rest) rest (node i negative nil)) (eqb-true e s h) (a_negative q)
  negative_term false q h = absurd (false≢true h)

  glued : {i e j : ℕ} {x : List ℕ} {m : Bool} {fs : Frames} {rest : List Tok} {out : Out} (k : Terminal) → is_minus x ≡ m → blocks m e k ≡ true →
      Held fs (tok i (name x e) ∷ tok j k ∷ rest) out → Inv (glued_step word i fs out (see T k)) rest
  unfolding glued_step see blocks push arity
  glued (name y f) q h s = i_dead
  glued {m} (number n low) q h s = i_have s (negative_term m q h) refl
  glued var_or_string q h s = i_dead
  glued (round true) q h s = i_want (base (first opens_call s))
  glued (round false) q h s = absurd (false≢true h)
  glued square q h s = i_dead
  glued brace q h s = i_dead
  glued (stop y) q h s = i_dead

  prefixed : {i e j : ℕ} {x : List ℕ} {k : Terminal} {fs : Frames} {rest : List Tok} {out : Out} (r : Option Pre) → prefix_of T x ≡ r →
      blocks (is_minus x) e k ≡ false → Held fs (tok i (name x e) ∷ tok j k ∷ rest) out → Inv (prefix_step word i r fs out j (see T k)) rest
  unfolding prefix_step prefix_as
  prefixed none q b s = i_dead
  prefixed {i} {j} {k} {fs} {rest} {out} (some r) q b s = go (lt? (pre_prio r) (bound fs)) refl
    where
      go : (v : Bool) → lt? (pre_prio r) (bound fs) ≡ v → Inv (cond v (want_step word (waiting (op i false (pre_prio r) (pre_bound r)) ∷ fs) out j (see T k)) dead) rest
      go true w = wanted j k (after_prefix s q refl refl (lt?-true (pre_prio r) (bound fs) w) b)
      go false w = i_dead

  aloned : {i e j : ℕ} {x : List ℕ} {y : Stop} {fs : Frames} {rest : List Tok} {out : Out} → is_op T x ≡ true →
      Held fs (tok i (name x e) ∷ tok j (stop y) ∷ rest) out → Inv (closing word y (red fs (nd i (word plain 0) ∷ out))) rest
  unfolding closing push arity
  aloned {y} o (base {br} l) = acted_if (act_of y br) l (alone o) refl
  aloned o (after_prefix s x v w z b) = i_dead
  aloned o (after_infix s d l x v w z q) = i_dead

  opped : {i e j : ℕ} {x : List ℕ} {k : Terminal} {fs : Frames} {rest : List Tok} {out : Out} (z : Option Stop) → stop_of (see T k) ≡ z → is_op T x ≡ true →
      blocks (is_minus x) e k ≡ false → Held fs (tok i (name x e) ∷ tok j k ∷ rest) out → Inv (op_step word z i (prefix_of T x) fs out j (see T k)) rest
  unfolding op_step
  opped {x} none q o b s = prefixed (prefix_of T x) refl b s
  opped {i} {e} {j} {x} {k} {fs} {rest} {out} (some y) q o b s =
      aloned o (subst (λ (z : Terminal). Held fs (tok i (name x e) ∷ tok j z ∷ rest) out) (stop-of k y q) s)

  pended : {i e j : ℕ} {x : List ℕ} {k : Terminal} {fs : Frames} {rest : List Tok} {out : Out} → Fair T →
      Held fs (tok i (name x e) ∷ tok j k ∷ rest) out → Inv (pend_step word i e (is_minus x) (prefix_of T x) (infix_of T x) fs out j (see T k)) rest
  unfolding pend_step push arity
  pended {i} {e} {j} {x} {k} {fs} {rest} {out} fair s = rw (glues-blocks T (is_minus x) e k) (go (blocks (is_minus x) e k) refl)
    where
      free : blocks (is_minus x) e k ≡ false → (v : Bool) → is_op T x ≡ v →
          Inv (cond v (op_step word (stop_of (see T k)) i (prefix_of T x) fs out j (see T k)) (have_step word fs (nd i (word plain 0) ∷ out) j (see T k))) rest
      free b true h = opped (stop_of (see T k)) refl h b s
      free b false h = haved fair j k s (a_name h) refl

      go : (v : Bool) → blocks (is_minus x) e k ≡ v →
          Inv
          (cond v (glued_step word i fs out (see T k))
          (cond (is_op T x) (op_step word (stop_of (see T k)) i (prefix_of T x) fs out j (see T k)) (have_step word fs (nd i (word plain 0) ∷ out) j (see T k))))
          rest
      go true h = glued k refl h s
      go false h = free h (is_op T x) refl

  stepped : {st : State} {j : ℕ} {k : Terminal} {rest : List Tok} → Fair T → Inv st (tok j k ∷ rest) → Inv (step word st j (see T k)) rest
  unfolding step begun_step
  stepped {j} {k} fair (i_want s) = wanted j k s
  stepped {j} {k} {rest} fair (i_pend {i} {e} {x} {fs} {out} s m p q) =
      rw (← m, ← p, ← q) (pended fair s)
  stepped {j} {k} fair (i_begun b s) = begun-on (stop_of (see T k)) refl b s
  stepped {j} {k} fair (i_have s d e) = haved fair j k s d e
  stepped fair i_dead = i_dead
  stepped fair (i_done p e) = i_dead

  pub ran : (st : State) (ts : List Tok) → Fair T → Inv st ts → Inv (run word T st ts) []
  unfolding run
  ran st [] fair v = v
  ran st (tok i k ∷ ts) fair v = ran (step word st i (see T k)) ts fair (stepped fair v)

  read : {out : Out} → Inv (done out) [] → (t : Tree) × Clause T source t × (push word t [] ≡ out)
  read (i_done {t} p e) = (t, clause p, e)

-- SOUNDNESS
pub sound : (word : NodeKind → ℕ → ℕ) (T : Table) (ts : List Tok) (out : Out) → Fair T → run word T start ts ≡ done out →
    (t : Tree) × Clause T ts t × (push word t [] ≡ out)
sound word T ts out fair e = read word T ts (subst (λ (z : State). Inv word T ts z []) e (ran word T ts start ts fair (i_want (base at_top))))
