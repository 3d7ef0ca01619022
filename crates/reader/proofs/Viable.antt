-- Where the machine lives, some clause begins with the tokens read; where it is dead, none does. Assumes nothing.
use Prim.Native.Nat.{ℕ, ◌+◌, ◌≤◌, ◌<◌}
use mathlib.Core.Path.{◌≡◌, refl, ap, sym, ◌∙◌, subst}
use mathlib.Core.Bool.{Bool, true, false, cond, false≢true}
use mathlib.Core.List.{List, [], ◌∷◌, ◌++◌, append_assoc, append-nil}
use native.Mathlib.Omega.{arith}
use lib.ListN.{length}
use Rattle.reader.specs.Token.{Kind, end_mark, Variable, OpenCT, Close, CloseList, CloseCurly, End, Nothing, Token, Stop, stop, Tok, tok, terminal_as, terminals}
use Rattle.reader.specs.Ops.{Table, roled}
use Rattle.reader.specs.Tree.{NodeKind, plain, call, list, list_tail, curly, empty_list, empty_curly, Tree, packed}
use Rattle.reader.specs.Grammar.{Reads}
use Rattle.reader.specs.Fault.{Chain, none, more, Begins, NoneBegins, FirstFault}
use Rattle.reader.specs.Machine.{nd, Out, Op, op, Seq, in_call, in_list, Bracket, top, in_round, in_curly, in_seq, in_tail, waiting, opened, Frames, squares, braces, State, want, pend, begun, have, dead, done, place_of, bound, Act, end_round, end_call, end_list, end_tail, end_curly, end_clause, act_of, shuts, empty_kind, above_all, see, seen_stop, stop_of, glues, Red, red, reduce, act, act_if, closing, stop_step, glued_step, want_step, have_step, op_step, pend_step, begun_on, begun_step, step, run, start, is_dead}
use Rattle.reader.proofs.Basics.{Fair, pre_bound-≤, right_bound-≤, over, over_last, Below, below_nil, below_last, flush, reduce_bracket, push, act-of}
use Rattle.reader.proofs.Complete.{complete}
use Rattle.reader.proofs.Sound.{Inside, at_top, of_round, of_curly, first, next, of_tail, Held, base, after_prefix, after_infix, Inv, i_want, i_pend, i_begun, i_have, i_dead, i_done, is_square, is_brace, ran, sound}

-- ---- frames that can be closed

data Inner : Bracket → Type 0 where
  round_in : Inner in_round
  curly_in : {i : ℕ} → Inner (in_curly i)
  seq_in : {k : Seq} {i c : ℕ} → Inner (in_seq k i c)
  tail_in : {i c : ℕ} → Inner (in_tail i c)

data Closes : Frames → Type 0 where
  at_end : Closes (opened top ∷ [])
  inner : {br : Bracket} {fs : Frames} → Inner br → Closes fs → Closes (opened br ∷ fs)
  waits : {i p b : ℕ} {k : Bool} {fs : Frames} → p < above_all → Closes fs → Closes (waiting (op i k p b) ∷ fs)

module _ (word : NodeKind → ℕ → ℕ) (T : Table) where
  place_high : (br : Bracket) → place_of br ≤ 1200
  unfolding place_of
  place_high top = omega arith
  place_high in_round = omega arith
  place_high (in_curly i) = omega arith
  place_high (in_seq k i c) = omega arith
  place_high (in_tail i c) = omega arith

  held_high : {source : List Tok} {fs : Frames} {ts : List Tok} {out : Out} → Held word T source fs ts out → bound fs ≤ above_all
  unfolding bound
  held_high (base {br} l) = omega (arith, place_high br)
  held_high (after_prefix {r} s e v w y b) = omega (arith, pre_bound-≤ r, held_high s)
  held_high (after_infix {r} s d l x v w y q) = omega (arith, right_bound-≤ r, held_high s)

  next_inner : {k : Seq} {i c d : ℕ} {fs : Frames} → Closes (opened (in_seq k i c) ∷ fs) → Closes (opened (in_seq k i d) ∷ fs)
  next_inner (inner b w) = inner seq_in w

  tail_inner : {k : Seq} {i c d : ℕ} {fs : Frames} → Closes (opened (in_seq k i c) ∷ fs) → Closes (opened (in_tail i d) ∷ fs)
  tail_inner (inner b w) = inner tail_in w

  mutual
    inside_closes : {source : List Tok} {br : Bracket} {fs : Frames} {ts : List Tok} {out : Out} → Inside word T source br fs ts out → Closes (opened br ∷ fs)
    inside_closes at_top = at_end
    inside_closes (of_round s) = inner round_in (held_closes s)
    inside_closes (of_curly s) = inner curly_in (held_closes s)
    inside_closes (first o s) = inner seq_in (held_closes s)
    inside_closes (next l p e q) = next_inner (inside_closes l)
    inside_closes (of_tail l p e q) = tail_inner (inside_closes l)

    held_closes : {source : List Tok} {fs : Frames} {ts : List Tok} {out : Out} → Held word T source fs ts out → Closes fs
    held_closes (base l) = inside_closes l
    held_closes (after_prefix {p} s e v w y b) = let h = held_high s in waits {p = p} (omega arith) (held_closes s)
    held_closes (after_infix {p} s d l x v w y q) = let h = held_high s in waits {p = p} (omega arith) (held_closes s)

-- ---- tokens that close them

-- with the layout before it from z on
abbrev plainly : Kind → ℕ → ℕ → ℕ → Token
plainly k z a e = record { kind = k; value = Nothing; text = []; start = a; end = e; layout = z }

-- a token behind layout, from z on
abbrev apart : Kind → ℕ → Token
apart k z = plainly k z (z + 1) (z + 2)

closer : Bracket → Kind
closer top = End
closer in_round = Close
closer (in_curly i) = CloseCurly
closer (in_seq in_call i c) = Close
closer (in_seq in_list i c) = CloseList
closer (in_tail i c) = CloseList

closers : ℕ → Frames → List Token
closers z [] = []
closers z (waiting o ∷ fs) = closers z fs
closers z (opened br ∷ fs) = apart (closer br) z ∷ closers (z + 2) fs

-- they stand in some text from z on
record Ahead (z : ℕ) (ts : List Token) : Type 0 where
  bytes : ℕ
  stands : Chain bytes z ts

no_more : (z : ℕ) → Ahead z []
no_more z = record { bytes = z; stands = none {z = z} (omega arith) }

then : {z a e : ℕ} {ts : List Token} (k : Kind) → z ≤ a → a < e → Ahead e ts → Ahead z (plainly k z a e ∷ ts)
then {z} {a} {e} k l m r = record { bytes = r.bytes; stands = more {z = z} {t = plainly k z a e} l m r.stands }

apart-ahead : {z : ℕ} {ts : List Token} (k : Kind) → Ahead (z + 2) ts → Ahead z (apart k z ∷ ts)
apart-ahead k a = then k (omega arith) (omega arith) a

closers_ahead : (z : ℕ) (fs : Frames) → Ahead z (closers z fs)
unfolding closers
closers_ahead z [] = no_more z
closers_ahead z (waiting o ∷ fs) = closers_ahead z fs
closers_ahead z (opened br ∷ fs) = apart-ahead (closer br) (closers_ahead (z + 2) fs)

module _ (word : NodeKind → ℕ → ℕ) (T : Table) where
  Accepts : State → List Tok → Type 0
  Accepts s ts = (o : Out) × (run word T s ts ≡ done o)

  closing-act : {x : Stop} {br : Bracket} (a : Act x br) (fs : Frames) (out : Out) → closing word x (red (opened br ∷ fs) out) ≡ act word a fs out
  unfolding closing act_if
  closing-act a fs out = rw (act-of a)

  -- a stop that completes every operator of its place
  stop_shuts : {x : Stop} {br : Bracket} (a : Act x br) (n : ℕ) (rest : List Tok) (fs : Frames) (out : Out) {ops : List Op} →
      ((gs : Frames) (o : Out) → stop_step word x n gs o ≡ closing word x (reduce word above_all gs o)) → Below above_all ops →
      run word T (have (over ops (opened br ∷ fs)) out) (tok n (stop x) ∷ rest) ≡ run word T (act word a fs (flush word ops out)) rest
  unfolding run step have_step see
  stop_shuts {x} {br} a n rest fs out {ops} same l =
      ap (λ (z : State). run word T z rest)
      (same (over ops (opened br ∷ fs)) out ∙ ap (closing word x) (reduce_bracket word above_all br fs out l) ∙ closing-act a fs (flush word ops out))

  closed : {fs : Frames} {ops : List Op} → Closes fs → Below above_all ops → (out : Out) (n z : ℕ) → Accepts (have (over ops fs) out) (terminals n (closers z fs))
  unfolding Accepts run act stop_step closers closer terminals terminal_as over
  closed {ops} at_end l out n z = (flush word ops out, stop_shuts end_clause n [] [] out (λ gs o. refl) l)
  closed {ops} (inner {fs} round_in w) l out n z =
      let a = closed w below_nil (flush word ops out) (n + 1) (z + 2) in (a.0, stop_shuts end_round n (terminals (n + 1) (closers (z + 2) fs)) fs out (λ gs o. refl) l ∙ a.1)
  closed {ops} (inner {fs} (curly_in {i}) w) l out n z =
      let a = closed w below_nil (nd i (word curly 1) ∷ flush word ops out) (n + 1) (z + 2) in (a.0, stop_shuts end_curly n (terminals (n + 1) (closers (z + 2) fs)) fs out (λ gs o. refl) l ∙ a.1)
  closed {ops} (inner {fs} (seq_in {k = in_call} {i} {c}) w) l out n z =
      let a = closed w below_nil (nd i (word call (c + 1)) ∷ flush word ops out) (n + 1) (z + 2) in (a.0, stop_shuts end_call n (terminals (n + 1) (closers (z + 2) fs)) fs out (λ gs o. refl) l ∙ a.1)
  closed {ops} (inner {fs} (seq_in {k = in_list} {i} {c}) w) l out n z =
      let a = closed w below_nil (nd i (word list (c + 1)) ∷ flush word ops out) (n + 1) (z + 2) in (a.0, stop_shuts end_list n (terminals (n + 1) (closers (z + 2) fs)) fs out (λ gs o. refl) l ∙ a.1)
  closed {ops} (inner {fs} (tail_in {i} {c}) w) l out n z =
      let a = closed w below_nil (nd i (word list_tail (c + 1)) ∷ flush word ops out) (n + 1) (z + 2) in (a.0, stop_shuts end_tail n (terminals (n + 1) (closers (z + 2) fs)) fs out (λ gs o. refl) l ∙ a.1)
  closed {ops} (waits {i} {p} {b} {k} {fs} h w) l out n z =
      subst (λ (gs : Frames). Accepts (have gs out) (terminals n (closers z fs))) (over_last ops (op i k p b) fs) (closed w (below_last i k b l h) out n z)

  closed-here : {fs : Frames} → Closes fs → (out : Out) (n z : ℕ) → Accepts (have fs out) (terminals n (closers z fs))
  unfolding over
  closed-here w out n z = closed w below_nil out n z

-- ---- a state that lives can be completed

module _ (word : NodeKind → ℕ → ℕ) (T : Table) where
  record Live (s : State) (n z : ℕ) : Type 0 where
    further : List Token
    out : Out
    runs : run word T s (terminals n further) ≡ done out
    ahead : Ahead z further

  live : {source ts : List Tok} {s : State} → Inv word T source s ts → is_dead s ≡ false → (n z : ℕ) → Live s n z
  unfolding Accepts is_dead run step want_step pend_step glues glued_step have_step stop_step reduce closing act_if act_of act begun_step begun_on stop_of shuts empty_kind terminals terminal_as see
  live (i_want {fs} {out} s) h n z =
      let a = closed-here word T (held_closes word T s) (nd n (word plain 0) ∷ out) (n + 1) (z + 2) in
      record { further = apart Variable z ∷ closers (z + 2) fs; out = a.0; runs = a.1; ahead = apart-ahead Variable (closers_ahead (z + 2) fs) }
  live (i_pend {i} {fs} {out} s m p q) h n z =
      let a = closed-here word T (held_closes word T s) (nd i (word call (0 + 1)) ∷ nd (n + 1) (word plain 0) ∷ out) (n + 1 + 1 + 1) (z + 1 + 2 + 2) in
      record {
        further = plainly OpenCT z z (z + 1) ∷ apart Variable (z + 1) ∷ apart Close (z + 1 + 2) ∷ closers (z + 1 + 2 + 2) fs;
        out = a.0;
        runs = a.1;
        ahead = then OpenCT (omega arith) (omega arith) (apart-ahead Variable (apart-ahead Close (closers_ahead (z + 1 + 2 + 2) fs)));
      }
  live (i_begun {i} {fs} {out} is_square s) h n z =
      let a = closed-here word T (held_closes word T s) (nd i (word empty_list 0) ∷ out) (n + 1) (z + 2) in
      record { further = apart CloseList z ∷ closers (z + 2) fs; out = a.0; runs = a.1; ahead = apart-ahead CloseList (closers_ahead (z + 2) fs) }
  live (i_begun {i} {fs} {out} is_brace s) h n z =
      let a = closed-here word T (held_closes word T s) (nd i (word empty_curly 0) ∷ out) (n + 1) (z + 2) in
      record { further = apart CloseCurly z ∷ closers (z + 2) fs; out = a.0; runs = a.1; ahead = apart-ahead CloseCurly (closers_ahead (z + 2) fs) }
  live (i_have {fs} {output} s d e) h n z =
      let a = closed-here word T (held_closes word T s) output n z in
      record { further = closers z fs; out = a.0; runs = a.1; ahead = closers_ahead z fs }
  live i_dead h n z = absurd (false≢true (sym h))
  live (i_done {out} p e) h n z = record { further = []; out = out; runs = refl; ahead = no_more z }

  -- ---- runs in two parts
  run_append : (s : State) (xs ys : List Tok) → run word T s (xs ++ ys) ≡ run word T (run word T s xs) ys
  unfolding run
  run_append s [] ys = refl
  run_append s (tok i k ∷ xs) ys = run_append (step word s i (see T k)) xs ys

  run_dead : (ts : List Tok) → run word T dead ts ≡ dead
  unfolding run step
  run_dead [] = refl
  run_dead (tok i k ∷ ts) = run_dead ts

terminals_append : (n : ℕ) (xs ys : List Token) → terminals n (xs ++ ys) ≡ terminals n xs ++ terminals (n + length xs) ys
unfolding terminals
terminals_append n [] ys = ap (λ (z : ℕ). terminals z ys) (omega arith)
terminals_append n (x ∷ xs) ys =
    ap (λ (z : List Tok). tok n (terminal_as x.kind x) ∷ z)
    (terminals_append (n + 1) xs ys ∙ ap (λ (z : ℕ). terminals (n + 1) xs ++ terminals z ys) (omega arith))

append_first : (xs ys : List Token) → terminals 0 (xs ++ ys) ≡ terminals 0 xs ++ terminals (length xs) ys
append_first xs ys = terminals_append 0 xs ys ∙ ap (λ (z : ℕ). terminals 0 xs ++ terminals z ys) (omega arith)

dead≢done : (o : Out) → dead ≡ done o → ⊥
dead≢done o e = let z : ◌≡◌ {A = ℕ} 0 1 = cc in omega arith

-- the machine behind the tokens ts
abbrev After : Table → List Token → State
After T ts = run packed T start (terminals 0 ts)

-- and behind more of them
further_on : (T : Table) (xs ys : List Token) → After T (xs ++ ys) ≡ run packed T (After T xs) (terminals (length xs) ys)
further_on T xs ys =
    ap (λ (z : List Tok). run packed T start z) (append_first xs ys) ∙ run_append packed T start (terminals 0 xs) (terminals (length xs) ys)

module _ (T : Table) (fair : Fair T) where
  -- where the machine lives, some clause begins so
  live_begins : (ts : List Token) → is_dead (After T ts) ≡ false → (z : ℕ) → Begins T ts z
  live_begins ts h z =
      let v = ran packed T (terminals 0 ts) start (terminals 0 ts) fair (i_want (base at_top)) in
      let l = live packed T v h (length ts) z in
      let r = sound packed T (terminals 0 (ts ++ l.further)) l.out fair (further_on T ts l.further ∙ l.runs) in
      record { further = l.further; tree = r.0; reads = r.1; bytes = l.ahead.bytes; stands = l.ahead.stands }

  -- where it is dead, none does
  dead_none : (ts : List Token) → After T ts ≡ dead → NoneBegins T ts
  dead_none ts h further t c =
      let p = complete packed T fair c in
      dead≢done (push packed t [])
      (sym (run_dead packed T (terminals (length ts) further)) ∙ ap (λ (z : State). run packed T z (terminals (length ts) further)) (sym h) ∙ sym (further_on T ts further) ∙ p)

-- ---- the token at which the machine dies

-- behind an end mark the machine is dead or done
Ended : State → Type 0
Ended z = is_dead z ≡ false → (out : Out) × (z ≡ done out)

module _ (word : NodeKind → ℕ → ℕ) where
  end_acts : (fs : Frames) (out : Out) → Ended (closing word end_mark (red fs out))
  unfolding Ended closing act_if act_of act is_dead
  end_acts [] out h = absurd (false≢true (sym h))
  end_acts (waiting o ∷ fs) out h = absurd (false≢true (sym h))
  end_acts (opened top ∷ fs) out h = (out, refl)
  end_acts (opened in_round ∷ fs) out h = absurd (false≢true (sym h))
  end_acts (opened (in_curly i) ∷ fs) out h = absurd (false≢true (sym h))
  end_acts (opened (in_seq k i c) ∷ fs) out h = absurd (false≢true (sym h))
  end_acts (opened (in_tail i c) ∷ fs) out h = absurd (false≢true (sym h))

  end_closes : (r : Red) → Ended (closing word end_mark r)
  end_closes (red fs out) = end_acts fs out

  end_step : (z : State) (j : ℕ) → Ended (step word z j (seen_stop end_mark))
  unfolding Ended step want_step pend_step glues op_step have_step stop_step begun_step begun_on stop_of shuts is_dead
  end_step (want fs out) j h = absurd (false≢true (sym h))
  end_step (pend i e m r s fs out) j h = go (roled r s) h
    where
      go : (v : Bool) → Ended (cond v (closing word end_mark (red fs (nd i (word plain 0) ∷ out))) (closing word end_mark (reduce word above_all fs (nd i (word plain 0) ∷ out))))
      go true = end_closes (red fs (nd i (word plain 0) ∷ out))
      go false = end_closes (reduce word above_all fs (nd i (word plain 0) ∷ out))
  end_step (begun squares i fs out) j h = absurd (false≢true (sym h))
  end_step (begun braces i fs out) j h = absurd (false≢true (sym h))
  end_step (have fs out) j h = end_closes (reduce word above_all fs out) h
  end_step dead j h = absurd (false≢true (sym h))
  end_step (done out) j h = absurd (false≢true (sym h))

pub dead_is : (z : State) → is_dead z ≡ true → z ≡ dead
unfolding is_dead
dead_is (want fs out) h = absurd (false≢true h)
dead_is (pend i e m r s fs out) h = absurd (false≢true h)
dead_is (begun k i fs out) h = absurd (false≢true h)
dead_is (have fs out) h = absurd (false≢true h)
dead_is dead h = refl
dead_is (done out) h = absurd (false≢true h)

-- The machine, alive behind `before`, dies at the token t of ts.
pub record Dies (T : Table) (ts : List Token) (t : Token) : Type 0 where
  pub before : List Token
  pub after : List Token
  pub parts : ts ≡ before ++ (t ∷ after)
  pub lives : is_dead (After T before) ≡ false
  pub dies : is_dead (After T (before ++ (t ∷ []))) ≡ true

-- it is the first that cannot stand
pub dies_there : (T : Table) → Fair T → (ts : List Token) (t : Token) → Dies T ts t → FirstFault T ts t
dies_there T fair ts t d =
    record {
      before = d.before;
      after = d.after;
      parts = d.parts;
      stand = live_begins T fair d.before d.lives;
      fault = dead_none T fair (d.before ++ (t ∷ [])) (dead_is (After T (d.before ++ (t ∷ []))) d.dies);
    }

module _ (T : Table) where
  abbrev Dying : List Token → Type 0
  Dying ts = (t : Token) × Dies T ts t

  find : (before ts : List Token) → is_dead (After T before) ≡ false → is_dead (After T (before ++ ts)) ≡ true → Dying (before ++ ts)
  find before [] l d = absurd (false≢true (sym l ∙ subst (λ (z : List Token). is_dead (After T z) ≡ true) (append-nil before) d))
  find before (t ∷ ts) l d =
      go (is_dead (After T (before ++ (t ∷ [])))) refl
      (λ h. find (before ++ (t ∷ [])) ts h (subst (λ (z : List Token). is_dead (After T z) ≡ true) (sym (append_assoc before (t ∷ []) ts)) d))
    where
      go : (v : Bool) → is_dead (After T (before ++ (t ∷ []))) ≡ v → (is_dead (After T (before ++ (t ∷ []))) ≡ false → Dying ((before ++ (t ∷ [])) ++ ts)) → Dying (before ++ (t ∷ ts))
      go true h later = (t, record { before = before; after = ts; parts = refl; lives = l; dies = h })
      go false h later = let f = later h in (f.0, subst (λ (z : List Token). Dies T z f.0) (append_assoc before (t ∷ []) ts) f.1)

  -- at one of the tokens up to an end mark, where these have no reading: the mark counts as a token
  pub a_death : Fair T → (ts : List Token) (m : Token) → m.kind ≡ End → ((u : Tree) → Reads T (ts ++ (m ∷ [])) u → ⊥) → Dying (ts ++ (m ∷ []))
  unfolding run terminals is_dead Ended see terminal_as
  a_death fair ts m e none_reads = go (is_dead (After T (ts ++ (m ∷ [])))) refl
    where
      behind : After T (ts ++ (m ∷ [])) ≡ step packed (After T ts) (length ts) (seen_stop end_mark)
      behind = further_on T ts (m ∷ []) ∙ ap (λ (k : Kind). step packed (After T ts) (length ts) (see T (terminal_as k m))) e

      go : (v : Bool) → is_dead (After T (ts ++ (m ∷ []))) ≡ v → Dying (ts ++ (m ∷ []))
      go true h = find [] (ts ++ (m ∷ [])) refl h
      go false h =
          let w = end_step packed (After T ts) (length ts) (ap is_dead (sym behind) ∙ h) in
          let r = sound packed T (terminals 0 (ts ++ (m ∷ []))) w.0 fair (behind ∙ w.1) in
          absurd (none_reads r.0 r.1)

pub a_fault : (T : Table) → Fair T → (ts : List Token) (m : Token) → m.kind ≡ End → ((u : Tree) → Reads T (ts ++ (m ∷ [])) u → ⊥) → (t : Token) × FirstFault T (ts ++ (m ∷ [])) t
a_fault T fair ts m e n = let d = a_death T fair ts m e n in (d.0, dies_there T fair (ts ++ (m ∷ [])) d.0 d.1)

-- ---- it is the only such token, and no reading is left

-- a clause that begins with more tokens begins with fewer
shorter : (T : Table) (xs ys : List Token) → NoneBegins T xs → NoneBegins T (xs ++ ys)
shorter T xs ys n further t r = n (ys ++ further) t (subst (λ (z : List Token). Reads T z t) (append_assoc xs ys further) r)

pub no-reading : (T : Table) (ts : List Token) (t : Token) → FirstFault T ts t → (u : Tree) → Reads T ts u → ⊥
no-reading T ts t f u r =
    f.fault f.after u (subst (λ (z : List Token). Reads T z u) (f.parts ∙ sym (append_assoc f.before (t ∷ []) f.after)) r)

-- what stands behind it is no matter
pub other_rest : (T : Table) (ts : List Token) (t : Token) (f : FirstFault T ts t) (after : List Token) → FirstFault T (f.before ++ (t ∷ after)) t
other_rest T ts t f after = record { before = f.before; after = after; parts = refl; stand = f.stand; fault = f.fault }

-- two splits of one list: one front is as long as the other, or shorter by a token at least
data Split (xs : List Token) (x : Token) (ys : List Token) (y : Token) : Type 0 where
  same : xs ≡ ys → x ≡ y → Split xs x ys y
  left : (zs : List Token) → ys ≡ (xs ++ (x ∷ [])) ++ zs → Split xs x ys y
  right : (zs : List Token) → xs ≡ (ys ++ (y ∷ [])) ++ zs → Split xs x ys y

grow : (a : Token) {xs ys : List Token} {x y : Token} → Split xs x ys y → Split (a ∷ xs) x (a ∷ ys) y
grow a (same p q) = same (cc) q
grow a (left zs p) = left zs (cc)
grow a (right zs p) = right zs (cc)

split : (xs ys : List Token) (x y : Token) (us vs : List Token) → xs ++ (x ∷ us) ≡ ys ++ (y ∷ vs) → Split xs x ys y
split [] [] x y us vs e = same refl (cc)
split [] (b ∷ ys) x y us vs e = let h : x ≡ b = cc in left ys (cc)
split (a ∷ xs) [] x y us vs e = let h : a ≡ y = cc in right xs (cc)
split (a ∷ xs) (b ∷ ys) x y us vs e =
    let h : a ≡ b = cc in
    let k : xs ++ (x ∷ us) ≡ ys ++ (y ∷ vs) = cc in
    subst (λ (z : Token). Split (a ∷ xs) x (z ∷ ys) y) h (grow a (split xs ys x y us vs k))

begun-none : (T : Table) (xs ys : List Token) → ((z : ℕ) → Begins T ys z) → NoneBegins T xs → (zs : List Token) → ys ≡ xs ++ zs → ⊥
begun-none T xs ys b n zs e = let w = b 0 in shorter T xs zs n w.further w.tree (subst (λ (z : List Token). Reads T (z ++ w.further) w.tree) e w.reads)

pub one-fault : (T : Table) (ts : List Token) (t u : Token) → FirstFault T ts t → FirstFault T ts u → t ≡ u
one-fault T ts t u f g = go (split f.before g.before t u f.after g.after (sym f.parts ∙ g.parts))
  where
    go : Split f.before t g.before u → t ≡ u
    go (same p q) = q
    go (left zs p) = absurd (begun-none T (f.before ++ (t ∷ [])) g.before g.stand f.fault zs p)
    go (right zs p) = absurd (begun-none T (g.before ++ (u ∷ [])) f.before f.stand g.fault zs p)
