-- The longest line: each token pays its width and five bytes, and the line of a reading is no longer than its tokens pay. Assumes nothing.
use Prim.Native.Nat.{ℕ, zero, suc, ◌+◌, ◌*◌, ◌<◌, ◌≤◌}
use mathlib.Core.Path.{◌≡◌, refl, sym, ap, subst, ◌∙◌}
use mathlib.Core.Bool.{Bool, true, false, cond}
use mathlib.Core.List.{List, [], ◌∷◌}
use native.Mathlib.Omega.{arith}
use lib.ListN.{length, length-append}
use Rattle.lexer.specs.Chars.{open_paren}
use Rattle.lexer.specs.Cursor.{valid, part}
use Rattle.lexer.specs.Token.{is_comma}
use Rattle.lexer.specs.declared.cursor.Cursor.{Cursor}
use Rattle.lexer.specs.declared.refusal.Fault.{Fault}
use Rattle.lexer.proofs.Theorems.{is-valid}
use Rattle.reader.specs.Token.{Token, Terminal, Tok, tok}
use Rattle.reader.specs.Ops.{Table, operators}
use Rattle.reader.specs.Tree.{NodeKind, plain, negative, call, prefix, infx, list, list_tail, curly, empty_list, empty_curly, Tree, node, Forest, nil, ◌◂◌, snoc}
use Rattle.reader.specs.Grammar.{Term, a_number, a_var_or_string, a_name, a_call, a_round, a_list, a_list_tail, a_curly, an_empty_list, an_empty_curly, a_negative, a_prefix, an_infix, Args, one, more, Place, alone, whole, clause, Reads}
use Rattle.reader.specs.Clause as gathered
use Rattle.reader.specs.Clause.{most_tokens, clause_tokens}
use Rattle.reader.specs.Listing.{shape_of, last_separator, front, back, printed, joined, others, quoted_comma, token_at, spelled, line}
use Rattle.reader.specs.LineCall.{longest_line, LineOutcome, invalid, token, no_mark, no_reading, no_room, read, line_to, LineAnswer}
use Rattle.reader.specs.Fault as chains
use Rattle.reader.specs.Fault.{Chain}
use Rattle.reader.proofs.Chains.{begins}
use Rattle.reader.proofs.Indexes.{Run, end, next, here, on, below, numbered, apart, term_past, args_past, place-past}
use Rattle.reader.proofs.LineOutcomes.{one_line}
use Rattle.reader.proofs.Puts.{part_length}
use Rattle.reader.proofs.Spans.{gathered_few}
use Rattle.reader.proofs.Terms.{separated, printed_length, others-length}
use Rattle.lexer.specs.declared.refusal.Refused.{Refused}
use Rattle.lexer.specs.Refusal.{refused_at}
use Rattle.std.specs.Prelude.{Ok, Err}

-- the index of the next of n tokens
head : ℕ → List Tok → ℕ
head n [] = n
head n (tok i k ∷ ts) = i

head_run : {n i : ℕ} (ts : List Tok) → Run n i ts → head n ts ≡ i
unfolding head
head_run [] (end e) = sym e
head_run (tok j k ∷ ts) (next e r) = sym e

-- ---- what the tokens before one pay: every word, and for each token three bytes more
record Pays (n : ℕ) (word : ℕ → ℕ → List ℕ) (paid : ℕ → ℕ) : Type 0 where
  single : (i : ℕ) → i < n → paid i + length (word i i) + 3 ≤ paid (i + 1)
  double : (i : ℕ) → i + 1 < n → paid i + length (word i (i + 1)) ≤ paid (i + 1 + 1)

module _ (n : ℕ) (word : ℕ → ℕ → List ℕ) (paid : ℕ → ℕ) (pays : Pays n word paid) where
  -- the first of the tokens pays
  pays_one : {j i : ℕ} {k : Terminal} {ts : List Tok} → Run n j (tok i k ∷ ts) → paid i + length (word i i) + 3 ≤ paid (head n ts)
  pays_one {j} {i} {k} {ts} r =
      let e : head n ts ≡ i + 1 = head_run ts (on r) ∙ ap (λ (m : ℕ). m + 1) (here r) in
      let l : i < n = omega (arith, below (on r), here r) in
      rw e (pays.single i l)

  pays_two : {j i m : ℕ} {k l : Terminal} {ts : List Tok} → Run n j (tok i k ∷ tok m l ∷ ts) → paid i + length (word i (i + 1)) ≤ paid (head n ts)
  pays_two {j} {i} {m} {k} {l} {ts} r =
      let e : head n ts ≡ i + 1 + 1 = head_run ts (on (on r)) ∙ ap (λ (m : ℕ). m + 1 + 1) (here r) in
      let b : i + 1 < n = omega (arith, below (on (on r)), here r) in
      rw e (pays.double i b)

  -- ---- the lengths of lines
  joined-one : (c : ℕ) (t : Tree) → length (joined word c (t ◂ nil)) ≡ length (printed word t)
  unfolding joined others
  joined-one c t = omega (arith, length-append (printed word t) [])

  joined-two : (c : ℕ) (t u : Tree) → length (joined word c (t ◂ u ◂ nil)) ≡ length (printed word t) + length (printed word u) + 1
  unfolding joined others
  joined-two c t u = omega (arith, length-append (printed word t) (others word c (u ◂ nil)), others-length word c u nil)

  others-one : (c : ℕ) (t : Tree) → length (others word c (t ◂ nil)) ≡ length (printed word t) + 1
  unfolding others
  others-one c t = omega (arith, others-length word c t nil)

  others_last : (c : ℕ) (f : Forest) (t : Tree) → length (others word c (snoc f t)) ≡ length (others word c f) + length (printed word t) + 1
  unfolding snoc others
  others_last c nil t = omega (arith, others-one c t)
  others_last c (u ◂ f) t = omega (arith, others-length word c u (snoc f t), others-length word c u f, others_last c f t)

  -- the bytes of a node but its children
  own-short : (k : NodeKind) (i : ℕ) → (k ≡ negative → ⊥) → length (front word (shape_of k) i) + length (back (shape_of k)) ≤ length (word i i) + 2
  unfolding shape_of front back
  own-short plain i h = omega arith
  own-short negative i h = absurd (h refl)
  own-short call i h = omega (arith, length-append (word i i) (open_paren ∷ []))
  own-short prefix i h = omega (arith, length-append (word i i) (open_paren ∷ []))
  own-short infx i h = omega (arith, length-append (word i i) (open_paren ∷ []))
  own-short list i h = omega arith
  own-short list_tail i h = omega arith
  own-short curly i h = omega arith
  own-short empty_list i h = omega arith
  own-short empty_curly i h = omega arith

  -- a node's token pays for them
  node_paid : {j i : ℕ} {c : Terminal} {ts : List Tok} (k : NodeKind) (f : Forest) → (k ≡ negative → ⊥) → Run n j (tok i c ∷ ts)
      → length (printed word (node i k f)) + paid i + 1 ≤ paid (head n ts) + length (joined word (last_separator (shape_of k)) f)
  node_paid {i = i} k f h r = omega (arith, printed_length word i k f, own-short k i h, pays_one r)

  -- with no children, with one, and with several in brackets
  empty_paid : {j i : ℕ} {c : Terminal} {ts : List Tok} (k : NodeKind) → (k ≡ negative → ⊥) → Run n j (tok i c ∷ ts) → length (printed word (node i k nil)) + paid i ≤ paid (head n ts)
  unfolding joined
  empty_paid k h r = omega (arith, node_paid k nil h r)

  single_paid : {j i : ℕ} {c : Terminal} {ts : List Tok} (k : NodeKind) (t : Tree) → (k ≡ negative → ⊥) → Run n j (tok i c ∷ ts)
      → length (printed word (node i k (t ◂ nil))) + paid i ≤ paid (head n ts) + length (printed word t)
  single_paid k t h r = omega (arith, node_paid k (t ◂ nil) h r, joined-one (last_separator (shape_of k)) t)

  several_paid : {j i : ℕ} {c : Terminal} {ts : List Tok} (k : NodeKind) (f : Forest) → (k ≡ negative → ⊥) → Run n j (tok i c ∷ ts)
      → length (printed word (node i k f)) + paid i + 1 ≤ paid (head n ts) + length (others word (last_separator (shape_of k)) f)
  several_paid k f h r = omega (arith, node_paid k f h r, separated word (last_separator (shape_of k)) f)

  negative_paid : {j i m : ℕ} {k l : Terminal} {ts : List Tok} → Run n j (tok i k ∷ tok m l ∷ ts) → length (printed word (node i negative nil)) + paid i ≤ paid (head n ts)
  unfolding shape_of front back joined
  negative_paid {i = i} r = omega (arith, printed_length word i negative nil, pays_two r)

  -- ---- by the grammar
  module _ (small : n ≤ 1024) (T : Table) where
    mutual
      unfolding head

      term_paid : {p : ℕ} {ts rest : List Tok} {t : Tree} → Term T p ts rest t → (j : ℕ) → Run n j ts → length (printed word t) + paid (head n ts) ≤ paid (head n rest)
      term_paid a_number j r = empty_paid plain (apart plain refl) r
      term_paid a_var_or_string j r = empty_paid plain (apart plain refl) r
      term_paid (a_name h) j r = empty_paid plain (apart plain refl) r
      term_paid (a_call {f = f} w) j r =
          omega (arith, several_paid call f (apart call refl) r, pays_one (on r), args_paid w (last_separator (shape_of call)) _ (on (on r)), pays_one (args_past n small T w _ (on (on r))).run)
      term_paid (a_round w) j r = omega (arith, pays_one r, place_paid w _ (on r), pays_one (place-past n small T w _ (on r)).run)
      term_paid (a_list {f = f} w) j r =
          omega (arith, several_paid list f (apart list refl) r, args_paid w (last_separator (shape_of list)) _ (on r), pays_one (args_past n small T w _ (on r)).run)
      term_paid (a_list_tail {f = f} {g = g} {t = t} w v e) j r =
          let c = last_separator (shape_of list_tail) in
          let q = (args_past n small T w _ (on r)).run in
          omega (arith, several_paid list_tail g (apart list_tail refl) r, ap (λ (h : Forest). length (others word c h)) e, others_last c f t, args_paid w c _ (on r), pays_one q, place_paid v _ (on q), pays_one (place-past n small T v _ (on q)).run)
      term_paid (a_curly {t = t} w) j r =
          omega (arith, single_paid curly t (apart curly refl) r, place_paid w _ (on r), pays_one (place-past n small T w _ (on r)).run)
      term_paid an_empty_list j r = omega (arith, empty_paid empty_list (apart empty_list refl) r, pays_one (on r))
      term_paid an_empty_curly j r = omega (arith, empty_paid empty_curly (apart empty_curly refl) r, pays_one (on r))
      term_paid (a_negative h) j r = negative_paid r
      term_paid (a_prefix {t = t} a b c w d) j r = omega (arith, single_paid prefix t (apart prefix refl) r, term_paid w _ (on r))
      term_paid (an_infix {t = t} {u = u} w a b c v d) j r =
          let q = (term_past n small T w _ r).run in
          omega (arith, term_paid w _ r, node_paid infx (t ◂ u ◂ nil) (apart infx refl) q, joined-two (last_separator (shape_of infx)) t u, term_paid v _ (on q))

      args_paid : {ts rest : List Tok} {f : Forest} → Args T ts rest f → (c j : ℕ) → Run n j ts → length (others word c f) + paid (head n ts) ≤ paid (head n rest) + 1
      args_paid (one {t = t} w) c j r = omega (arith, others-one c t, place_paid w _ r)
      args_paid (more {t = t} {f = f} w v) c j r =
          let q = (place-past n small T w _ r).run in
          omega (arith, others-length word c t f, place_paid w _ r, pays_one q, args_paid v c _ (on q))

      place_paid : {p : ℕ} {ts rest : List Tok} {t : Tree} → Place T p ts rest t → (j : ℕ) → Run n j ts → length (printed word t) + paid (head n ts) ≤ paid (head n rest)
      place_paid (alone h) j r = empty_paid plain (apart plain refl) r
      place_paid (whole w h) j r = term_paid w j r

    last_index : {j i : ℕ} {k : Terminal} → Run n j (tok i k ∷ []) → i + 1 ≡ n
    last_index r = go (here r) (on r)
      where
        go : {j i : ℕ} → j ≡ i → Run n (j + 1) [] → i + 1 ≡ n
        go e (end f) = omega arith

    -- the end mark is not printed
    reads_paid : (ts : List Token) (t : Tree) → length ts ≡ n → Reads T ts t → (i : ℕ) × (i + 1 ≡ n) × (length (printed word t) ≤ paid i)
    unfolding head
    reads_paid ts t l (clause {i = i} w) =
        let r = numbered ts 0 n (omega arith) in
        (i, last_index (place-past n small T w 0 r).run, omega (arith, place_paid w 0 r))

-- ---- the tokens of a clause pay

-- where the token before ends
before : ℕ → List Token → ℕ → ℕ
before from ts zero = from
before from ts (suc i) = (token_at ts i).end

record Lies (n from : ℕ) (t : Token) : Type 0 where
  behind : from ≤ t.start
  ahead : t.start < t.end
  inside : t.end ≤ n

before_on : (from : ℕ) (t : Token) (ts : List Token) (i : ℕ) → before t.end ts i ≡ before from (t ∷ ts) (suc i)
unfolding before
before_on from t ts zero = refl
before_on from t ts (suc i) = refl

lies : (n from : ℕ) (ts : List Token) → Chain n from ts → (i : ℕ) → i < length ts → Lies n (before from ts i) (token_at ts i)
unfolding before
lies n from [] c i l = absurd (omega arith)
lies n from (t ∷ ts) (chains.more a b c) zero l = record { behind = a; ahead = b; inside = begins n c }
lies n from (t ∷ ts) (chains.more a b c) (suc i) l = subst (λ (m : ℕ). Lies n m (token_at ts i)) (before_on from t ts i) (lies n t.end ts c i (omega arith))

spelled-short : (s : List ℕ) (ts : List Token) (i j : ℕ) → (token_at ts i).start < (token_at ts j).end → (token_at ts j).end ≤ length s
    → (token_at ts i).start + length (spelled s ts i j) ≤ (token_at ts j).end + 2
unfolding spelled
spelled-short s ts i j h l = go (is_comma (token_at ts i).kind)
  where
    go : (b : Bool) → (token_at ts i).start + length (cond b quoted_comma (part (token_at ts i).start (token_at ts j).end s)) ≤ (token_at ts j).end + 2
    go true = omega arith
    go false = omega (arith, part_length s (token_at ts i).start (token_at ts j).end l)

module _ (s : List ℕ) (from : ℕ) (ts : List Token) (c : Chain (length s) from ts) where
  paid_to : ℕ → ℕ
  paid_to i = before from ts i + i * 5

  paid_next : (i : ℕ) → paid_to (i + 1) ≡ (token_at ts i).end + i * 5 + 5
  unfolding paid_to before
  paid_next i =
      let e : i + 1 ≡ suc i = omega arith in
      let f : before from ts (i + 1) ≡ (token_at ts i).end = ap (before from ts) e in
      omega arith

  pays_single : (i : ℕ) → i < length ts → paid_to i + length (spelled s ts i i) + 3 ≤ paid_to (i + 1)
  unfolding paid_to
  pays_single i l =
      let x = lies (length s) from ts c i l in
      omega (arith, paid_next i, spelled-short s ts i i x.ahead x.inside, x.behind)

  pays_double : (i : ℕ) → i + 1 < length ts → paid_to i + length (spelled s ts i (i + 1)) ≤ paid_to (i + 1 + 1)
  unfolding paid_to
  pays_double i l =
      let x = lies (length s) from ts c i (omega arith) in
      let y = lies (length s) from ts c (i + 1) l in
      let z = paid_next i in
      let b : (token_at ts i).start < (token_at ts (i + 1)).end = omega (arith, x.ahead, y.behind, y.ahead) in
      omega (arith, paid_next (i + 1), spelled-short s ts i (i + 1) b y.inside, x.behind)

  all_pay : Pays (length ts) (spelled s ts) paid_to
  all_pay = record { single = pays_single; double = pays_double }

  paid_most : (i : ℕ) → i < length ts → paid_to i ≤ length s + i * 5
  unfolding paid_to
  paid_most i l = let x = lies (length s) from ts c i l in omega (arith, x.behind, x.ahead, x.inside)

module _ (s : List ℕ) (c : Cursor) (v : valid (length s) c ≡ true) (ts : List Token) (e : Cursor) (g : clause_tokens s c ≡ gathered.whole ts e) where
  -- no line is longer
  pub line-short : (T : Table) (t : Tree) → Reads T ts t → length (line s ts t) ≤ longest_line
  line-short T t q =
      let f = gathered_few most_tokens s c ts e v g in
      let p = reads_paid (length ts) (spelled s ts) (paid_to s c.offset ts f.chain) (all_pay s c.offset ts f.chain) f.few T ts t refl q in
      omega (arith, p.2, p.1, paid_most s c.offset ts f.chain p.0 (omega (arith, p.1)), f.few, (is-valid (length s) c v).short)

  -- with a slice of so many bytes a clause that has a reading is read
  pub read_whole : (t : Tree) → Reads operators ts t → (d : List ℕ) → longest_line ≤ length d → (r : LineAnswer) (x : List ℕ) → LineOutcome s c d r x → r ≡ Ok (line_to (length (line s ts t)) e)
  read_whole t q d l r x o =
      let m : length (line s ts t) ≤ length d = omega (arith, line-short operators t q) in
      (one_line s c d o (read v g q m)).0

-- with such a slice a refusal is not for room: it is the refusal whatever the slice
module _ (s : List ℕ) (c : Cursor) (d : List ℕ) (l : longest_line ≤ length d) (w : Fault) (k : Cursor) (d' : List ℕ) where
  carry : (u : Fault) → ◌≡◌ {A = LineAnswer} (Err (refused_at u c)) (Err (refused_at w k)) → LineOutcome s c d' (Err (refused_at u c)) d' → LineOutcome s c d' (Err (refused_at w c)) d'
  carry u h o = let m : refused_at u c ≡ refused_at w k = cc in let e : u ≡ w = ap (λ (z : Refused). z.fault) m in subst (λ (f : Fault). LineOutcome s c d' (Err (refused_at f c)) d') e o

  pub refused_anyway : (r : LineAnswer) (x : List ℕ) → LineOutcome s c d r x → r ≡ Err (refused_at w k) → LineOutcome s c d' (Err (refused_at w c)) d'
  refused_anyway r x (invalid v) h = carry _ h (invalid v)
  refused_anyway r x (token v g) h = carry _ h (token v g)
  refused_anyway r x (no_mark v g) h = carry _ h (no_mark v g)
  refused_anyway r x (no_reading v g q f) h = carry _ h (no_reading v g q f)
  refused_anyway r x (no_room {ts} {e} {t} v g q m) h = absurd (omega (arith, line-short s c v ts e g operators t q))
  refused_anyway r x (read v g q m) h = let z : ◌≡◌ {A = ℕ} 0 1 = cc in absurd (omega arith)
