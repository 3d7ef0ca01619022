-- What the clause call may answer is what the machine says: one outcome, permitted by the grammar. Assumes nothing.
use Prim.Native.Nat.{ℕ, ◌*◌}
use mathlib.Core.Path.{◌≡◌, refl, sym, ◌∙◌, ap, subst}
use mathlib.Core.Bool.{Bool, true, false, cond}
use mathlib.Core.Option.{Option, none, some}
use mathlib.Core.List.{List, []}
use native.Mathlib.Omega.{arith}
use borrow.Author.Tests.{le-leb, lt-leb, leb-true, leb-false}
use lib.Dec.{leb}
use lib.ListN.{length}
use lib.Seq.{sets}
use Rattle.lexer.specs.Cursor.{valid}
use Rattle.lexer.specs.Refusal.{fault, refused_at}
use Rattle.lexer.specs.Token.{not_valid}
use Rattle.lexer.specs.declared.cursor.Cursor.{Cursor}
use Rattle.lexer.specs.declared.refusal.Refusal.TheVariants.{NoRoom, NoReading}
use Rattle.reader.specs.Token.{Token, terminals}
use Rattle.reader.specs.Ops.{operators}
use Rattle.reader.specs.Tree.{Tree, packed, numbers}
use Rattle.reader.specs.Grammar.{Reads}
use Rattle.reader.specs.Machine.{Out, State, want, pend, begun, have, dead, done, laid, start}
use Rattle.reader.specs.Clause.{Gathered, whole, stopped, too_many, clause_tokens, Outcome, invalid, token, no_mark, no_reading, no_room, read, ClauseAnswer, read_to}
use Rattle.reader.specs.Gather.{Left, leaves, nodes_of, machine_after, latest_from, came, written, by_nodes, by_tokens, answered, left_by, clause_by}
use Rattle.reader.specs.declared.clause.Failure.{Failure}
use Rattle.reader.proofs.Answer.{laid-length}
use Rattle.reader.proofs.Basics.{push}
use Rattle.reader.proofs.Complete.{complete}
use Rattle.reader.proofs.Sound.{sound}
use Rattle.reader.proofs.Unique.{laid_tree}
use Rattle.reader.proofs.Table.{fair, operators-admitted}
use Rattle.reader.proofs.Viable.{one-fault}
use Rattle.reader.proofs.Faults.{first_fault}
use Rattle.std.specs.Prelude.{Ok, Err}

-- ---- the machine and the grammar
module _ (ts : List Token) where
  reading-nodes : {t : Tree} → Reads operators ts t → nodes_of (machine_after ts) ≡ some (push packed t [])
  unfolding nodes_of
  reading-nodes r = ap nodes_of (complete packed operators (fair operators operators-admitted) r)

  numbers_laid : (t : Tree) → numbers t ≡ laid (push packed t [])
  numbers_laid t = sym (laid_tree t)

  numbers_count : (t : Tree) → length (numbers t) ≡ 2 * length (push packed t [])
  numbers_count t = ap (λ (ns : List ℕ). length ns) (numbers_laid t) ∙ laid-length (push packed t [])

  -- the reading behind nodes
  nodes-reading : (out : Out) → nodes_of (machine_after ts) ≡ some out → (t : Tree) × Reads operators ts t × (push packed t [] ≡ out)
  unfolding nodes_of
  nodes-reading out e = go (machine_after ts) refl e
    where
      go : (z : State) → machine_after ts ≡ z → nodes_of z ≡ some out → (t : Tree) × Reads operators ts t × (push packed t [] ≡ out)
      go (want fs o) q f = let z : ◌≡◌ {A = ℕ} 0 1 = cc in absurd (omega arith)
      go (pend i k m r x fs o) q f = let z : ◌≡◌ {A = ℕ} 0 1 = cc in absurd (omega arith)
      go (begun h i fs o) q f = let z : ◌≡◌ {A = ℕ} 0 1 = cc in absurd (omega arith)
      go (have fs o) q f = let z : ◌≡◌ {A = ℕ} 0 1 = cc in absurd (omega arith)
      go dead q f = let z : ◌≡◌ {A = ℕ} 0 1 = cc in absurd (omega arith)
      go (done o) q f =
          let m : o ≡ out = cc in
          let r = sound packed operators (terminals 0 ts) o (fair operators operators-admitted) q in
          (r.0, r.1, r.2 ∙ m)

  none_left : ((t : Tree) → Reads operators ts t → ⊥) → nodes_of (machine_after ts) ≡ none
  none_left n = go (nodes_of (machine_after ts)) refl
    where
      go : (o : Option Out) → nodes_of (machine_after ts) ≡ o → o ≡ none
      go none q = refl
      go (some out) q = let r = nodes-reading out q in absurd (n r.0 r.1)

module _ (s : List ℕ) (c : Cursor) (d : List ℕ) where
  abbrev Allowed : Left → Type 0
  Allowed (leaves r d') = Outcome s c d r d'

  module _ (v : valid (length s) c ≡ true) where
    module _ (ts : List Token) (e : Cursor) (g : clause_tokens s c ≡ whole ts e) where
      -- ---- the machine's outcome is permitted
      fits : (t : Tree) → Reads operators ts t → (b : Bool) → leb (2 * length (push packed t [])) (length d) ≡ b
          → Allowed (left_by s c (cond b (came (Ok (read_to (length (push packed t [])) e)) (sets d 0 (laid (push packed t [])))) (came (Err (Failure.AtFirst NoRoom)) d)))
      unfolding left_by answered
      fits t r true l =
          let m = numbers_count ts t in
          let h = leb-true (2 * length (push packed t [])) (length d) l in
          rw (sym (numbers_laid ts t)) (read v g r (sym m) (omega arith))
      fits t r false l =
          let m = numbers_count ts t in
          let h = leb-false (2 * length (push packed t [])) (length d) l in
          no_room v g r (omega arith)

      nodes : (o : Option Out) → nodes_of (machine_after ts) ≡ o → Allowed (left_by s c (by_nodes d (latest_from start 0 0 ts) e o))
      unfolding by_nodes written left_by answered
      nodes none q =
          let n : (t : Tree) → Reads operators ts t → ⊥ = λ t r. let p = reading-nodes ts r in let z : ◌≡◌ {A = ℕ} 0 1 = cc in omega arith in
          let f = first_fault s c ts e g n in
          subst (λ (k : ℕ). Outcome s c d (Err (refused_at (fault NoReading k) c)) d) f.2 (no_reading v g n f.1)
      nodes (some out) q =
          let r = nodes-reading ts out q in
          rw (sym r.2) (fits r.0 r.1 (leb (2 * length (push packed r.0 [])) (length d)) refl)

    tokens : (x : Gathered) → clause_tokens s c ≡ x → Allowed (left_by s c (by_tokens d x))
    unfolding by_tokens left_by answered
    tokens (stopped w) g = token v g
    tokens too_many g = no_mark v g
    tokens (whole ts e) g = nodes ts e g (nodes_of (machine_after ts)) refl

  permitted_one : Allowed (clause_by s c d)
  unfolding clause_by
  permitted_one = go (valid (length s) c) refl
    where
      go : (b : Bool) → valid (length s) c ≡ b → Allowed (cond b (left_by s c (by_tokens d (clause_tokens s c))) (leaves (Err (refused_at not_valid c)) d))
      go true v = tokens v (clause_tokens s c) refl
      go false v = invalid v

  -- what the machine says is permitted
  pub permitted : (r : ClauseAnswer) (d' : List ℕ) → leaves r d' ≡ clause_by s c d → Outcome s c d r d'
  permitted r d' e = rw (sym e) at permitted_one

  one_of : (x : Left) → Allowed x → (r : ClauseAnswer) × (d' : List ℕ) × Outcome s c d r d'
  one_of (leaves r d') o = (r, d', o)

  -- there is one
  pub some_outcome : (r : ClauseAnswer) × (d' : List ℕ) × Outcome s c d r d'
  some_outcome = one_of (clause_by s c d) permitted_one

  -- ---- and nothing else is
  pub only : {r : ClauseAnswer} {d' : List ℕ} → Outcome s c d r d' → leaves r d' ≡ clause_by s c d
  unfolding clause_by by_tokens by_nodes written left_by answered
  only (invalid v) = cc
  only (token v g) = cc
  only (no_mark v g) = cc
  only (no_reading {ts} {e} {f} v g n h) =
      let q = none_left ts n in
      let k = first_fault s c ts e g n in
      let w : f ≡ k.0 = one-fault operators ts f k.0 h k.1 in
      cc k.2
  only (no_room {ts} {t = t} v g r l) =
      let q = reading-nodes ts r in
      let m = numbers_count ts t in
      cc (lt-leb (2 * length (push packed t [])) (length d) (omega arith))
  only (read {ts} {t = t} {n = n} v g r m l) =
      let q = reading-nodes ts r in
      let k = numbers_count ts t in
      let h : n ≡ length (push packed t []) = omega arith in
      cc (le-leb (2 * length (push packed t [])) (length d) (omega arith), numbers_laid ts t)

  -- two permitted outcomes coincide
  pub one_outcome : {r r' : ClauseAnswer} {x x' : List ℕ} → Outcome s c d r x → Outcome s c d r' x' → (r ≡ r') × (x ≡ x')
  one_outcome a b = let p = only a in let q = only b in (cc, cc)
