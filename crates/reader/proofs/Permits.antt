-- What the outcomes come to: of a clause that has a reading no answer but the tree, 9 or 8, and of one that has none 11 at the first token that cannot stand;
-- and an answer that was read stands further on. Assumes nothing.
use Prim.Native.Nat.{ℕ, ◌*◌, ◌<◌, ◌≤◌}
use mathlib.Core.Path.{◌≡◌, ◌∙◌, ap, subst}
use mathlib.Core.Bool.{true}
use mathlib.Core.List.{List}
use native.Mathlib.Omega.{arith}
use lib.ListN.{length}
use lib.Seq.{sets}
use Rattle.lexer.specs.Cursor.{valid}
use Rattle.lexer.specs.Refusal.{fault, refused_at}
use Rattle.lexer.specs.declared.cursor.Cursor.{Cursor}
use Rattle.lexer.specs.declared.refusal.Fault.{Fault}
use Rattle.lexer.specs.declared.refusal.Refusal.TheVariants.{NoReading}
use Rattle.reader.specs.Token.{Token}
use Rattle.reader.specs.Ops.{operators}
use Rattle.reader.specs.Tree.{Tree, numbers}
use Rattle.reader.specs.Grammar.{Reads}
use Rattle.reader.specs.Fault.{FirstFault}
use Rattle.reader.specs.Cover.{between, all_bytes}
use Rattle.reader.specs.Clause.{most_tokens, whole, clause_tokens, Outcome, invalid, token, no_mark, no_reading, no_room, read, read_to, ClauseAnswer}
use Rattle.reader.specs.LineCall as Line
use Rattle.reader.specs.LineCall.{LineOutcome, line_to}
use Rattle.reader.proofs.Answer.{one_tree}
use Rattle.reader.proofs.Faults.{first_fault}
use Rattle.reader.proofs.Outcomes.{one_outcome}
use Rattle.reader.proofs.Spans.{gathered_few}
use Rattle.reader.proofs.Table.{fair, operators-admitted}
use Rattle.std.specs.Prelude.{Ok, Err}

module _ (s : List ℕ) (c : Cursor) (d : List ℕ) where
  -- ---- a clause that has a reading
  module _ (ts : List Token) (e : Cursor) (t : Tree) (gathered : clause_tokens s c ≡ whole ts e) (reading : Reads operators ts t) where
    -- however its tokens were gathered, that is their reading, and the only one
    its_reading : {us : List Token} {k : Cursor} → clause_tokens s c ≡ whole us k → Reads operators us t
    its_reading {us} g = let q : ts ≡ us = cc in subst (λ (z : List Token). Reads operators z t) q reading

    its_tree : {us : List Token} {k : Cursor} (u : Tree) → clause_tokens s c ≡ whole us k → Reads operators us u → u ≡ t
    its_tree u g r = one_tree operators (fair operators operators-admitted) r (its_reading g)

    -- 11 is not permitted
    pub never_no_reading : {w : Fault} {b : Cursor} {x : List ℕ} → Outcome s c d (Err (refused_at w b)) x → w.refusal ≡ NoReading → ⊥
    never_no_reading (invalid v) h = let z : ◌≡◌ {A = ℕ} 0 1 = cc in omega arith
    never_no_reading (token v g) h = let z : ◌≡◌ {A = ℕ} 0 1 = cc in omega arith
    never_no_reading (no_mark v g) h = let z : ◌≡◌ {A = ℕ} 0 1 = cc in omega arith
    never_no_reading (no_reading v g n f) h = n t (its_reading g)
    never_no_reading (no_room v g r l) h = let z : ◌≡◌ {A = ℕ} 0 1 = cc in omega arith

    -- what is read is the tree
    pub read_tree : {n : ℕ} {b : Cursor} {x : List ℕ} → Outcome s c d (Ok (read_to n b)) x → (2 * n ≡ length (numbers t)) × (b ≡ e) × (x ≡ sets d 0 (numbers t))
    read_tree (read {t = u} v g r m l) = let q = its_tree u g r in (m ∙ ap (λ (z : Tree). length (numbers z)) q, cc, ap (λ (z : Tree). sets d 0 (numbers z)) q)

    -- with room for it nothing else is permitted
    pub room_reads : valid (length s) c ≡ true → length (numbers t) ≤ length d → {r : ClauseAnswer} {x : List ℕ} → Outcome s c d r x → (n : ℕ) × (r ≡ Ok (read_to n e))
    room_reads p h (invalid v) = let z : ◌≡◌ {A = ℕ} 0 1 = cc in absurd (omega arith)
    room_reads p h (token v g) = let z : ◌≡◌ {A = ℕ} 0 1 = cc in absurd (omega arith)
    room_reads p h (no_mark v g) = let z : ◌≡◌ {A = ℕ} 0 1 = cc in absurd (omega arith)
    room_reads p h (no_reading v g n f) = absurd (n t (its_reading g))
    room_reads p h (no_room {t = u} v g r l) = let q = ap (λ (z : Tree). length (numbers z)) (its_tree u g r) in absurd (omega arith)
    room_reads p h (read {n = n} v g r m l) = (n, cc)

  -- ---- a clause that has none
  module _ (ts : List Token) (e : Cursor) (v : valid (length s) c ≡ true) (gathered : clause_tokens s c ≡ whole ts e) (none_reads : (t : Tree) → Reads operators ts t → ⊥) where
    pub always_no_reading : {r : ClauseAnswer} {x : List ℕ} → Outcome s c d r x → (t : Token) × FirstFault operators ts t × (r ≡ Err (refused_at (fault NoReading t.start) c)) × (x ≡ d)
    always_no_reading o =
        let f = first_fault s c ts e gathered none_reads in
        let p = one_outcome s c d o (no_reading v gathered none_reads f.1) in
        (f.0, f.1, p.0, p.1)

  -- ---- the cursor behind a clause that was read

  -- it is valid, further on, and within the text
  abbrev pub Next : Cursor → Type 0
  Next e = (valid (length s) e ≡ true) × (c.offset < e.offset) × (e.offset ≤ length s)

  behind : (ts : List Token) (e : Cursor) → valid (length s) c ≡ true → clause_tokens s c ≡ whole ts e → Next e
  behind ts e v g = let f = gathered_few most_tokens s c ts e v g in (f.next_passes, f.further, f.inside)

  pub behind_clause : {n : ℕ} {e : Cursor} {x : List ℕ} → Outcome s c d (Ok (read_to n e)) x → Next e
  behind_clause (read {ts} {e} v g r m l) = behind ts e v g

  pub behind-line : {n : ℕ} {e : Cursor} {x : List ℕ} → LineOutcome s c d (Ok (line_to n e)) x → Next e
  behind-line (Line.read {ts} {e} v g r l) = behind ts e v g

  -- the records of its tokens cover the bytes up to there
  pub read_covers : {n : ℕ} {e : Cursor} {x : List ℕ} → Outcome s c d (Ok (read_to n e)) x
      → (ts : List Token) × (clause_tokens s c ≡ whole ts e) × (all_bytes ts ≡ between c.offset e.offset)
  read_covers (read {ts} {e} v g r m l) = (ts, g, (gathered_few most_tokens s c ts e v g).covers)

  -- a line that was read fits
  pub fits_line : {n : ℕ} {e : Cursor} {x : List ℕ} → LineOutcome s c d (Ok (line_to n e)) x → n ≤ length d
  fits_line (Line.read v g r l) = l
