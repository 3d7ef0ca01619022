-- What is proved of the grammar, for every admitted table, of the clause call and of its line; last, what speaks of the machine. Statements only: each
-- cites its proof. Assumes nothing.
use Prim.Native.Nat.{ℕ, ◌+◌, ◌*◌, ◌/◌, ◌%◌, ◌≤◌, ◌<◌}
use mathlib.Core.Path.{◌≡◌}
use mathlib.Core.Bool.{true}
use mathlib.Core.Logic.{◌⊎◌, ◌↔◌}
use mathlib.Core.Option.{some}
use mathlib.Core.List.{List, [], ◌∷◌, ◌++◌}
use lib.ListN.{length, get_or}
use lib.Seq.{sets}
use Rattle.lexer.specs.Cursor.{part, valid}
use Rattle.lexer.specs.Digits.{largest_magnitude}
use Rattle.lexer.specs.Refusal.{fault, refused_at}
use Rattle.lexer.specs.declared.cursor.Cursor.{Cursor}
use Rattle.lexer.specs.declared.refusal.Fault.{Fault}
use Rattle.lexer.specs.declared.refusal.Refusal.TheVariants.{BadQuoted, NoReading}
use Rattle.lexer.proofs.Theorems.{blanked}
use Rattle.reader.specs.Token.{Integer, End, Number, Token, is_lowest, Tok, same_text}
use Rattle.reader.specs.Ops.{Table, operators}
use Rattle.reader.specs.Admitted.{admits}
use Rattle.reader.specs.Tree.{NodeKind, negative, kind_number, Tree, packed, numbers, Has}
use Rattle.reader.specs.Grammar.{Clause, Reads}
use Rattle.reader.specs.Fault.{Chain, FirstFault}
use Rattle.reader.specs.Cover.{between, all_bytes}
use Rattle.reader.specs.Machine.{Out, done, run, start, answer, Numbered}
use Rattle.reader.specs.Clause.{most_tokens, Gathered, whole, stopped, with, clause_tokens, first_offset, Outcome, read_to, ClauseAnswer}
use Rattle.reader.specs.Listing.{Within, kind_of, token_at, line, Source}
use Rattle.reader.specs.LineCall.{longest_line, LineOutcome, ReadTree, Spans, line_to, LineAnswer}
use Rattle.reader.proofs.LineFits.{line-short, read_whole, refused_anyway}
use Rattle.reader.proofs.LineOutcomes.{some-line, one_line}
use Rattle.reader.proofs.Outcomes.{some_outcome, one_outcome}
use Rattle.reader.proofs.Permits.{never_no_reading, always_no_reading, read_tree, room_reads, behind_clause, behind-line, read_covers, fits_line}
use Rattle.reader.proofs.Returns.{tokens_alike, outcome_alike}
use Rattle.reader.proofs.Indexes.{reads_within}
use Rattle.reader.proofs.Lowest.{reads_negated, reads_bare, plain_below}
use Rattle.reader.proofs.Terms.{packed-both, packed_kind}
use Rattle.reader.proofs.TreeRoom.{few_numbers, first_behind, first_inside, chained, fault-within, tree_within, first_span, spans_part, spans_source, read-front, refused_always, refused-back}
use Rattle.reader.proofs.Spans.{tail, gathered_few}
use Rattle.reader.proofs.Table.{same_exactly, fair, operators-admitted}
use Rattle.reader.proofs.Answer.{answer_complete, answer-sound, one_tree, reads?, tree_small}
use Rattle.reader.proofs.Specimens.{Holds, All, table, specimens}
use Rattle.reader.proofs.LineSpecimens as Lines
use Rattle.reader.proofs.Viable.{a_fault, one-fault, no-reading, other_rest}
use Rattle.reader.proofs.Size.{frames_in, nodes_in, words_fit, places_fit, nodes_fit}
use Rattle.std.specs.Prelude.{Ok, Err}

-- ---- the grammar
module _ (T : Table) (admitted : admits T ≡ true) where
  -- Unambiguity: no clause has two readings.
  pub unambiguity : {ts : List Tok} {t u : Tree} → Clause T ts t → Clause T ts u → t ≡ u
  unambiguity = one_tree T (fair T admitted)

  -- Decidability: there is a reading, or there is none.
  pub decidability : (ts : List Tok) → ((t : Tree) × Clause T ts t) ⊎ ((t : Tree) → Clause T ts t → ⊥)
  decidability = reads? T (fair T admitted)

  -- Size: a tree has two numbers a node and fewer nodes than its clause has tokens, so of 1,024 tokens at most 1,023.
  pub size_tree : {ts : List Tok} {t : Tree} → Clause T ts t → length (numbers t) + 2 ≤ 2 * length ts
  size_tree = tree_small T (fair T admitted)

  -- The first token that cannot stand (02, request 12), from the grammar alone: tokens with an end mark that have no reading have one,
  pub fault_there : (ts : List Token) (m : Token) → m.kind ≡ End → ((u : Tree) → Reads T (ts ++ (m ∷ [])) u → ⊥) → (t : Token) × FirstFault T (ts ++ (m ∷ [])) t
  fault_there = a_fault T (fair T admitted)

  -- none have two,
  pub fault_coincides : {ts : List Token} {t u : Token} → FirstFault T ts t → FirstFault T ts u → t ≡ u
  fault_coincides {ts} {t} {u} = one-fault T ts t u

  -- tokens that have one have no reading,
  pub fault_refuses : {ts : List Token} {t : Token} {u : Tree} → FirstFault T ts t → Reads T ts u → ⊥
  fault_refuses {ts} {t} {u} f = no-reading T ts t f u

  -- and it is the same whatever stands behind it.
  pub fault_stays : {ts : List Token} {t : Token} (f : FirstFault T ts t) (after : List Token) → FirstFault T (f.before ++ (t ∷ after)) t
  fault_stays {ts} {t} = other_rest T ts t

-- Arity, for any table: in a reading of at most 1,024 tokens every node stands at one of them and has an arity below 1,024.
pub arity_tree : (T : Table) (ts : List Token) (t : Tree) → length ts ≤ most_tokens → Reads T ts t → Within (length ts) t
arity_tree = reads_within

-- So a node's second number names its kind and its arity.
pub kind_and_arity : (k : NodeKind) (a : ℕ) → a < 1024 → (kind_of (packed k a / 1024) ≡ k) × (packed k a % 1024 ≡ a)
kind_and_arity = packed-both

pub kind-number : (k : NodeKind) (a : ℕ) → a < 1024 → packed k a / 1024 ≡ kind_number k
kind-number = packed_kind

-- 02, request 4: "that one value stands only as the second half of a negative number". In tokens that read, for any table, the token before a number of
-- the lowest integer's magnitude has the node of a negative number,
pub lowest_negated : (T : Table) (ts : List Token) (t : Tree) → Reads T ts t → (j : ℕ) → (token_at ts j).kind ≡ Number → is_lowest (token_at ts j).value ≡ true
    → (i : ℕ) × (i + 1 ≡ j) × Has i negative t
lowest_negated = reads_negated

-- and no node stands at the number itself.
pub lowest_bare : (T : Table) (ts : List Token) (t : Tree) → Reads T ts t → (j : ℕ) → (token_at ts j).kind ≡ Number → is_lowest (token_at ts j).value ≡ true
    → (k : NodeKind) → Has j k t → ⊥
lowest_bare = reads_bare

-- So in a clause every integer at which a node stands is below that magnitude.
pub plain_integers : (s : List ℕ) (c : Cursor) (ts : List Token) (e : Cursor) → valid (length s) c ≡ true → clause_tokens s c ≡ whole ts e
    → (T : Table) (t : Tree) → Reads T ts t → (j : ℕ) (k : NodeKind) → Has j k t
    → (n : ℕ) → (token_at ts j).kind ≡ Number → (token_at ts j).value ≡ Integer n → n < largest_magnitude
plain_integers s c ts e v g = plain_below ts (gathered_few most_tokens s c ts e v g).limited

-- ---- the clause call and its line: the text, the cursor, the slice that is written
module _ (s : List ℕ) (c : Cursor) (d : List ℕ) where
  -- One answer and one content of the tree slice are permitted: there is one,
  pub an_outcome : (r : ClauseAnswer) × (x : List ℕ) × Outcome s c d r x
  an_outcome = some_outcome s c d

  -- and two that are permitted coincide.
  pub clause_coincides : {r r' : ClauseAnswer} {x x' : List ℕ} → Outcome s c d r x → Outcome s c d r' x' → (r ≡ r') × (x ≡ x')
  clause_coincides = one_outcome s c d

  -- The same of the call that lists a clause: there is one,
  pub a_line : (r : LineAnswer) × (x : List ℕ) × LineOutcome s c d r x
  a_line = some-line s c d

  -- and two coincide.
  pub line_coincides : {r r' : LineAnswer} {x x' : List ℕ} → LineOutcome s c d r x → LineOutcome s c d r' x' → (r ≡ r') × (x ≡ x')
  line_coincides = one_line s c d

  -- A clause that has a reading t:
  module _ (ts : List Token) (e : Cursor) (t : Tree) (gathered : clause_tokens s c ≡ whole ts e) (reading : Reads operators ts t) where
    -- it is never refused with 11;
    pub never_11 : {w : Fault} {b : Cursor} {x : List ℕ} → Outcome s c d (Err (refused_at w b)) x → w.refusal ≡ NoReading → ⊥
    never_11 = never_no_reading s c d ts e t gathered reading

    -- what is read of it is t: the node count, the cursor after the mark, the numbers in the slice;
    pub count-is_the_trees : {n : ℕ} {b : Cursor} {x : List ℕ} → Outcome s c d (Ok (read_to n b)) x → (2 * n ≡ length (numbers t)) × (b ≡ e) × (x ≡ sets d 0 (numbers t))
    count-is_the_trees = read_tree s c d ts e t gathered reading

    -- and from a valid cursor, with room for its numbers, it is read.
    pub room_suffices : valid (length s) c ≡ true → length (numbers t) ≤ length d → {r : ClauseAnswer} {x : List ℕ} → Outcome s c d r x → (n : ℕ) × (r ≡ Ok (read_to n e))
    room_suffices = room_reads s c d ts e t gathered reading

  -- From a valid cursor a clause that has no reading is refused with 11, at the first token that cannot stand.
  pub always_11 : (ts : List Token) (e : Cursor) → valid (length s) c ≡ true → clause_tokens s c ≡ whole ts e → ((t : Tree) → Reads operators ts t → ⊥)
      → {r : ClauseAnswer} {x : List ℕ} → Outcome s c d r x → (t : Token) × FirstFault operators ts t × (r ≡ Err (refused_at (fault NoReading t.start) c)) × (x ≡ d)
  always_11 = always_no_reading s c d

  -- The next cursor, behind a clause that was read, is valid, further on, and within the text;
  pub next_cursor : {n : ℕ} {e : Cursor} {x : List ℕ} → Outcome s c d (Ok (read_to n e)) x → (valid (length s) e ≡ true) × (c.offset < e.offset) × (e.offset ≤ length s)
  next_cursor = behind_clause s c d

  -- so it is behind a line.
  pub next-line_cursor : {n : ℕ} {e : Cursor} {x : List ℕ} → LineOutcome s c d (Ok (line_to n e)) x → (valid (length s) e ≡ true) × (c.offset < e.offset) × (e.offset ≤ length s)
  next-line_cursor = behind-line s c d

  -- A line that was read fits its slice.
  pub line-inside : {n : ℕ} {e : Cursor} {x : List ℕ} → LineOutcome s c d (Ok (line_to n e)) x → n ≤ length d
  line-inside = fits_line s c d

-- No line is longer than longest_line bytes, whatever the table; so with a slice of as many a clause that has a reading is read, and never refused for room.
module _ (s : List ℕ) (c : Cursor) (v : valid (length s) c ≡ true) (ts : List Token) (e : Cursor) (g : clause_tokens s c ≡ whole ts e) where
  pub line-fits : (T : Table) (t : Tree) → Reads T ts t → length (line s ts t) ≤ longest_line
  line-fits = line-short s c v ts e g

  pub line_read : (t : Tree) → Reads operators ts t → (d : List ℕ) → longest_line ≤ length d → (r : LineAnswer) (x : List ℕ) → LineOutcome s c d r x
      → r ≡ Ok (line_to (length (line s ts t)) e)
  line_read = read_whole s c v ts e g

-- A refusal with such a slice is the refusal whatever the slice.
pub line_refused : (s : List ℕ) (c : Cursor) (d : List ℕ) → longest_line ≤ length d → (w : Fault) (k : Cursor) (d' : List ℕ) (r : LineAnswer) (x : List ℕ) → LineOutcome s c d r x
    → r ≡ Err (refused_at w k) → LineOutcome s c d' (Err (refused_at w c)) d'
line_refused = refused_anyway

-- ---- what calls above the clause call go by (the line, the pack)

-- A clause's tokens, taken apart.
pub tokens_apart : (t : Token) (ts : List Token) (e : Cursor) (g : Gathered) → with t g ≡ whole ts e → (us : List Token) × (ts ≡ t ∷ us) × (g ≡ whole us e)
tokens_apart = tail

module _ (s : List ℕ) (c : Cursor) where
  -- A tree slice of 2,046 numbers always serves: with it a refusal is not for room, and stands whatever the slice;
  pub clause_refused : (d : List ℕ) → 2 * most_tokens ≤ length d + 2 → (w : Fault) (k : Cursor) (a : ClauseAnswer) (x : List ℕ) → Outcome s c d a x → a ≡ Err (refused_at w k)
      → (y : List ℕ) → Outcome s c y (Err (refused_at w c)) y
  clause_refused = refused_always s c

  -- whatever the slice, a refusal gives the cursor back,
  pub clause_back : (d : List ℕ) {w : Fault} {k : Cursor} {x : List ℕ} → Outcome s c d (Err (refused_at w k)) x → k ≡ c
  clause_back = refused-back s c

  -- and what was read stands in front.
  pub clause_front : (d : List ℕ) (a : ClauseAnswer) (x : List ℕ) (nodes : ℕ) (e : Cursor) → Outcome s c d a x → a ≡ Ok (read_to nodes e) → ReadTree s c x nodes e
  clause_front = read-front s c

  module _ (ts : List Token) (e : Cursor) (v : valid (length s) c ≡ true) (g : clause_tokens s c ≡ whole ts e) where
    -- Every node of a clause's tree stands at one of its tokens, and there are fewer nodes than tokens may be.
    pub clause_within : (t : Tree) → Reads operators ts t → Within (length ts) t
    clause_within = tree_within s c ts e v g

    pub clause_numbers : (t : Tree) → Reads operators ts t → length (numbers t) + 2 ≤ 2 * most_tokens
    clause_numbers = few_numbers s c ts e v g

    -- A clause's tokens stand in the text from the cursor on,
    pub clause_chain : Chain (length s) c.offset ts
    clause_chain = chained s c ts e v g

    -- and among them the first that cannot stand, whatever the table: so there is a byte to point at.
    pub fault-inside : (T : Table) (t : Token) → FirstFault T ts t → (c.offset ≤ t.start) × (t.start < length s)
    fault-inside = fault-within s c ts e v g

    -- A clause's first token starts at the cursor or behind it, within the text.
    pub clause_starts : (c.offset ≤ first_offset s c) × (first_offset s c < length s)
    clause_starts = (first_behind s c ts e v g, first_inside s c ts e v g)

    -- The spans that `span_tokens` leaves are the tokens', the first one first, one behind the other and within the text.
    module _ (starts ends : List ℕ) (spans : Spans s c starts ends) where
      pub span_first : get_or starts 0 0 ≡ first_offset s c
      span_first = first_span s c ts e v g starts ends spans

      pub span_part : (i j : ℕ) → i ≤ j → j < length ts → part (get_or starts i 0) (get_or ends j 0) s ≡ part (token_at ts i).start (token_at ts j).end s
      span_part = spans_part s c ts e v g starts ends spans

      pub span_source : most_tokens ≤ length starts → most_tokens ≤ length ends → Source s starts ends (length ts)
      span_source = spans_source s c ts e v g starts ends spans

-- ---- 02, request 1: "byte 13 becomes layout"

-- The tokens of a clause are the same with a blank for each carriage return, unless one is refused by 4.
pub returns_gathered : (s : List ℕ) (c : Cursor) → (clause_tokens (blanked s) c ≡ clause_tokens s c) ⊎ ((o : ℕ) × (clause_tokens s c ≡ stopped (fault BadQuoted o)))
returns_gathered = tokens_alike

-- So the clause call may answer for the one text what it may answer for the other, and leave the same in the tree slice.
pub returns_clause : {s d x : List ℕ} {c : Cursor} {a : ClauseAnswer} → Outcome s c d a x → (Outcome (blanked s) c d a x) ⊎ ((o : ℕ) × (a ≡ Err (refused_at (fault BadQuoted o) c)))
returns_clause {s} {c = c} = outcome_alike s c

-- ---- 02, request 8: "the records of a clause then cover the bytes from the clause's cursor to the new one, each byte once"

-- So do those of every clause that has its end mark, be it read or refused by 9 or 11. Both sides are in order: no record reaches into another.
pub clause_covered : (s : List ℕ) (c : Cursor) (ts : List Token) (e : Cursor) → valid (length s) c ≡ true → clause_tokens s c ≡ whole ts e
    → all_bytes ts ≡ between c.offset e.offset
clause_covered s c ts e v g = (gathered_few most_tokens s c ts e v g).covers

-- A clause that the clause call read is one of them, and the new cursor is the call's.
pub read_covered : (s : List ℕ) (c : Cursor) (d : List ℕ) {n : ℕ} {e : Cursor} {x : List ℕ} → Outcome s c d (Ok (read_to n e)) x
    → (ts : List Token) × (clause_tokens s c ≡ whole ts e) × (all_bytes ts ≡ between c.offset e.offset)
read_covered = read_covers

-- ---- names, the table, specimens

-- Two names are the same exactly if their texts are.
pub names_by_text : (x y : List ℕ) → (same_text x y ≡ true) ↔ (x ≡ y)
names_by_text = same_exactly

-- Document 01's table is admitted.
pub table-admitted : admits operators ≡ true
table-admitted = operators-admitted

-- Document 01's clause specimens, from their bytes, under its table, with the first token that cannot stand where there is no reading.
pub document_01 : All Holds table
document_01 = specimens

-- Its listing, and one line of each kind.
pub document_01_lines : All Lines.Holds Lines.table
document_01_lines = Lines.lines

-- ---- what speaks of the machine
module _ (T : Table) (admitted : admits T ≡ true) where
  -- Completeness: a reading makes the machine accept with that reading's numbers.
  pub completeness : {ts : List Tok} {t : Tree} → Clause T ts t → answer (run packed T start ts) ≡ some (numbers t)
  completeness = answer_complete T (fair T admitted)

  -- Soundness: what the machine accepts has a reading with those numbers.
  pub soundness : (ts : List Tok) (ns : List ℕ) → answer (run packed T start ts) ≡ some ns → (t : Tree) × Clause T ts t × (numbers t ≡ ns)
  soundness = answer-sound T (fair T admitted)

-- Size, for any table. The 1,024th token is the end mark, or the clause is refused, so arrays of 1,024 serve.
module _ (T : Table) (ts : List Tok) where
  -- After n tokens frames and nodes take n + 1 words at most,
  pub size_words : length (frames_in (run packed T start ts)) + length (nodes_in (run packed T start ts)) ≤ length ts + 1
  size_words = words_fit packed T ts

  -- no frame has a greater place number,
  pub size_places : Numbered (length ts + 1) (frames_in (run packed T start ts))
  size_places = places_fit packed T ts

  -- and behind a clause there are fewer nodes than tokens.
  pub size-nodes : (out : Out) → run packed T start ts ≡ done out → length out < length ts
  size-nodes = nodes_fit packed T ts
