-- The line of a clause, from its text: 01, "standard input to one line a clause". Definitions only.
use Rattle.std.specs.Prelude.{ℕ, ◌+◌, ◌-◌, ◌*◌, ◌<◌, ◌≤◌, ◌≡◌, true, false, List, map, length, take, Result, Ok, Err}
use Rattle.std.proofs.lemmas.List.Edits.{sets}
use Rattle.lexer.specs.Cursor.{valid, longest}
use Rattle.lexer.specs.Refusal.{fault, refused_at}
use Rattle.lexer.specs.Token.{not_valid}
use Rattle.lexer.specs.declared.cursor.Cursor.{Cursor}
use Rattle.lexer.specs.declared.refusal.Fault.{Fault}
use Rattle.lexer.specs.declared.refusal.Refusal.TheVariants.{NoRoom, TooManyTokens, NoReading}
use Rattle.reader.specs.Token.{Token}
use Rattle.reader.specs.Ops.{operators}
use Rattle.reader.specs.Tree.{Tree, numbers}
use Rattle.reader.specs.Grammar.{Reads}
use Rattle.reader.specs.Fault.{FirstFault}
use Rattle.reader.specs.Clause.{most_tokens, whole, stopped, too_many, clause_tokens, first_offset}
use Rattle.reader.specs.Listing.{line}
use Rattle.reader.specs.declared.line_call.LineRead.{LineRead}
use Rattle.lexer.specs.declared.refusal.Refused.{Refused}

-- no line is longer (proofs/Theorems: `line-fits`): a token pays for its own bytes and five more, and the end mark is not printed
abbrev pub longest_line : ℕ
longest_line = longest + 5 * (most_tokens - 1)

-- so many bytes of the line, and the cursor behind the clause
abbrev pub line_to : ℕ → Cursor → LineRead
line_to n e = record { length = n; next = e }

-- what the line call answers
abbrev pub LineAnswer : Type 0
LineAnswer = Result LineRead Refused

-- what the call may answer, and leave in the slice d: refused as the clause call refuses, or the line. Two that are permitted coincide (proofs/Theorems)
pub data LineOutcome (s : List ℕ) (c : Cursor) (d : List ℕ) : LineAnswer → List ℕ → Type 0 where
  -- 8
  invalid : valid (length s) c ≡ false → LineOutcome s c d (Err (refused_at not_valid c)) d
  -- 1 to 7, as the token call gives them
  token : {w : Fault} → valid (length s) c ≡ true → clause_tokens s c ≡ stopped w → LineOutcome s c d (Err (refused_at w c)) d
  -- 10
  no_mark : valid (length s) c ≡ true → clause_tokens s c ≡ too_many → LineOutcome s c d (Err (refused_at (fault TooManyTokens (first_offset s c)) c)) d
  -- 11: the grammar has no reading, and f is the first token that cannot stand
  no_reading : {ts : List Token} {e : Cursor} {f : Token} → valid (length s) c ≡ true → clause_tokens s c ≡ whole ts e → ((t : Tree) → Reads operators ts t → ⊥) →
      FirstFault operators ts f → LineOutcome s c d (Err (refused_at (fault NoReading f.start) c)) d
  -- 9: the slice is shorter than the line
  no_room : {ts : List Token} {e : Cursor} {t : Tree} → valid (length s) c ≡ true → clause_tokens s c ≡ whole ts e → Reads operators ts t →
      length d < length (line s ts t) → LineOutcome s c d (Err (refused_at (fault NoRoom (first_offset s c)) c)) d
  -- the reading's line, its length and the cursor after the mark
  read : {ts : List Token} {e : Cursor} {t : Tree} → valid (length s) c ≡ true → clause_tokens s c ≡ whole ts e → Reads operators ts t →
      length (line s ts t) ≤ length d → LineOutcome s c d (Ok (line_to (length (line s ts t)) e)) (sets d 0 (line s ts t))

-- ---- what the private functions ask and promise

-- the clause at c was read: its tree's numbers stand in front, and e is the cursor after its mark
pub record ReadTree (s : List ℕ) (c : Cursor) (numbered : List ℕ) (nodes : ℕ) (e : Cursor) : Type 0 where
  pub valid_cursor : valid (length s) c ≡ true
  pub tokens : List Token
  pub gathered : clause_tokens s c ≡ whole tokens e
  pub tree : Tree
  pub reads : Reads operators tokens tree
  pub inside : nodes * 2 ≤ length numbered
  pub same : take (nodes * 2) numbered ≡ numbers tree

-- room for the spans of as many tokens as a clause may have
pub record Spanning (s : List ℕ) (c : Cursor) (starts ends : List ℕ) : Type 0 where
  pub valid_cursor : valid (length s) c ≡ true
  pub started : length starts ≡ most_tokens
  pub ended : length ends ≡ most_tokens

-- the spans in front are the tokens'
pub record Fronts (ts : List Token) (starts ends : List ℕ) : Type 0 where
  pub starts_same : take (length ts) starts ≡ map (λ (k : Token). k.start) ts
  pub ends_same : take (length ts) ends ≡ map (λ (k : Token). k.end) ts

-- where the text from c on has a clause's tokens, their spans stand in front
pub record Spans (s : List ℕ) (c : Cursor) (starts ends : List ℕ) : Type 0 where
  pub fronts : (ts : List Token) (e : Cursor) → clause_tokens s c ≡ whole ts e → Fronts ts starts ends
