-- The clause call: tokens up to an end mark, then the reading's tree. 01, "What is built" and "Refusal numbers". Definitions only.
use Rattle.std.specs.Prelude.{ℕ, zero, suc, ◌*◌, ◌<◌, ◌≤◌, ◌≡◌, Bool, true, false, cond, List, [], ◌∷◌, length, Result, Ok, Err}
use Rattle.std.proofs.lemmas.List.Edits.{sets}
use Rattle.lexer.specs.Cursor.{part, move_to, valid}
use Rattle.lexer.specs.Refusal.{fault, refused_at}
use Rattle.lexer.specs.Token.{Text, source, decoded, none, Lexeme, lexeme, refused, read_lexeme, not_valid}
use Rattle.lexer.specs.declared.cursor.Cursor.{Cursor}
use Rattle.lexer.specs.declared.refusal.Fault.{Fault}
use Rattle.lexer.specs.declared.refusal.Refusal.TheVariants.{NoRoom, TooManyTokens, NoReading}
use Rattle.lexer.specs.declared.token.Token as lexer
use Rattle.lexer.specs.declared.token.Source.TheVariants.{File}
use Rattle.reader.specs.Token.{Kind, Name, Variable, String, Number, Open, OpenCT, Close, OpenList, CloseList, OpenCurly, CloseCurly, HeadTailSeparator, DoubleBar, Comma, End, Token}
use Rattle.reader.specs.Ops.{operators}
use Rattle.reader.specs.Tree.{Tree, numbers}
use Rattle.reader.specs.Grammar.{Reads}
use Rattle.reader.specs.Fault.{FirstFault}
use Rattle.reader.specs.declared.clause.ClauseRead.{ClauseRead}
use Rattle.lexer.specs.declared.refusal.Refused.{Refused}

-- 01: "1,024 tokens with the mark pass"
abbrev pub most_tokens : ℕ
most_tokens = 1024

-- a token's text, as the text call gives it
unfoldable pub text_in : List ℕ → ℕ → ℕ → Text → List ℕ
text_in s at e source = part at e s
text_in s at e (decoded bs) = bs
text_in s at e none = []

-- a token of the clause: the lexer's, which ends at e
abbrev pub token_in : List ℕ → lexer.Token → ℕ → Text → Token
token_in s t e x = record { kind = t.kind; value = t.value; text = text_in s t.start e x; start = t.start; end = e; layout = t.layout }

abbrev pub is_end : Kind → Bool
is_end Name = false
is_end Variable = false
is_end String = false
is_end Number = false
is_end Open = false
is_end OpenCT = false
is_end Close = false
is_end OpenList = false
is_end CloseList = false
is_end OpenCurly = false
is_end CloseCurly = false
is_end HeadTailSeparator = false
is_end DoubleBar = false
is_end Comma = false
is_end End = true

-- the tokens up to an end mark, and the cursor behind it; or a token's refusal; or too many
pub data Gathered : Type 0 where
  whole : List Token → Cursor → Gathered
  stopped : Fault → Gathered
  too_many : Gathered

unfoldable pub with : Token → Gathered → Gathered
with t (whole ts d) = whole (t ∷ ts) d
with t (stopped w) = stopped w
with t too_many = too_many

-- the token that was read from c, and what follows it
unfoldable pub onward : List ℕ → Cursor → Lexeme → (Cursor → Gathered) → Gathered
onward s c (refused w) next = stopped w
onward s c (lexeme t e x) next =
    cond (is_end t.kind) (whole (token_in s t e x ∷ []) (move_to s c e)) (with (token_in s t e x) (next (move_to s c e)))

-- token by token from c, n of them at most, as the token call reads each
unfoldable pub gather : ℕ → List ℕ → Cursor → Gathered
gather zero s c = too_many
gather (suc n) s c = onward s c (read_lexeme File s c.offset) (λ d. gather n s d)

abbrev pub clause_tokens : List ℕ → Cursor → Gathered
clause_tokens s c = gather most_tokens s c

-- the offset of the first token
unfoldable pub start_of : Lexeme → ℕ
start_of (lexeme t e x) = t.start
start_of (refused w) = 0

abbrev pub first_offset : List ℕ → Cursor → ℕ
first_offset s c = start_of (read_lexeme File s c.offset)

-- so many nodes, and the cursor behind the clause
abbrev pub read_to : ℕ → Cursor → ClauseRead
read_to n e = record { nodes = n; next = e }

-- what the clause call answers
abbrev pub ClauseAnswer : Type 0
ClauseAnswer = Result ClauseRead Refused

-- 01: what the clause call may answer, and leave in the tree slice d, in the order of the refusals. Two that are permitted coincide (proofs/Theorems)
pub data Outcome (s : List ℕ) (c : Cursor) (d : List ℕ) : ClauseAnswer → List ℕ → Type 0 where
  -- 8
  invalid : valid (length s) c ≡ false → Outcome s c d (Err (refused_at not_valid c)) d
  -- 1 to 7, as the token call gives them
  token : {w : Fault} → valid (length s) c ≡ true → clause_tokens s c ≡ stopped w → Outcome s c d (Err (refused_at w c)) d
  -- 10
  no_mark : valid (length s) c ≡ true → clause_tokens s c ≡ too_many → Outcome s c d (Err (refused_at (fault TooManyTokens (first_offset s c)) c)) d
  -- 11: the grammar has no reading, and f is the first token that cannot stand
  no_reading : {ts : List Token} {e : Cursor} {f : Token} → valid (length s) c ≡ true → clause_tokens s c ≡ whole ts e → ((t : Tree) → Reads operators ts t → ⊥) →
      FirstFault operators ts f → Outcome s c d (Err (refused_at (fault NoReading f.start) c)) d
  -- 9
  no_room : {ts : List Token} {e : Cursor} {t : Tree} → valid (length s) c ≡ true → clause_tokens s c ≡ whole ts e → Reads operators ts t →
      length d < length (numbers t) → Outcome s c d (Err (refused_at (fault NoRoom (first_offset s c)) c)) d
  -- the reading's tree, its node count and the cursor after the mark
  read : {ts : List Token} {e : Cursor} {t : Tree} {n : ℕ} → valid (length s) c ≡ true → clause_tokens s c ≡ whole ts e → Reads operators ts t →
      2 * n ≡ length (numbers t) → length (numbers t) ≤ length d → Outcome s c d (Ok (read_to n e)) (sets d 0 (numbers t))
