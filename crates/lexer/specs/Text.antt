-- The text call and the show call: 01, "Tokens". Definitions only.
use Rattle.std.specs.Prelude.{ℕ, ◌+◌, ◌<◌, ◌≤◌, ◌≡◌, cond, ◌&&◌, List, [], ◌∷◌, leb, length, Result}
use Rattle.std.proofs.lemmas.List.Edits.{sets}
use Rattle.std.specs.Borrow.{Bor}
use Rattle.lexer.specs.Chars.{among, single_quote, double_quote}
use Rattle.lexer.specs.Cursor.{longest, part, valid, move_to, Valid}
use Rattle.lexer.specs.Look.{lookahead}
use Rattle.lexer.specs.Quoted.{Quoted, decode}
use Rattle.lexer.specs.Refusal.{fault, refuse}
use Rattle.lexer.specs.Token.{source, decoded, none, Lexeme, lexeme, refused, read_lexeme, not_valid, spelled_to, found}
use Rattle.lexer.specs.declared.refusal.Refusal.TheVariants.{NoToken, NoRoom, NoText}
use Rattle.lexer.specs.Look.{Look}
use Rattle.std.specs.declared.result.Result.TheVariants.{Ok, Err}
use Rattle.lexer.specs.declared.cursor.Cursor.{Cursor}
use Rattle.lexer.specs.declared.token.Token.{Token}
use Rattle.lexer.specs.declared.token.Source.TheVariants.{File}
use Rattle.lexer.specs.declared.token.Spelling.{Spelling}
use Rattle.lexer.specs.declared.text.Part.{Part}
use Rattle.lexer.specs.declared.text.TextRead.{TextRead}
use Rattle.lexer.specs.declared.refusal.Fault.{Fault}
use Rattle.lexer.specs.declared.refusal.Refused.{Refused}

-- a token, the cursor behind it and its text; or a refusal
abbrev pub TextAnswer : Type 0
TextAnswer = Result TextRead Refused

abbrev pub text_read : Token → Cursor → Part → TextAnswer
text_read t c p = Ok (record { token = t; next = c; part = p })

-- what the text call answers, and what it leaves in the scratch
pub data Outcome : Type 0 where
  leaves : TextAnswer → List ℕ → Outcome

-- 01: a name or a variable is a part of the text; a quoted item is decoded to the front of the scratch d, refusal 9 where it does not fit; a token with
-- no text is refusal 12. A refusal leaves the scratch as it was
unfoldable pub text_told : List ℕ → Cursor → List ℕ → Lexeme → Outcome
text_told s c d (lexeme t e source) = leaves (text_read t (move_to s c e) (Part.Source t.start e)) d
text_told s c d (lexeme t e (decoded bs)) =
    cond (leb (length bs) (length d)) (leaves (text_read t (move_to s c e) (Part.Scratch 0 (length bs))) (sets d 0 bs))
    (leaves (refuse (fault NoRoom t.start) c) d)
text_told s c d (lexeme t e none) = leaves (refuse (fault NoText t.start) c) d
text_told s c d (refused w) = leaves (refuse w c) d

-- the token at the cursor c, as the token call reads it in a file
abbrev pub token_text : List ℕ → Cursor → List ℕ → Outcome
token_text s c d = text_told s c d (read_lexeme File s c.offset)

-- the text call
abbrev pub next_token_text : List ℕ → Cursor → List ℕ → Outcome
next_token_text s c d = cond (valid (length s) c) (token_text s c d) (leaves (refuse not_valid c) d)

-- how many bytes the quoted-text call wrote, or why none
abbrev pub QuotedAnswer : Type 0
QuotedAnswer = Result ℕ Fault

-- what the quoted-text call answers, and what it leaves in the scratch
pub data Counted : Type 0 where
  counts : QuotedAnswer → List ℕ → Counted

-- the bytes of the quoted token at an offset, decoded to the front of the scratch d; 9 where they do not fit. A refusal leaves the scratch as it was
unfoldable pub counted_text : ℕ → List ℕ → Quoted → Counted
counted_text at d (Quoted.refused w) = counts (Err w) d
counted_text at d (Quoted.whole bs e) =
    cond (leb (length bs) (length d)) (counts (Ok (length bs)) (sets d 0 bs)) (counts (Err (fault NoRoom at)) d)

-- by what stands at the offset: 3 for a byte that is neither a single nor a double quote
unfoldable pub quoted_from : List ℕ → ℕ → List ℕ → Look → Counted
quoted_from s at d (Err w) = counts (Err w) d
quoted_from s at d (Ok x) =
    cond (among x (single_quote ∷ double_quote ∷ [])) (counted_text at d (decode x at s (at + 1))) (counts (Err (fault NoToken at)) d)

-- the quoted-text call: the single or double quoted token that begins at an offset; 8 first, for a text that is too long or an offset beyond it
abbrev pub quoted_text : List ℕ → ℕ → List ℕ → Counted
quoted_text s at d = cond (leb (length s) longest && leb at (length s)) (quoted_from s at d (lookahead s at)) (counts (Err not_valid) d)

-- a slice as its holder sees it: where it lies, block and offset, and its bytes
abbrev pub Lent : Type 0
Lent = (ℕ × ℕ) × List ℕ

-- the slice that a reference lends
abbrev pub seen : Bor (List ℕ) → Lent
seen x = (x.ref_ptr, x.now)

-- 01: "uncopied": the part from a to e lies in its slice, a bytes behind the front
abbrev pub part_of : Bor (List ℕ) → ℕ → ℕ → Lent
part_of x a e = ((x.ref_ptr.0, a + x.ref_ptr.1), part a e x.now)

-- 01: "if that part does not fit in its slice, the empty part at the front of the text"
unfoldable pub fitted : Bor (List ℕ) → Bor (List ℕ) → ℕ → ℕ → Lent
fitted text x a e = cond (leb a e && leb e (length x.now)) (part_of x a e) (part_of text 0 0)

-- 01: the show call hands back "a part of the source text or a part of the scratch"
unfoldable pub shown : Bor (List ℕ) → Bor (List ℕ) → Part → Lent
shown text scratch (Part.Source a e) = fitted text text a e
shown text scratch (Part.Scratch a e) = fitted text scratch a e

-- ---- what the private functions ask: a valid cursor c, at which the token t was read, with its spelling and the cursor behind it
pub record Reads (s : List ℕ) (c : Cursor) (t : Token) (spelling : Spelling) (next : Cursor) : Type 0 where
  pub valid : Valid (length s) c
  pub read : found s c (read_lexeme File s c.offset) ≡ spelled_to t spelling next

-- and a byte at an offset of a text that is not too long
pub record Begins (s : List ℕ) (at : ℕ) : Type 0 where
  pub short : length s ≤ longest
  pub inside : at < length s
