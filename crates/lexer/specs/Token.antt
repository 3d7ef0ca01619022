-- Tokens, and the token call: ISO 6.4 and 6.4.8. Definitions only.
use Rattle.std.specs.Prelude.{ℕ, ◌+◌, ◌-◌, ◌<◌, ◌≤◌, ◌≡◌, Bool, true, false, cond, List, eqb, ltb, length, get_or, Option, Result}
use Rattle.lexer.specs.Chars.{class_of, is, within, small_letter, capital_letter, underscore_char, decimal_digit, layout_char, solo_char, quote_char, newline, double_quote, percent, single_quote, open_paren, close_paren, comma, point, open_bracket, close_bracket, open_brace, close_brace, bar}
use Rattle.lexer.specs.Cursor.{longest, valid, move_to, Valid}
use Rattle.lexer.specs.Digits.{is_digit, beyond}
use Rattle.lexer.specs.Float.{float_value}
use Rattle.lexer.specs.Layout.{layout_end}
use Rattle.lexer.specs.Look.{peek, lookahead}
use Rattle.lexer.specs.Name.{variable_token, name_token, PlainToken, whole_token}
use Rattle.lexer.specs.Number.{number_token, NumberRead}
use Rattle.lexer.specs.Quoted.{Quoted, decode}
use Rattle.lexer.specs.Refusal.{fault, refuse}
use Rattle.lexer.specs.declared.refusal.Fault.{Fault}
use Rattle.lexer.specs.declared.refusal.Refusal.TheVariants.{EndOfText, NoToken, ForeignByte, OutOfLimit, NotValid}
use Rattle.lexer.specs.declared.chars.Peek.{Peek}
use Rattle.lexer.specs.Look.{Look}
use Rattle.std.specs.declared.result.Result.TheVariants.{Ok, Err}
use Rattle.lexer.specs.declared.cursor.Cursor.{Cursor}
use Rattle.lexer.specs.Cursor.{Scan}
use Rattle.lexer.specs.Float.{Floated}
use Rattle.std.specs.declared.option.Option.TheVariants.{Some, None}
use Rattle.lexer.specs.declared.number.Numeral.{Numeral}
use Rattle.lexer.specs.declared.number.NumberToken.{NumberToken}
use Rattle.lexer.specs.declared.kind.Kind.{Kind}
use Rattle.lexer.specs.declared.kind.Kind.TheVariants.{Name, Variable, String, Number, Open, OpenCT, Close, OpenList, CloseList, OpenCurly, CloseCurly, HeadTailSeparator, DoubleBar, Comma, End}
use Rattle.lexer.specs.declared.kind.Value.{Value}
use Rattle.lexer.specs.declared.kind.Value.TheVariants.{Nothing}
use Rattle.lexer.specs.declared.token.Token.{Token}
use Rattle.lexer.specs.declared.token.TokenRead.{TokenRead}
use Rattle.lexer.specs.declared.refusal.Refused.{Refused}
use Rattle.lexer.specs.declared.token.Spelling.{Spelling}
use Rattle.lexer.specs.declared.token.Found.{Found}
use Rattle.lexer.specs.declared.token.Source.{Source}
use Rattle.lexer.specs.declared.token.Source.TheVariants.{File, Field}

-- what a single character is by itself, if anything
abbrev pub Mark : Type 0
Mark = Option Kind

-- ---- tokens that are not quoted, at `at`

-- 6.4.8: the tokens of one character; `(` is Open after layout, else OpenCT
unfoldable pub mark : Bool → ℕ → Mark
mark layout x =
    cond (eqb x open_paren) (cond layout (Some Open) (Some OpenCT))
    (cond (eqb x close_paren) (Some Close)
    (cond (eqb x open_bracket) (Some OpenList)
    (cond (eqb x close_bracket) (Some CloseList)
    (cond (eqb x open_brace) (Some OpenCurly)
    (cond (eqb x close_brace) (Some CloseCurly)
    (cond (eqb x comma) (Some Comma)
    None))))))

-- it is one of these tokens
abbrev pub is_mark : Mark → Bool
is_mark (Some k) = true
is_mark None = false

-- 01: `|` needs a next character; `||` is one token
unfoldable pub bar_to : ℕ → Look → PlainToken
bar_to at (Err w) = Err w
bar_to at (Ok x) = cond (eqb x bar) (whole_token DoubleBar Nothing (at + 2)) (whole_token HeadTailSeparator Nothing (at + 1))

abbrev pub bar_token : List ℕ → ℕ → PlainToken
bar_token s at = bar_to at (lookahead s (at + 1))

-- 6.4.8: `.` is the end token if layout or `%` follows; a newline that follows is consumed. -- departs: also if the text ends
unfoldable pub point_to : List ℕ → ℕ → Peek → PlainToken
point_to s at Peek.End = whole_token End Nothing (at + 1)
point_to s at Peek.Foreign = Err (fault ForeignByte (at + 1))
point_to s at (Peek.Byte x) =
    cond (eqb x newline) (whole_token End Nothing (at + 2))
    (cond (is layout_char x) (whole_token End Nothing (at + 1))
    (cond (eqb x percent) (whole_token End Nothing (at + 1))
    (name_token s at point)))

abbrev pub end_token : List ℕ → ℕ → PlainToken
end_token s at = point_to s at (peek s (at + 1))

-- a token that begins with a solo character
unfoldable pub solo_to : List ℕ → ℕ → ℕ → Mark → PlainToken
solo_to s at x (Some k) = whole_token k Nothing (at + 1)
solo_to s at x None = cond (eqb x bar) (bar_token s at) (name_token s at x)

abbrev pub solo_token : List ℕ → ℕ → Bool → ℕ → PlainToken
solo_token s at layout x = solo_to s at x (mark layout x)

-- 01, refusal 7: a float out of limit
unfoldable pub floated : ℕ → ℕ → Floated → PlainToken
floated at e (Some v) = whole_token Number (Value.Float v) e
floated at e None = Err (fault OutOfLimit at)

-- 02, request 4: an integer token's value is its magnitude; 7 "from the next magnitude on"
unfoldable pub valued : ℕ → ℕ → Numeral → PlainToken
valued at e (Numeral.Integer n) = cond (ltb n beyond) (whole_token Number (Value.Integer n) e) (Err (fault OutOfLimit at))
valued at e (Numeral.Float m sign x f) = floated at e (float_value m sign x f)

-- 01: a number that reaches the end of the text, a partial one, is refusal 1
unfoldable pub numbered : ℕ → NumberRead → PlainToken
numbered at (Ok (NumberToken.Whole n e)) = valued at e n
numbered at (Ok (NumberToken.Partial n e)) = Err (fault EndOfText e)
numbered at (Err w) = Err w

-- 02, request 7: but in a field it is whole. Nothing else hangs on the text's origin, a file or a field
abbrev pub sourced : Source → NumberRead → NumberRead
sourced File x = x
sourced Field (Ok (NumberToken.Whole n e)) = Ok (NumberToken.Whole n e)
sourced Field (Ok (NumberToken.Partial n e)) = Ok (NumberToken.Whole n e)
sourced Field (Err w) = Err w

-- 6.4: a token that begins with x and is not quoted
unfoldable pub plain_token : Source → List ℕ → ℕ → Bool → ℕ → PlainToken
plain_token origin s at layout x =
    cond (is decimal_digit x) (numbered at (sourced origin (number_token s at)))
    (cond (is solo_char x) (solo_token s at layout x)
    (cond (is capital_letter x) (variable_token s at)
    (cond (is underscore_char x) (variable_token s at)
    (cond (eqb x point) (end_token s at)
    (name_token s at x)))))

-- ---- any token: with its end, and what its text is

-- the token's own bytes, the bytes that a quoted item stands for, or none
pub data Text : Type 0 where
  source : Text
  decoded : List ℕ → Text
  none : Text

pub data Lexeme : Type 0 where
  lexeme : Token → ℕ → Text → Lexeme
  refused : Fault → Lexeme

-- a token at an offset, with no layout before it
abbrev pub token : Kind → Value → ℕ → Token
token k v at = record { kind = k; value = v; start = at; layout = at }

-- 01: names and variables have a text (and strings, which are quoted)
abbrev pub text_of : Kind → Text
text_of Name = source
text_of Variable = source
text_of String = none
text_of Number = none
text_of Open = none
text_of OpenCT = none
text_of Close = none
text_of OpenList = none
text_of CloseList = none
text_of OpenCurly = none
text_of CloseCurly = none
text_of HeadTailSeparator = none
text_of DoubleBar = none
text_of Comma = none
text_of End = none

-- whether a token is the Comma
unfoldable pub is_comma : Kind → Bool
is_comma Name = false
is_comma Variable = false
is_comma String = false
is_comma Number = false
is_comma Open = false
is_comma OpenCT = false
is_comma Close = false
is_comma OpenList = false
is_comma CloseList = false
is_comma OpenCurly = false
is_comma CloseCurly = false
is_comma HeadTailSeparator = false
is_comma DoubleBar = false
is_comma Comma = true
is_comma End = false

unfoldable pub plain_lexeme : ℕ → PlainToken → Lexeme
plain_lexeme at (Ok p) = lexeme (token p.kind p.value at) p.end (text_of p.kind)
plain_lexeme at (Err w) = refused w

unfoldable pub quoted_to : Kind → ℕ → Quoted → Lexeme
quoted_to k at (Quoted.whole bs e) = lexeme (token k Nothing at) e (decoded bs)
quoted_to k at (Quoted.refused w) = refused w

-- 6.4.2 quoted token, 6.4.6 double quoted list token. -- departs: no token begins with a back quote
unfoldable pub quoted_lexeme : List ℕ → ℕ → ℕ → Lexeme
quoted_lexeme s at x =
    cond (eqb x single_quote) (quoted_to Name at (decode single_quote at s (at + 1)))
    (cond (eqb x double_quote) (quoted_to String at (decode double_quote at s (at + 1)))
    (refused (fault NoToken at)))

-- a token that begins with x; `layout` says whether layout stands before it
unfoldable pub lexeme_to : Source → List ℕ → ℕ → Bool → Look → Lexeme
lexeme_to origin s at layout (Err w) = refused w
lexeme_to origin s at layout (Ok x) =
    cond (is quote_char x) (quoted_lexeme s at x)
    (plain_lexeme at (plain_token origin s at layout x))

-- 6.4: layout text, then a token
unfoldable pub after_layout : Source → List ℕ → ℕ → Scan → Lexeme
after_layout origin s from (Err w) = refused w
after_layout origin s from (Ok at) = lexeme_to origin s at (ltb from at) (lookahead s at)

abbrev pub behind_layout : Source → List ℕ → ℕ → Lexeme
behind_layout origin s from = after_layout origin s from (layout_end s from)

-- 02, request 8: "each token record shall carry the offset at which the layout before it began"
abbrev pub token_since : ℕ → Token → Token
token_since from t = record { kind = t.kind; value = t.value; start = t.start; layout = from }

unfoldable pub lexeme_since : ℕ → Lexeme → Lexeme
lexeme_since from (lexeme t e x) = lexeme (token_since from t) e x
lexeme_since from (refused w) = refused w

-- what is read from an offset on: there the layout before the token begins, be it empty
abbrev pub read_lexeme : Source → List ℕ → ℕ → Lexeme
read_lexeme origin s from = lexeme_since from (behind_layout origin s from)

-- ---- the call

-- a token and the cursor behind it; or a refusal
abbrev pub Answer : Type 0
Answer = Result TokenRead Refused

abbrev pub token_read : Token → Cursor → Answer
token_read t c = Ok (record { token = t; next = c })

unfoldable pub answered : List ℕ → Cursor → Lexeme → Answer
answered s c (lexeme t e x) = token_read t (move_to s c e)
answered s c (refused w) = refuse w c

-- 01, refusal 8: a text that is too long or a cursor that is not valid, before anything is read
abbrev pub not_valid : Fault
not_valid = fault NotValid 0

-- 02, request 7: one call, "told whether the text is a file or a field"
abbrev pub next_token : Source → List ℕ → Cursor → Answer
next_token origin s c = cond (valid (length s) c) (answered s c (read_lexeme origin s c.offset)) (refuse not_valid c)

-- the token of a file at a cursor, where no layout is passed over; `layout` says whether layout stands before it
abbrev pub token_here : Bool → List ℕ → Cursor → Answer
token_here layout s c = cond (valid (length s) c) (answered s c (lexeme_to File s c.offset layout (lookahead s c.offset))) (refuse not_valid c)

-- ---- what the code keeps of a token that it found at the cursor c: how long its decoded text is, and the cursor behind it
abbrev pub kept : Text → Spelling
kept source = Spelling.Source
kept (decoded bs) = Spelling.Decoded (length bs)
kept none = Spelling.Absent

abbrev pub FoundToken : Type 0
FoundToken = Result Found Fault

abbrev pub found_whole : ℕ → Token → ℕ → Spelling → ℕ → FoundToken
found_whole o t l p k = Ok (record { offset = o; token = t; line = l; spelling = p; column = k })

-- with the cursor by its fields, as the code holds it
abbrev pub spelled_to : Token → Spelling → Cursor → FoundToken
spelled_to t p c = found_whole c.offset t c.line p c.column

unfoldable pub found : List ℕ → Cursor → Lexeme → FoundToken
found s c (lexeme t e x) = spelled_to t (kept x) (move_to s c e)
found s c (refused w) = Err w

-- ---- what the private functions ask

-- the byte x stands at `at`, in a text that is not too long
pub record At (s : List ℕ) (at x : ℕ) : Type 0 where
  pub there : lookahead s at ≡ Ok x
  pub short : length s ≤ longest

-- a digit stands there
pub record AtDigit (s : List ℕ) (at : ℕ) : Type 0 where
  pub digit : ℕ
  pub at_digit : At s at digit
  pub decimal : is_digit 10 digit ≡ true

-- and it is no mark, no letter and not the underscore
pub record Unmarked (s : List ℕ) (at x : ℕ) : Type 0 where
  pub at_byte : At s at x
  pub unmarked : mark false x ≡ None
  pub no_letter : within small_letter underscore_char (class_of x) ≡ false

-- a valid cursor at the byte x
pub record Begins (s : List ℕ) (c : Cursor) (x : ℕ) : Type 0 where
  pub valid : Valid (length s) c
  pub there : lookahead s c.offset ≡ Ok x

-- and that is a quote
pub record Quotes (s : List ℕ) (c : Cursor) (x : ℕ) : Type 0 where
  pub begins : Begins s c x
  pub quote : is quote_char x ≡ true

-- a valid cursor, and a later offset, with no newline on the way but perhaps the last character
pub record Passing (s : List ℕ) (c : Cursor) (e : ℕ) : Type 0 where
  pub valid : Valid (length s) c
  pub ahead : c.offset < e
  pub inside : e ≤ length s
  pub plain : (i : ℕ) → c.offset ≤ i → i < e - 1 → get_or s i 0 ≡ newline → ⊥
