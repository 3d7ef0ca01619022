-- Quoted items: ISO 6.4.2.1, an item at a time: what it is, where it ends, what it stands for. Definitions only.
use Rattle.std.specs.Prelude.{ℕ, ◌+◌, ◌≤◌, ◌≡◌, cond, List, [], ◌∷◌, eqb, leb, length, drop, Result}
use Rattle.lexer.specs.Chars.{among, tab, newline, alert, backspace, vertical_tab, form_feed, carriage_return, single_quote, double_quote, back_quote, backslash, small_a, small_b, small_f, small_n, small_r, small_t, small_v, small_x}
use Rattle.lexer.specs.Cursor.{move_to}
use Rattle.lexer.specs.Digits.{is_digit, digits_at}
use Rattle.lexer.specs.Items.{Turn, stop, on, same, items}
use Rattle.lexer.specs.Look.{lookahead}
use Rattle.lexer.specs.Refusal.{fault}
use Rattle.lexer.specs.declared.refusal.Fault.{Fault}
use Rattle.lexer.specs.declared.refusal.Refusal.TheVariants.{EndOfText, BadQuoted, OutOfLimit}
use Rattle.lexer.specs.Look.{Look}
use Rattle.std.specs.declared.result.Result.TheVariants.{Ok, Err}
use Rattle.lexer.specs.declared.cursor.Cursor.{Cursor}
use Rattle.lexer.specs.declared.digits.Digits.{Digits}
use Rattle.lexer.specs.declared.quoted.Item.{Item}
use Rattle.lexer.specs.declared.quoted.Measure.{Measure}
use Rattle.lexer.specs.declared.quoted.Item.TheVariants.{Char, Beyond, Skip, Close}

-- an item of a quoted token, with the offset behind it; or why it is refused
abbrev pub QuotedItem : Type 0
QuotedItem = Result Item Fault

-- 6.4.2.1: what a control escape or a meta escape of one character stands for; 0 where there is none
unfoldable pub escape_of : ℕ → ℕ
escape_of x =
    cond (eqb x small_a) alert
    (cond (eqb x small_b) backspace
    (cond (eqb x small_t) tab
    (cond (eqb x small_n) newline
    (cond (eqb x small_v) vertical_tab
    (cond (eqb x small_f) form_feed
    (cond (eqb x small_r) carriage_return
    (cond (among x (backslash ∷ single_quote ∷ double_quote ∷ back_quote ∷ [])) x
    0)))))))

-- 01: escape codes run from 1 to 127; another is out of limit
unfoldable pub coded : ℕ → ℕ → QuotedItem
coded n next = cond (eqb n 0) (Ok (Beyond next)) (cond (leb n 127) (Ok (Char n next)) (Ok (Beyond next)))

-- 6.4.2.1: an octal or hexadecimal escape is closed by a backslash behind its digits, which started at `at`
unfoldable pub closed : ℕ → ℕ → Digits → Look → QuotedItem
closed token at d (Err w) = Err w
closed token at d (Ok x) =
    cond (eqb x backslash) (cond (eqb d.end at) (Err (fault BadQuoted token)) (coded d.value (d.end + 1))) (Err (fault BadQuoted token))

-- the escape of that base whose digits start at `at`
abbrev pub numeric_escape : ℕ → ℕ → List ℕ → ℕ → QuotedItem
numeric_escape base token s at = closed token at (digits_at base 0 s at) (lookahead s (digits_at base 0 s at).end)

-- 6.4.2.1: what follows a backslash: a newline (continuation escape), an octal, hexadecimal, meta or control escape
unfoldable pub escape_to : ℕ → List ℕ → ℕ → Look → QuotedItem
escape_to token s at (Err w) = Err w
escape_to token s at (Ok x) =
    cond (eqb x newline) (Ok (Skip (at + 1)))
    (cond (is_digit 8 x) (numeric_escape 8 token s at)
    (cond (eqb x small_x) (numeric_escape 16 token s (at + 1))
    (cond (eqb (escape_of x) 0) (Err (fault BadQuoted token))
    (Ok (Char (escape_of x) (at + 1))))))

abbrev pub escape : ℕ → List ℕ → ℕ → QuotedItem
escape token s at = escape_to token s at (lookahead s at)

-- 6.4.2.1: a quote q and what follows it: two quotes are one character, one ends the quoted token
unfoldable pub quote_to : ℕ → ℕ → Look → QuotedItem
quote_to q at (Err w) = Err w
quote_to q at (Ok x) = cond (eqb x q) (Ok (Char q (at + 1))) (Ok (Close at))

-- 6.4.2.1: of the layout characters only the space may stand in a quoted item
abbrev pub unquotable : List ℕ
unquotable = newline ∷ tab ∷ carriage_return ∷ []

-- 6.4.2.1: by the character at the front
unfoldable pub item_to : ℕ → ℕ → List ℕ → ℕ → Look → QuotedItem
item_to q token s at (Err w) = Err w
item_to q token s at (Ok x) =
    cond (among x unquotable) (Err (fault BadQuoted token))
    (cond (eqb x q) (quote_to q (at + 1) (lookahead s (at + 1)))
    (cond (eqb x backslash) (escape token s (at + 1))
    (Ok (Char x (at + 1)))))

-- 6.4.2.1: the single or double quoted item at `at`, by the quote q that the token at `token` began with
abbrev pub quoted_item : ℕ → ℕ → List ℕ → ℕ → QuotedItem
quoted_item q token s at = item_to q token s at (lookahead s at)

-- ---- a quoted token: its items up to the closing quote

-- the bytes that it stands for and where it ends
pub data Quoted : Type 0 where
  whole : List ℕ → ℕ → Quoted
  refused : Fault → Quoted

-- a character in front of the rest
unfoldable pub with_char : ℕ → Quoted → Quoted
with_char b (whole bs e) = whole (b ∷ bs) e
with_char b (refused w) = refused w

-- 01, refusal 7: an escape out of limit in a token otherwise whole
unfoldable pub out_of_limit : ℕ → Quoted → Quoted
out_of_limit token (whole bs e) = refused (fault OutOfLimit token)
out_of_limit token (refused w) = refused w

unfoldable pub item_turn : ℕ → QuotedItem → Turn Quoted
item_turn token (Ok (Char b e)) = on e (with_char b)
item_turn token (Ok (Beyond e)) = on e (out_of_limit token)
item_turn token (Ok (Skip e)) = on e same
item_turn token (Ok (Close e)) = stop (whole [] e)
item_turn token (Err w) = stop (refused w)

abbrev pub quoted_turn : ℕ → ℕ → List ℕ → ℕ → Turn Quoted
quoted_turn q token s at = item_turn token (quoted_item q token s at)

abbrev pub unended : ℕ → Quoted
unended at = refused (fault EndOfText at)

-- 6.4.2, 6.4.6: what the items from `at` on come to
abbrev pub decode : ℕ → ℕ → List ℕ → ℕ → Quoted
decode q token s at = items (quoted_turn q token s) unended 0 at (drop at s)

-- ---- what the code keeps of it

-- how many bytes, and the cursor behind
abbrev pub MeasureRead : Type 0
MeasureRead = Result Measure Fault

abbrev pub measure : ℕ → Cursor → MeasureRead
measure n c = Ok (record { length = n; next = c })

unfoldable pub measured : List ℕ → Cursor → Quoted → MeasureRead
measured s c (whole bs e) = measure (length bs) (move_to s c e)
measured s c (refused w) = Err w

unfoldable pub bytes_of : Quoted → List ℕ
bytes_of (whole bs e) = bs
bytes_of (refused w) = []

-- what is written: the n bytes of a token that was read whole, and a place that has room for them
pub record Writes (q token : ℕ) (s : List ℕ) (from n : ℕ) (room : ℕ) : Type 0 where
  pub end : ℕ
  pub bytes : List ℕ
  pub reads : decode q token s from ≡ whole bytes end
  pub count : length bytes ≡ n
  pub fits : n ≤ room
