-- Numbers: ISO 6.4.4 and 6.4.5, with 01's departures. Definitions only.
use Rattle.std.specs.Prelude.{ℕ, ◌+◌, ◌-◌, ◌<◌, ◌≤◌, min, Bool, true, false, cond, ◌&&◌, ◌||◌, List, eqb, length, Result}
use Rattle.lexer.specs.Chars.{underscore, point, plus, minus, single_quote, small_x, small_o, small_b, small_e, capital_e}
use Rattle.lexer.specs.Digits.{is_digit, digits_at, beyond}
use Rattle.lexer.specs.Look.{peek, lookahead}
use Rattle.lexer.specs.Quoted.{quoted_item, QuotedItem}
use Rattle.lexer.specs.Refusal.{fault}
use Rattle.lexer.specs.declared.refusal.Fault.{Fault}
use Rattle.lexer.specs.declared.refusal.Refusal.TheVariants.{ForeignByte, SetAside}
use Rattle.lexer.specs.declared.chars.Peek.{Peek}
use Rattle.lexer.specs.declared.chars.Peek.TheVariants.{Byte, Foreign, End}
use Rattle.lexer.specs.Look.{Look}
use Rattle.std.specs.declared.result.Result.TheVariants.{Ok, Err}
use Rattle.lexer.specs.declared.digits.Digits.{Digits}
use Rattle.lexer.specs.declared.quoted.Item.{Item}
use Rattle.lexer.specs.declared.number.Numeral.{Numeral}
use Rattle.lexer.specs.declared.number.Numeral.TheVariants.{Integer, Float}
use Rattle.lexer.specs.declared.number.Exponent.{Exponent}
use Rattle.lexer.specs.declared.number.NumberToken.{NumberToken}
use Rattle.lexer.specs.declared.number.NumberToken.TheVariants.{Whole, Partial}

-- a number, or why it is refused
abbrev pub NumberRead : Type 0
NumberRead = Result NumberToken Fault

-- the same of a float's exponent
abbrev pub ExponentRead : Type 0
ExponentRead = Result Exponent Fault

-- ---- constants that begin with the 0 at `at`

-- the digits of a constant end at e, or with the text
unfoldable pub radix_closed : Numeral → ℕ → Peek → NumberRead
radix_closed n e End = Ok (Whole n e)
radix_closed n e Foreign = Err (fault ForeignByte e)
radix_closed n e (Byte x) = Ok (Whole n e)

-- without a digit of the base, the integer is 0 and the letter is put back
unfoldable pub radix_to : ℕ → List ℕ → ℕ → Look → NumberRead
radix_to base s at (Err w) = Err w
radix_to base s at (Ok x) =
    cond (is_digit base x)
    (radix_closed (Integer (digits_at base 0 s (at + 2)).value) (digits_at base 0 s (at + 2)).end (peek s (digits_at base 0 s (at + 2)).end))
    (Ok (Whole (Integer 0) (at + 1)))

-- 6.4.4: binary, octal, hexadecimal constant: 0, the base's letter and digits of the base
abbrev pub radix_constant : ℕ → List ℕ → ℕ → NumberRead
radix_constant base s at = radix_to base s at (lookahead s (at + 2))

-- 6.4.4: character code constant: 0, a quote and a single quoted character. -- departs: a quote that is not doubled gives 0, both quotes put back
unfoldable pub character_code : ℕ → QuotedItem → NumberRead
character_code at (Ok (Item.Char b e)) = Ok (Whole (Integer b) e)
character_code at (Ok (Item.Beyond e)) = Ok (Whole (Integer beyond) e)
character_code at (Ok (Item.Skip e)) = Err (fault SetAside at)
character_code at (Ok (Item.Close e)) = Ok (Whole (Integer 0) (at + 1))
character_code at (Err w) = Err w

abbrev pub character_code_constant : List ℕ → ℕ → NumberRead
character_code_constant s at = character_code at (quoted_item single_quote at s (at + 2))

-- after exactly `0`, by the character behind it
unfoldable pub zero_to : List ℕ → ℕ → ℕ → NumberRead
zero_to s at x =
    cond (eqb x small_x) (radix_constant 16 s at)
    (cond (eqb x small_o) (radix_constant 8 s at)
    (cond (eqb x small_b) (radix_constant 2 s at)
    (cond (eqb x single_quote) (character_code_constant s at)
    (Ok (Whole (Integer 0) (at + 1))))))

-- ---- floats

-- 6.4.5: the exponent's digits start at `at`; it is partial where they reach the end of the text
unfoldable pub exponent_ends : Bool → Digits → Peek → ExponentRead
exponent_ends sign d End = Ok (Exponent.Partial sign d.value d.end)
exponent_ends sign d Foreign = Err (fault ForeignByte d.end)
exponent_ends sign d (Byte x) = Ok (Exponent.Whole sign d.value d.end)

abbrev pub exponent_digits : List ℕ → Bool → ℕ → ExponentRead
exponent_digits s sign at = exponent_ends sign (digits_at 10 0 s at) (peek s (digits_at 10 0 s at).end)

-- behind the sign, at `at`: without a digit there is no exponent
unfoldable pub sign_to : List ℕ → Bool → ℕ → Peek → ExponentRead
sign_to s sign at End = Ok Exponent.Absent
sign_to s sign at Foreign = Err (fault ForeignByte at)
sign_to s sign at (Byte x) = cond (is_digit 10 x) (exponent_digits s sign at) (Ok Exponent.Absent)

-- behind the letter, at `at`: a sign, or a digit
unfoldable pub letter_to : List ℕ → ℕ → Peek → ExponentRead
letter_to s at End = Ok Exponent.Absent
letter_to s at Foreign = Err (fault ForeignByte at)
letter_to s at (Byte x) =
    cond (eqb x plus) (sign_to s false (at + 1) (peek s (at + 1)))
    (cond (eqb x minus) (sign_to s true (at + 1) (peek s (at + 1)))
    (sign_to s false at (Byte x)))

-- behind the fraction
unfoldable pub exponent_to : List ℕ → ℕ → Peek → ExponentRead
exponent_to s at End = Ok Exponent.Ended
exponent_to s at Foreign = Err (fault ForeignByte at)
exponent_to s at (Byte x) = cond (eqb x small_e || eqb x capital_e) (letter_to s (at + 1) (peek s (at + 1))) (Ok Exponent.Absent)

-- 6.4.5: exponent: `e` or `E`, an optional sign, digits; if no digit follows, there is none, and letter and sign are put back
abbrev pub exponent : List ℕ → ℕ → ExponentRead
exponent s at = exponent_to s at (peek s at)

-- 6.4.5: a float with the digits m, the last f of them its fraction, which ends at e
unfoldable pub float : ℕ → ℕ → ℕ → ExponentRead → NumberRead
float m f e (Ok Exponent.Absent) = Ok (Whole (Float m false 0 f) e)
float m f e (Ok Exponent.Ended) = Ok (Partial (Float m false 0 f) e)
float m f e (Ok (Exponent.Whole sign x end)) = Ok (Whole (Float m sign x f) end)
float m f e (Ok (Exponent.Partial sign x end)) = Ok (Partial (Float m sign x f) end)
float m f e (Err w) = Err w

-- the fraction's digits, behind the point, read on from the integer's digits d
abbrev pub fraction_digits : List ℕ → Digits → Digits
fraction_digits s d = digits_at 10 d.value s (d.end + 1)

abbrev pub fraction : List ℕ → Digits → NumberRead
fraction s d = float (fraction_digits s d).value ((fraction_digits s d).end - (d.end + 1)) (fraction_digits s d).end (exponent s (fraction_digits s d).end)

-- behind the point: a digit makes a float; without one the point is no part of the integer
unfoldable pub point_to : List ℕ → Digits → Peek → NumberRead
point_to s d End = Ok (Whole (Integer d.value) d.end)
point_to s d Foreign = Err (fault ForeignByte (d.end + 1))
point_to s d (Byte x) = cond (is_digit 10 x) (fraction s d) (Ok (Whole (Integer d.value) d.end))

-- ---- the number at `at`, by the character behind its leading decimal digits d
unfoldable pub integer_to : List ℕ → ℕ → Digits → Peek → NumberRead
integer_to s at d End = Ok (Partial (Integer d.value) d.end)
integer_to s at d Foreign = Err (fault ForeignByte d.end)
integer_to s at d (Byte x) =
    cond (eqb x underscore) (Err (fault SetAside at))
    (cond (eqb x point) (point_to s d (peek s (d.end + 1)))
    (cond (eqb d.end (at + 1) && eqb d.value 0) (zero_to s at x)
    (Ok (Whole (Integer d.value) d.end))))

-- 6.4.4, 6.4.5: integer constant, float number token, and the constants that begin with 0
abbrev pub number_token : List ℕ → ℕ → NumberRead
number_token s at = integer_to s at (digits_at 10 0 s at) (peek s (digits_at 10 0 s at).end)

-- where a number ends, whatever its value; 0 where it is refused
unfoldable pub number_end : NumberRead → ℕ
number_end (Ok (Whole n e)) = e
number_end (Ok (Partial n e)) = e
number_end (Err w) = 0

-- ---- what the code holds of it: no value above `beyond`
unfoldable pub held_exponent : ExponentRead → ExponentRead
held_exponent (Ok Exponent.Absent) = Ok Exponent.Absent
held_exponent (Ok Exponent.Ended) = Ok Exponent.Ended
held_exponent (Ok (Exponent.Whole sign x e)) = Ok (Exponent.Whole sign (min x beyond) e)
held_exponent (Ok (Exponent.Partial sign x e)) = Ok (Exponent.Partial sign (min x beyond) e)
held_exponent (Err w) = Err w

unfoldable pub held_numeral : Numeral → Numeral
held_numeral (Integer n) = Integer (min n beyond)
held_numeral (Float m sign x f) = Float (min m beyond) sign (min x beyond) f

unfoldable pub held_number : NumberRead → NumberRead
held_number (Ok (Whole n e)) = Ok (Whole (held_numeral n) e)
held_number (Ok (Partial n e)) = Ok (Partial (held_numeral n) e)
held_number (Err w) = Err w

-- what the code asks: a base, and a 0 at `at` with a letter behind it in a text of n bytes
pub record Radix (n base at : ℕ) : Type 0 where
  pub some : 0 < base
  pub few : base ≤ 16
  pub inside : at + 1 < n

-- what it asks of digits that it read before, with a byte behind them
pub record Read (s : List ℕ) (d : Digits) : Type 0 where
  pub small : d.value ≤ beyond
  pub inside : d.end < length s

-- and of those that started at `at`
pub record Led (s : List ℕ) (at : ℕ) (d : Digits) : Type 0 where
  pub begun : at ≤ d.end
  pub read : Read s d
