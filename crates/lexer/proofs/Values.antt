-- The value of a number is that of what the code holds of it. Assumes nothing.
use mathlib.Core.Path.{◌≡◌, refl, ◌∙◌, ap}
use mathlib.Core.List.{List}
use Prim.Native.Nat.{ℕ, ◌<◌, ◌≤◌, min}
use native.Mathlib.Decide.{dec_lt}
use native.Mathlib.Omega.{arith}
use borrow.Author.Tests.{le-ltb}
use lib.ListN.{length}
use Rattle.lexer.specs.Cursor.{longest}
use Rattle.lexer.specs.Digits.{beyond}
use Rattle.lexer.specs.Number.{number_token, held_numeral, held_number, NumberRead}
use Rattle.lexer.specs.Token.{floated, valued, numbered, sourced, AtDigit}
use Rattle.lexer.specs.declared.number.Numeral.{Numeral}
use Rattle.lexer.specs.declared.number.NumberToken.{NumberToken}
use Rattle.lexer.specs.declared.token.Source.{Source}
use Rattle.lexer.specs.declared.token.Source.TheVariants.{File, Field}
use Rattle.lexer.proofs.Looks.{look_byte}
use Rattle.lexer.proofs.Numbers.{fraction_of, EndsOf, number_ends}
use Rattle.lexer.proofs.Sources.{sourced_ends}
use Rattle.lexer.proofs.float.Capped.{float_capped}
use Rattle.std.specs.declared.result.Result.TheVariants.{Ok, Err}

module _ (at e : ℕ) where
  integer_held : (n : ℕ) → valued at e (Numeral.Integer (min n beyond)) ≡ valued at e (Numeral.Integer n)
  unfolding valued
  integer_held n = go (dec_lt n beyond)
    where
      go : Dec (n < beyond) → valued at e (Numeral.Integer (min n beyond)) ≡ valued at e (Numeral.Integer n)
      go (yes h) = let m : min n beyond ≡ n = omega arith in rw m
      go (no h) =
          let m : min n beyond ≡ beyond = omega arith in
          cc (le-ltb n beyond (omega arith), le-ltb beyond beyond (omega arith))

  value-held : (n : Numeral) → fraction_of n ≤ longest → valued at e (held_numeral n) ≡ valued at e n
  unfolding held_numeral valued
  value-held (Numeral.Integer n) h = integer_held n
  value-held (Numeral.Float m sign x f) h = ap (floated at e) (float_capped m sign x f h)

number-held : (s : List ℕ) (at : ℕ) (t : NumberRead) → length s ≤ longest → EndsOf s at t → numbered at (held_number t) ≡ numbered at t
unfolding numbered held_number
number-held s at (Ok (NumberToken.Whole n e)) h p = value-held at e n (omega (arith, p.few))
number-held s at (Ok (NumberToken.Partial n e)) h p = refl
number-held s at (Err w) h p = refl

held-sourced : (origin : Source) (t : NumberRead) → sourced origin (held_number t) ≡ held_number (sourced origin t)
unfolding held_number
held-sourced File t = refl
held-sourced Field (Ok (NumberToken.Whole n e)) = refl
held-sourced Field (Ok (NumberToken.Partial n e)) = refl
held-sourced Field (Err w) = refl

-- at a digit
pub number-value : (origin : Source) (s : List ℕ) (at : ℕ) (r : NumberRead) → AtDigit s at → r ≡ held_number (number_token s at) → numbered at (sourced origin r) ≡ numbered at (sourced origin (number_token s at))
number-value origin s at r d e =
    let p = number_ends s at d.digit (look_byte s at d.digit d.at_digit.there) d.decimal in
    ap (λ (n : NumberRead). numbered at (sourced origin n)) e ∙ ap (numbered at) (held-sourced origin (number_token s at))
    ∙ number-held s at (sourced origin (number_token s at)) d.at_digit.short (sourced_ends s at origin (number_token s at) p)
