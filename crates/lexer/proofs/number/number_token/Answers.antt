-- `lexer::number::number_token` meets its contract. Assumes nothing.
use Prim.Native.Nat.{ℕ, min}
use mathlib.Core.Path.{◌≡◌, ap}
use mathlib.Core.List.{List}
use native.Mathlib.Omega.{arith}
use borrow.Author.Rules.{rules}
use lib.ListN.{drop}
use Rattle.lexer.specs.Digits.{digits_at, beyond, held}
use Rattle.lexer.specs.Look.{peek}
use Rattle.lexer.specs.Number.{integer_to, number_token, held_numeral, held_number, Led, NumberRead}
use Rattle.lexer.specs.Refusal.{fault}
use Rattle.lexer.specs.declared.refusal.Fault.{Fault}
use Rattle.lexer.specs.declared.refusal.Refusal.TheVariants.{ForeignByte}
use Rattle.lexer.specs.declared.chars.Peek.{Peek}
use Rattle.lexer.specs.declared.chars.Peek.TheVariants.{Byte, Foreign, End}
use Rattle.lexer.specs.declared.digits.Digits.{Digits}
use Rattle.lexer.specs.declared.number.Numeral.TheVariants.{Integer}
use Rattle.lexer.specs.declared.number.NumberToken.TheVariants.{Partial}
use Rattle.lexer.proofs.HandedOn.{handed_on}
use Rattle.lexer.proofs.Bases.{digits_bounds}
use Rattle.lexer.proofs.Looks.{peek-inside}
use Rattle.lexer.proofs.Numbers.{held_integer}
use Rattle.lexer.proofs.number.number_token.Goals as goal
use Rattle.std.specs.declared.result.Result.TheVariants.{Ok, Err}

module _ (s : List ℕ) (at : ℕ) (d : Digits) (p : Peek) (e : d ≡ held (digits_at 10 0 s at)) (q : p ≡ peek s d.end) where
  ended : p ≡ End → Ok (Partial (Integer d.value) d.end) ≡ held_number (number_token s at)
  unfolding integer_to held_number held_numeral
  ended f = cc

  foreign : (w : Fault) → p ≡ Foreign → w ≡ fault ForeignByte d.end → Err w ≡ held_number (number_token s at)
  unfolding integer_to held_number
  foreign w f g = cc

  module _ (b : ℕ) (f : p ≡ Byte b) where
    led : Led s at d
    led =
        let v : d.value ≡ min (digits_at 10 0 s at).value beyond = ap (λ (x : Digits). x.value) e in
        let n : d.end ≡ (digits_at 10 0 s at).end = ap (λ (x : Digits). x.end) e in
        record {
          begun = omega (arith, (digits_bounds 10 0 at (drop at s)).0);
          read = record { small = omega arith; inside = peek-inside s d.end b p q f };
        }

    byte : (t : NumberRead) → t ≡ held_number (integer_to s at d (Byte b)) → t ≡ held_number (number_token s at)
    byte t g = cc (held_integer s (digits_at 10 0 s at) at (Byte b))

ruleset ways = (handed_on, ended, foreign, led, byte, rules)

pub integer_led-requires : goal.integer_led-requires
integer_led-requires c = search ways

pub returns-in-End : goal.returns-in-End
returns-in-End c = search ways

pub returns-in-Foreign : goal.returns-in-Foreign
returns-in-Foreign c = search ways

pub returns-in-Byte : goal.returns-in-Byte
returns-in-Byte c = search ways
