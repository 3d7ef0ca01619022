-- `lexer::number::radix_constant` meets its contract. Assumes nothing.
use Prim.Native.Nat.{ℕ, ◌+◌, ◌<◌, ◌≤◌}
use mathlib.Core.Path.{◌≡◌}
use mathlib.Core.List.{List}
use borrow.Author.Rules.{rules}
use borrow.Author.Tests.{lt-ltb, le-ltb}
use Rattle.lexer.specs.Digits.{digit_of, digits_at, held}
use Rattle.lexer.specs.Look.{peek, lookahead}
use Rattle.lexer.specs.Number.{radix_closed, radix_to, radix_constant, held_numeral, held_number}
use Rattle.lexer.specs.Refusal.{fault}
use Rattle.lexer.specs.declared.refusal.Fault.{Fault}
use Rattle.lexer.specs.declared.refusal.Refusal.TheVariants.{ForeignByte}
use Rattle.lexer.specs.Look.{Look}
use Rattle.std.specs.declared.result.Result.TheVariants.{Ok, Err}
use Rattle.lexer.specs.declared.chars.Peek.{Peek}
use Rattle.lexer.specs.declared.chars.Peek.TheVariants.{Byte, Foreign, End}
use Rattle.lexer.specs.declared.digits.Digits.{Digits}
use Rattle.lexer.specs.declared.number.Numeral.TheVariants.{Integer}
use Rattle.lexer.specs.declared.number.NumberToken.{NumberToken}
use Rattle.lexer.specs.declared.number.NumberToken.TheVariants.{Whole}
use Rattle.lexer.proofs.HandedOn.{handed_on}
use Rattle.lexer.proofs.number.radix_constant.Goals as goal

module _ (s : List ℕ) (at base : ℕ) (l : Look) (e : l ≡ lookahead s (at + 2)) where
  refused : (w : Fault) → l ≡ Err w → Err w ≡ held_number (radix_constant base s at)
  unfolding radix_to held_number
  refused w f = cc

  module _ (b k : ℕ) (f : l ≡ Ok b) (g : k ≡ digit_of b) where
    none : (t : NumberToken) → base ≤ k → t ≡ Whole (Integer 0) (at + 1) → Ok t ≡ held_number (radix_constant base s at)
    unfolding radix_to held_number held_numeral
    none t h i = cc (le-ltb k base h)

    module _ (d : Digits) (p : Peek) (h : k < base) (i : d ≡ held (digits_at base 0 s (at + 2))) (q : p ≡ peek s d.end) where
      foreign : (w : Fault) → p ≡ Foreign → w ≡ fault ForeignByte d.end → Err w ≡ held_number (radix_constant base s at)
      unfolding radix_to radix_closed held_number
      foreign w j m = cc (lt-ltb k base h)

      module _ (t : NumberToken) (m : t ≡ Whole (Integer d.value) d.end) where
        ended : p ≡ End → Ok t ≡ held_number (radix_constant base s at)
        unfolding radix_to radix_closed held_number held_numeral
        ended j = cc (lt-ltb k base h)

        byte : (c : ℕ) → p ≡ Byte c → Ok t ≡ held_number (radix_constant base s at)
        unfolding radix_to radix_closed held_number held_numeral
        byte c j = cc (lt-ltb k base h)

ruleset ways = (handed_on, refused, none, foreign, ended, byte, rules)

pub returns-in_err-b : goal.returns-in_err-b
returns-in_err-b c = search (ways, c.in_err-b.was)

pub returns-then-base-digit : goal.returns-then-base-digit
returns-then-base-digit c = search (ways, c.in_ok-b.was)

pub returns-in-Foreign : goal.returns-in-Foreign
returns-in-Foreign c = search (ways, c.in_ok-b.was)

pub returns-in-End : goal.returns-in-End
returns-in-End c = search (ways, c.in_ok-b.was)

pub returns-in-Byte : goal.returns-in-Byte
returns-in-Byte c = search (ways, c.in_ok-b.was)
