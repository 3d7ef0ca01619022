-- `lexer::number::point_token` meets its contract. Assumes nothing.
use Prim.Native.Nat.{ℕ, ◌+◌, ◌<◌, ◌≤◌}
use mathlib.Core.Path.{◌≡◌}
use mathlib.Core.List.{List}
use native.Mathlib.Nat.{min-eq_left}
use borrow.Author.Rules.{rules}
use borrow.Author.Tests.{lt-ltb, le-ltb}
use Rattle.lexer.specs.Digits.{digit_of}
use Rattle.lexer.specs.Look.{peek}
use Rattle.lexer.specs.Number.{point_to, fraction, held_numeral, held_number, Read, NumberRead}
use Rattle.lexer.specs.Refusal.{fault}
use Rattle.lexer.specs.declared.refusal.Fault.{Fault}
use Rattle.lexer.specs.declared.refusal.Refusal.TheVariants.{ForeignByte}
use Rattle.lexer.specs.declared.chars.Peek.{Peek}
use Rattle.lexer.specs.declared.chars.Peek.TheVariants.{Byte, Foreign, End}
use Rattle.lexer.specs.declared.digits.Digits.{Digits}
use Rattle.lexer.specs.declared.number.Numeral.TheVariants.{Integer}
use Rattle.lexer.specs.declared.number.NumberToken.TheVariants.{Whole}
use Rattle.lexer.proofs.HandedOn.{handed_on}
use Rattle.lexer.proofs.number.point_token.Goals as goal
use Rattle.std.specs.declared.result.Result.TheVariants.{Ok, Err}

module _ (s : List ℕ) (d : Digits) (h : Read s d) (p : Peek) (q : p ≡ peek s (d.end + 1)) where
  foreign : (w : Fault) → p ≡ Foreign → w ≡ fault ForeignByte (d.end + 1) → Err w ≡ held_number (point_to s d (peek s (d.end + 1)))
  unfolding point_to held_number
  foreign w f g = cc

  module _ (t : NumberRead) where
    ended : p ≡ End → t ≡ Ok (Whole (Integer d.value) d.end) → t ≡ held_number (point_to s d (peek s (d.end + 1)))
    unfolding point_to held_number held_numeral
    ended f g = cc (min-eq_left h.small)

    module _ (b k : ℕ) (f : p ≡ Byte b) (g : k ≡ digit_of b) where
      digit : k < 10 → t ≡ held_number (fraction s d) → t ≡ held_number (point_to s d (peek s (d.end + 1)))
      unfolding point_to
      digit i e = cc (lt-ltb k 10 i)

      none : 10 ≤ k → t ≡ Ok (Whole (Integer d.value) d.end) → t ≡ held_number (point_to s d (peek s (d.end + 1)))
      unfolding point_to held_number held_numeral
      none i e = cc (le-ltb k 10 i, min-eq_left h.small)

ruleset ways = (handed_on, ended, foreign, digit, none, rules)

pub returns-then-digit-lt10 : goal.returns-then-digit-lt10
returns-then-digit-lt10 c = search ways

pub returns-in-End : goal.returns-in-End
returns-in-End c = search ways

pub returns-in-Foreign : goal.returns-in-Foreign
returns-in-Foreign c = search ways

pub returns-else-digit-lt10 : goal.returns-else-digit-lt10
returns-else-digit-lt10 c = search ways
