-- `lexer::number::exponent_sign` meets its contract. Assumes nothing.
use Prim.Native.Nat.{ℕ, ◌<◌, ◌≤◌}
use mathlib.Core.Path.{◌≡◌}
use mathlib.Core.Bool.{Bool}
use mathlib.Core.List.{List}
use borrow.Author.Rules.{rules}
use borrow.Author.Tests.{lt-ltb, le-ltb}
use Rattle.lexer.specs.Digits.{digit_of}
use Rattle.lexer.specs.Look.{peek}
use Rattle.lexer.specs.Number.{sign_to, exponent_digits, held_exponent, ExponentRead}
use Rattle.lexer.specs.Refusal.{fault}
use Rattle.lexer.specs.declared.refusal.Fault.{Fault}
use Rattle.lexer.specs.declared.refusal.Refusal.TheVariants.{ForeignByte}
use Rattle.lexer.specs.declared.chars.Peek.{Peek}
use Rattle.lexer.specs.declared.chars.Peek.TheVariants.{Byte, Foreign, End}
use Rattle.lexer.specs.declared.number.Exponent.TheVariants.{Absent}
use Rattle.lexer.proofs.HandedOn.{handed_on}
use Rattle.lexer.proofs.number.exponent_sign.Goals as goal
use Rattle.std.specs.declared.result.Result.TheVariants.{Ok, Err}

module _ (s : List ℕ) (at : ℕ) (sign : Bool) (p : Peek) (q : p ≡ peek s at) where
  ended : p ≡ End → (Ok Absent) ≡ held_exponent (sign_to s sign at (peek s at))
  unfolding sign_to held_exponent
  ended f = cc

  foreign : (w : Fault) → p ≡ Foreign → w ≡ fault ForeignByte at → Err w ≡ held_exponent (sign_to s sign at (peek s at))
  unfolding sign_to held_exponent
  foreign w f g = cc

  module _ (b d : ℕ) (f : p ≡ Byte b) (g : d ≡ digit_of b) where
    digit : (r : ExponentRead) → d < 10 → r ≡ held_exponent (exponent_digits s sign at) → r ≡ held_exponent (sign_to s sign at (peek s at))
    unfolding sign_to
    digit r h k = cc (lt-ltb d 10 h)

    none : 10 ≤ d → (Ok Absent) ≡ held_exponent (sign_to s sign at (peek s at))
    unfolding sign_to held_exponent
    none h = cc (le-ltb d 10 h)

ruleset ways = (handed_on, ended, foreign, digit, none, rules)

pub returns-then-digit-lt10 : goal.returns-then-digit-lt10
returns-then-digit-lt10 c = search ways

pub returns-in-End : goal.returns-in-End
returns-in-End c = search ways

pub returns-in-Foreign : goal.returns-in-Foreign
returns-in-Foreign c = search ways

pub returns-else-digit-lt10 : goal.returns-else-digit-lt10
returns-else-digit-lt10 c = search ways
