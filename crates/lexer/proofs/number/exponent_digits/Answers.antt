-- `lexer::number::exponent_digits` meets its contract. Assumes nothing.
use Prim.Native.Nat.{ℕ}
use mathlib.Core.Path.{◌≡◌}
use mathlib.Core.Bool.{Bool}
use mathlib.Core.List.{List}
use borrow.Author.Rules.{rules}
use Rattle.lexer.specs.Digits.{digits_at, held}
use Rattle.lexer.specs.Look.{peek}
use Rattle.lexer.specs.Number.{exponent_ends, exponent_digits, held_exponent}
use Rattle.lexer.specs.Refusal.{fault}
use Rattle.lexer.specs.declared.refusal.Fault.{Fault}
use Rattle.lexer.specs.declared.refusal.Refusal.TheVariants.{ForeignByte}
use Rattle.lexer.specs.declared.chars.Peek.{Peek}
use Rattle.lexer.specs.declared.chars.Peek.TheVariants.{Byte, Foreign, End}
use Rattle.lexer.specs.declared.digits.Digits.{Digits}
use Rattle.lexer.specs.declared.number.Exponent.TheVariants.{Whole, Partial}
use Rattle.lexer.proofs.HandedOn.{handed_on}
use Rattle.lexer.proofs.number.exponent_digits.Goals as goal
use Rattle.std.specs.declared.result.Result.TheVariants.{Ok, Err}

module _ (s : List ℕ) (at : ℕ) (sign : Bool) (d : Digits) (p : Peek) (e : d ≡ held (digits_at 10 0 s at)) (q : p ≡ peek s d.end) where
  ended : p ≡ End → Ok (Partial sign d.value d.end) ≡ held_exponent (exponent_digits s sign at)
  unfolding exponent_ends held_exponent
  ended f = cc

  foreign : (w : Fault) → p ≡ Foreign → w ≡ fault ForeignByte d.end → Err w ≡ held_exponent (exponent_digits s sign at)
  unfolding exponent_ends held_exponent
  foreign w f g = cc

  byte : (b : ℕ) → p ≡ Byte b → Ok (Whole sign d.value d.end) ≡ held_exponent (exponent_digits s sign at)
  unfolding exponent_ends held_exponent
  byte b f = cc

ruleset ways = (handed_on, ended, foreign, byte, rules)

pub returns-in-Foreign : goal.returns-in-Foreign
returns-in-Foreign c = search ways

pub returns-in-End : goal.returns-in-End
returns-in-End c = search ways

pub returns-in-Byte : goal.returns-in-Byte
returns-in-Byte c = search ways
