-- `lexer::number::exponent_letter` meets its contract. Assumes nothing.
use Prim.Native.Nat.{ℕ, ◌+◌}
use mathlib.Core.Path.{◌≡◌}
use mathlib.Core.Bool.{true, false}
use mathlib.Core.List.{List}
use borrow.Author.Rules.{rules}
use borrow.Author.Tests.{ne_eqb}
use Rattle.lexer.specs.Chars.{plus, minus}
use Rattle.lexer.specs.Look.{peek}
use Rattle.lexer.specs.Number.{letter_to, sign_to, held_exponent, ExponentRead}
use Rattle.lexer.specs.Refusal.{fault}
use Rattle.lexer.specs.declared.refusal.Fault.{Fault}
use Rattle.lexer.specs.declared.refusal.Refusal.TheVariants.{ForeignByte}
use Rattle.lexer.specs.declared.chars.Peek.{Peek}
use Rattle.lexer.specs.declared.chars.Peek.TheVariants.{Byte, Foreign, End}
use Rattle.lexer.specs.declared.number.Exponent.TheVariants.{Absent}
use Rattle.lexer.proofs.HandedOn.{handed_on}
use Rattle.lexer.proofs.Looks.{peek-fits}
use Rattle.lexer.proofs.number.exponent_letter.Goals as goal
use Rattle.std.specs.declared.result.Result.TheVariants.{Ok, Err}

module _ (s : List ℕ) (at : ℕ) (p : Peek) (q : p ≡ peek s at) where
  ended : p ≡ End → (Ok Absent) ≡ held_exponent (letter_to s at (peek s at))
  unfolding letter_to held_exponent
  ended f = cc

  foreign : (w : Fault) → p ≡ Foreign → w ≡ fault ForeignByte at → Err w ≡ held_exponent (letter_to s at (peek s at))
  unfolding letter_to held_exponent
  foreign w f g = cc

  module _ (b : ℕ) (r : ExponentRead) (f : p ≡ Byte b) where
    positive : b ≡ plus → r ≡ held_exponent (sign_to s false (at + 1) (peek s (at + 1))) → r ≡ held_exponent (letter_to s at (peek s at))
    unfolding letter_to
    positive g h = cc

    negative : b ≡ minus → r ≡ held_exponent (sign_to s true (at + 1) (peek s (at + 1))) → r ≡ held_exponent (letter_to s at (peek s at))
    unfolding letter_to
    negative g h = cc

    unsigned : (b ≡ plus → ⊥) → (b ≡ minus → ⊥) → r ≡ held_exponent (sign_to s false at (peek s at)) → r ≡ held_exponent (letter_to s at (peek s at))
    unfolding letter_to
    unsigned g h k = cc (ne_eqb b plus g, ne_eqb b minus h)

ruleset ways = (handed_on, ended, foreign, positive, negative, unsigned, peek-fits, rules)

pub overflow_add-at : goal.overflow_add-at
overflow_add-at c = search ways

pub overflow_add-at-in-45 : goal.overflow_add-at-in-45
overflow_add-at-in-45 c = search ways

pub returns-in-End : goal.returns-in-End
returns-in-End c = search ways

pub returns-in-Foreign : goal.returns-in-Foreign
returns-in-Foreign c = search ways

pub returns-in-43 : goal.returns-in-43
returns-in-43 c = search ways

pub returns-in-45 : goal.returns-in-45
returns-in-45 c = search ways

pub returns-in_default : goal.returns-in_default
returns-in_default c = search ways
