-- `lexer::number::exponent_part` meets its contract. Assumes nothing.
use Prim.Native.Nat.{ℕ, ◌+◌}
use mathlib.Core.Path.{◌≡◌}
use mathlib.Core.Logic.{◌⊎◌, inl, inr, ⊎_elim}
use mathlib.Core.List.{List}
use borrow.Author.Rules.{rules}
use borrow.Author.Tests.{ne_eqb}
use Rattle.lexer.specs.Chars.{small_e, capital_e}
use Rattle.lexer.specs.Look.{peek}
use Rattle.lexer.specs.Number.{exponent_to, exponent, letter_to, held_exponent, ExponentRead}
use Rattle.lexer.specs.Refusal.{fault}
use Rattle.lexer.specs.declared.refusal.Fault.{Fault}
use Rattle.lexer.specs.declared.refusal.Refusal.TheVariants.{ForeignByte}
use Rattle.lexer.specs.declared.chars.Peek.{Peek}
use Rattle.lexer.specs.declared.chars.Peek.TheVariants.{Byte, Foreign, End}
use Rattle.lexer.specs.declared.number.Exponent.TheVariants.{Absent, Ended}
use Rattle.lexer.proofs.HandedOn.{handed_on}
use Rattle.lexer.proofs.Looks.{peek-fits}
use Rattle.lexer.proofs.number.exponent_part.Goals as goal
use Rattle.std.specs.declared.result.Result.TheVariants.{Ok, Err}

module _ (s : List ℕ) (at : ℕ) (p : Peek) (q : p ≡ peek s at) where
  ended : p ≡ End → (Ok Ended) ≡ held_exponent (exponent s at)
  unfolding exponent_to held_exponent
  ended f = cc

  foreign : (w : Fault) → p ≡ Foreign → w ≡ fault ForeignByte at → Err w ≡ held_exponent (exponent s at)
  unfolding exponent_to held_exponent
  foreign w f g = cc

  module _ (b : ℕ) (f : p ≡ Byte b) where
    letter : (r : ExponentRead) → (b ≡ capital_e) ⊎ (b ≡ small_e) → r ≡ held_exponent (letter_to s (at + 1) (peek s (at + 1))) → r ≡ held_exponent (exponent s at)
    unfolding exponent_to
    letter r g h = ⊎_elim (λ (x : b ≡ capital_e). cc) (λ (x : b ≡ small_e). cc) g

    none : ((b ≡ capital_e) ⊎ (b ≡ small_e) → ⊥) → (Ok Absent) ≡ held_exponent (exponent s at)
    unfolding exponent_to held_exponent
    none g = cc (ne_eqb b small_e (λ x. g (inr x)), ne_eqb b capital_e (λ x. g (inl x)))

ruleset ways = (handed_on, ended, foreign, letter, none, peek-fits, rules)

pub overflow_add-at : goal.overflow_add-at
overflow_add-at c = search ways

pub returns-in-End : goal.returns-in-End
returns-in-End c = search ways

pub returns-in-Foreign : goal.returns-in-Foreign
returns-in-Foreign c = search ways

pub returns-in-101 : goal.returns-in-101
returns-in-101 c = search ways

pub returns-in_default : goal.returns-in_default
returns-in_default c = search ways
