-- `lexer::number::integer_led` meets its contract. Assumes nothing.
use Prim.Native.Nat.{ℕ, ◌+◌}
use mathlib.Core.Path.{◌≡◌}
use mathlib.Core.List.{List}
use native.Mathlib.Nat.{min-eq_left}
use borrow.Author.Rules.{rules}
use borrow.Author.Tests.{ne_eqb, eq-eqb}
use Rattle.lexer.specs.Chars.{underscore, point}
use Rattle.lexer.specs.Look.{peek}
use Rattle.lexer.specs.Number.{point_to, integer_to, zero_to, held_numeral, held_number, Led, NumberRead}
use Rattle.lexer.specs.Refusal.{fault}
use Rattle.lexer.specs.declared.refusal.Refusal.TheVariants.{SetAside}
use Rattle.lexer.specs.declared.chars.Peek.TheVariants.{Byte}
use Rattle.lexer.specs.declared.digits.Digits.{Digits}
use Rattle.lexer.specs.declared.number.Numeral.TheVariants.{Integer}
use Rattle.lexer.specs.declared.number.NumberToken.TheVariants.{Whole}
use Rattle.lexer.proofs.HandedOn.{handed_on}
use Rattle.lexer.proofs.number.integer_led.Goals as goal
use Rattle.std.specs.declared.result.Result.TheVariants.{Ok, Err}

module _ (s : List ℕ) (at : ℕ) (d : Digits) (h : Led s at d) (b : ℕ) where
  set_aside : b ≡ underscore → Err (fault SetAside at) ≡ held_number (integer_to s at d (Byte b))
  unfolding integer_to held_number
  set_aside f = cc

  module _ (t : NumberRead) where
    pointed : b ≡ point → t ≡ held_number (point_to s d (peek s (d.end + 1))) → t ≡ held_number (integer_to s at d (Byte b))
    unfolding integer_to
    pointed f e = cc

    module _ (f : b ≡ underscore → ⊥) (g : b ≡ point → ⊥) where
      longer : (d.end ≡ at + 1 → ⊥) → t ≡ Ok (Whole (Integer d.value) d.end) → t ≡ held_number (integer_to s at d (Byte b))
      unfolding integer_to held_number held_numeral
      longer i e = cc (ne_eqb b underscore f, ne_eqb b point g, ne_eqb d.end (at + 1) i, min-eq_left h.read.small)

      module _ (i : d.end ≡ at + 1) where
        larger : (d.value ≡ 0 → ⊥) → t ≡ Ok (Whole (Integer d.value) d.end) → t ≡ held_number (integer_to s at d (Byte b))
        unfolding integer_to held_number held_numeral
        larger j e = cc (ne_eqb b underscore f, ne_eqb b point g, eq-eqb d.end (at + 1) i, ne_eqb d.value 0 j, min-eq_left h.read.small)

        nought : d.value ≡ 0 → t ≡ held_number (zero_to s at b) → t ≡ held_number (integer_to s at d (Byte b))
        unfolding integer_to
        nought j e = cc (ne_eqb b underscore f, ne_eqb b point g, eq-eqb d.end (at + 1) i)

ruleset ways = (handed_on, set_aside, pointed, longer, larger, nought, rules)

pub returns-then-whole-at : goal.returns-then-whole-at
returns-then-whole-at c = search ways

pub returns-then-whole-ne0 : goal.returns-then-whole-ne0
returns-then-whole-ne0 c = search ways

pub returns-in-95 : goal.returns-in-95
returns-in-95 c = search ways

pub returns-in-46 : goal.returns-in-46
returns-in-46 c = search ways

pub returns-else-whole-ne0 : goal.returns-else-whole-ne0
returns-else-whole-ne0 c = search ways
