-- `reader::clause::is_lowest` meets its contract. Assumes nothing.
use Prim.Native.Nat.{ℕ}
use mathlib.Core.Path.{◌≡◌, refl}
use mathlib.Core.Bool.{false}
use borrow.Author.Rules.{rules}
use lib.Dec.{eqb}
use Rattle.lexer.specs.Digits.{largest_magnitude}
use Rattle.reader.specs.Token.{Value, Integer, Float, Nothing, is_lowest}
use Rattle.reader.proofs.clause.is_lowest.Goals as goal

integer : (v : Value) (n : ℕ) → v ≡ Integer n → eqb n largest_magnitude ≡ is_lowest v
unfolding is_lowest
integer v n e = cc

other : (v : Value) → ((n : ℕ) → v ≡ Integer n → ⊥) → false ≡ is_lowest v
unfolding is_lowest
other (Integer n) h = absurd (h n refl)
other (Float x) h = refl
other Nothing h = refl

ruleset ways = (integer, other, rules)

pub returns-in-Integer : goal.returns-in-Integer
returns-in-Integer c = search ways

pub returns-in_default : goal.returns-in_default
returns-in_default c = search ways
