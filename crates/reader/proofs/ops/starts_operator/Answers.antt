-- `reader::ops::starts_operator` meets its contract. Assumes nothing.
use Rattle.std.proofs.Common.{rules, ◌≡◌, ℕ, true, ltb, ◌⊎◌, inl, inr}
use borrow.Author.Tests.{ne_eqb}
use Rattle.reader.specs.Names.{starts_operator}
use Rattle.reader.proofs.ops.starts_operator.Goals as goal

module _ (b : ℕ) where
  small : b ≡ 105 ⊎ b ≡ 109 ⊎ b ≡ 114 → true ≡ starts_operator b
  unfolding starts_operator
  small (inl e) = rw e
  small (inr (inl e)) = rw e
  small (inr (inr e)) = rw e

  others : (b ≡ 105 → ⊥) → (b ≡ 109 → ⊥) → (b ≡ 114 → ⊥) → ltb b 97 ≡ starts_operator b
  unfolding starts_operator
  others e f g = rw (ne_eqb b 105 e, ne_eqb b 109 f, ne_eqb b 114 g)

ruleset ways = (small, others, rules)

pub returns-in-105 : goal.returns-in-105
returns-in-105 c = search ways

pub returns-in_default : goal.returns-in_default
returns-in_default c = search ways
