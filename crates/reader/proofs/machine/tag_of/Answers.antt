-- `reader::machine::tag_of` meets its contract. Assumes nothing.
use Rattle.std.proofs.Common.{rules, ◌≡◌, ℕ}
use borrow.Author.Tests.{ne_eqb}
use Rattle.reader.specs.Layout.{tag_as}
use Rattle.reader.specs.declared.machine.Tag.TheVariants.{Prefix, Infix, Top, Round, Curly, Call, List as ListTag, Tail}
use Rattle.reader.proofs.machine.tag_of.Goals as goal

module _ (n : ℕ) where
  is-0 : n ≡ 0 → Prefix ≡ tag_as n
  unfolding tag_as
  is-0 e = rw e

  is-1 : n ≡ 1 → Infix ≡ tag_as n
  unfolding tag_as
  is-1 e = rw e

  is-2 : n ≡ 2 → Top ≡ tag_as n
  unfolding tag_as
  is-2 e = rw e

  is-3 : n ≡ 3 → Round ≡ tag_as n
  unfolding tag_as
  is-3 e = rw e

  is-4 : n ≡ 4 → Curly ≡ tag_as n
  unfolding tag_as
  is-4 e = rw e

  is-5 : n ≡ 5 → Call ≡ tag_as n
  unfolding tag_as
  is-5 e = rw e

  is-6 : n ≡ 6 → ListTag ≡ tag_as n
  unfolding tag_as
  is-6 e = rw e

  is_other : (n ≡ 0 → ⊥) → (n ≡ 1 → ⊥) → (n ≡ 2 → ⊥) → (n ≡ 3 → ⊥) → (n ≡ 4 → ⊥) → (n ≡ 5 → ⊥) → (n ≡ 6 → ⊥) → Tail ≡ tag_as n
  unfolding tag_as
  is_other h0 h1 h2 h3 h4 h5 h6 = rw (ne_eqb n 0 h0, ne_eqb n 1 h1, ne_eqb n 2 h2, ne_eqb n 3 h3, ne_eqb n 4 h4, ne_eqb n 5 h5, ne_eqb n 6 h6)

ruleset ways = (is-0, is-1, is-2, is-3, is-4, is-5, is-6, is_other, rules)

pub returns-in-0 : goal.returns-in-0
returns-in-0 c = search ways

pub returns-in-1 : goal.returns-in-1
returns-in-1 c = search ways

pub returns-in-2 : goal.returns-in-2
returns-in-2 c = search ways

pub returns-in-3 : goal.returns-in-3
returns-in-3 c = search ways

pub returns-in-4 : goal.returns-in-4
returns-in-4 c = search ways

pub returns-in-5 : goal.returns-in-5
returns-in-5 c = search ways

pub returns-in-6 : goal.returns-in-6
returns-in-6 c = search ways

pub returns-in_default : goal.returns-in_default
returns-in_default c = search ways
