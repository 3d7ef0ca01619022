-- `pack::kinds::kind_can_have` meets its contract. Assumes nothing.
use Rattle.std.proofs.Common.{rules, ◌≡◌, ℕ, nat_eq}
use mathlib.Core.Path.{refl}
use mathlib.Core.Logic.{◌⊎◌, inl, inr}
use lib.Dec.{leb}
use Rattle.reader.specs.Tree.{kind_number}
use Rattle.reader.specs.Kinds.{kind_as, number_of}
use Rattle.pack.specs.Node.{can_have}
use Rattle.reader.specs.declared.kinds.NodeKind.{NodeKind}
use Rattle.reader.specs.declared.kinds.NodeKind.TheVariants.{Plain, Negative, Call, Prefix, Infix, List, ListTail, Curly, EmptyList, EmptyCurly}
use Rattle.pack.proofs.kinds.kind_can_have.Goals as goal

module _ (k : NodeKind) (a : ℕ) where
  leaf : (k ≡ Plain) ⊎ (k ≡ Negative) → nat_eq a 0 ≡ can_have (number_of k) a
  unfolding can_have kind_number kind_as
  leaf (inl e) = rw e refl
  leaf (inr e) = rw e refl

  empty : (k ≡ EmptyList) ⊎ (k ≡ EmptyCurly) → nat_eq a 0 ≡ can_have (number_of k) a
  unfolding can_have kind_number kind_as
  empty (inl e) = rw e refl
  empty (inr e) = rw e refl

  one : (k ≡ Prefix) ⊎ (k ≡ Curly) → nat_eq a 1 ≡ can_have (number_of k) a
  unfolding can_have kind_number kind_as
  one (inl e) = rw e refl
  one (inr e) = rw e refl

  both : k ≡ Infix → nat_eq a 2 ≡ can_have (number_of k) a
  unfolding can_have kind_number kind_as
  both e = rw e refl

  some : (k ≡ Call) ⊎ (k ≡ List) → leb 1 a ≡ can_have (number_of k) a
  unfolding can_have kind_number kind_as
  some (inl e) = rw e refl
  some (inr e) = rw e refl

  more : k ≡ ListTail → leb 2 a ≡ can_have (number_of k) a
  unfolding can_have kind_number kind_as
  more e = rw e refl

ruleset ways = (leaf, empty, one, both, some, more, rules)

pub returns-in-Plain : goal.returns-in-Plain
returns-in-Plain c = search ways

pub returns-in-EmptyList : goal.returns-in-EmptyList
returns-in-EmptyList c = search ways

pub returns-in-Prefix : goal.returns-in-Prefix
returns-in-Prefix c = search ways

pub returns-in-Infix : goal.returns-in-Infix
returns-in-Infix c = search ways

pub returns-in-Call : goal.returns-in-Call
returns-in-Call c = search ways

pub returns-in-ListTail : goal.returns-in-ListTail
returns-in-ListTail c = search ways
