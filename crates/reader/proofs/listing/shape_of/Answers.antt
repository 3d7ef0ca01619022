-- `reader::listing::shape_of` meets its contract. Assumes nothing.
use Rattle.std.proofs.Common.{rules, ◌≡◌, ◌⊎◌, inl, inr}
use Rattle.reader.specs.Kinds.{kind_as}
use Rattle.reader.specs.Listing.{shape_of}
use Rattle.reader.specs.declared.kinds.NodeKind.{NodeKind}
use Rattle.reader.specs.declared.kinds.NodeKind.TheVariants.{Plain, Negative, Call, Prefix, Infix, List, ListTail, Curly, EmptyList, EmptyCurly}
use Rattle.reader.specs.declared.listing.Shape.TheVariants as Shape
use Rattle.reader.proofs.listing.shape_of.Goals as goal

module _ (k : NodeKind) where
  plain : k ≡ Plain → Shape.Word ≡ shape_of (kind_as k)
  unfolding shape_of kind_as
  plain e = rw e

  minus : k ≡ Negative → Shape.Negative ≡ shape_of (kind_as k)
  unfolding shape_of kind_as
  minus e = rw e

  called : k ≡ Call ⊎ k ≡ Prefix ⊎ k ≡ Infix → Shape.Call ≡ shape_of (kind_as k)
  unfolding shape_of kind_as
  called (inl e) = rw e
  called (inr (inl e)) = rw e
  called (inr (inr e)) = rw e

  listed : k ≡ List ⊎ k ≡ EmptyList → Shape.Square ≡ shape_of (kind_as k)
  unfolding shape_of kind_as
  listed (inl e) = rw e
  listed (inr e) = rw e

  tailed : k ≡ ListTail → Shape.Tail ≡ shape_of (kind_as k)
  unfolding shape_of kind_as
  tailed e = rw e

  curled : k ≡ Curly ⊎ k ≡ EmptyCurly → Shape.Curly ≡ shape_of (kind_as k)
  unfolding shape_of kind_as
  curled (inl e) = rw e
  curled (inr e) = rw e

ruleset ways = (plain, minus, called, listed, tailed, curled, rules)

pub returns-in-Plain : goal.returns-in-Plain
returns-in-Plain c = search ways

pub returns-in-Negative : goal.returns-in-Negative
returns-in-Negative c = search ways

pub returns-in-Call : goal.returns-in-Call
returns-in-Call c = search ways

pub returns-in-List : goal.returns-in-List
returns-in-List c = search ways

pub returns-in-ListTail : goal.returns-in-ListTail
returns-in-ListTail c = search ways

pub returns-in-Curly : goal.returns-in-Curly
returns-in-Curly c = search ways
