-- `reader::kinds::packed` meets its contract. Assumes nothing.
use Rattle.std.proofs.Common.{◌≡◌, refl, ℕ, ◌+◌, ◌*◌}
use denote.Enum.Declared.{tag_of as number_of}
use Rattle.reader.specs.Tree.{kind_number, packed}
use Rattle.reader.specs.Kinds.{kind_as}
use Rattle.reader.specs.contracts.kinds.NodeKind.{the_type}
use Rattle.reader.specs.declared.kinds.NodeKind.{NodeKind}
use Rattle.reader.specs.declared.kinds.NodeKind.TheVariants.{Plain, Negative, Call, Prefix, Infix, List, ListTail, Curly, EmptyList, EmptyCurly}
use Rattle.reader.proofs.kinds.packed.Goals as goal

made : (k : NodeKind) (a : ℕ) → number_of the_type k * 1024 + a ≡ packed (kind_as k) a
unfolding packed kind_as kind_number
made Plain a = refl
made Negative a = refl
made Call a = refl
made Prefix a = refl
made Infix a = refl
made List a = refl
made ListTail a = refl
made Curly a = refl
made EmptyList a = refl
made EmptyCurly a = refl

pub returns : goal.returns
returns c = made c.args.kind c.args.arity
