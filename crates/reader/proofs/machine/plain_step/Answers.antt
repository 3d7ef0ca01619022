-- `reader::machine::plain_step` meets its contract. Assumes nothing.
use Prim.Native.Nat.{ℕ}
use mathlib.Core.Path.{◌≡◌}
use mathlib.Core.List.{List, ◌∷◌}
use borrow.Author.Rules.{rules}
use Rattle.reader.specs.Tree.{plain, packed}
use Rattle.reader.specs.Machine.{nd, red, State, have_step}
use Rattle.reader.specs.Layout.{frames_of, out_of, red_of}
use Rattle.reader.proofs.Rooms.{held_room_one, held_noded}
use Rattle.reader.specs.declared.machine.Spot.{Spot}
use Rattle.reader.specs.Machine as M
use Rattle.reader.specs.Kinds.{kind_as}
use Rattle.reader.specs.declared.kinds.NodeKind.TheVariants as NodeKind
use Rattle.reader.proofs.machine.plain_step.Goals as goal

plainly : (st ns ns' : List ℕ) (s q : Spot) (i j : ℕ) (k : M.Sight) (z : State) →
    red_of st ns' q ≡ red (frames_of st s.depth) (nd i (packed (kind_as NodeKind.Plain) 0) ∷ out_of ns s.count) →
    z ≡ have_step packed (frames_of st q.depth) (out_of ns' q.count) j k →
    z ≡ have_step packed (frames_of st s.depth) (nd i (packed plain 0) ∷ out_of ns s.count) j k
unfolding kind_as
plainly st ns ns' s q i j k z e f = cc

ruleset ways = (plainly, held_room_one, held_noded, rules)

pub returns : goal.returns
returns c = search ways

pub have_step-requires : goal.have_step-requires
have_step-requires c = search ways
