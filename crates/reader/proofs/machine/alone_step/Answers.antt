-- `reader::machine::alone_step` meets its contract. Assumes nothing.
use Prim.Native.Nat.{ℕ}
use mathlib.Core.Path.{◌≡◌}
use mathlib.Core.List.{List, ◌∷◌}
use borrow.Author.Rules.{rules}
use Rattle.reader.specs.Tree.{plain, packed}
use Rattle.reader.specs.Machine.{nd, red, State, closing}
use Rattle.reader.specs.Layout.{frames_of, out_of, red_of}
use Rattle.reader.proofs.Rooms.{held_room, held_noded}
use Rattle.reader.specs.declared.machine.Spot.{Spot}
use Rattle.reader.specs.Token
use Rattle.reader.specs.Kinds.{kind_as}
use Rattle.reader.specs.declared.kinds.NodeKind.TheVariants as NodeKind
use Rattle.reader.proofs.machine.alone_step.Goals as goal

alone : (st ns ns' : List ℕ) (s q : Spot) (i : ℕ) (x : Token.Stop) (z : State) →
    red_of st ns' q ≡ red (frames_of st s.depth) (nd i (packed (kind_as NodeKind.Plain) 0) ∷ out_of ns s.count) → z ≡ closing packed x (red_of st ns' q) →
    z ≡ closing packed x (red (frames_of st s.depth) (nd i (packed plain 0) ∷ out_of ns s.count))
unfolding kind_as
alone st ns ns' s q i x z e f = cc

ruleset ways = (alone, held_room, held_noded, rules)

pub returns : goal.returns
returns c = search ways

pub close_with-requires : goal.close_with-requires
close_with-requires c = search ways
