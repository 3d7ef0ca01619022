-- `reader::machine::close_place` meets its contract. Assumes nothing.
use Prim.Native.Nat.{ℕ}
use mathlib.Core.Path.{◌≡◌}
use mathlib.Core.List.{List}
use borrow.Author.Rules.{rules}
use Rattle.reader.specs.Tree.{packed}
use Rattle.reader.specs.Machine.{State, closing}
use Rattle.reader.specs.Layout.{frames_of, out_of, red_of}
use Rattle.reader.proofs.Rooms.{held_reduced, held_room}
use Rattle.reader.specs.declared.machine.Spot.{Spot}
use Rattle.reader.specs.Token
use Rattle.reader.specs.Machine as M
use Rattle.reader.proofs.machine.close_place.Goals as goal

closed : (st ns ns' : List ℕ) (s q : Spot) (x : Token.Stop) (b : ℕ) (z : State) →
    red_of st ns' q ≡ M.reduce packed b (frames_of st s.depth) (out_of ns s.count) → z ≡ closing packed x (red_of st ns' q) →
    z ≡ closing packed x (M.reduce packed b (frames_of st s.depth) (out_of ns s.count))
closed st ns ns' s q x b z e f = cc

ruleset ways = (closed, held_room, held_reduced, rules)

pub close_with-requires : goal.close_with-requires
close_with-requires c = search ways
