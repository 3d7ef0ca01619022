-- `reader::machine::infix_as` meets its contract. Assumes nothing.
use Prim.Native.Nat.{ℕ}
use mathlib.Core.Path.{◌≡◌}
use mathlib.Core.List.{List}
use borrow.Author.Rules.{rules}
use Rattle.reader.specs.Tree.{packed}
use Rattle.reader.specs.Machine.{State, push_as}
use Rattle.reader.specs.Layout.{frames_of, out_of, red_of}
use Rattle.reader.proofs.Rooms.{room_reduced, room_none}
use Rattle.reader.specs.declared.machine.Spot.{Spot}
use Rattle.reader.specs.Machine as M
use Rattle.reader.proofs.machine.infix_as.Goals as goal

pushed : (st ns ns' : List ℕ) (s q : Spot) (i p b left : ℕ) (z : State) →
    red_of st ns' q ≡ M.reduce packed left (frames_of st s.depth) (out_of ns s.count) → z ≡ push_as i p b (red_of st ns' q) →
    z ≡ push_as i p b (M.reduce packed left (frames_of st s.depth) (out_of ns s.count))
pushed st ns ns' s q i p b left z e f = cc

ruleset ways = (room_none, pushed, room_reduced, rules)

pub push_infix-requires-clause-room : goal.push_infix-requires-clause-room
push_infix-requires-clause-room c = search ways
