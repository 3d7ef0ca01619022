-- `reader::machine::comma_step` meets its contract. Assumes nothing.
use Prim.Native.Nat.{ℕ, ◌≤◌}
use mathlib.Core.Path.{◌≡◌}
use mathlib.Core.Bool.{Bool, true, false}
use mathlib.Core.List.{List}
use borrow.Author.Rules.{rules}
use lib.ListN.{length}
use Rattle.reader.specs.Tree.{packed}
use Rattle.reader.specs.Machine.{red, separates, State, push_as, closing, comma_step}
use Rattle.reader.specs.Layout.{frames_of, out_of, red_of, stop_as, Room, Held}
use Rattle.reader.proofs.Stacks.{part_length, part_separates}
use Rattle.reader.proofs.Rooms.{held_reduced, held_room_none, held_none, depth_in}
use Rattle.reader.specs.declared.machine.Spot.{Spot}
use Rattle.reader.specs.declared.machine.Stop.TheVariants.{Comma}
use Rattle.reader.specs.Machine as M
use Rattle.reader.proofs.machine.comma_step.Goals as goal

module _ (st ns ns' : List ℕ) (s q : Spot) (i : ℕ) (v : Bool) (z : State) (e : red_of st ns' q ≡ M.reduce packed 1000 (frames_of st s.depth) (out_of ns s.count))
    (f : v ≡ separates (frames_of st q.depth)) where
  parts : v ≡ true → z ≡ closing packed (stop_as Comma) (red_of st ns' q) → z ≡ comma_step packed i (M.reduce packed 1000 (frames_of st s.depth) (out_of ns s.count))
  unfolding comma_step stop_as
  parts g h = cc

  joins : v ≡ false → z ≡ push_as i 1000 1001 (red_of st ns' q) → z ≡ comma_step packed i (M.reduce packed 1000 (frames_of st s.depth) (out_of ns s.count))
  unfolding comma_step
  joins g h = cc

module _ (st ns ns' : List ℕ) (d n d' n' b : ℕ) (h : Held st ns d n 1) (l : length ns' ≡ length ns)
    (e : red (frames_of st d') (out_of ns' n') ≡ M.reduce packed b (frames_of st d) (out_of ns n)) where
  reduced : Held st ns' d' n' 1
  reduced = held_reduced st ns ns' d n d' n' 1 b h l e

  to-close : Held st ns' d' n' 0
  to-close = held_none st ns' d' n' 1 reduced

  to_push : Room st ns' d' n' 1
  to_push = reduced.room

  depth_reduced : d' ≤ length st
  depth_reduced = depth_in st ns' d' n' 1 reduced.room

ruleset ways = (parts, joins, to-close, to_push, depth_reduced, part_length, part_separates, held_room_none, rules)

pub returns-then-separating : goal.returns-then-separating
returns-then-separating c = search ways

pub returns : goal.returns
returns c = search ways

pub slice_bounds-separating-end : goal.slice_bounds-separating-end
slice_bounds-separating-end c = search ways

pub slice_bounds-separating-end-2 : goal.slice_bounds-separating-end-2
slice_bounds-separating-end-2 c = search ways

pub close_with-requires : goal.close_with-requires
close_with-requires c = search ways

pub push_infix-requires-clause-room : goal.push_infix-requires-clause-room
push_infix-requires-clause-room c = search ways
