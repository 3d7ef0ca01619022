-- `reader::machine::close_with` meets its contract. Assumes nothing.
use Rattle.std.proofs.Common.{rules, ◌≡◌, ℕ, ◌-◌, ◌<◌, ◌≤◌, List, ◌∷◌, get_or}
use native.Mathlib.Omega.{arith}
use Rattle.reader.specs.Tree.{packed}
use Rattle.reader.specs.Machine.{State, red, closing, size}
use Rattle.reader.specs.Layout.{frame_of, frames_of, out_of, red_of, stop_as, state_of, Room, most, Held}
use Rattle.reader.proofs.Stacks.{pop_frame, no_frame}
use Rattle.reader.proofs.Rooms.{top-size}
use Rattle.reader.specs.declared.machine.Spot.{Spot}
use Rattle.reader.specs.declared.machine.Stop.{Stop}
use Rattle.reader.specs.declared.machine.Mode.TheVariants.{Dead}
use Rattle.reader.proofs.machine.close_with.Goals as goal

empty : (st ns : List ℕ) (s : Spot) (x : Stop) → s.depth ≡ 0 → state_of Dead st ns ≡ closing packed (stop_as x) (red_of st ns s)
unfolding state_of closing
empty st ns s x e = cc (no_frame st s.depth (omega arith))

module _ (st ns : List ℕ) (d n : ℕ) (h : d ≡ 0 → ⊥) where
  one : 0 < d
  one = omega (arith, h)

  room_below : Held st ns d n 0 → Room st ns (d - 1) n 1
  room_below r = let k = one in record { frames = omega (arith, r.room.frames); nodes = omega (arith, r.room.nodes) }

  few : Held st ns d n 0 → size (frame_of (get_or st (d - 1) 0)) ≤ most
  few g = top-size st d one g.places

  ends : (x : Stop) (z : State) → z ≡ closing packed (stop_as x) (red (frame_of (get_or st (d - 1) 0) ∷ frames_of st (d - 1)) (out_of ns n)) →
      z ≡ closing packed (stop_as x) (red (frames_of st d) (out_of ns n))
  ends x z k = cc (pop_frame st d one)

ruleset ways = (empty, room_below, few, ends, rules)

pub returns-then-depth-eq0 : goal.returns-then-depth-eq0
returns-then-depth-eq0 c = search ways

pub returns : goal.returns
returns c = search ways

pub at_frame-requires-clause-few : goal.at_frame-requires-clause-few
at_frame-requires-clause-few c = search ways
