-- `reader::machine::step` meets its contract. Assumes nothing.
use Prim.Native.Nat.{ℕ, ◌+◌}
use mathlib.Core.Path.{◌≡◌}
use mathlib.Core.List.{List}
use native.Mathlib.Omega.{arith}
use Rattle.std.proofs.Common.{rules, ◌⊎◌, inl, inr}
use Rattle.reader.specs.Tree.{packed}
use Rattle.reader.specs.Machine.{State, want_step, have_step, pend_step, begun_step}
use Rattle.reader.specs.Layout.{frames_of, out_of, pre_of, inf_of, shape_of, state_of, Room, Held, takes, Ready}
use Rattle.reader.specs.declared.machine.Spot.{Spot}
use Rattle.reader.specs.declared.machine.Pending.{Pending}
use Rattle.reader.specs.declared.machine.Sight.{Sight}
use Rattle.reader.specs.declared.machine.Shape.{Shape}
use Rattle.reader.specs.declared.machine.Mode.{Mode}
use Rattle.reader.specs.declared.machine.Mode.TheVariants.{Want, Pend, Begun, Have, Dead, Done}
use Rattle.reader.specs.Machine as M
use Rattle.reader.proofs.machine.step.Goals as goal

-- what a step asks, in each mode
module _ (st ns : List ℕ) (m : Mode) (k : Sight) (s : Spot) (h : Ready m k st ns) where
  room_want : m ≡ Want s → Room st ns s.depth s.count (takes k)
  room_want e = let r : Held st ns s.depth s.count (takes k + 0) = rw e at h in record { frames = omega (arith, r.room.frames); nodes = omega (arith, r.room.nodes) }

  held_pend : (p : Pending) → m ≡ Pend s p → Held st ns s.depth s.count (takes k + 1)
  held_pend p e = rw e at h

  room_begun : (g : Shape) (i : ℕ) → m ≡ Begun s g i → Room st ns s.depth s.count (takes k + 1)
  room_begun g i e = let r : Held st ns s.depth s.count (takes k + 1) = rw e at h in r.room

  held_have : m ≡ Have s → Held st ns s.depth s.count (takes k)
  held_have e =
      let r : Held st ns s.depth s.count (takes k + 0) = rw e at h in
      record { room = record { frames = omega (arith, r.room.frames); nodes = omega (arith, r.room.nodes) }; places = r.places }

module _ (st ns : List ℕ) (m : Mode) (j : ℕ) (k : M.Sight) where
  module _ (s : Spot) (z : State) where
    at_want : m ≡ Want s → z ≡ want_step packed (frames_of st s.depth) (out_of ns s.count) j k → z ≡ M.step packed (state_of m st ns) j k
    unfolding state_of M.step
    at_want e f = rw e f

    at_pend : (p : Pending) → m ≡ Pend s p →
        z ≡ pend_step packed p.index p.end p.roles.minus (pre_of p.roles.prefix) (inf_of p.roles.«infix») (frames_of st s.depth) (out_of ns s.count) j k →
        z ≡ M.step packed (state_of m st ns) j k
    unfolding state_of M.step
    at_pend p e f = rw e f

    at-begun : (h : Shape) (i : ℕ) → m ≡ Begun s h i → z ≡ begun_step packed (shape_of h) i (frames_of st s.depth) (out_of ns s.count) j k →
        z ≡ M.step packed (state_of m st ns) j k
    unfolding state_of M.step
    at-begun h i e f = rw e f

    at_have : m ≡ Have s → z ≡ have_step packed (frames_of st s.depth) (out_of ns s.count) j k → z ≡ M.step packed (state_of m st ns) j k
    unfolding state_of M.step
    at_have e f = rw e f

  over : m ≡ Dead ⊎ ((n : ℕ) × m ≡ Done n) → state_of Dead st ns ≡ M.step packed (state_of m st ns) j k
  unfolding state_of M.step
  over (inl e) = rw e
  over (inr (n, e)) = rw e

ruleset ways = (room_want, held_pend, room_begun, held_have, at_want, at_pend, at-begun, at_have, over, rules)

pub returns-in-Want : goal.returns-in-Want
returns-in-Want c = search ways

pub returns-in-Pend : goal.returns-in-Pend
returns-in-Pend c = search ways

pub returns-in-Begun : goal.returns-in-Begun
returns-in-Begun c = search ways

pub returns-in-Have : goal.returns-in-Have
returns-in-Have c = search ways

pub returns-in-Dead : goal.returns-in-Dead
returns-in-Dead c = search ways
