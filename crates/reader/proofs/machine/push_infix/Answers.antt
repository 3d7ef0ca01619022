-- `reader::machine::push_infix` meets its contract. Assumes nothing.
use Prim.Native.Nat.{ℕ, ◌<◌, ◌≤◌}
use mathlib.Core.Path.{◌≡◌}
use mathlib.Core.List.{List, ◌∷◌}
use borrow.Author.Rules.{rules}
use borrow.Author.Tests.{lt-ltb, le-ltb}
use Rattle.reader.specs.Machine.{red, bound, lt?, push_as}
use Rattle.reader.specs.Layout.{frame_as, frames_of, out_of, red_of, state_of}
use Rattle.reader.proofs.Stacks.{part_bound}
use Rattle.reader.proofs.Rooms.{depth_in}
use Rattle.reader.specs.declared.machine.Spot.{Spot}
use Rattle.reader.specs.declared.machine.Mode.TheVariants.{Want, Dead}
use Rattle.reader.specs.declared.machine.Tag.TheVariants as Tag
use Rattle.reader.proofs.machine.push_infix.Goals as goal

module _ (st ns : List ℕ) (s : Spot) (i p b t : ℕ) (e : t ≡ bound (frames_of st s.depth)) where
  refused : t ≤ p → state_of Dead st ns ≡ push_as i p b (red_of st ns s)
  unfolding state_of push_as lt?
  refused h = cc (le-ltb p t h)

  pushed : (st' : List ℕ) (r : Spot) → p < t → red_of st' ns r ≡ red (frame_as Tag.Infix i p b ∷ frames_of st s.depth) (out_of ns s.count) →
      state_of (Want r) st' ns ≡ push_as i p b (red_of st ns s)
  unfolding state_of push_as lt? frame_as
  pushed st' r h f = cc (lt-ltb p t h)

ruleset ways = (depth_in, part_bound, refused, pushed, rules)

pub returns-then-top_bound-p : goal.returns-then-top_bound-p
returns-then-top_bound-p c = search ways

pub returns : goal.returns
returns c = search ways
