-- `reader::machine::prefix_as` meets its contract. Assumes nothing.
use Prim.Native.Nat.{ℕ, ◌<◌, ◌≤◌}
use mathlib.Core.Path.{◌≡◌}
use mathlib.Core.List.{List, ◌∷◌}
use borrow.Author.Rules.{rules}
use borrow.Author.Tests.{lt-ltb, le-ltb}
use Rattle.reader.specs.Tree.{packed}
use Rattle.reader.specs.Machine.{Out, Frames, bound, State, lt?, want_step, prefix_as}
use Rattle.reader.specs.Layout.{frame_as, state_of}
use Rattle.reader.proofs.Stacks.{part_bound}
use Rattle.reader.proofs.Rooms.{depth_in}
use Rattle.reader.specs.declared.machine.Mode.TheVariants.{Dead}
use Rattle.reader.specs.Machine as M
use Rattle.reader.specs.declared.machine.Tag.TheVariants as Tag
use Rattle.reader.proofs.machine.prefix_as.Goals as goal

module _ (i p b t j : ℕ) (k : M.Sight) (fs : Frames) (out : Out) (e : t ≡ bound fs) where
  refused : (st ns : List ℕ) → t ≤ p → state_of Dead st ns ≡ prefix_as packed i p b fs out j k
  unfolding state_of prefix_as lt?
  refused st ns h = cc (le-ltb p t h)

  pushed : (z : State) → p < t → z ≡ want_step packed (frame_as Tag.Prefix i p b ∷ fs) out j k → z ≡ prefix_as packed i p b fs out j k
  unfolding prefix_as lt? frame_as
  pushed z h f = cc (lt-ltb p t h)

ruleset ways = (depth_in, part_bound, refused, pushed, rules)

pub returns-then-top_bound-p : goal.returns-then-top_bound-p
returns-then-top_bound-p c = search ways

pub returns : goal.returns
returns c = search ways
