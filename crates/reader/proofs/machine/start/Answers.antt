-- `reader::machine::start` meets its contract. Assumes nothing.
use Prim.Native.Nat.{ℕ}
use mathlib.Core.Path.{◌≡◌}
use mathlib.Core.List.{List, ◌∷◌}
use borrow.Author.Rules.{rules}
use Rattle.reader.specs.Machine.{State, want}
use Rattle.reader.specs.Layout.{frame_as, frames_of, out_of}
use Rattle.reader.specs.Machine as M
use Rattle.reader.specs.declared.machine.Tag.TheVariants as Tag
use Rattle.reader.proofs.machine.start.Goals as goal

begins : (st ns : List ℕ) (z : State) → z ≡ want (frame_as Tag.Top 0 0 0 ∷ frames_of st 0) (out_of ns 0) → z ≡ M.start
unfolding frame_as frames_of out_of
begins st ns z e = e

ruleset ways = (begins, rules)

pub returns : goal.returns
returns c = search ways
