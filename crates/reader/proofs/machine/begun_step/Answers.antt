-- `reader::machine::begun_step` meets its contract. Assumes nothing.
use Prim.Native.Nat.{ℕ}
use mathlib.Core.Path.{◌≡◌}
use mathlib.Core.Bool.{cond}
use mathlib.Core.List.{◌∷◌}
use borrow.Author.Rules.{rules}
use Rattle.std.specs.Prelude.{Option, Some, None}
use Rattle.reader.specs.Tree.{packed}
use Rattle.reader.specs.Machine.{nd, Out, Frames, opened, inside, shuts, empty_kind, stop_of, State, have, dead, want_step, begun_on, begun_step}
use Rattle.reader.specs.Layout.{stop_as, halt_of}
use Rattle.reader.proofs.Rooms.{room_one}
use Rattle.reader.specs.declared.machine.Stop.{Stop}
use Rattle.reader.specs.Machine as M
use Rattle.reader.proofs.machine.begun_step.Goals as goal

module _ (h : M.Shape) (i j : ℕ) (k : M.Sight) (fs : Frames) (out : Out) (l : Option Stop) (z : State) (e : halt_of l ≡ stop_of k) where
  goes : l ≡ None → z ≡ want_step packed (opened (inside h i) ∷ fs) out j k → z ≡ begun_step packed h i fs out j k
  unfolding begun_step begun_on halt_of
  goes f g = cc

  stops : (x : Stop) → l ≡ Some x → z ≡ cond (shuts h (stop_as x)) (have fs (nd i (packed (empty_kind h) 0) ∷ out)) dead → z ≡ begun_step packed h i fs out j k
  unfolding begun_step begun_on halt_of
  stops x f g = cc

ruleset ways = (goes, stops, room_one, rules)

pub returns-in-None : goal.returns-in-None
returns-in-None c = search ways

pub returns-in-Some : goal.returns-in-Some
returns-in-Some c = search ways
