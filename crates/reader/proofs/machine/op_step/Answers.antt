-- `reader::machine::op_step` meets its contract. Assumes nothing.
use Prim.Native.Nat.{ℕ}
use mathlib.Core.Path.{◌≡◌}
use mathlib.Core.List.{◌∷◌}
use borrow.Author.Rules.{rules}
use Rattle.std.specs.Prelude.{Option, Some, None}
use Rattle.reader.specs.Tree.{plain, packed}
use Rattle.reader.specs.Machine.{nd, Out, Frames, red, stop_of, State, closing, prefix_step, op_step}
use Rattle.reader.specs.Layout.{pre_of, stop_as, halt_of}
use Rattle.reader.proofs.Rooms.{held_room, held_one}
use Rattle.reader.specs.declared.machine.Stop.{Stop}
use Rattle.reader.specs.declared.roles.Prefix.{Prefix}
use Rattle.reader.specs.Machine as M
use Rattle.reader.proofs.machine.op_step.Goals as goal

module _ (i : ℕ) (role : Option Prefix) (j : ℕ) (k : M.Sight) (fs : Frames) (out : Out) (h : Option Stop) (z : State) (e : halt_of h ≡ stop_of k) where
  goes : h ≡ None → z ≡ prefix_step packed i (pre_of role) fs out j k → z ≡ op_step packed (stop_of k) i (pre_of role) fs out j k
  unfolding op_step halt_of
  goes f g = cc

  stops : (x : Stop) → h ≡ Some x → z ≡ closing packed (stop_as x) (red fs (nd i (packed plain 0) ∷ out)) → z ≡ op_step packed (stop_of k) i (pre_of role) fs out j k
  unfolding op_step halt_of
  stops x f g = cc

ruleset ways = (goes, stops, held_room, held_one, rules)

pub returns-in-None : goal.returns-in-None
returns-in-None c = search ways

pub returns-in-Some : goal.returns-in-Some
returns-in-Some c = search ways
