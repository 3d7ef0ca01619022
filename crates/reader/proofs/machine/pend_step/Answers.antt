-- `reader::machine::pend_step` meets its contract. Assumes nothing.
use Prim.Native.Nat.{ℕ}
use mathlib.Core.Path.{◌≡◌}
use mathlib.Core.Bool.{Bool, true, false}
use mathlib.Core.List.{◌∷◌}
use borrow.Author.Rules.{rules}
use Rattle.std.specs.Prelude.{Option}
use Rattle.reader.specs.Ops.{roled}
use Rattle.reader.specs.Tree.{plain, packed}
use Rattle.reader.specs.Machine.{nd, Out, Frames, stop_of, glues, State, glued_step, have_step, op_step, pend_step}
use Rattle.reader.specs.Layout.{pre_of, inf_of}
use Rattle.reader.proofs.Rooms.{held_room_one}
use Rattle.reader.specs.declared.roles.Prefix.{Prefix}
use Rattle.reader.specs.declared.roles.Infix.{Infix}
use Rattle.reader.specs.Machine as M
use Rattle.reader.proofs.machine.pend_step.Goals as goal

module _ (i e j : ℕ) (m : Bool) (x : Option Prefix) (y : Option Infix) (k : M.Sight) (fs : Frames) (out : Out) (b : Bool) (z : State) (h : b ≡ glues m e k) where
  glued : b ≡ true → z ≡ glued_step packed i fs out k → z ≡ pend_step packed i e m (pre_of x) (inf_of y) fs out j k
  unfolding pend_step
  glued f g = cc

  module _ (c : Bool) (f : b ≡ false) (g : c ≡ roled (pre_of x) (inf_of y)) where
    operator : c ≡ true → z ≡ op_step packed (stop_of k) i (pre_of x) fs out j k → z ≡ pend_step packed i e m (pre_of x) (inf_of y) fs out j k
    unfolding pend_step
    operator l n = cc

    plainly : c ≡ false → z ≡ have_step packed fs (nd i (packed plain 0) ∷ out) j k → z ≡ pend_step packed i e m (pre_of x) (inf_of y) fs out j k
    unfolding pend_step
    plainly l n = cc

ruleset ways = (glued, operator, plainly, held_room_one, rules)

pub returns-then-glued : goal.returns-then-glued
returns-then-glued c = search ways

pub returns-then-has_role : goal.returns-then-has_role
returns-then-has_role c = search ways

pub returns : goal.returns
returns c = search ways
