-- `reader::machine::prefix_step` meets its contract. Assumes nothing.
use Prim.Native.Nat.{ℕ, ◌+◌}
use mathlib.Core.Path.{◌≡◌}
use mathlib.Core.List.{List}
use borrow.Author.Rules.{rules}
use Rattle.std.specs.Prelude.{Option, Some, None}
use Rattle.reader.specs.Ops.{pre_prio, pre_bound}
use Rattle.reader.specs.Tree.{packed}
use Rattle.reader.specs.Machine.{Out, Frames, State, prefix_as, prefix_step}
use Rattle.reader.specs.Layout.{pre_of, state_of}
use Rattle.reader.specs.declared.roles.Prefix.{Prefix}
use Rattle.reader.specs.declared.roles.Prefix.TheVariants.{Fx, Fy}
use Rattle.reader.specs.declared.machine.Mode.TheVariants.{Dead}
use Rattle.reader.specs.Machine as M
use Rattle.reader.proofs.machine.prefix_step.Goals as goal

module _ (i : ℕ) (role : Option Prefix) (j : ℕ) (k : M.Sight) (fs : Frames) (out : Out) where
  no : (st ns : List ℕ) → role ≡ None → state_of Dead st ns ≡ prefix_step packed i (pre_of role) fs out j k
  unfolding state_of prefix_step pre_of
  no st ns e = cc

  module _ (p : ℕ) (z : State) where
    as-fx : role ≡ Some (Fx p) → z ≡ prefix_as packed i p p fs out j k → z ≡ prefix_step packed i (pre_of role) fs out j k
    unfolding prefix_step pre_of pre_prio pre_bound
    as-fx e f = cc

    as-fy : role ≡ Some (Fy p) → z ≡ prefix_as packed i p (p + 1) fs out j k → z ≡ prefix_step packed i (pre_of role) fs out j k
    unfolding prefix_step pre_of pre_prio pre_bound
    as-fy e f = cc

ruleset ways = (no, as-fx, as-fy, rules)

pub returns-in-None : goal.returns-in-None
returns-in-None c = search ways

pub returns-in-Some-Fx : goal.returns-in-Some-Fx
returns-in-Some-Fx c = search ways

pub returns-in-Some-Fy : goal.returns-in-Some-Fy
returns-in-Some-Fy c = search ways
