-- `reader::machine::infix_step` meets its contract. Assumes nothing.
use Prim.Native.Nat.{ℕ, ◌+◌}
use mathlib.Core.Path.{◌≡◌}
use mathlib.Core.List.{List}
use borrow.Author.Rules.{rules}
use Rattle.std.specs.Prelude.{Option, Some, None}
use Rattle.reader.specs.Ops.{prio, left_bound, right_bound}
use Rattle.reader.specs.Tree.{packed}
use Rattle.reader.specs.Machine.{Out, Frames, State, push_as, infix_step}
use Rattle.reader.specs.Layout.{inf_of, state_of}
use Rattle.reader.specs.declared.roles.Infix.{Infix}
use Rattle.reader.specs.declared.roles.Infix.TheVariants.{Xfx, Xfy, Yfx}
use Rattle.reader.specs.declared.machine.Mode.TheVariants.{Dead}
use Rattle.reader.specs.Machine as M
use Rattle.reader.proofs.machine.infix_step.Goals as goal

module _ (i : ℕ) (role : Option Infix) (fs : Frames) (out : Out) where
  no : (st ns : List ℕ) → role ≡ None → state_of Dead st ns ≡ infix_step packed i (inf_of role) fs out
  unfolding state_of infix_step inf_of
  no st ns e = cc

  module _ (p : ℕ) (z : State) where
    as-xfx : role ≡ Some (Xfx p) → z ≡ push_as i p p (M.reduce packed p fs out) → z ≡ infix_step packed i (inf_of role) fs out
    unfolding infix_step inf_of prio left_bound right_bound
    as-xfx e f = cc

    as-xfy : role ≡ Some (Xfy p) → z ≡ push_as i p (p + 1) (M.reduce packed p fs out) → z ≡ infix_step packed i (inf_of role) fs out
    unfolding infix_step inf_of prio left_bound right_bound
    as-xfy e f = cc

    as-yfx : role ≡ Some (Yfx p) → z ≡ push_as i p p (M.reduce packed (p + 1) fs out) → z ≡ infix_step packed i (inf_of role) fs out
    unfolding infix_step inf_of prio left_bound right_bound
    as-yfx e f = cc

ruleset ways = (no, as-xfx, as-xfy, as-yfx, rules)

pub returns-in-None : goal.returns-in-None
returns-in-None c = search ways

pub returns-in-Some-Xfx : goal.returns-in-Some-Xfx
returns-in-Some-Xfx c = search ways

pub returns-in-Some-Xfy : goal.returns-in-Some-Xfy
returns-in-Some-Xfy c = search ways

pub returns-in-Some-Yfx : goal.returns-in-Some-Yfx
returns-in-Some-Yfx c = search ways
