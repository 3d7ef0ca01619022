-- `reader::machine::have_step` meets its contract. Assumes nothing.
use Rattle.std.proofs.Common.{rules, ◌≡◌, refl, ℕ, List}
use Rattle.reader.specs.Tree.{packed}
use Rattle.reader.specs.Machine.{Out, Frames, State, stop_step, infix_step, have_step}
use Rattle.reader.specs.Layout.{inf_of, stop_as, sight_of, state_of}
use Rattle.reader.proofs.Rooms.{held_name, held_stop}
use Rattle.reader.specs.declared.machine.Stop.{Stop}
use Rattle.reader.specs.declared.roles.Roles.{Roles}
use Rattle.reader.specs.declared.machine.Sight.{Sight}
use Rattle.reader.specs.declared.machine.Sight.TheVariants.{Name, Number, VarOrString, Round, Square, Brace, Stop as Stops}
use Rattle.reader.specs.declared.machine.Mode.TheVariants.{Dead}
use Rattle.reader.proofs.machine.have_step.Goals as goal

module _ (i : ℕ) (k : Sight) (fs : Frames) (out : Out) where
  named : (e : ℕ) (r : Roles) (z : State) → k ≡ Name e r → z ≡ infix_step packed i (inf_of r.«infix») fs out →
      z ≡ have_step packed fs out i (sight_of k)
  unfolding have_step sight_of
  named e r z g f = cc

  stopped : (x : Stop) (z : State) → k ≡ Stops x → z ≡ stop_step packed (stop_as x) i fs out → z ≡ have_step packed fs out i (sight_of k)
  unfolding have_step sight_of
  stopped x z g f = cc

module _ (st ns : List ℕ) (i : ℕ) (fs : Frames) (out : Out) where
  other : (k : Sight) → ((e : ℕ) (r : Roles) → k ≡ Name e r → ⊥) → ((x : Stop) → k ≡ Stops x → ⊥) →
      state_of Dead st ns ≡ have_step packed fs out i (sight_of k)
  unfolding state_of have_step sight_of
  other (Name e r) f g = absurd (f e r refl)
  other (Number s low) f g = refl
  other VarOrString f g = refl
  other (Round ct) f g = refl
  other Square f g = refl
  other Brace f g = refl
  other (Stops x) f g = absurd (g x refl)

ruleset ways = (named, stopped, other, held_name, held_stop, rules)

pub returns-in-Name : goal.returns-in-Name
returns-in-Name c = search ways

pub returns-in-Stop : goal.returns-in-Stop
returns-in-Stop c = search ways

pub returns-in_default : goal.returns-in_default
returns-in_default c = search ways

pub infix_step-requires : goal.infix_step-requires
infix_step-requires c = search ways

pub stop_step-requires : goal.stop_step-requires
stop_step-requires c = search ways
