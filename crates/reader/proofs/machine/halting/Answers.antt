-- `reader::machine::halting` meets its contract. Assumes nothing.
use Rattle.std.proofs.Common.{rules, ◌≡◌, refl, Some, None}
use Rattle.reader.specs.Machine.{stop_of}
use Rattle.reader.specs.Layout.{halt_of, sight_of}
use Rattle.reader.specs.declared.machine.Stop.{Stop}
use Rattle.reader.specs.declared.machine.Sight.{Sight}
use Rattle.reader.specs.declared.machine.Sight.TheVariants.{Name, Number, VarOrString, Round, Square, Brace, Stop as Stops}
use Rattle.reader.proofs.machine.halting.Goals as goal

at_stop : (k : Sight) (x : Stop) → k ≡ Stops x → halt_of (Some x) ≡ stop_of (sight_of k)
unfolding halt_of stop_of sight_of
at_stop k x e = rw e

goes : (k : Sight) → ((x : Stop) → k ≡ Stops x → ⊥) → halt_of None ≡ stop_of (sight_of k)
unfolding halt_of stop_of sight_of
goes (Name e r) f = refl
goes (Number s low) f = refl
goes VarOrString f = refl
goes (Round ct) f = refl
goes Square f = refl
goes Brace f = refl
goes (Stops x) f = absurd (f x refl)

ruleset ways = (at_stop, goes, rules)

pub returns-in-Stop : goal.returns-in-Stop
returns-in-Stop c = search ways

pub returns-in_default : goal.returns-in_default
returns-in_default c = search ways
