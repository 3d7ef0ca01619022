-- `reader::machine::stop_step` meets its contract. Assumes nothing.
use Rattle.std.proofs.Common.{rules, ◌≡◌, refl, ℕ}
use Rattle.reader.specs.Tree.{packed}
use Rattle.reader.specs.Machine.{Out, Frames, State, closing, comma_step, stop_step, above_all}
use Rattle.reader.specs.Layout.{stop_as}
use Rattle.reader.proofs.Rooms.{held_none, held-comma}
use Rattle.reader.specs.declared.machine.Stop.{Stop}
use Rattle.reader.specs.declared.machine.Stop.TheVariants.{Close, CloseList, CloseCurly, Bar, DoubleBar, Comma, EndMark}
use Rattle.reader.specs.Machine as M
use Rattle.reader.proofs.machine.stop_step.Goals as goal

module _ (i : ℕ) (fs : Frames) (out : Out) (z : State) where
  parted : (x : Stop) → x ≡ Comma → z ≡ comma_step packed i (M.reduce packed 1000 fs out) → z ≡ stop_step packed (stop_as x) i fs out
  unfolding stop_step stop_as
  parted x e f = rw e f

  closed : (x : Stop) → (x ≡ Comma → ⊥) → z ≡ closing packed (stop_as x) (M.reduce packed above_all fs out) → z ≡ stop_step packed (stop_as x) i fs out
  unfolding stop_step stop_as
  closed Close n f = f
  closed CloseList n f = f
  closed CloseCurly n f = f
  closed Bar n f = f
  closed DoubleBar n f = f
  closed Comma n f = absurd (n refl)
  closed EndMark n f = f

ruleset ways = (parted, closed, held_none, held-comma, rules)

pub returns-in-Comma : goal.returns-in-Comma
returns-in-Comma c = search ways

pub returns-in_default : goal.returns-in_default
returns-in_default c = search ways

pub comma_step-requires : goal.comma_step-requires
comma_step-requires c = search ways
