-- `reader::machine::glued_step` meets its contract. Assumes nothing.
use Rattle.std.proofs.Common.{rules, ◌≡◌, refl, ℕ, Bool, List, ◌∷◌}
use Rattle.reader.specs.Tree.{packed}
use Rattle.reader.specs.Machine.{nd, Out, Frames, State, have, want, glued_step}
use Rattle.reader.specs.Layout.{frame_as, sight_of, state_of}
use Rattle.reader.specs.declared.machine.Sight.{Sight}
use Rattle.reader.specs.declared.machine.Sight.TheVariants.{Name, Number, VarOrString, Round, Square, Brace, Stop as Stops}
use Rattle.reader.specs.declared.machine.Mode.TheVariants.{Dead}
use Rattle.reader.specs.Kinds.{kind_as}
use Rattle.reader.specs.declared.kinds.NodeKind.TheVariants as NodeKind
use Rattle.reader.specs.declared.machine.Tag.TheVariants as Tag
use Rattle.reader.proofs.machine.glued_step.Goals as goal

module _ (i : ℕ) (fs : Frames) (out : Out) where
  module _ (k : Sight) (z : State) where
    number : (n : ℕ) (low : Bool) → k ≡ Number n low → z ≡ have fs (nd i (packed (kind_as NodeKind.Negative) 0) ∷ out) → z ≡ glued_step packed i fs out (sight_of k)
    unfolding glued_step sight_of kind_as
    number n low g f = cc

    round : (ct : Bool) → k ≡ Round ct → z ≡ want (frame_as Tag.Call i 0 0 ∷ fs) out → z ≡ glued_step packed i fs out (sight_of k)
    unfolding glued_step sight_of frame_as
    round ct g f = cc

  other : (st ns : List ℕ) (k : Sight) → ((s : ℕ) (low : Bool) → k ≡ Number s low → ⊥) → ((ct : Bool) → k ≡ Round ct → ⊥) →
      state_of Dead st ns ≡ glued_step packed i fs out (sight_of k)
  unfolding state_of glued_step sight_of
  other st ns (Name d r) f g = refl
  other st ns (Number s low) f g = absurd (f s low refl)
  other st ns VarOrString f g = refl
  other st ns (Round ct) f g = absurd (g ct refl)
  other st ns Square f g = refl
  other st ns Brace f g = refl
  other st ns (Stops x) f g = refl

ruleset ways = (number, round, other, rules)

pub returns-in-Number : goal.returns-in-Number
returns-in-Number c = search ways

pub returns-in-Round : goal.returns-in-Round
returns-in-Round c = search ways

pub returns-in_default : goal.returns-in_default
returns-in_default c = search ways
