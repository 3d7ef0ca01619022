-- `reader::machine::glued` meets its contract. Assumes nothing.
use Rattle.std.proofs.Common.{rules, ◌≡◌, refl, ℕ, Bool, true, false, nat_eq}
use Rattle.reader.specs.Machine.{glues}
use Rattle.reader.specs.Layout.{sight_of}
use Rattle.reader.specs.declared.machine.Sight.{Sight}
use Rattle.reader.specs.declared.machine.Sight.TheVariants.{Name, Number, VarOrString, Round, Square, Brace, Stop as Stops}
use Rattle.reader.proofs.machine.glued.Goals as goal

module _ (m : Bool) (e : ℕ) where
  module _ (k : Sight) where
    numbered : (s : ℕ) (low : Bool) → k ≡ Number s low → m ≡ true → nat_eq e s ≡ glues m e (sight_of k)
    unfolding glues sight_of
    numbered s low f g = cc

    apart : (s : ℕ) (low : Bool) → k ≡ Number s low → m ≡ false → m ≡ glues m e (sight_of k)
    unfolding glues sight_of
    apart s low f g = cc

    opens : (ct : Bool) → k ≡ Round ct → ct ≡ glues m e (sight_of k)
    unfolding glues sight_of
    opens ct f = cc

  other : (k : Sight) → ((s : ℕ) (low : Bool) → k ≡ Number s low → ⊥) → ((ct : Bool) → k ≡ Round ct → ⊥) → false ≡ glues m e (sight_of k)
  unfolding glues sight_of
  other (Name d r) f g = refl
  other (Number s low) f g = absurd (f s low refl)
  other VarOrString f g = refl
  other (Round ct) f g = absurd (g ct refl)
  other Square f g = refl
  other Brace f g = refl
  other (Stops x) f g = refl

ruleset ways = (numbered, apart, opens, other, rules)

pub returns-then-minus : goal.returns-then-minus
returns-then-minus c = search ways

pub returns-else-minus : goal.returns-else-minus
returns-else-minus c = search ways

pub returns-in-Round : goal.returns-in-Round
returns-in-Round c = search ways

pub returns-in_default : goal.returns-in_default
returns-in_default c = search ways
