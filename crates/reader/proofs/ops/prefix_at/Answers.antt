-- `reader::ops::prefix_at` meets its contract. Assumes nothing.
use Rattle.std.proofs.Common.{rules, ◌≡◌, refl, sym, ℕ, Bool, true, false, not, List, Some, None}
use Rattle.reader.specs.Token.{same_text}
use Rattle.reader.specs.Roles.{prefix_role}
use Rattle.reader.specs.Names.{spelt, trimmed, entry_as, entry_of, entry_at, prefix_in}
use Rattle.reader.specs.declared.operators.Operator.{Operator}
use Rattle.reader.specs.declared.operators.OperatorKind.{OperatorKind}
use Rattle.reader.specs.declared.operators.OperatorKind.TheVariants.{Xfx, Xfy, Yfx, Fy, Fx}
use Rattle.reader.specs.declared.ops.ShortName.{ShortName}
use Rattle.reader.specs.declared.roles.Prefix.TheVariants as Prefix
use Rattle.reader.proofs.Finding.{bytes_eq, same_name, other_named}
use Rattle.reader.proofs.ops.prefix_at.Goals as goal

-- the role that an entry of the kind k, the name y and the priority p gives to a name x
module _ (p : ℕ) (x y : List ℕ) where
  is_fx : (k : OperatorKind) → k ≡ Fx → true ≡ same_text x y → Some (Prefix.Fx p) ≡ prefix_in (entry_as k y p) x
  unfolding prefix_in entry_as prefix_role
  is_fx k h e = cc

  is_fy : (k : OperatorKind) → k ≡ Fy → true ≡ same_text x y → Some (Prefix.Fy p) ≡ prefix_in (entry_as k y p) x
  unfolding prefix_in entry_as prefix_role
  is_fy k h e = cc

  no_prefix : (k : OperatorKind) → (k ≡ Fx → ⊥) → (k ≡ Fy → ⊥) → None ≡ prefix_in (entry_as k y p) x
  unfolding prefix_in entry_as
  no_prefix Xfx f g = refl
  no_prefix Xfy f g = refl
  no_prefix Yfx f g = refl
  no_prefix Fy f g = absurd (g refl)
  no_prefix Fx f g = absurd (f refl)

  no_name : (k : OperatorKind) → false ≡ same_text x y → None ≡ prefix_in (entry_as k y p) x
  unfolding prefix_in entry_as
  no_name Xfx e = refl
  no_name Xfy e = refl
  no_name Yfx e = refl
  no_name Fy e = rw (sym e)
  no_name Fx e = rw (sym e)

module _ (o : Operator) (place : ℕ) (n : ShortName) (v : Bool) (there : entry_of o ≡ entry_at place) (text : v ≡ not (bytes_eq n.first n.second n.third o.0 o.1 o.2)) where
  abbrev named : List ℕ
  named = trimmed o.0 o.1 o.2

  same : v ≡ false → true ≡ same_text (spelt n) named
  same = same_name n.first n.second n.third o.0 o.1 o.2 v text

  as-fx : v ≡ false → o.3 ≡ Fx → Some (Prefix.Fx o.4) ≡ prefix_in (entry_at place) (spelt n)
  as-fx e h = cc (is_fx o.4 (spelt n) named o.3 h (same e))

  as-fy : v ≡ false → o.3 ≡ Fy → Some (Prefix.Fy o.4) ≡ prefix_in (entry_at place) (spelt n)
  as-fy e h = cc (is_fy o.4 (spelt n) named o.3 h (same e))

  as-infix : (o.3 ≡ Fx → ⊥) → (o.3 ≡ Fy → ⊥) → None ≡ prefix_in (entry_at place) (spelt n)
  as-infix f g = cc (no_prefix o.4 (spelt n) named o.3 f g)

  other : v ≡ true → None ≡ prefix_in (entry_at place) (spelt n)
  other e = cc (no_name o.4 (spelt n) named o.3 (other_named n.first n.second n.third o.0 o.1 o.2 v text e))

-- the entry of an infix operator
nowhere : (place : ℕ) (n : ShortName) → place ≡ 0 → None ≡ prefix_in (entry_at place) (spelt n)
unfolding entry_at prefix_in
nowhere place n e = rw e

ruleset ways = (nowhere, other, as-fx, as-fy, as-infix, rules)

pub returns-then-place-eq-NO_PREFIX : goal.returns-then-place-eq-NO_PREFIX
returns-then-place-eq-NO_PREFIX c = search ways

pub returns-then-ne : goal.returns-then-ne
returns-then-ne c = search ways

pub returns-in-Fx : goal.returns-in-Fx
returns-in-Fx c = search ways

pub returns-in-Fy : goal.returns-in-Fy
returns-in-Fy c = search ways

pub returns-in_default : goal.returns-in_default
returns-in_default c = search ways
