-- `reader::ops::infix_at` meets its contract. Assumes nothing.
use Rattle.std.proofs.Common.{rules, ◌≡◌, refl, sym, ℕ, Bool, true, false, not, List, Some, None}
use Rattle.reader.specs.Token.{same_text}
use Rattle.reader.specs.Roles.{infix_role}
use Rattle.reader.specs.Names.{spelt, trimmed, entry_as, entry_of, entry_at, infix_in}
use Rattle.reader.specs.declared.operators.Operator.{Operator}
use Rattle.reader.specs.declared.operators.OperatorKind.{OperatorKind}
use Rattle.reader.specs.declared.operators.OperatorKind.TheVariants.{Xfx, Xfy, Yfx, Fy, Fx}
use Rattle.reader.specs.declared.ops.ShortName.{ShortName}
use Rattle.reader.specs.declared.roles.Infix.TheVariants as Infix
use Rattle.reader.proofs.Finding.{bytes_eq, same_name, other_named}
use Rattle.reader.proofs.ops.infix_at.Goals as goal

-- the role that an entry of the kind k, the name y and the priority p gives to a name x
module _ (p : ℕ) (x y : List ℕ) where
  is_xfx : (k : OperatorKind) → k ≡ Xfx → true ≡ same_text x y → Some (Infix.Xfx p) ≡ infix_in (entry_as k y p) x
  unfolding infix_in entry_as infix_role
  is_xfx k h e = cc

  is_xfy : (k : OperatorKind) → k ≡ Xfy → true ≡ same_text x y → Some (Infix.Xfy p) ≡ infix_in (entry_as k y p) x
  unfolding infix_in entry_as infix_role
  is_xfy k h e = cc

  is_yfx : (k : OperatorKind) → k ≡ Yfx → true ≡ same_text x y → Some (Infix.Yfx p) ≡ infix_in (entry_as k y p) x
  unfolding infix_in entry_as infix_role
  is_yfx k h e = cc

  no_infix : (k : OperatorKind) → (k ≡ Xfx → ⊥) → (k ≡ Xfy → ⊥) → (k ≡ Yfx → ⊥) → None ≡ infix_in (entry_as k y p) x
  unfolding infix_in entry_as
  no_infix Xfx f g h = absurd (f refl)
  no_infix Xfy f g h = absurd (g refl)
  no_infix Yfx f g h = absurd (h refl)
  no_infix Fy f g h = refl
  no_infix Fx f g h = refl

  no_name : (k : OperatorKind) → false ≡ same_text x y → None ≡ infix_in (entry_as k y p) x
  unfolding infix_in entry_as
  no_name Xfx e = rw (sym e)
  no_name Xfy e = rw (sym e)
  no_name Yfx e = rw (sym e)
  no_name Fy e = refl
  no_name Fx e = refl

module _ (o : Operator) (place : ℕ) (n : ShortName) (v : Bool) (there : entry_of o ≡ entry_at place) (text : v ≡ not (bytes_eq n.first n.second n.third o.0 o.1 o.2)) where
  abbrev named : List ℕ
  named = trimmed o.0 o.1 o.2

  same : v ≡ false → true ≡ same_text (spelt n) named
  same = same_name n.first n.second n.third o.0 o.1 o.2 v text

  as-xfx : v ≡ false → o.3 ≡ Xfx → Some (Infix.Xfx o.4) ≡ infix_in (entry_at place) (spelt n)
  as-xfx e h = cc (is_xfx o.4 (spelt n) named o.3 h (same e))

  as-xfy : v ≡ false → o.3 ≡ Xfy → Some (Infix.Xfy o.4) ≡ infix_in (entry_at place) (spelt n)
  as-xfy e h = cc (is_xfy o.4 (spelt n) named o.3 h (same e))

  as-yfx : v ≡ false → o.3 ≡ Yfx → Some (Infix.Yfx o.4) ≡ infix_in (entry_at place) (spelt n)
  as-yfx e h = cc (is_yfx o.4 (spelt n) named o.3 h (same e))

  as-prefix : (o.3 ≡ Xfx → ⊥) → (o.3 ≡ Xfy → ⊥) → (o.3 ≡ Yfx → ⊥) → None ≡ infix_in (entry_at place) (spelt n)
  as-prefix f g h = cc (no_infix o.4 (spelt n) named o.3 f g h)

  other : v ≡ true → None ≡ infix_in (entry_at place) (spelt n)
  other e = cc (no_name o.4 (spelt n) named o.3 (other_named n.first n.second n.third o.0 o.1 o.2 v text e))

ruleset ways = (other, as-xfx, as-xfy, as-yfx, as-prefix, rules)

pub returns-then-ne : goal.returns-then-ne
returns-then-ne c = search ways

pub returns-in-Xfx : goal.returns-in-Xfx
returns-in-Xfx c = search ways

pub returns-in-Xfy : goal.returns-in-Xfy
returns-in-Xfy c = search ways

pub returns-in-Yfx : goal.returns-in-Yfx
returns-in-Yfx c = search ways

pub returns-in_default : goal.returns-in_default
returns-in_default c = search ways
