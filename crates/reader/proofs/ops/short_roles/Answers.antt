-- `reader::ops::short_roles` meets its contract. Assumes nothing.
use Prim.Native.Nat.{ℕ}
use mathlib.Core.Path.{◌≡◌, refl}
use mathlib.Core.Bool.{Bool, true, false, not}
use mathlib.Core.List.{List}
use borrow.Author.Rules.{rules}
use borrow.Author.Tests.{not-true}
use Rattle.std.specs.Prelude.{Option}
use Rattle.reader.specs.Token.{same_text}
use Rattle.reader.specs.Ops.{operators, find_pre, find_inf, prefix_of, infix_of}
use Rattle.reader.specs.Roles.{prefix_role, infix_role, roles_of}
use Rattle.reader.specs.Names.{trimmed, spelt, entry_at, prefix_in, infix_in, PrefixPlace, InfixPlace, starts_operator}
use Rattle.reader.specs.declared.ops.ShortName.{ShortName}
use Rattle.reader.specs.declared.roles.Prefix.{Prefix}
use Rattle.reader.specs.declared.roles.Infix.{Infix}
use Rattle.reader.specs.declared.roles.Roles.{Roles}
use Rattle.reader.proofs.Finding.{name_of, by_bytes, by_trimmed, bytes_eq, same_bytes, no_roles, filtered}
use Rattle.reader.proofs.ops.short_roles.Goals as goal

abbrev start : List ℕ → Bool
start x = starts_operator (by_bytes (λ a b c. a) x)

module _ (n : ShortName) where
  skipped : (r : Bool) → r ≡ starts_operator n.first → not r ≡ true → no_roles ≡ roles_of operators (spelt n)
  unfolding name_of by_bytes starts_operator roles_of prefix_role infix_role prefix_of infix_of find_pre find_inf same_text
  skipped r e f =
      let first : by_bytes (λ a b c. a) (spelt n) ≡ n.first = by_trimmed (λ a b c. a) n.first n.second n.third in
      let fails : r ≡ false = not-true r f in
      filtered start refl (spelt n) (cc)

  whole : (m : Bool) (p : Option Prefix) (q : Option Infix) (i j : ℕ) → m ≡ bytes_eq n.first n.second n.third 45 32 32 → PrefixPlace n i → p ≡ prefix_in (entry_at i) (spelt n) → InfixPlace n j → q ≡ infix_in (entry_at j) (spelt n) →
      ◌≡◌ {A = Roles} (record { minus = m; prefix = p; «infix» = q }) (roles_of operators (spelt n))
  unfolding roles_of trimmed
  whole m p q i j e at_i f at_j g = cc (same_bytes n.first n.second n.third 45 32 32, at_i.leads, at_j.leads)

ruleset ways = (skipped, whole, rules)

pub returns-then-not-starts_operator : goal.returns-then-not-starts_operator
returns-then-not-starts_operator c = search ways

pub returns : goal.returns
returns c = search ways
