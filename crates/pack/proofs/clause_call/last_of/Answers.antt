-- `pack::clause_call::last_of` meets its contract. Assumes nothing.
use Prim.Native.Nat.{ℕ, ◌+◌}
use mathlib.Core.Path.{◌≡◌}
use borrow.Author.Rules.{rules}
use borrow.Author.Tests.{ne_eqb}
use Rattle.reader.specs.Tree.{kind_number}
use Rattle.pack.specs.ClauseCall.{last_of}
use Rattle.pack.proofs.clause_call.last_of.Goals as goal

module _ (kind i : ℕ) where
  next : kind ≡ 1 → i + 1 ≡ last_of kind i
  unfolding last_of kind_number
  next h = cc

  own : (kind ≡ 1 → ⊥) → i ≡ last_of kind i
  unfolding last_of kind_number
  own h = cc (ne_eqb kind 1 h)

ruleset ways = (next, own, rules)

pub returns-then-kind : goal.returns-then-kind
returns-then-kind c = search ways

pub returns : goal.returns
returns c = search ways
