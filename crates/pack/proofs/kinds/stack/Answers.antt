-- `pack::kinds::stack` meets its contract. Assumes nothing.
use Rattle.std.proofs.Common.{rules, ◌≡◌, ◌≤◌, ◌<◌, ◌+◌, ◌-◌, ℕ, Bool, true, false}
use mathlib.Core.Bool.{not}
use borrow.Author.Tests.{not-true, not-false, le-leb, lt-leb}
use Rattle.std.specs.declared.option.Option.TheVariants.{Some, None}
use Rattle.pack.specs.Kinds.{stack}
use Rattle.pack.specs.Node.{can_have}
use Rattle.pack.proofs.kinds.stack.Goals as goal

module _ (k n a : ℕ) (b : Bool) (p : b ≡ can_have n a) where
  never : not b ≡ true → None ≡ stack k n a
  unfolding stack
  never q = cc (p, not-true b q)

  module _ (q : not b ≡ false) where
    fewer : k < a → None ≡ stack k n a
    unfolding stack
    fewer h = cc (p, not-false b q, lt-leb a k h)

    stands : a ≤ k → Some (k - a + 1) ≡ stack k n a
    unfolding stack
    stands h = cc (p, not-false b q, le-leb a k h)

ruleset ways = (never, fewer, stands, rules)

pub returns-then-not-can_have : goal.returns-then-not-can_have
returns-then-not-can_have c = search ways

pub returns-then-trees-arity : goal.returns-then-trees-arity
returns-then-trees-arity c = search ways

pub returns : goal.returns
returns c = search ways
