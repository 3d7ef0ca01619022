-- Whether a node can stand behind some trees, as the two passes over nodes ask. Assumes nothing.
use Prim.Native.Nat.{ℕ, ◌+◌, ◌-◌, ◌≤◌}
use mathlib.Core.Path.{◌≡◌, refl, sym}
use mathlib.Core.Bool.{Bool, true, false, cond}
use native.Mathlib.Omega.{arith}
use lib.Dec.{leb}
use borrow.Author.Tests.{leb-true}
use Rattle.std.specs.declared.option.Option.TheVariants.{Some, None}
use Rattle.pack.specs.Node.{can_have}
use Rattle.pack.specs.Kinds.{stack}
use Rattle.pack.proofs.Basics.{passed}

some-none : (n : ℕ) → Some n ≡ None → ⊥
some-none n h = let z : ◌≡◌ {A = ℕ} 0 1 = cc in omega arith

off : {A : Type 0} (y z : A) (b t : Bool) (n : ℕ) → cond b (cond t (Some n) None) None ≡ None → cond b (cond t y z) z ≡ z
off y z true true n h = absurd (some-none n h)
off y z true false n h = refl
off y z false t n h = refl

-- where it cannot, neither pass goes on
pub stack_off : {A : Type 0} (y z : A) (k n a : ℕ) → stack k n a ≡ None → cond (can_have n a) (cond (leb a k) y z) z ≡ z
unfolding stack
stack_off y z k n a h = off y z (can_have n a) (leb a k) (k - a + 1) h

-- and where it can
pub record Stands (k n a next : ℕ) : Type 0 where
  pub can : can_have n a ≡ true
  pub few : a ≤ k
  pub same : k - a + 1 ≡ next

pub stands : (k n a next : ℕ) → stack k n a ≡ Some next → Stands k n a next
unfolding stack
stands k n a next h =
    let p = passed (can_have n a) _ None (Some next) (λ e. some-none next (sym e)) h in
    let q = passed (leb a k) _ None (Some next) (λ e. some-none next (sym e)) p.then in
    record { can = p.test; few = leb-true a k q.test; same = cc (q.then) }
