-- `pack::reading::version_in` meets its contract. Assumes nothing.
use Prim.Native.Nat.{ℕ}
use mathlib.Core.Path.{◌≡◌, refl, sym, ◌∙◌}
use mathlib.Core.List.{List, [], ◌∷◌}
use native.Mathlib.Omega.{arith}
use borrow.Author.Rules.{rules}
use borrow.Author.Tests.{ne_eqb, eqb-true, eqb-false}
use mathlib.Core.Bool.{Bool, true, false}
use lib.Dec.{eqb}
use lib.ListN.{length}
use Rattle.pack.specs.Passes.{Inside, First, version_in}
use Rattle.pack.specs.declared.format.Version.{Version}
use Rattle.pack.proofs.reading.version_in.Goals as goal

empty : (i : List ℕ) → length i ≡ 0 → Version.One ≡ version_in i
unfolding version_in
empty [] h = refl
empty (x ∷ i) h = absurd (omega arith)

none : (i : List ℕ) (b : Bool) → b ≡ eqb (length i) 0 → b ≡ true → Version.One ≡ version_in i
none i b p q = empty i (eqb-true (length i) 0 (sym p ∙ q))

module _ (i : List ℕ) where
  inside : (b : Bool) → b ≡ eqb (length i) 0 → b ≡ false → Inside i 0 1
  inside b p q = record { inside = omega (arith, eqb-false (length i) 0 (sym p ∙ q)) }

  module _ (r : ℕ) (w : First i r) (b : ℕ) (e : b ≡ 2) where
    second : r ≡ b → Version.Two ≡ version_in i
    unfolding version_in
    second f = let q = w.same in cc (q, e, f)

    first : (r ≡ b → ⊥) → Version.One ≡ version_in i
    unfolding version_in
    first g = let q = w.same in cc (q, ne_eqb r 2 (λ f. g (f ∙ sym e)))

ruleset ways = (none, inside, second, first, rules)

pub returns-then-is_empty : goal.returns-then-is_empty
returns-then-is_empty c = search ways

pub returns-then-version_of-byte : goal.returns-then-version_of-byte
returns-then-version_of-byte c = search ways

pub returns : goal.returns
returns c = search ways
