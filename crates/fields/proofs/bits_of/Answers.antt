-- `fields::bits_of` meets its contract. Assumes nothing.
use Prim.Native.Nat.{ℕ, ◌*◌}
use mathlib.Core.Path.{◌≡◌, refl}
use mathlib.Core.Bool.{Bool, true, false, beq}
use native.Mathlib.Omega.{arith}
use borrow.Author.Rules.{rules}
use borrow.Author.Tests.{eq-eqb}
use lib.Ieee.{Float, nan, inf, fin, eq, is_nan, level, up, down}
use Rattle.fields.specs.Fields.{bits_of}
use Rattle.fields.proofs.bits_of.Goals as goal

same_sign : (s : Bool) → beq s s ≡ true
same_sign true = cc
same_sign false = cc

level_self : (s : Bool) (n : ℕ) → level s n s n ≡ true
level_self s n = cc (eq-eqb n n refl, same_sign s)

-- what is no NaN equals itself, and a NaN does not
equal : (x : Float) → is_nan x ≡ false → eq x x ≡ true
unfolding eq is_nan
equal nan e = let z : ◌≡◌ {A = ℕ} 1 0 = cc in absurd (omega arith)
equal (inf s) e = same_sign s
equal (fin s m e) h = level_self s (m * up e * down e)

unequal : (x : Float) → is_nan x ≡ true → eq x x ≡ false
unfolding eq is_nan
unequal nan e = cc
unequal (inf s) e = let z : ◌≡◌ {A = ℕ} 0 1 = cc in absurd (omega arith)
unequal (fin s m e) h = let z : ◌≡◌ {A = ℕ} 0 1 = cc in absurd (omega arith)

ruleset ways = (equal, unequal, rules)

pub returns-then-is_nan : goal.returns-then-is_nan
unfolding bits_of
returns-then-is_nan c = search ways

pub returns-else-is_nan : goal.returns-else-is_nan
unfolding bits_of
returns-else-is_nan c = search ways
