-- IEEE 754, 4.3.1, roundTiesToEven: the double nearest to a fraction num / den, den above 0, said over whole numbers. Definitions only.
-- A finite value `fin s m e` is m * 2 ^ e, negative where s is true, and 2 ^ e is the fraction up e / down e. No operation on floats is named here.
use Rattle.std.specs.Prelude.{ℕ, ◌+◌, ◌-◌, ◌*◌, ◌%◌, ◌^◌, ◌≤◌, ◌<◌, ◌≡◌, ◌⊎◌, true, false, T, Float}
use Rattle.std.specs.Float.{nan, inf, fin, binary64}
use Rattle.std.specs.Float.Ieee.{up, down, fits}

-- ---- the doubles

-- x is a finite value of binary64, negative ones, subnormal ones and both zeros included
abbrev pub Double : Float → Type 0
Double nan = ⊥
Double (inf s) = ⊥
Double (fin s m e) = T (fits binary64 (fin s m e))

-- not negative, and not -0
abbrev pub Plus : Float → Type 0
Plus nan = ⊥
Plus (inf s) = ⊥
Plus (fin s m e) = s ≡ false

-- ---- the distance of two numbers

-- |a - b|, where a difference stops at 0
abbrev pub gap : ℕ → ℕ → ℕ
gap a b = (a - b) + (b - a)

-- |x - num / den| is the fraction away x num den / (part x * den): x is ± m * up e / down e, and the two fractions are brought to one denominator
abbrev pub part : Float → ℕ
part nan = 1
part (inf s) = 1
part (fin s m e) = down e

abbrev pub away : Float → ℕ → ℕ → ℕ
away nan num den = 0
away (inf s) num den = 0
away (fin false m e) num den = gap (m * up e * den) (num * down e)
away (fin true m e) num den = m * up e * den + num * down e

-- |x - num / den| ≤ |y - num / den|, and |x - num / den| = |y - num / den|: the two fractions multiplied crosswise, without the den that both have
abbrev pub AsNear : Float → Float → ℕ → ℕ → Type 0
AsNear x y num den = away x num den * part y ≤ away y num den * part x

abbrev pub Tied : Float → Float → ℕ → ℕ → Type 0
Tied x y num den = away x num den * part y ≡ away y num den * part x

-- ---- even

-- x is ± c * 2 ^ q * 2 ^ -1074, written as the format writes it: the significand c has 53 binary digits at most, and it has all of them, its first one
-- set, but where the unit in the last place, 2 ^ q * 2 ^ -1074, is the format's smallest. Each finite double is so written in just one way.
abbrev pub Size : Float → ℕ → Type 0
Size nan n = ⊥
Size (inf s) n = ⊥
Size (fin s m e) n = m * up e * 2 ^ 1074 ≡ n * down e

pub record Written (x : Float) (c q : ℕ) : Type 0 where
  pub short : c < 2 ^ 53
  pub full : (2 ^ 52 ≤ c) ⊎ (q ≡ 0)
  pub value : Size x (c * 2 ^ q)

-- the last of the significand's digits is 0: x is an even multiple of its unit in the last place
pub record Even (x : Float) : Type 0 where
  pub significand : ℕ
  pub exponent : ℕ
  pub written : Written x significand exponent
  pub even : significand % 2 ≡ 0

-- ---- nearest

-- no double is nearer, and where another is as near, x is the even one
pub record Nearest (x : Float) (num den : ℕ) : Type 0 where
  pub double : Double x
  pub plus : Plus x
  pub least : (y : Float) → Double y → AsNear x y num den
  pub tie : (y : Float) → Double y → (y ≡ x → ⊥) → Tied x y num den → Even x
