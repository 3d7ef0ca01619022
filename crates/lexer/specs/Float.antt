-- Document 01, "Tokens": the value of a float token. Definitions only.
use Rattle.std.specs.Prelude.{ℕ, ◌+◌, ◌-◌, ◌*◌, ◌^◌, ◌≤◌, ◌≡◌, Bool, true, false, cond, leb, Float, Option}
use Rattle.std.specs.Float.Ieee.{round}
use Rattle.std.specs.Float.{binary64}
use Rattle.lexer.specs.Nearest.{Nearest}
use Rattle.std.specs.declared.option.Option.TheVariants.{Some, None}

-- a value, or none where it is out of limit
abbrev pub Floated : Type 0
Floated = Option Float

-- the largest m: 2 ^ 53
abbrev pub largest_digits : ℕ
largest_digits = 9007199254740992

-- the largest e, of either sign
abbrev pub largest_tens : ℕ
largest_tens = 22

-- 01: "ten to the e", e of either sign: times ten to the tens where e counts up, else by ten to the tens
pub record Scale : Type 0 where
  pub up : Bool
  pub tens : ℕ

-- the scale of that sign and size
abbrev pub scale_of : Bool → ℕ → Scale
scale_of up k = record { up = up; tens = k }

-- 01: "e the exponent less the count of fraction digits": the exponent is x, or -x where it has a minus, and f is that count
unfoldable pub scale : Bool → ℕ → ℕ → Scale
scale minus x f = cond minus (scale_of false (x + f)) (cond (leb f x) (scale_of true (x - f)) (scale_of false (f - x)))

-- 01: "m times ten to the e", as the fraction over / under
abbrev pub over : ℕ → Scale → ℕ
over m s = cond s.up (m * 10 ^ s.tens) m

-- the fraction's lower part, above 0
abbrev pub under : Scale → ℕ
under s = cond s.up 1 (10 ^ s.tens)

-- 01: "the limit is m at most 9,007,199,254,740,992 and e from -22 to 22"
pub record Limits (m : ℕ) (s : Scale) : Type 0 where
  pub digits : m ≤ largest_digits
  pub power : s.tens ≤ largest_tens

-- the fraction rounded once: that it is 01's "one double nearest", and no other is, is `value-nearest` and `value_only` of `proofs/float/Values`
abbrev pub value : ℕ → Scale → Float
value m s = round binary64 false (over m s) (under s)

-- 01: "The value is the one double nearest to m times ten to the e, ties to even"
pub record Scaled (m : ℕ) (s : Scale) (r : Float) : Type 0 where
  pub is : r ≡ value m s
  pub nearest : Nearest r (over m s) (under s)

-- 01: a float within the limit has its value, any other is out of limit
unfoldable pub within_limits : ℕ → Scale → Floated
within_limits m s = cond (leb m largest_digits) (cond (leb s.tens largest_tens) (Some (value m s)) None) None

-- 01: the value of a float token with digits m, f of them after the point, and the exponent x or -x, 0 where it has none
abbrev pub float_value : ℕ → Bool → ℕ → ℕ → Floated
float_value m minus x f = within_limits m (scale minus x f)
