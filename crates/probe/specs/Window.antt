-- The part of the input buffer that is read and not yet used. Definitions only.
use Rattle.std.specs.Prelude.{ℕ, ◌≤◌}

-- the bytes from a to e lie in a buffer of n bytes
pub record Inside (n a e : ℕ) : Type 0 where
  pub before : a ≤ e
  pub within : e ≤ n
