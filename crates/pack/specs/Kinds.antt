-- Which nodes can stand behind so many trees. Definitions only.
use Rattle.std.specs.Prelude.{ℕ, ◌+◌, ◌-◌, cond, leb, Option, Some, None}
use Rattle.pack.specs.Node.{can_have}

-- the trees with a node behind k of them, if it can stand there
unfoldable pub stack : ℕ → ℕ → ℕ → Option ℕ
stack k b a = cond (can_have b a) (cond (leb a k) (Some (k - a + 1)) None) None
