-- The slice that a case lends: docs/PROBE.md, "Input". Definitions only.
use Rattle.std.specs.Prelude.{ℕ}

-- ROOM is at most 4,096
abbrev pub largest_room : ℕ
largest_room = 4096
