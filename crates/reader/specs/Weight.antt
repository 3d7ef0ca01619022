-- How many words the machine's state takes, place numbers counted. Definitions only.
use Rattle.std.specs.Prelude.{ℕ, ◌+◌, [], ◌∷◌, length}
use Rattle.reader.specs.Machine.{Frames, State, want, pend, begun, have, dead, done, size}

unfoldable pub sizes : Frames → ℕ
sizes [] = 0
sizes (f ∷ fs) = size f + sizes fs

-- a name or a bracket whose role is open counts for the word that it will take
unfoldable pub weight : State → ℕ
weight (want fs out) = sizes fs + length out
weight (pend i e m r s fs out) = sizes fs + length out + 1
weight (begun h i fs out) = sizes fs + length out + 1
weight (have fs out) = sizes fs + length out
weight dead = 0
weight (done out) = length out + 2
