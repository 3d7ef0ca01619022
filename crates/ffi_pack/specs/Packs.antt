-- The C interface: what the function that unpacks form 1 returns and leaves, from the answer of the call that it is named after; of those that pack,
-- `crates/fields_pack/specs` says it. Definitions only.
use Rattle.std.specs.Prelude.{ℕ, List}
use Rattle.pack.specs.Calls.{UnpackOutcome}
use Rattle.fields.specs.Fields.{Outcome, Left}
use Rattle.fields_pack.specs.Told.{numbered, unnumbered}
use Rattle.pack.specs.Answers.{UnpackAnswer}
use Rattle.std.specs.declared.result.Result.TheVariants.{Ok, Err}

-- an unpacked image of form 1: the count of its nodes
abbrev pub unpack_leaves : UnpackAnswer → List ℕ → Outcome
unpack_leaves (Ok u) d = numbered u.count d
unpack_leaves (Err w) d = unnumbered w d

-- the image i, unpacked into d: d is left as x, the number f as g, and r is returned. Two that are permitted coincide (proofs/Theorems)
abbrev pub UnpackLeft : (i d x f g : List ℕ) → ℕ → Type 0
UnpackLeft i d x f g r = Left (UnpackOutcome i d) unpack_leaves x f g r
