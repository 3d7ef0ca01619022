-- The C interface: what the reader of both forms and the moves return and leave, from the answer of the call that each is named after; of those that pack,
-- `crates/fields_pack/specs` says it. Definitions only.
use Rattle.std.specs.Prelude.{ℕ, List, [], ◌∷◌, ◌++◌}
use Rattle.std.proofs.lemmas.List.Edits.{sets}
use Rattle.pack.specs.Image.{version, line}
use Rattle.pack.specs.Calls.{EitherOutcome}
use Rattle.pack.specs.Moves.{MoveUp, MoveDown}
use Rattle.pack.specs.declared.format.Form.{Form}
use Rattle.fields.specs.Fields.{Outcome, leaves, Left}
use Rattle.fields_pack.specs.Told.{unnumbered, pack_leaves}
use Rattle.pack.specs.Answers.{UnpackAnswer}
use Rattle.std.specs.declared.result.Result.TheVariants.{Ok, Err}

-- what struct thrinvage_unpacked begins with: the form's number, and its line
abbrev pub form_fields : Form → List ℕ
form_fields f = version f ∷ line f ∷ []

-- an unpacked image of either form: these, and the count of its nodes
abbrev pub either_leaves : UnpackAnswer → List ℕ → Outcome
either_leaves (Ok u) d = leaves 0 (sets d 0 (form_fields u.form ++ u.count ∷ []))
either_leaves (Err w) d = unnumbered w d

-- ---- each function: the lent slice d is left as x, the fields or the number f as g, and r is returned. Two that are permitted coincide (proofs/Theorems)

-- the image i, unpacked into d
abbrev pub EitherLeft : (i d x f g : List ℕ) → ℕ → Type 0
EitherLeft i d x f g r = Left (EitherOutcome i d) either_leaves x f g r

-- the image i, moved into d
abbrev pub MoveUpLeft : (i d x f g : List ℕ) → ℕ → Type 0
MoveUpLeft i d x f g r = Left (MoveUp i d) pack_leaves x f g r

abbrev pub MoveDownLeft : (i d x f g : List ℕ) → ℕ → Type 0
MoveDownLeft i d x f g r = Left (MoveDown i d) pack_leaves x f g r
