-- The C interface: what the text and line functions return and leave, from the answer of the call that each is named after; the fields of a token, its text,
-- a clause and a refusal are in `crates/fields/specs`. Definitions only.
use Rattle.std.specs.Prelude.{ℕ, List}
use Rattle.std.proofs.lemmas.List.Edits.{sets}
use Rattle.lexer.specs.Text as Text
use Rattle.lexer.specs.declared.cursor.Cursor.{Cursor}
use Rattle.reader.specs.LineCall as LineCall
use Rattle.reader.specs.LineCall.{LineAnswer}
use Rattle.std.specs.declared.result.Result.TheVariants.{Ok, Err}
use Rattle.fields.specs.Fields.{Outcome, leaves, count_fields, refused_fields, answer_text_leaves, Left}

-- a listed clause: 0, the cursor behind it and the count of the line's bytes; or the refusal's number, and its offset
abbrev pub line_leaves : LineAnswer → List ℕ → Outcome
line_leaves (Ok p) d = leaves 0 (sets d 0 (count_fields p.length p.next))
line_leaves (Err r) d = refused_fields r.fault d

-- ---- the calls that write to a lent slice too

-- the number that is returned, what the scratch is left as, and the fields
pub data TextOutcome : Type 0 where
  left : ℕ → List ℕ → List ℕ → TextOutcome

unfoldable pub with : List ℕ → Outcome → TextOutcome
with x (leaves r g) = left r x g

unfoldable pub text_leaves : Text.Outcome → List ℕ → TextOutcome
text_leaves (Text.leaves a x) f = with x (answer_text_leaves a f)

-- the line call at the cursor c of the text s: the slice d for the line is left as x, the fields f as g, and r is returned. Two that are permitted
-- coincide (proofs/Theorems)
abbrev pub LineLeft : List ℕ → Cursor → (d x f g : List ℕ) → ℕ → Type 0
LineLeft s c d x f g r = Left (LineCall.LineOutcome s c d) line_leaves x f g r
