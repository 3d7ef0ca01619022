-- The C interface: what the clause function returns and leaves, from the clause call's answer. The fields are in `crates/fields/specs`. Definitions only.
use Rattle.std.specs.Prelude.{ℕ, List}
use Rattle.std.proofs.lemmas.List.Edits.{sets}
use Rattle.lexer.specs.declared.cursor.Cursor.{Cursor}
use Rattle.reader.specs.Clause as Clause
use Rattle.reader.specs.Clause.{ClauseAnswer}
use Rattle.std.specs.declared.result.Result.TheVariants.{Ok, Err}
use Rattle.fields.specs.Fields.{Outcome, leaves, count_fields, refused_fields, Left}

-- a clause that was read: 0, the cursor behind it and the count of nodes; or the refusal's number, and its offset
abbrev pub clause_leaves : ClauseAnswer → List ℕ → Outcome
clause_leaves (Ok p) d = leaves 0 (sets d 0 (count_fields p.nodes p.next))
clause_leaves (Err r) d = refused_fields r.fault d

-- the clause call at the cursor c of the text s: the tree slice d is left as x, the fields f as g, and r is returned. Two that are permitted coincide
-- (proofs/Theorems)
abbrev pub ClauseLeft : List ℕ → Cursor → (d x f g : List ℕ) → ℕ → Type 0
ClauseLeft s c d x f g r = Left (Clause.Outcome s c d) clause_leaves x f g r
