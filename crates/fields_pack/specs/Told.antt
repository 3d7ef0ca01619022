-- The C interface: what the functions that pack return and leave, from the answer of the call that each is named after. A clause's fields, and `Left`, are in
-- `crates/fields/specs`. Definitions only.
use Rattle.std.specs.Prelude.{ℕ, List, set}
use Rattle.std.proofs.lemmas.List.Edits.{sets}
use Rattle.lexer.specs.Refusal.{number_of}
use Rattle.lexer.specs.declared.cursor.Cursor.{Cursor}
use Rattle.lexer.specs.declared.refusal.Fault.{Fault}
use Rattle.pack.specs.Calls.{PackOutcome}
use Rattle.pack.specs.ClauseCall.{clause_form, ClausePack}
use Rattle.pack.specs.declared.format.Form.{Form}
use Rattle.pack.specs.declared.format.Version.{Version}
use Rattle.fields.specs.Fields.{Outcome, leaves, count_fields, refused_fields, Left}
use Rattle.pack.specs.Answers.{PackAnswer, ClausePackAnswer}
use Rattle.std.specs.declared.result.Result.TheVariants.{Ok, Err}

-- a packed clause: 0, the cursor behind it and the image's length; or the refusal's number, and its offset
abbrev pub clause_pack_leaves : ClausePackAnswer → List ℕ → Outcome
clause_pack_leaves (Ok p) d = leaves 0 (sets d 0 (count_fields p.length p.next))
clause_pack_leaves (Err r) d = refused_fields r.fault d

-- the one number that is told, with 0
abbrev pub numbered : ℕ → List ℕ → Outcome
numbered n d = leaves 0 (set d 0 n)

-- a refusal's number, with nothing told
abbrev pub unnumbered : Fault → List ℕ → Outcome
unnumbered w d = leaves (number_of w.refusal) d

-- packed nodes, or a moved image: the image's length
abbrev pub pack_leaves : PackAnswer → List ℕ → Outcome
pack_leaves (Ok n) d = numbered n d
pack_leaves (Err w) d = unnumbered w d

-- ---- each function: the lent slice d is left as x, the fields or the number f as g, and r is returned. Two that are permitted coincide (proofs/Theorems)

-- the clause at the cursor c of the text s, packed into d in this version's form
abbrev pub ClausePackLeft : Version → List ℕ → Cursor → (d x f g : List ℕ) → ℕ → Type 0
ClausePackLeft v s c d x f g r = Left (ClausePack (clause_form v s c) s c d) clause_pack_leaves x f g r

-- so many nodes, which the numbers name in the bytes, packed into d in this form
abbrev pub PackNodesLeft : Form → (bytes numbers : List ℕ) → ℕ → (d x f g : List ℕ) → ℕ → Type 0
PackNodesLeft form bytes numbers count d x f g r = Left (PackOutcome form bytes numbers count d) pack_leaves x f g r
