-- What packing and unpacking answer. Definitions only.
use Rattle.std.specs.Prelude.{ℕ, Result}
use Rattle.std.specs.declared.result.Result.TheVariants.{Ok}
use Rattle.lexer.specs.declared.cursor.Cursor.{Cursor}
use Rattle.lexer.specs.declared.refusal.Fault.{Fault}
use Rattle.pack.specs.declared.format.Form.{Form}
use Rattle.pack.specs.declared.answers.Unpacked.{Unpacked}
use Rattle.pack.specs.declared.answers.PackedClause.{PackedClause}
use Rattle.lexer.specs.declared.refusal.Refused.{Refused}

-- the image's length, or a refusal
abbrev pub PackAnswer : Type 0
PackAnswer = Result ℕ Fault

-- the pack's form and the count of its nodes, or a refusal
abbrev pub UnpackAnswer : Type 0
UnpackAnswer = Result Unpacked Fault

abbrev pub unpacked_as : Form → ℕ → UnpackAnswer
unpacked_as f n = Ok (record { form = f; count = n })

-- the image's length and the cursor after the clause's mark, or a refusal and the caller's cursor
abbrev pub ClausePackAnswer : Type 0
ClausePackAnswer = Result PackedClause Refused

abbrev pub packed_as : ℕ → Cursor → ClausePackAnswer
packed_as n e = Ok (record { length = n; next = e })
