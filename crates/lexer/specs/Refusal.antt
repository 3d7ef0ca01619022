-- Refusals and their numbers: 01, "Refusal numbers", and what 02 adds. Definitions only.
use Rattle.std.specs.Prelude.{ℕ, Result, Err}
use Rattle.lexer.specs.declared.refusal.Refusal.{Refusal}
use Rattle.lexer.specs.declared.refusal.Refusal.TheVariants.{EndOfText, UnclosedComment, NoToken, BadQuoted, ForeignByte, SetAside, OutOfLimit, NotValid, NoRoom, TooManyTokens, NoReading, NoText, TooLong, NoPack, TokenTooLong, UnknownVersion}
use Rattle.lexer.specs.declared.refusal.Fault.{Fault}
use Rattle.lexer.specs.declared.refusal.Refused.{Refused}
use Rattle.lexer.specs.declared.cursor.Cursor.{Cursor}

-- the number of each refusal
abbrev pub number_of : Refusal → ℕ
number_of EndOfText = 1
number_of UnclosedComment = 2
number_of NoToken = 3
number_of BadQuoted = 4
number_of ForeignByte = 5
number_of SetAside = 6
number_of OutOfLimit = 7
number_of NotValid = 8
number_of NoRoom = 9
number_of TooManyTokens = 10
number_of NoReading = 11
number_of NoText = 12
-- 02, request 2
number_of TooLong = 13
number_of NoPack = 14
-- 02, request 3
number_of TokenTooLong = 15
-- 02, request 13
number_of UnknownVersion = 18

-- a refusal and its offset
abbrev pub fault : Refusal → ℕ → Fault
fault r at = record { refusal = r; offset = at }

-- a call's refusal: why, and the cursor that it hands back
abbrev pub refused_at : Fault → Cursor → Refused
refused_at w c = record { fault = w; cursor = c }

-- as an answer
abbrev pub refuse : {T : Type 0} → Fault → Cursor → Result T Refused
refuse w c = Err (refused_at w c)
