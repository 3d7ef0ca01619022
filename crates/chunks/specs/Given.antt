-- What is said of the next token. Definitions only.
use Rattle.std.specs.Prelude.{Option, Some, Result, Ok}
use Rattle.lexer.specs.declared.refusal.Fault.{Fault}
use Rattle.lexer.specs.declared.cursor.Cursor.{Cursor}
use Rattle.lexer.specs.declared.token.Token.{Token}
use Rattle.lexer.specs.declared.token.TokenRead.{TokenRead}

-- a token, with the cursor behind it; nothing, where more must be known; or its refusal
abbrev pub Given : Type 0
Given = Result (Option TokenRead) Fault

abbrev pub read_to : Token → Cursor → TokenRead
read_to t c = record { token = t; next = c }

abbrev pub token_given : Token → Cursor → Given
token_given t c = Ok (Some (read_to t c))
