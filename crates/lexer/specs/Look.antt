-- What stands at an offset of a text. Definitions only.
use Rattle.std.specs.Prelude.{ℕ, cond, List, [], ◌∷◌, drop, Result, Ok, Err}
use Rattle.lexer.specs.Chars.{is, foreign_byte}
use Rattle.lexer.specs.Refusal.{fault}
use Rattle.lexer.specs.declared.refusal.Refusal.TheVariants.{EndOfText, ForeignByte}
use Rattle.lexer.specs.declared.chars.Peek.{Peek}
use Rattle.lexer.specs.declared.chars.Peek.TheVariants.{Byte, Foreign, End}
use Rattle.lexer.specs.declared.refusal.Fault.{Fault}

-- at the front of what is left: a byte of some class, a foreign one, or the end of the text
unfoldable pub front : List ℕ → Peek
front [] = End
front (x ∷ xs) = cond (is foreign_byte x) Foreign (Byte x)

abbrev pub peek : List ℕ → ℕ → Peek
peek s at = front (drop at s)

-- the character that a rule needs, or why it is refused
abbrev pub Look : Type 0
Look = Result ℕ Fault

-- 01, refusals 1 and 5: a rule that needs a character is refused at the end of the text and at a foreign byte
unfoldable pub needed : ℕ → Peek → Look
needed at End = Err (fault EndOfText at)
needed at Foreign = Err (fault ForeignByte at)
needed at (Byte x) = Ok x

abbrev pub lookahead : List ℕ → ℕ → Look
lookahead s at = needed at (peek s at)
