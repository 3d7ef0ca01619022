-- The C interface: what a function returns, and what it leaves in the lent fields, from what was read or the refusal. The fields and their
-- numbers are those of `include/thrinvage.h`. Definitions only.
use Rattle.std.specs.Prelude.{ℕ, ◌≤◌, ◌≡◌, cond, List, [], ◌∷◌, ◌++◌, eqb, Float, length, set}
use Rattle.std.specs.declared.result.Result.{Result}
use Rattle.std.specs.Float.Ieee.{eq, to_bits}
use Rattle.std.specs.Float.{binary64}
use Rattle.std.proofs.lemmas.List.Edits.{sets}
use Rattle.lexer.specs.Refusal.{number_of}
use Rattle.lexer.specs.declared.cursor.Cursor.{Cursor}
use Rattle.lexer.specs.declared.kind.Kind.{Kind}
use Rattle.lexer.specs.declared.kind.Kind.TheVariants.{Name, Variable, String, Number, Open, OpenCT, Close, OpenList, CloseList, OpenCurly, CloseCurly, HeadTailSeparator, DoubleBar, Comma, End}
use Rattle.lexer.specs.declared.kind.Value.{Value}
use Rattle.lexer.specs.declared.kind.Value.TheVariants.{Integer, Float as Double, Nothing}
use Rattle.lexer.specs.declared.layout_call.LayoutKind.{LayoutKind}
use Rattle.lexer.specs.declared.layout_call.LayoutKind.TheVariants.{Blanks, SingleLine, Bracketed}
use Rattle.lexer.specs.declared.refusal.Fault.{Fault}
use Rattle.lexer.specs.declared.refusal.Refused.{Refused}
use Rattle.lexer.specs.declared.text.Part.{Part}
use Rattle.lexer.specs.declared.text.Part.TheVariants.{Source, Scratch}
use Rattle.lexer.specs.declared.token.Source as lexer
use Rattle.lexer.specs.declared.token.Source.TheVariants.{File, Field}
use Rattle.lexer.specs.declared.token.Token.{Token}
use Rattle.lexer.specs.declared.layout_call.LayoutRead.{LayoutRead}
use Rattle.std.specs.declared.result.Result.TheVariants.{Ok, Err}
use Rattle.lexer.specs.Token.{Answer}
use Rattle.lexer.specs.Text.{TextAnswer}
use Rattle.lexer.specs.LayoutCall.{LayoutAnswer}

-- a cursor, from its numbers
abbrev pub cursor_at : ℕ → ℕ → ℕ → Cursor
cursor_at offset line column = record { offset = offset; line = line; column = column }

-- the number that is returned, and the fields that are left
pub data Outcome : Type 0 where
  leaves : ℕ → List ℕ → Outcome

-- ---- the numbers of the header

-- enum thrinvage_source; a number that is not in it is a file's
unfoldable pub source_of : ℕ → lexer.Source
source_of n = cond (eqb n 1) Field File

-- enum thrinvage_kind
abbrev pub kind_number : Kind → ℕ
kind_number Name = 0
kind_number Variable = 1
kind_number String = 2
kind_number Number = 3
kind_number Open = 4
kind_number OpenCT = 5
kind_number Close = 6
kind_number OpenList = 7
kind_number CloseList = 8
kind_number OpenCurly = 9
kind_number CloseCurly = 10
kind_number HeadTailSeparator = 11
kind_number DoubleBar = 12
kind_number Comma = 13
kind_number End = 14

-- enum thrinvage_value_kind
abbrev pub value_kind : Value → ℕ
value_kind Nothing = 0
value_kind (Integer n) = 1
value_kind (Double x) = 2

-- the bits of a double, by IEEE 754; a NaN has none that are fixed, and no token's value is one
unfoldable pub bits_of : Float → ℕ
bits_of x = cond (eq x x) (to_bits binary64 x) 0

abbrev pub value_bits : Value → ℕ
value_bits Nothing = 0
value_bits (Integer n) = n
value_bits (Double x) = bits_of x

-- enum thrinvage_layout_kind; 0 is that of none
abbrev pub layout_number : LayoutKind → ℕ
layout_number Blanks = 1
layout_number SingleLine = 2
layout_number Bracketed = 3

-- ---- the structs of the header, field by field

-- what each begins with: the cursor behind what was read, and no refusal
abbrev pub cursor_fields : Cursor → List ℕ
cursor_fields c = c.offset ∷ c.line ∷ c.column ∷ 0 ∷ []

-- a token's own
abbrev pub kind_fields : Token → List ℕ
kind_fields t = kind_number t.kind ∷ t.start ∷ value_kind t.value ∷ value_bits t.value ∷ t.layout ∷ []

-- struct thrinvage_token
abbrev pub token_fields : Token → Cursor → List ℕ
token_fields t c = cursor_fields c ++ kind_fields t

-- what struct thrinvage_token_text has behind its token: enum thrinvage_part, and the part
abbrev pub part_fields : Part → List ℕ
part_fields (Source a e) = 0 ∷ a ∷ e ∷ []
part_fields (Scratch a e) = 1 ∷ a ∷ e ∷ []

-- struct thrinvage_layout
abbrev pub layout_fields : ℕ → ℕ → Cursor → List ℕ
layout_fields kind start c = cursor_fields c ++ kind ∷ start ∷ []

-- struct thrinvage_clause
abbrev pub count_fields : ℕ → Cursor → List ℕ
count_fields n c = cursor_fields c ++ n ∷ []

-- a refusal: its number, and its offset in the fourth field
abbrev pub refused_fields : Fault → List ℕ → Outcome
refused_fields w d = leaves (number_of w.refusal) (set d 3 w.offset)

-- what was counted of a clause, and the cursor behind it
abbrev pub counted_leaves : Result (ℕ × Cursor) Refused → List ℕ → Outcome
counted_leaves (Ok p) d = leaves 0 (sets d 0 (count_fields p.0 p.1))
counted_leaves (Err r) d = refused_fields r.fault d

unfoldable pub answer_leaves : Answer → List ℕ → Outcome
answer_leaves (Ok p) d = leaves 0 (sets d 0 (token_fields p.token p.next))
answer_leaves (Err p) d = refused_fields p.fault d

unfoldable pub answer_text_leaves : TextAnswer → List ℕ → Outcome
answer_text_leaves (Ok q) d = leaves 0 (sets (sets d 0 (token_fields q.token q.next)) 9 (part_fields q.part))
answer_text_leaves (Err p) d = refused_fields p.fault d

-- where no layout text is, an empty one of kind 0 is, at the caller's cursor
unfoldable pub layout_leaves : LayoutAnswer → List ℕ → Outcome
layout_leaves (Ok (LayoutRead.Text k a c)) d = leaves 0 (sets d 0 (layout_fields (layout_number k) a c))
layout_leaves (Ok (LayoutRead.Absent c)) d = leaves 0 (sets d 0 (layout_fields 0 c.offset c))
layout_leaves (Err p) d = refused_fields p.fault d

-- ---- a function that lends a slice to a call: the slice is left as x, the fields f as g, and r is returned, if the call may answer so and leave x, and r and g
-- tell this answer. Where two that the call permits coincide, so do two that are left (proofs/Theorems)
pub record Left {A : Type 0} (Permits : A → List ℕ → Type 0) (tells : A → List ℕ → Outcome) (x f g : List ℕ) (r : ℕ) : Type 0 where
  pub answer : A
  pub permitted : Permits answer x
  pub told : leaves r g ≡ tells answer f

-- ---- what the private functions ask: n fields at least
pub record Room (n : ℕ) (d : List ℕ) : Type 0 where
  pub room : n ≤ length d
