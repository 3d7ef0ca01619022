-- Document 01's starred specimens of tokens, and layout texts of March, as tables that antt computes from the definitions. Assumes nothing.
use Prim.Native.Nat.{ℕ}
use Prim.Native.Char.{code}
use Prim.Native.String.{String}
use mathlib.Core.Path.{◌≡◌, refl}
use mathlib.Core.Bool.{false}
use mathlib.Core.List.{List, [], ◌∷◌, map}
use lib.IntN.{pos}
use lib.Ieee.{fin, round}
use Rattle.lexer.specs.Chars.{class_of}
use Rattle.lexer.specs.Cursor.{walk, move_to, valid}
use Rattle.lexer.specs.Digits.{digit_of, digits}
use Rattle.lexer.specs.Float.{scale, within_limits}
use Rattle.lexer.specs.Items.{after, items}
use Rattle.lexer.specs.Layout.{past, comment_opened, slashed, layout_text_of, layout_turn}
use Rattle.lexer.specs.LayoutCall.{layout_given, next_layout, LayoutAnswer}
use Rattle.lexer.specs.Look.{front, needed}
use Rattle.lexer.specs.Name.{run_end, run_token, name_token}
use Rattle.lexer.specs.Number.{radix_closed, radix_to, character_code, zero_to, exponent_ends, sign_to, letter_to, exponent_to, float, point_to, integer_to}
use Rattle.lexer.specs.Quoted.{quote_to, item_to}
use Rattle.lexer.specs.Refusal.{fault, refuse}
use Rattle.lexer.specs.Stretch.{run_to}
use Rattle.lexer.specs.Token.{floated, valued, numbered, plain_token, token, plain_lexeme, lexeme_to, after_layout, token_since, lexeme_since, answered, next_token, token_read, Answer}
use Rattle.lexer.specs.declared.refusal.Refusal.{Refusal}
use Rattle.lexer.specs.declared.refusal.Refusal.TheVariants.{EndOfText, UnclosedComment, OutOfLimit}
use Rattle.lexer.specs.declared.cursor.Cursor.{Cursor}
use Rattle.lexer.specs.declared.kind.Kind.TheVariants.{Name, Number}
use Rattle.lexer.specs.declared.kind.Kind.{Kind}
use Rattle.lexer.specs.declared.kind.Value.{Value}
use Rattle.lexer.specs.declared.kind.Value.TheVariants.{Integer, Float, Nothing}
use Rattle.lexer.specs.declared.layout_call.LayoutKind.TheVariants.{Blanks, SingleLine, Bracketed}
use Rattle.lexer.specs.declared.token.Source.TheVariants.{File}
use Rattle.lexer.specs.declared.layout_call.LayoutRead.{LayoutRead}
use Rattle.std.specs.declared.result.Result.TheVariants.{Ok}

-- the bytes of a text
abbrev bytes : String → List ℕ
bytes String.[] = []
bytes (String.◌∷◌ c s) = code c ∷ bytes s

-- the cursor at an offset of the first line
abbrev at : ℕ → Cursor
at n = record { offset = n; line = 0; column = n }

-- the token call on a text, at an offset
abbrev from : ℕ → String → Answer
from n s = next_token File (bytes s) (at n)

-- a token from one offset to another, with the offset at which the layout before it began; or a refusal and its offset at the start of the text
abbrev read : ℕ → ℕ → ℕ → Kind → Value → Answer
read a n e k v = token_read (token_since a (token k v n)) (at e)

abbrev refused : Refusal → ℕ → Answer
refused r n = refuse (fault r n) (at 0)

-- what the definition answers, and what 01 says
abbrev pub table : List (Answer × Answer)
table =
    (from 0 "0xg", read 0 0 1 Number (Integer 0))
    ∷ (from 0 "0x", refused EndOfText 2)
    ∷ (from 0 "0x1F", read 0 0 4 Number (Integer 31))
    ∷ (from 0 "00x1", read 0 0 2 Number (Integer 0))
    ∷ (from 0 "1.", read 0 0 1 Number (Integer 1))
    ∷ (from 0 "1.0e+", read 0 0 3 Number (Float (fin false 1 (pos 0))))
    ∷ (from 0 "0''x", read 0 0 1 Number (Integer 0))
    ∷ (from 0 "0'''", read 0 0 4 Number (Integer 39))
    ∷ (from 0 "/*", refused EndOfText 2)
    ∷ (from 0 "/* ", refused UnclosedComment 0)
    ∷ (from 0 "9223372036854775808 ", read 0 0 19 Number (Integer 9223372036854775808))
    ∷ (from 0 "9223372036854775809 ", refused OutOfLimit 0)
    -- the readings that a hurried port gets wrong
    ∷ (from 0 "/*/", refused UnclosedComment 0)
    ∷ (from 1 "X=/*c*/Y", read 1 1 4 Name Nothing)
    -- March: an opening mark inside a comment does not nest
    ∷ (from 0 "/* /* */ a.", read 0 9 10 Name Nothing)
    ∷ []

pub specimens : map (λ (r : Answer × Answer). r.0) table ≡ map (λ (r : Answer × Answer). r.1) table
unfolding class_of walk move_to valid digit_of digits scale within_limits round after items past comment_opened slashed layout_text_of layout_turn front needed run_end run_token name_token radix_closed radix_to character_code zero_to exponent_ends sign_to letter_to exponent_to float point_to integer_to quote_to item_to floated valued numbered plain_token plain_lexeme lexeme_to after_layout lexeme_since answered
specimens = refl

-- the layout call on a text, at an offset
abbrev layout : ℕ → String → LayoutAnswer
layout n s = next_layout (bytes s) (at n)

-- what the definition answers, and what 6.4.1 says
abbrev pub layouts : List (LayoutAnswer × LayoutAnswer)
layouts =
    (layout 0 "  a", Ok (LayoutRead.Text Blanks 0 (at 2)))
    ∷ (layout 0 "% c", Ok (LayoutRead.Text SingleLine 0 (at 3)))
    ∷ (layout 0 "/* /* */ a. */", Ok (LayoutRead.Text Bracketed 0 (at 8)))
    ∷ (layout 8 "/* /* */ a. */", Ok (LayoutRead.Text Blanks 8 (at 9)))
    ∷ (layout 9 "/* /* */ a. */", Ok (LayoutRead.Absent (at 9)))
    ∷ (layout 1 " /*/", refuse (fault UnclosedComment 1) (at 1))
    ∷ (layout 0 "/", refuse (fault EndOfText 1) (at 0))
    ∷ []

pub layout_specimens : map (λ (r : LayoutAnswer × LayoutAnswer). r.0) layouts ≡ map (λ (r : LayoutAnswer × LayoutAnswer). r.1) layouts
unfolding class_of walk move_to valid past comment_opened slashed layout_text_of front needed run_to layout_given
layout_specimens = refl
