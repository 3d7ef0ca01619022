-- The border of 1,024 bytes, as one table that antt computes from the definition: what comes next from the start of a text. Assumes nothing.
use Prim.Native.Nat.{ℕ}
use Prim.Native.Char.{code}
use Prim.Native.String.{String}
use mathlib.Core.Path.{◌≡◌, refl}
use mathlib.Core.List.{List, [], ◌∷◌, ◌++◌, map}
use lib.Ieee.{round}
use lib.ListN.{replicate}
use Rattle.lexer.specs.Chars.{class_of, newline, small_a, digit_zero, digit_nine}
use Rattle.lexer.specs.Digits.{digit_of, digits}
use Rattle.lexer.specs.Float.{scale, within_limits}
use Rattle.lexer.specs.Items.{after, items}
use Rattle.lexer.specs.Layout.{past, comment_opened, slashed, layout_text_of, layout_turn}
use Rattle.lexer.specs.Look.{front, needed}
use Rattle.lexer.specs.Name.{run_end, run_token, name_token}
use Rattle.lexer.specs.Number.{number_end, radix_closed, radix_to, character_code, zero_to, exponent_ends, sign_to, letter_to, exponent_to, float, point_to, integer_to}
use Rattle.lexer.specs.Quoted.{item_turn, escape_to, coded, closed, quote_to, item_to, with_char, out_of_limit}
use Rattle.lexer.specs.Refusal.{number_of}
use Rattle.lexer.specs.Token.{Lexeme, lexeme, refused, floated, valued, numbered, plain_token, plain_lexeme, quoted_to, quoted_lexeme, lexeme_to, lexeme_since}
use Rattle.chunks.specs.Whole.{came_to, own_byte, unshown, longer_than, end_of, after_layout, next_lexeme}

abbrev bytes : String → List ℕ
bytes String.[] = []
bytes (String.◌∷◌ c s) = code c ∷ bytes s

-- 0 and where the token ends, or the refusal's number and its offset
abbrev told : Lexeme → ℕ × ℕ
told (lexeme t e x) = (0, e)
told (refused w) = (number_of w.refusal, w.offset)

-- what comes next from the start of a text: some bytes, n times one byte, and some bytes
abbrev of : String → ℕ → ℕ → List ℕ → ℕ × ℕ
of first n x behind = told (next_lexeme (bytes first ++ replicate n x ++ behind) 0)

-- what the definition says, and what is meant: of each pair of lines the first is within the border, and the second is not
abbrev pub table : List ((ℕ × ℕ) × (ℕ × ℕ))
table =
    (of "" 1024 small_a (bytes " "), (0, 1024))
    ∷ (of "" 1025 small_a (bytes " "), (15, 0))
    -- at the end of the text; before a foreign byte, which is not the token's
    ∷ (of "" 1024 small_a [], (1, 1024))
    ∷ (of "" 1025 small_a [], (15, 0))
    ∷ (of "" 1024 small_a (1 ∷ []), (5, 1024))
    ∷ (of "" 1025 small_a (1 ∷ []), (15, 0))
    -- the byte that shows refusal 6, or 4 (`border_quoted`), is the token's own
    ∷ (of "" 1023 digit_zero (bytes "_"), (6, 0))
    ∷ (of "" 1024 digit_zero (bytes "_"), (15, 0))
    -- a point that is put back, and one that is not
    ∷ (of "" 1024 digit_zero (bytes ".x"), (0, 1024))
    ∷ (of "" 1024 digit_zero (bytes ".5 "), (15, 0))
    -- 15 comes before 7
    ∷ (of "" 1024 digit_nine (bytes ". "), (7, 0))
    ∷ (of "" 1025 digit_nine (bytes " "), (15, 0))
    ∷ (of "0'\\" 1017 digit_zero (bytes "200\\"), (7, 0))
    ∷ (of "0'\\" 1018 digit_zero (bytes "200\\"), (15, 0))
    -- an exponent that is put back, and one that is not
    ∷ (of "" 1022 digit_zero (bytes ".0e+x"), (0, 1024))
    ∷ (of "" 1022 digit_zero (bytes ".0e+5 "), (15, 0))
    -- comments are no tokens
    ∷ (of "/*" 2000 small_a (bytes "*/a "), (0, 2005))
    ∷ (of "/*" 2000 small_a [], (2, 0))
    ∷ []

pub border : map (λ (r : (ℕ × ℕ) × (ℕ × ℕ)). r.0) table ≡ map (λ (r : (ℕ × ℕ) × (ℕ × ℕ)). r.1) table
unfolding after_layout layout_text_of layout_turn slashed front needed items after past comment_opened class_of lexeme_to lexeme_since plain_token plain_lexeme name_token run_token run_end longer_than end_of unshown came_to own_byte digit_of digits number_end radix_closed radix_to character_code zero_to exponent_ends sign_to letter_to exponent_to float point_to integer_to quote_to item_to floated valued numbered within_limits quoted_lexeme quoted_to item_turn escape_to coded closed with_char out_of_limit scale round
border = refl

pub border_quoted : of "'" 1022 small_a (newline ∷ []) ≡ (4, 0)
unfolding after_layout layout_text_of layout_turn slashed front needed items after past comment_opened class_of lexeme_to lexeme_since plain_token plain_lexeme name_token run_token run_end longer_than end_of unshown came_to own_byte digit_of digits number_end radix_closed radix_to character_code zero_to exponent_ends sign_to letter_to exponent_to float point_to integer_to quote_to item_to floated valued numbered within_limits quoted_lexeme quoted_to item_turn escape_to coded closed with_char out_of_limit scale round
border_quoted = refl

pub border_quoted_longer : of "'" 1023 small_a (newline ∷ []) ≡ (15, 0)
unfolding after_layout layout_text_of layout_turn slashed front needed items after past comment_opened class_of lexeme_to lexeme_since plain_token plain_lexeme name_token run_token run_end longer_than end_of unshown came_to own_byte digit_of digits number_end radix_closed radix_to character_code zero_to exponent_ends sign_to letter_to exponent_to float point_to integer_to quote_to item_to floated valued numbered within_limits quoted_lexeme quoted_to item_turn escape_to coded closed with_char out_of_limit scale round
border_quoted_longer = refl
