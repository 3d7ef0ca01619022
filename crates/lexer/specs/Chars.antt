-- Characters by name, and the classes of bytes: ISO 6.5. Definitions only.
use Rattle.std.specs.Prelude.{ℕ, Bool, false, cond, ◌&&◌, ◌||◌, List, [], ◌∷◌, leb, eqb}

-- ---- characters that the rules name
abbrev pub alert : ℕ
alert = 7

abbrev pub backspace : ℕ
backspace = 8

abbrev pub tab : ℕ
tab = 9

abbrev pub newline : ℕ
newline = 10

abbrev pub vertical_tab : ℕ
vertical_tab = 11

abbrev pub form_feed : ℕ
form_feed = 12

abbrev pub carriage_return : ℕ
carriage_return = 13

abbrev pub space : ℕ
space = 32

abbrev pub cut : ℕ
cut = 33

abbrev pub double_quote : ℕ
double_quote = 34

abbrev pub percent : ℕ
percent = 37

abbrev pub single_quote : ℕ
single_quote = 39

abbrev pub open_paren : ℕ
open_paren = 40

abbrev pub close_paren : ℕ
close_paren = 41

abbrev pub star : ℕ
star = 42

abbrev pub plus : ℕ
plus = 43

abbrev pub comma : ℕ
comma = 44

abbrev pub minus : ℕ
minus = 45

abbrev pub point : ℕ
point = 46

abbrev pub slash : ℕ
slash = 47

abbrev pub digit_zero : ℕ
digit_zero = 48

abbrev pub digit_nine : ℕ
digit_nine = 57

abbrev pub semicolon : ℕ
semicolon = 59

abbrev pub capital_a : ℕ
capital_a = 65

abbrev pub capital_e : ℕ
capital_e = 69

abbrev pub capital_f : ℕ
capital_f = 70

abbrev pub capital_z : ℕ
capital_z = 90

abbrev pub open_bracket : ℕ
open_bracket = 91

abbrev pub backslash : ℕ
backslash = 92

abbrev pub close_bracket : ℕ
close_bracket = 93

abbrev pub underscore : ℕ
underscore = 95

abbrev pub back_quote : ℕ
back_quote = 96

abbrev pub small_a : ℕ
small_a = 97

abbrev pub small_b : ℕ
small_b = 98

abbrev pub small_e : ℕ
small_e = 101

abbrev pub small_f : ℕ
small_f = 102

abbrev pub small_n : ℕ
small_n = 110

abbrev pub small_o : ℕ
small_o = 111

abbrev pub small_r : ℕ
small_r = 114

abbrev pub small_t : ℕ
small_t = 116

abbrev pub small_v : ℕ
small_v = 118

abbrev pub small_x : ℕ
small_x = 120

abbrev pub small_z : ℕ
small_z = 122

abbrev pub open_brace : ℕ
open_brace = 123

abbrev pub bar : ℕ
bar = 124

abbrev pub close_brace : ℕ
close_brace = 125

-- ---- classes, numbered so that letters, the underscore and digits are the first four
abbrev pub small_letter : ℕ
small_letter = 0

abbrev pub capital_letter : ℕ
capital_letter = 1

abbrev pub underscore_char : ℕ
underscore_char = 2

abbrev pub decimal_digit : ℕ
decimal_digit = 3

abbrev pub graphic_token_char : ℕ
graphic_token_char = 4

abbrev pub layout_char : ℕ
layout_char = 5

abbrev pub solo_char : ℕ
solo_char = 6

abbrev pub quote_char : ℕ
quote_char = 7

abbrev pub foreign_byte : ℕ
foreign_byte = 8

abbrev pub among : ℕ → List ℕ → Bool
among x [] = false
among x (y ∷ ys) = eqb x y || among x ys

-- from a to b, both included
abbrev pub within : ℕ → ℕ → ℕ → Bool
within a b x = leb a x && leb x b

-- 6.5.1: # $ & * + - . / : < = > ? @ ^ ~, and the backslash, which 01 counts among them
abbrev pub graphic_token_chars : List ℕ
graphic_token_chars = 35 ∷ 36 ∷ 38 ∷ star ∷ plus ∷ minus ∷ point ∷ slash ∷ 58 ∷ 60 ∷ 61 ∷ 62 ∷ 63 ∷ 64 ∷ 94 ∷ 126 ∷ backslash ∷ []

-- 6.5.4: tab, newline and space. -- departs: and the carriage return (02, request 1)
abbrev pub layout_chars : List ℕ
layout_chars = tab ∷ newline ∷ carriage_return ∷ space ∷ []

-- 6.5.3: ! ( ) , ; [ ] { } | %
abbrev pub solo_chars : List ℕ
solo_chars =
    cut ∷ open_paren ∷ close_paren ∷ comma ∷ semicolon ∷ open_bracket ∷ close_bracket ∷ open_brace ∷ close_brace ∷ bar ∷ percent ∷ []

-- 6.5: the class of a byte, by comparisons; a byte of no class of ISO's is foreign
unfoldable pub class_of : ℕ → ℕ
class_of x =
    cond (within small_a small_z x) small_letter
    (cond (within capital_a capital_z x) capital_letter
    (cond (eqb x underscore) underscore_char
    (cond (within digit_zero digit_nine x) decimal_digit
    (cond (among x graphic_token_chars) graphic_token_char
    (cond (among x layout_chars) layout_char
    (cond (among x solo_chars) solo_char
    (cond (among x (single_quote ∷ double_quote ∷ back_quote ∷ [])) quote_char
    foreign_byte)))))))

-- x is of the class k
abbrev pub is : ℕ → ℕ → Bool
is k x = eqb (class_of x) k
