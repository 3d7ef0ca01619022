-- Names and variables that are not quoted: ISO 6.4.2 and 6.4.3. Definitions only.
use Rattle.std.specs.Prelude.{ℕ, ◌+◌, cond, List, [], ◌∷◌, eqb, drop, Result}
use Rattle.lexer.specs.Chars.{class_of, is, within, small_letter, decimal_digit, graphic_token_char, foreign_byte, cut, semicolon}
use Rattle.lexer.specs.Refusal.{fault}
use Rattle.lexer.specs.declared.refusal.Refusal.TheVariants.{EndOfText, NoToken, ForeignByte}
use Rattle.lexer.specs.Cursor.{Scan}
use Rattle.std.specs.declared.result.Result.TheVariants.{Ok, Err}
use Rattle.lexer.specs.declared.refusal.Fault.{Fault}
use Rattle.lexer.specs.declared.kind.Kind.{Kind}
use Rattle.lexer.specs.declared.kind.Kind.TheVariants.{Name, Variable}
use Rattle.lexer.specs.declared.kind.Value.{Value}
use Rattle.lexer.specs.declared.kind.Value.TheVariants.{Nothing}
use Rattle.lexer.specs.declared.kind.Plain.{Plain}

-- a token that is not quoted, without its place; or why it is refused
abbrev pub PlainToken : Type 0
PlainToken = Result Plain Fault

-- one that is read
abbrev pub whole_token : Kind → Value → ℕ → PlainToken
whole_token k v e = Ok (record { kind = k; value = v; end = e })

-- a run that comes to a byte of class k stops there, unless the byte is foreign
abbrev pub run_stop : ℕ → ℕ → Scan
run_stop at k = cond (eqb k foreign_byte) (Err (fault ForeignByte at)) (Ok at)

-- a run of bytes whose classes are from lo to hi, from `at` on, where the list is left of the text; it ends before another byte, which it needs
unfoldable pub run_end : ℕ → ℕ → ℕ → List ℕ → Scan
run_end lo hi at [] = Err (fault EndOfText at)
run_end lo hi at (x ∷ xs) =
    cond (within lo hi (class_of x)) (run_end lo hi (at + 1) xs) (run_stop at (class_of x))

-- 6.5.2: alphanumeric characters; their classes are the first four
abbrev pub alphanumerics : List ℕ → ℕ → Scan
alphanumerics s at = run_end small_letter decimal_digit at (drop at s)

-- 6.4.2: graphic token characters
abbrev pub graphics : List ℕ → ℕ → Scan
graphics s at = run_end graphic_token_char graphic_token_char at (drop at s)

-- a token that ends where a run ends
unfoldable pub run_token : Kind → Scan → PlainToken
run_token k (Ok e) = whole_token k Nothing e
run_token k (Err w) = Err w

-- 6.4.3: variable token: a capital letter or an underscore, at `at`, and alphanumeric characters
abbrev pub variable_token : List ℕ → ℕ → PlainToken
variable_token s at = run_token Variable (alphanumerics s (at + 1))

-- 6.4.2: a graphic token, whose first character is at `at`
abbrev pub graphic_token : List ℕ → ℕ → PlainToken
graphic_token s at = run_token Name (graphics s (at + 1))

-- 6.4.2: cut or semicolon, the solo characters x that are names, from `at` to e
abbrev pub solo_name : ℕ → ℕ → ℕ → PlainToken
solo_name at e x =
    cond (eqb x cut) (whole_token Name Nothing e)
    (cond (eqb x semicolon) (whole_token Name Nothing e)
    (Err (fault NoToken at)))

-- 6.4.2: a name that begins with x, at `at`, which is no letter: graphic token, cut or semicolon
abbrev pub symbol_name : List ℕ → ℕ → ℕ → PlainToken
symbol_name s at x = cond (is graphic_token_char x) (graphic_token s at) (solo_name at (at + 1) x)

-- 6.4.2: name token that begins with x, at `at`, and is not quoted: letter digit token, or the others
unfoldable pub name_token : List ℕ → ℕ → ℕ → PlainToken
name_token s at x = cond (is small_letter x) (run_token Name (alphanumerics s (at + 1))) (symbol_name s at x)

-- ---- what the code keeps: names and variables together, by their first character x, a letter or an underscore

-- 6.4.2, 6.4.3: a small letter begins a name, another a variable
abbrev pub word_kind : ℕ → Kind
word_kind x = cond (is small_letter x) Name Variable

-- the word at `at`
abbrev pub word_token : List ℕ → ℕ → ℕ → PlainToken
word_token s at x = run_token (word_kind x) (alphanumerics s (at + 1))
