-- Tokens as the lexer's contract gives them, and what the clause grammar sees of each. Assumes nothing.
use Rattle.std.specs.Prelude.{ℕ, ◌+◌, Bool, true, false, ◌&&◌, List, [], ◌∷◌, eqb}
use Rattle.lexer.specs.Digits.{largest_magnitude}
pub use Rattle.lexer.specs.declared.kind.Kind.{Kind}
pub use Rattle.lexer.specs.declared.kind.Value.{Value}
pub use Rattle.lexer.specs.declared.kind.Value.TheVariants.{Integer, Float, Nothing}
pub use Rattle.lexer.specs.declared.kind.Kind.TheVariants.{Name, Variable, String, Number, Open, OpenCT, Close, OpenList, CloseList, OpenCurly, CloseCurly, HeadTailSeparator, DoubleBar, Comma, End}

-- A token: its kind, its value (only a number's counts), its decoded text (only a name's counts), its span, and where the layout before it began (02,
-- request 8; the grammar does not see it).
pub record Token : Type 0 where
  pub kind : Kind
  pub value : Value
  pub text : List ℕ
  pub start : ℕ
  pub end : ℕ
  pub layout : ℕ

-- what stands where there is no token
abbrev pub no_token : Token
no_token = record { kind = End; value = Nothing; text = []; start = 0; end = 0; layout = 0 }

-- What neither starts a term nor is a name.
pub data Stop : Type 0 where
  close close_list close_curly bar double_bar comma end_mark : Stop

-- 02, request 4: the magnitude of the lowest integer: "that one value stands only as the second half of a negative number"
unfoldable pub is_lowest : Value → Bool
is_lowest (Integer n) = eqb n largest_magnitude
is_lowest (Float x) = false
is_lowest Nothing = false

-- What the grammar sees. name: its text, and where it ends. number: where it begins, and has it the lowest integer's magnitude. round: is it OpenCT.
pub data Terminal : Type 0 where
  name : List ℕ → ℕ → Terminal
  number : ℕ → Bool → Terminal
  var_or_string : Terminal
  round : Bool → Terminal
  square brace : Terminal
  stop : Stop → Terminal

unfoldable pub terminal_as : Kind → Token → Terminal
terminal_as Name t = name t.text t.end
terminal_as Number t = number t.start (is_lowest t.value)
terminal_as Variable t = var_or_string
terminal_as String t = var_or_string
terminal_as Open t = round false
terminal_as OpenCT t = round true
terminal_as OpenList t = square
terminal_as OpenCurly t = brace
terminal_as Close t = stop close
terminal_as CloseList t = stop close_list
terminal_as CloseCurly t = stop close_curly
terminal_as HeadTailSeparator t = stop bar
terminal_as DoubleBar t = stop double_bar
terminal_as Comma t = stop comma
terminal_as End t = stop end_mark

-- A terminal, and its token's index in the clause.
pub data Tok : Type 0 where
  tok : ℕ → Terminal → Tok

-- 01: "Indexes count from 0 in the clause."
unfoldable pub terminals : ℕ → List Token → List Tok
terminals i [] = []
terminals i (t ∷ ts) = tok i (terminal_as t.kind t) ∷ terminals (i + 1) ts

-- 01: "Names are compared by decoded text."
unfoldable pub same_text : List ℕ → List ℕ → Bool
same_text [] [] = true
same_text [] (y ∷ ys) = false
same_text (x ∷ xs) [] = false
same_text (x ∷ xs) (y ∷ ys) = eqb x y && same_text xs ys
