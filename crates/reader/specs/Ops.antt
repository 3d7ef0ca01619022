-- Operators (ISO 6.3.4.3): roles, tables, and document 01's table. Assumes nothing.
use Rattle.std.specs.Prelude.{ℕ, ◌+◌, ◌≡◌, Bool, true, false, cond, List, [], ◌∷◌}
use Prim.Native.Char.{code}
use Prim.Native.String.{String}
use Rattle.std.proofs.Math.Option.{Option, none, some}
use Rattle.reader.specs.Token.{Terminal, name, stop, comma, same_text}

-- the bytes of an ASCII spelling
abbrev pub spell : String → List ℕ
spell String.[] = []
spell (String.◌∷◌ c s) = code c ∷ spell s

-- ISO 6.3.4: a prefix or infix role, each with its priority.
pub data Pre : Type 0 where
  fx fy : ℕ → Pre

pub data Inf : Type 0 where
  xfx xfy yfx : ℕ → Inf

-- 01: "The whole has the operator's priority."
unfoldable pub pre_prio : Pre → ℕ
pre_prio (fx p) = p
pre_prio (fy p) = p

unfoldable pub prio : Inf → ℕ
prio (xfx p) = p
prio (xfy p) = p
prio (yfx p) = p

-- 01: "An x operand has a lower priority than its operator, a y operand at most the same." An operand's priority is below its bound.
unfoldable pub pre_bound : Pre → ℕ
pre_bound (fx p) = p
pre_bound (fy p) = p + 1

unfoldable pub left_bound : Inf → ℕ
left_bound (xfx p) = p
left_bound (xfy p) = p
left_bound (yfx p) = p + 1

unfoldable pub right_bound : Inf → ℕ
right_bound (xfx p) = p
right_bound (xfy p) = p + 1
right_bound (yfx p) = p

-- A table's entry: a name and a role. A name may have both roles.
pub data Entry : Type 0 where
  prefix_op : List ℕ → Pre → Entry
  infix_op : List ℕ → Inf → Entry

abbrev pub Table : Type 0
Table = List Entry

-- 01's table, a row for each priority and kind.
abbrev row : {R : Type 0} → (List ℕ → R → Entry) → R → List String → Table → Table
row make r [] rest = rest
row make r (s ∷ names) rest = make (spell s) r ∷ row make r names rest

abbrev pub operators : Table
operators =
    row infix_op (xfx 1200) (":-" ∷ "-->" ∷ [])
    (row prefix_op (fx 1200) (":-" ∷ "?-" ∷ [])
    (row infix_op (xfy 1100) (";" ∷ [])
    (row infix_op (xfy 1050) ("->" ∷ [])
    (row infix_op (xfy 1000) ("," ∷ [])
    (row prefix_op (fy 900) ("\\+" ∷ [])
    (row infix_op (xfx 700) ("=" ∷ "\\=" ∷ "==" ∷ "\\==" ∷ "@<" ∷ "@=<" ∷ "@>" ∷ "@>=" ∷ "=.." ∷ "is" ∷ "=:=" ∷ "=\\=" ∷ "<" ∷ "=<" ∷ ">" ∷ ">=" ∷ [])
    (row infix_op (yfx 500) ("+" ∷ "-" ∷ "/\\" ∷ "\\/" ∷ [])
    (row infix_op (yfx 400) ("*" ∷ "/" ∷ "//" ∷ "rem" ∷ "mod" ∷ "<<" ∷ ">>" ∷ [])
    (row infix_op (xfx 200) ("**" ∷ [])
    (row infix_op (xfy 200) ("^" ∷ [])
    (row prefix_op (fy 200) ("-" ∷ "\\" ∷ []) [])))))))))))

-- the first entry of a name in a role
unfoldable pub find_pre : Table → List ℕ → Option Pre
find_pre [] x = none
find_pre (prefix_op y r ∷ T) x = cond (same_text x y) (some r) (find_pre T x)
find_pre (infix_op y r ∷ T) x = find_pre T x

unfoldable pub find_inf : Table → List ℕ → Option Inf
find_inf [] x = none
find_inf (prefix_op y r ∷ T) x = find_inf T x
find_inf (infix_op y r ∷ T) x = cond (same_text x y) (some r) (find_inf T x)

abbrev pub is_comma : List ℕ → Bool
is_comma x = same_text x (spell ",")

abbrev pub is_minus : List ℕ → Bool
is_minus x = same_text x (spell "-")

-- The roles of a name. 01: "A quoted comma is no operator."
unfoldable pub prefix_of : Table → List ℕ → Option Pre
prefix_of T x = cond (is_comma x) none (find_pre T x)

unfoldable pub infix_of : Table → List ℕ → Option Inf
infix_of T x = cond (is_comma x) none (find_inf T x)

-- Is a name with these roles an operator?
unfoldable pub roled : Option Pre → Option Inf → Bool
roled none none = false
roled none (some r) = true
roled (some p) q = true

abbrev pub is_op : Table → List ℕ → Bool
is_op T x = roled (prefix_of T x) (infix_of T x)

-- What stands between two operands: a name with an infix role, or the Comma. 01: "The comma is the Comma token."
pub data IsInfix (T : Table) : Terminal → Inf → Type 0 where
  named : {x : List ℕ} {e : ℕ} {r : Inf} → infix_of T x ≡ some r → IsInfix T (name x e) r
  the_comma : IsInfix T (stop comma) (xfy 1000)
