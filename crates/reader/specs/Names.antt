-- What the private functions of the look-up promise: names of at most three bytes, and the table's entries. Assumes nothing.
use Rattle.std.specs.Prelude.{ℕ, ◌≤◌, ◌<◌, ◌≡◌, Bool, cond, ◌||◌, List, [], ◌∷◌, eqb, ltb, length, get_or, Option as CodeOption, None}
use Rattle.std.proofs.Math.Option.{some}
use Rattle.reader.specs.Token.{same_text}
use Rattle.reader.specs.Ops.{fx, fy, xfx, xfy, yfx, Entry, prefix_op, infix_op, operators, prefix_of, infix_of}
use Rattle.reader.specs.Roles.{prefix_role, infix_role}
use Rattle.reader.specs.declared.operators.Operator.{Operator}
use Rattle.reader.specs.declared.operators.OperatorKind.{OperatorKind}
use Rattle.reader.specs.declared.operators.OperatorKind.TheVariants.{Xfx, Xfy, Yfx, Fy, Fx}
use Rattle.reader.specs.declared.ops.ShortName.{ShortName}
use Rattle.reader.specs.declared.roles.Prefix.{Prefix}
use Rattle.reader.specs.declared.roles.Infix.{Infix}

-- a part of a text
pub record Part (s : List ℕ) (from to : ℕ) : Type 0 where
  pub ahead : from ≤ to
  pub inside : to ≤ length s

abbrev pub space : ℕ
space = 32

-- a name of one to three bytes, without the spaces that fill it up
unfoldable pub trimmed : ℕ → ℕ → ℕ → List ℕ
trimmed a b c = cond (eqb c space) (cond (eqb b space) (a ∷ []) (a ∷ b ∷ [])) (a ∷ b ∷ c ∷ [])

abbrev pub spelt : ShortName → List ℕ
spelt n = trimmed n.first n.second n.third

-- what the code's table has at a place, and what 01's has there
unfoldable pub entry_as : OperatorKind → List ℕ → ℕ → Entry
entry_as Fx x p = prefix_op x (fx p)
entry_as Fy x p = prefix_op x (fy p)
entry_as Xfx x p = infix_op x (xfx p)
entry_as Xfy x p = infix_op x (xfy p)
entry_as Yfx x p = infix_op x (yfx p)

abbrev pub entry_of : Operator → Entry
entry_of o = entry_as o.3 (trimmed o.0 o.1 o.2) o.4

unfoldable pub entry_at : ℕ → Entry
entry_at place = get_or operators place (infix_op [] (xfx 0))

-- the role that one entry gives to a name
unfoldable pub prefix_in : Entry → List ℕ → CodeOption Prefix
prefix_in (prefix_op y r) x = cond (same_text x y) (prefix_role (some r)) None
prefix_in (infix_op y r) x = None

unfoldable pub infix_in : Entry → List ℕ → CodeOption Infix
infix_in (prefix_op y r) x = None
infix_in (infix_op y r) x = cond (same_text x y) (infix_role (some r)) None

-- The entry at this place, by itself, gives a name the role that the whole table gives it.
pub record PrefixPlace (n : ShortName) (place : ℕ) : Type 0 where
  pub below : place < 39
  pub leads : prefix_in (entry_at place) (spelt n) ≡ prefix_role (prefix_of operators (spelt n))

pub record InfixPlace (n : ShortName) (place : ℕ) : Type 0 where
  pub below : place < 39
  pub leads : infix_in (entry_at place) (spelt n) ≡ infix_role (infix_of operators (spelt n))

-- `is`, `mod` and `rem` are the only operators of letters
unfoldable pub starts_operator : ℕ → Bool
starts_operator b = eqb b 105 || eqb b 109 || eqb b 114 || ltb b 97
