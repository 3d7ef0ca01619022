-- The first token that cannot stand (02, request 12), said of the grammar alone: it names no machine. Definitions only.
use Rattle.std.specs.Prelude.{ℕ, ◌≤◌, ◌<◌, ◌≡◌, List, [], ◌∷◌, ◌++◌}
use Rattle.reader.specs.Token.{Token}
use Rattle.reader.specs.Ops.{Table}
use Rattle.reader.specs.Tree.{Tree}
use Rattle.reader.specs.Grammar.{Reads}

-- Tokens as they stand in a text of n bytes from the offset z on: none is empty, and each is behind the one before it.
pub data Chain (n : ℕ) : ℕ → List Token → Type 0 where
  none : {z : ℕ} → z ≤ n → Chain n z []
  more : {z : ℕ} {t : Token} {ts : List Token} → z ≤ t.start → t.start < t.end → Chain n t.end ts → Chain n z (t ∷ ts)

-- Some clause, of whichever length, begins with the tokens ts; its further tokens stand from z on.
pub record Begins (T : Table) (ts : List Token) (z : ℕ) : Type 0 where
  pub further : List Token
  pub tree : Tree
  pub reads : Reads T (ts ++ further) tree
  pub bytes : ℕ
  pub stands : Chain bytes z further

-- No clause begins with the tokens ts, wherever its further tokens stand.
abbrev pub NoneBegins : Table → List Token → Type 0
NoneBegins T ts = (further : List Token) (t : Tree) → Reads T (ts ++ further) t → ⊥

-- The token t of ts is the first that cannot stand: a clause begins with the tokens before it, wherever they end, and none with these and it.
pub record FirstFault (T : Table) (ts : List Token) (t : Token) : Type 0 where
  pub before : List Token
  pub after : List Token
  pub parts : ts ≡ before ++ (t ∷ after)
  pub stand : (z : ℕ) → Begins T before z
  pub fault : NoneBegins T (before ++ (t ∷ []))
