-- A clause's tree and the spans of its tokens, node by node: what the private functions of `clause_call` ask and promise. Nobody has to trust it:
-- proofs/ shows that the nodes are those of ClauseCall.
use Rattle.std.specs.Prelude.{ℕ, zero, suc, ◌+◌, ◌-◌, ◌*◌, ◌/◌, ◌%◌, ◌<◌, ◌≤◌, ◌≡◌, List, [], ◌∷◌, length, get_or, drop}
use Rattle.lexer.specs.Cursor.{longest, part, move_to}
use Rattle.lexer.specs.declared.cursor.Cursor.{Cursor}
use Rattle.reader.specs.Listing.{Source}
use Rattle.pack.specs.Node.{Node, a_node, most, most_nodes}
use Rattle.pack.specs.ClauseCall.{last_of}
use Rattle.pack.specs.declared.nodes.Given.{Given}

-- the last token of a node's spelling, by the node's second number
abbrev pub last_at : ℕ → ℕ → ℕ
last_at p i = last_of (p / 1024) i

-- a node of the tree at an offset, whose tokens have spans
pub record NodeAt (ms : List ℕ) (at : ℕ) (starts ends : List ℕ) : Type 0 where
  pub both : at + 2 ≤ length ms
  pub first : get_or ms at 0 < length starts
  pub last : last_at (get_or ms (at + 1) 0) (get_or ms at 0) < length ends
  pub ordered : get_or starts (get_or ms at 0) 0 ≤ get_or ends (last_at (get_or ms (at + 1) 0) (get_or ms at 0)) 0

pub record GivenNode (ms : List ℕ) (at : ℕ) (starts ends : List ℕ) (r : Given) : Type 0 where
  pub kind_same : r.kind ≡ get_or ms (at + 1) 0 / 1024
  pub arity-same : r.arity ≡ get_or ms (at + 1) 0 % 1024
  pub start-same : r.start ≡ get_or starts (get_or ms at 0) 0
  pub size_same : r.size ≡ get_or ends (last_at (get_or ms (at + 1) 0) (get_or ms at 0)) 0 - get_or starts (get_or ms at 0) 0
  pub kind_small : r.kind ≤ 255
  pub arity_small : r.arity ≤ most
  pub size_small : r.size ≤ most

-- n nodes over so many tokens
pub data Lying (tokens : ℕ) : ℕ → List ℕ → Type 0 where
  nothing : {ms : List ℕ} → Lying tokens zero ms
  also : {n i p : ℕ} {ms : List ℕ} → last_at p i < tokens → Lying tokens n ms → Lying tokens (suc n) (i ∷ p ∷ ms)

-- from an offset on n nodes of the tree of a clause of the text s
pub record Walk (s ms : List ℕ) (at n : ℕ) (starts ends : List ℕ) : Type 0 where
  pub tokens : ℕ
  pub source : Source s starts ends tokens
  pub lying : Lying tokens n (drop at ms)
  pub near : at + 2 * n ≤ 2 * most_nodes

-- how many bytes n nodes of the tree take
unfoldable pub weight : List ℕ → List ℕ → ℕ → List ℕ → ℕ
weight starts ends zero ms = 0
weight starts ends (suc n) [] = 0
weight starts ends (suc n) (i ∷ []) = 0
weight starts ends (suc n) (i ∷ p ∷ ms) = 5 + (get_or ends (last_at p i) 0 - get_or starts i 0) + weight starts ends n ms

pub record SomeWalk (ms : List ℕ) (count : ℕ) (starts ends : List ℕ) : Type 0 where
  pub text : List ℕ
  pub walk : Walk text ms 0 count starts ends

pub record TreeWeighs (ms : List ℕ) (count : ℕ) (starts ends : List ℕ) (r : ℕ) : Type 0 where
  pub same : r ≡ weight starts ends count ms
  pub light : r ≤ most_nodes * (5 + most)

-- n nodes of the tree
unfoldable pub nodes_of : List ℕ → List ℕ → List ℕ → ℕ → List ℕ → List Node
nodes_of s starts ends zero ms = []
nodes_of s starts ends (suc n) [] = []
nodes_of s starts ends (suc n) (i ∷ []) = []
nodes_of s starts ends (suc n) (i ∷ p ∷ ms) =
    a_node (p / 1024) (p % 1024) (part (get_or starts i 0) (get_or ends (last_at p i) 0) s) ∷ nodes_of s starts ends n ms

pub record PutTree (s ms : List ℕ) (count : ℕ) (starts ends : List ℕ) (room from : ℕ) : Type 0 where
  pub walk : Walk s ms 0 count starts ends
  pub fits : from + weight starts ends count ms ≤ room
  pub small : from + weight starts ends count ms ≤ most + 3

-- ---- the line of the first token

-- an offset of the text that is not before the cursor
pub record Ahead (s : List ℕ) (c : Cursor) (o : ℕ) : Type 0 where
  pub behind : c.offset ≤ o
  pub inside : o < length s
  pub short : length s ≤ longest
  pub line : c.line ≤ c.offset

pub record LineAt (s : List ℕ) (c : Cursor) (o r : ℕ) : Type 0 where
  pub same : r ≡ (move_to s c o).line
  pub before : r ≤ o
