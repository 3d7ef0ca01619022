-- One line of the listing. 01: "The listing prints source spellings: name(x,y) for kinds 2 to 4, the Comma as ',' in quotes, lists as [a,b|T], curly as
-- {a}, kinds 8 and 9 as [] and {}." Definitions only.
use Rattle.std.specs.Prelude.{ℕ, ◌+◌, ◌-◌, ◌*◌, ◌/◌, ◌%◌, ◌<◌, ◌≤◌, ◌≡◌, cond, List, [], ◌∷◌, ◌++◌, eqb, leb, length, get_or, take, Option, Some, None}
use Rattle.std.proofs.lemmas.List.Edits.{sets}
use Rattle.lexer.specs.Chars.{single_quote, open_paren, close_paren, comma, open_bracket, close_bracket, open_brace, bar, close_brace}
use Rattle.lexer.specs.Cursor.{part, longest}
use Rattle.lexer.specs.Token.{is_comma}
use Rattle.reader.specs.Token.{Token, no_token}
use Rattle.reader.specs.Tree.{NodeKind, plain, negative, call, prefix, infx, list, list_tail, curly, empty_list, empty_curly, kind_number, Tree, node, Forest, nil, ◌◂◌, arity, numbers, numbers_all}
use Rattle.reader.specs.declared.listing.Shape.{Shape}
use Rattle.reader.specs.declared.listing.Shape.TheVariants.{Word, Negative, Call, Square, Tail, Curly}
use Rattle.reader.specs.declared.listing.Before.{Before}
use Rattle.reader.specs.declared.listing.Root.{Root}

-- how a node of the kind is printed; kinds 8 and 9 as a list and a curly term with nothing inside
unfoldable pub shape_of : NodeKind → Shape
shape_of plain = Word
shape_of negative = Negative
shape_of call = Call
shape_of prefix = Call
shape_of infx = Call
shape_of list = Square
shape_of list_tail = Tail
shape_of curly = Curly
shape_of empty_list = Square
shape_of empty_curly = Curly

-- 01: "the Comma as ','"
abbrev pub quoted_comma : List ℕ
quoted_comma = single_quote ∷ comma ∷ single_quote ∷ []

-- what stands behind the children: name(x,y), [a,b|T], {a}
unfoldable pub back : Shape → List ℕ
back Word = []
back Negative = []
back Call = close_paren ∷ []
back Square = close_bracket ∷ []
back Tail = close_bracket ∷ []
back Curly = close_brace ∷ []

-- what stands between the last two children; between others it is a comma
unfoldable pub last_separator : Shape → ℕ
last_separator Word = comma
last_separator Negative = comma
last_separator Call = comma
last_separator Square = comma
last_separator Tail = bar
last_separator Curly = comma

-- the separator c if the children that follow are the last one alone
unfoldable pub separator : ℕ → Forest → ℕ
separator c nil = c
separator c (t ◂ f) = comma

-- over the bytes from the start of one token to the end of another
module _ (word : ℕ → ℕ → List ℕ) where
  -- what stands before the children; a negative number runs from its minus to the end of the next token
  unfoldable pub front : Shape → ℕ → List ℕ
  front Word i = word i i
  front Negative i = word i (i + 1)
  front Call i = word i i ++ (open_paren ∷ [])
  front Square i = open_bracket ∷ []
  front Tail i = open_bracket ∷ []
  front Curly i = open_brace ∷ []

  -- 01: "It walks from the root to the children, a term within a term."
  unfoldable mutual
    pub printed : Tree → List ℕ
    printed (node i k f) = front (shape_of k) i ++ (joined (last_separator (shape_of k)) f ++ back (shape_of k))

    -- the children, with commas between, but c before the last
    pub joined : ℕ → Forest → List ℕ
    joined c nil = []
    joined c (t ◂ f) = printed t ++ others c f

    pub others : ℕ → Forest → List ℕ
    others c nil = []
    others c (t ◂ f) = separator c f ∷ (printed t ++ others c f)

-- the token of the index; of an index that is none, one with no bytes
abbrev pub token_at : List Token → ℕ → Token
token_at ts i = get_or ts i no_token

-- the Comma in quotes; any other as the source has it, from the start of the token i to the end of the token j
unfoldable pub spelled : List ℕ → List Token → ℕ → ℕ → List ℕ
spelled s ts i j = cond (is_comma (token_at ts i).kind) quoted_comma (part (token_at ts i).start (token_at ts j).end s)

-- the line of a clause: its text, its tokens and its tree
abbrev pub line : List ℕ → List Token → Tree → List ℕ
line s ts t = printed (spelled s ts) t

-- ---- the same for the code, which has no kinds: only where the tokens start and end

-- the Comma is told by its first byte: of the tokens of a clause that is the same (proofs/Lines: `word-spelled`)
unfoldable pub spelling : List ℕ → ℕ → ℕ → List ℕ
spelling s from to = cond (eqb (get_or s from 0) comma) quoted_comma (part from to s)

-- from the start of one token to the end of another
unfoldable pub word : List ℕ → List ℕ → List ℕ → ℕ → ℕ → List ℕ
word s starts ends i j = spelling s (get_or starts i 0) (get_or ends j 0)

-- the bytes of the line; none where it is longer than the slice
abbrev pub Listed : Type 0
Listed = Option ℕ

-- what the call answers and what it leaves in the slice
pub data Outcome : Type 0 where
  leaves : Listed → List ℕ → Outcome

-- the line at the front of the slice d, if it fits; else d stays as it was
unfoldable pub line_outcome : List ℕ → List ℕ → Outcome
line_outcome bs d = cond (leb (length bs) (length d)) (leaves (Some (length bs)) (sets d 0 bs)) (leaves None d)

-- ---- what the calls ask

-- the spans of a clause's tokens, so many of them, in a text that is no longer than 01 allows
pub record Source (s starts ends : List ℕ) (tokens : ℕ) : Type 0 where
  pub short : length s ≤ longest
  pub started : tokens ≤ length starts
  pub ended : tokens ≤ length ends
  pub ordered : (i j : ℕ) → i ≤ j → j < tokens → get_or starts i 0 < get_or ends j 0
  pub inside : (j : ℕ) → j < tokens → get_or ends j 0 ≤ length s

-- the last token that is printed before the children
unfoldable pub last_token : Shape → ℕ → ℕ
last_token Word i = i
last_token Negative i = i + 1
last_token Call i = i
last_token Square i = i
last_token Tail i = i
last_token Curly i = i

-- a tree over so many tokens, whose arities stand in their numbers
mutual
  pub data Within (tokens : ℕ) : Tree → Type 0 where
    root : {i : ℕ} {k : NodeKind} {f : Forest} → last_token (shape_of k) i < tokens → arity f < 1024 → WithinAll tokens f → Within tokens (node i k f)

  pub data WithinAll (tokens : ℕ) : Forest → Type 0 where
    none : WithinAll tokens nil
    more : {t : Tree} {f : Forest} → Within tokens t → WithinAll tokens f → WithinAll tokens (t ◂ f)

-- the numbers in front are the tree's
pub record Listable (s starts ends numbered : List ℕ) (nodes : ℕ) (t : Tree) : Type 0 where
  pub tokens : ℕ
  pub source : Source s starts ends tokens
  pub within : Within tokens t
  pub whole : nodes * 2 ≤ length numbered
  pub same : take (nodes * 2) numbered ≡ numbers t

pub record SomeListable (s starts ends numbered : List ℕ) (nodes : ℕ) : Type 0 where
  pub tree : Tree
  pub is : Listable s starts ends numbered nodes tree

-- what the call promises: the line of the tree that the numbers stand for
pub record Lists (s starts ends numbered : List ℕ) (nodes : ℕ) (d : List ℕ) (r : Listed) (d' : List ℕ) : Type 0 where
  pub line : (t : Tree) → Listable s starts ends numbered nodes t → leaves r d' ≡ line_outcome (printed (word s starts ends) t) d

-- ---- what the private functions ask and promise

-- where bytes that were put before `at` start, and the slice
pub data Put : Type 0 where
  put : ℕ → List ℕ → Put

unfoldable pub put_before : List ℕ → ℕ → List ℕ → Put
put_before bs at d = put (at - length bs) (sets d (at - length bs) bs)

pub record Room (bs : List ℕ) (at room : ℕ) : Type 0 where
  pub fits : length bs ≤ at
  pub inside : at ≤ room

pub record Span (s : List ℕ) (from to : ℕ) : Type 0 where
  pub short : length s ≤ longest
  pub ordered : from < to
  pub inside : to ≤ length s

pub record SpanRoom (s : List ℕ) (from to : ℕ) (bs : List ℕ) (at room : ℕ) : Type 0 where
  pub span : Span s from to
  pub place : Room bs at room

-- from the start of the token i to the end of the token j
pub record Spanned (s starts ends : List ℕ) (i j : ℕ) : Type 0 where
  pub first : i < length starts
  pub last : j < length ends
  pub span : Span s (get_or starts i 0) (get_or ends j 0)

pub record SpannedRoom (s starts ends : List ℕ) (i j at room : ℕ) : Type 0 where
  pub spanned : Spanned s starts ends i j
  pub place : Room (word s starts ends i j) at room

pub record Node (s starts ends : List ℕ) (shape : Shape) (i : ℕ) : Type 0 where
  pub tokens : ℕ
  pub source : Source s starts ends tokens
  pub within : last_token shape i < tokens

pub record NodeRoom (s starts ends : List ℕ) (shape : Shape) (i at room : ℕ) : Type 0 where
  pub is : Node s starts ends shape i
  pub place : Room (front (word s starts ends) shape i) at room

-- the kind that has the number
unfoldable pub kind_of : ℕ → NodeKind
kind_of n =
    cond (eqb n (kind_number plain)) plain
    (cond (eqb n (kind_number negative)) negative
    (cond (eqb n (kind_number call)) call
    (cond (eqb n (kind_number prefix)) prefix
    (cond (eqb n (kind_number infx)) infx
    (cond (eqb n (kind_number list)) list
    (cond (eqb n (kind_number list_tail)) list_tail
    (cond (eqb n (kind_number curly)) curly
    (cond (eqb n (kind_number empty_list)) empty_list
    empty_curly))))))))

-- how a node is printed, by its second number
abbrev pub shape_at : ℕ → Shape
shape_at p = shape_of (kind_of (p / 1024))

module _ (word : ℕ → ℕ → List ℕ) where
  -- what stands before the children of a node, the separators, and what stands behind
  unfoldable pub own : ℕ → ℕ → ℕ
  own i p = length (front word (shape_at p) i) + (p % 1024 - 1) + length (back (shape_at p))

  unfoldable pub own_all : List ℕ → ℕ
  own_all [] = 0
  own_all (i ∷ []) = 0
  own_all (i ∷ p ∷ ns) = own i p + own_all ns

unfoldable pub measured : ℕ → ℕ → Listed
measured room n = cond (leb n room) (Some n) None

-- numbers of nodes, two each, over so many tokens
pub data Nodes (tokens : ℕ) : List ℕ → Type 0 where
  nothing : Nodes tokens []
  also : {i p : ℕ} {ns : List ℕ} → last_token (shape_at p) i < tokens → Nodes tokens ns → Nodes tokens (i ∷ p ∷ ns)

pub record Measurable (s starts ends numbered : List ℕ) (nodes : ℕ) : Type 0 where
  pub tokens : ℕ
  pub source : Source s starts ends tokens
  pub whole : nodes * 2 ≤ length numbered
  pub are : Nodes tokens (take (nodes * 2) numbered)

-- the last of the first `nodes` nodes
pub record Rooted (numbered : List ℕ) (nodes : ℕ) : Type 0 where
  pub some : 1 ≤ nodes
  pub whole : nodes * 2 ≤ length numbered

abbrev pub root_at : List ℕ → ℕ → Root
root_at numbered nodes =
    record {
      token = get_or numbered ((nodes - 1) * 2) 0;
      shape = shape_at (get_or numbered ((nodes - 1) * 2 + 1) 0);
      arity = get_or numbered ((nodes - 1) * 2 + 1) 0 % 1024;
    }

-- the first `nodes` nodes end with the numbers ns, and the bytes bs fit before `at`
pub record Stands (numbered : List ℕ) (nodes at room : ℕ) (ns bs : List ℕ) : Type 0 where
  pub left : List ℕ
  pub whole : nodes * 2 ≤ length numbered
  pub same : take (nodes * 2) numbered ≡ left ++ ns
  pub place : Room bs at room

-- the bytes bs were put before `at`; r is what is left before the nodes and them
pub record Wrote (nodes at : ℕ) (d : List ℕ) (ns bs : List ℕ) (r : Before) (d' : List ℕ) : Type 0 where
  pub rest : r.nodes * 2 + length ns ≡ nodes * 2
  pub written : put r.at d' ≡ put_before bs at d

module _ (s starts ends numbered : List ℕ) (nodes at : ℕ) where
  pub record TermAt (room : ℕ) (t : Tree) : Type 0 where
    pub tokens : ℕ
    pub source : Source s starts ends tokens
    pub within : Within tokens t
    pub stands : Stands numbered nodes at room (numbers t) (printed (word s starts ends) t)

  pub record SomeTerm (room : ℕ) : Type 0 where
    pub tree : Tree
    pub is : TermAt room tree

  pub record TermPut (d : List ℕ) (r : Before) (d' : List ℕ) : Type 0 where
    pub wrote : (t : Tree) → TermAt (length d) t → Wrote nodes at d (numbers t) (printed (word s starts ends) t) r d'

  -- so many terms, with the separator c before the last
  module _ (count c : ℕ) where
    pub record TermsAt (room : ℕ) (f : Forest) : Type 0 where
      pub tokens : ℕ
      pub source : Source s starts ends tokens
      pub within : WithinAll tokens f
      pub many : arity f ≡ count
      pub stands : Stands numbered nodes at room (numbers_all f) (joined (word s starts ends) c f)

    pub record SomeTerms (room : ℕ) : Type 0 where
      pub forest : Forest
      pub are : TermsAt room forest

    pub record TermsPut (d : List ℕ) (r : Before) (d' : List ℕ) : Type 0 where
      pub wrote : (f : Forest) → TermsAt (length d) f → Wrote nodes at d (numbers_all f) (joined (word s starts ends) c f) r d'
