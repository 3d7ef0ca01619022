-- The passes over an image and over nodes, as the code makes them: what the private functions ask and promise. proofs/ shows that they say what
-- Image and Node say.
use Rattle.std.specs.Prelude.{ℕ, zero, suc, ◌+◌, ◌-◌, ◌*◌, ◌<◌, ◌≤◌, ◌≡◌, Bool, true, false, cond, List, [], ◌∷◌, ◌++◌, eqb, leb, length, get_or, take, drop}
use Rattle.std.proofs.lemmas.List.Edits.{sets}
use Rattle.pack.specs.Node.{Node, a_node, can_have, most, most_nodes}
use Rattle.pack.specs.Image.{two, node_bytes, version, line_bytes, IsPack}
use Rattle.pack.specs.Calls.{Written, begins, Listed, Unread}
use Rattle.pack.specs.Moves.{Only}
use Rattle.pack.specs.declared.format.Form.{Form}
use Rattle.pack.specs.declared.format.Version.{Version}
use Rattle.lexer.specs.Refusal.{fault}
use Rattle.lexer.specs.declared.refusal.Fault.{Fault}
use Rattle.lexer.specs.declared.refusal.Refusal.TheVariants.{NoRoom, TooLong}
use Rattle.pack.specs.declared.reading.Head.{Head}
use Rattle.pack.specs.declared.nodes.Given.{Given}
use Rattle.pack.specs.Answers.{PackAnswer, UnpackAnswer}
use Rattle.std.specs.declared.option.Option.{Option}
use Rattle.std.specs.declared.option.Option.TheVariants.{Some, None}
use Rattle.std.specs.declared.result.Result.TheVariants.{Ok, Err}
use Rattle.pack.specs.declared.answers.Unpacked.{Unpacked}

-- ---- numbers

-- the greatest of 32 bits
abbrev pub most_number : ℕ
most_number = 4294967295

-- a node's four numbers
abbrev pub four : Given → List ℕ
four it = it.kind ∷ it.arity ∷ it.start ∷ it.size ∷ []

pub record PutGiven (it : Given) (room place : ℕ) : Type 0 where
  pub inside : place + 4 ≤ room
  pub kind_small : it.kind ≤ most_number
  pub arity_small : it.arity ≤ most_number
  pub start_small : it.start ≤ most_number
  pub size_small : it.size ≤ most_number

-- ---- reading

abbrev pub word : ℕ → ℕ → ℕ
word h l = h * 256 + l

abbrev pub word_at : List ℕ → ℕ → ℕ
word_at s at = word (get_or s at 0) (get_or s (at + 1) 0)

-- room for so many bytes at `at`
pub record Inside (s : List ℕ) (at n : ℕ) : Type 0 where
  pub inside : at + n ≤ length s

pub record Word (s : List ℕ) (at r : ℕ) : Type 0 where
  pub same : r ≡ word_at s at
  pub below : r ≤ most

-- the version byte, and that bytes are bytes
pub record First (s : List ℕ) (r : ℕ) : Type 0 where
  pub same : r ≡ get_or s 0 0
  pub bytes : (i : ℕ) → get_or s i 0 ≤ 255

-- a node's first five bytes
pub record Headed (s : List ℕ) (at : ℕ) (r : Head) : Type 0 where
  pub kind_same : r.kind ≡ get_or s at 0
  pub arity-same : r.arity ≡ word_at s (at + 1)
  pub size_same : r.size ≡ word_at s (at + 3)
  pub kind_below : r.kind ≤ 255
  pub arity-below : r.arity ≤ most
  pub size_below : r.size ≤ most

-- from here on n nodes follow and nothing else, and with the k trees before they make one tree
unfoldable pub scanned : ℕ → ℕ → List ℕ → Bool
scanned zero k [] = eqb k 1
scanned zero k (x ∷ s) = false
scanned (suc n) k [] = false
scanned (suc n) k (b ∷ []) = false
scanned (suc n) k (b ∷ a₁ ∷ []) = false
scanned (suc n) k (b ∷ a₁ ∷ a₀ ∷ []) = false
scanned (suc n) k (b ∷ a₁ ∷ a₀ ∷ l₁ ∷ []) = false
scanned (suc n) k (b ∷ a₁ ∷ a₀ ∷ l₁ ∷ l₀ ∷ s) =
    cond (leb (word l₁ l₀) (length s))
    (cond (can_have b (word a₁ a₀))
    (cond (leb (word a₁ a₀) k) (scanned n (k - word a₁ a₀ + 1) (drop (word l₁ l₀) s)) false) false) false

pub record Scanning (s : List ℕ) (at n : ℕ) : Type 0 where
  pub inside : at ≤ length s
  pub few : n ≤ most_nodes

-- the node count of an image whose body has `skip` bytes before that count
unfoldable pub counted : ℕ → List ℕ → Option ℕ
counted skip s =
    cond (leb (skip + 5) (length s))
    (cond (eqb (word_at s 1) (length s - 3))
    (cond (leb (word_at s (skip + 3)) most_nodes)
    (cond (scanned (word_at s (skip + 3)) 0 (drop (skip + 5) s)) (Some (word_at s (skip + 3))) None) None) None) None

pub record Skips (skip : ℕ) : Type 0 where
  pub small : skip ≤ 2

-- the numbers of n nodes, four each
unfoldable pub listed : ℕ → ℕ → List ℕ → List ℕ
listed zero at s = []
listed (suc n) at [] = []
listed (suc n) at (b ∷ []) = []
listed (suc n) at (b ∷ a₁ ∷ []) = []
listed (suc n) at (b ∷ a₁ ∷ a₀ ∷ []) = []
listed (suc n) at (b ∷ a₁ ∷ a₀ ∷ l₁ ∷ []) = []
listed (suc n) at (b ∷ a₁ ∷ a₀ ∷ l₁ ∷ l₀ ∷ s) =
    b ∷ word a₁ a₀ ∷ (at + 5) ∷ word l₁ l₀ ∷ listed n (at + 5 + word l₁ l₀) (drop (word l₁ l₀) s)

-- n nodes stand from `at` on
pub record Reading (s : List ℕ) (at n : ℕ) : Type 0 where
  pub trees : ℕ
  pub reads : scanned n trees (drop at s) ≡ true
  pub inside : at ≤ length s
  pub short : length s ≤ most + 3

pub record Listing (s : List ℕ) (at n : ℕ) (d : List ℕ) : Type 0 where
  pub reading : Reading s at n
  pub room : 4 * n ≤ length d

-- the image is the pack of so many nodes, in this form
pub record SomePack (s : List ℕ) (p : Unpacked) : Type 0 where
  pub nodes : List Node
  pub is : IsPack p.form s nodes
  pub count : length nodes ≡ p.count

-- what the numbers of the pack's nodes leave in the slice
pub record PackListed (s : List ℕ) (f : Form) (d : List ℕ) (r : UnpackAnswer) (d' : List ℕ) : Type 0 where
  pub left : (ns : List Node) → IsPack f s ns → Listed f ns d r d'

-- the byte of a version, and how many bytes of a body stand before the node count
abbrev pub version_byte : Version → ℕ
version_byte Version.One = 1
version_byte Version.Two = 2

abbrev pub line_size : Version → ℕ
line_size Version.One = 0
line_size Version.Two = 2

-- the form of a pack of this version
abbrev pub form_in : Version → List ℕ → Form
form_in Version.One s = Form.One
form_in Version.Two s = Form.Two (word_at s 3)

-- an image that has this version's byte
pub record Begins (s : List ℕ) (v : Version) : Type 0 where
  pub inside : 1 ≤ length s
  pub same : get_or s 0 0 ≡ version_byte v
  pub bytes : (i : ℕ) → get_or s i 0 ≤ 255

-- what an image is to a call that knows this version
pub data Judgement (v : Version) (s : List ℕ) : UnpackAnswer → Type 0 where
  refuses : {w : Fault} → Unread (Only (version_byte v)) s w → Judgement v s (Err w)
  finds : {p : Unpacked} → version p.form ≡ version_byte v → SomePack s p → Judgement v s (Ok p)

-- the version to judge an image by
unfoldable pub version_in : List ℕ → Version
version_in s = cond (eqb (get_or s 0 0) 2) Version.Two Version.One

-- what moving the pack's nodes to the form g leaves in the slice
pub record PackMoved (s : List ℕ) (f g : Form) (d : List ℕ) (r : PackAnswer) (d' : List ℕ) : Type 0 where
  pub left : (ns : List Node) → IsPack f s ns → Written g ns d r d'

-- ---- writing

-- the bytes of n nodes of which w bytes stand before, if they are acceptable with the k trees before
unfoldable pub weighed : List ℕ → ℕ → ℕ → ℕ → List ℕ → Option ℕ
weighed bytes zero k w ns = cond (eqb k 1) (Some w) None
weighed bytes (suc n) k w [] = None
weighed bytes (suc n) k w (b ∷ []) = None
weighed bytes (suc n) k w (b ∷ a ∷ []) = None
weighed bytes (suc n) k w (b ∷ a ∷ at ∷ []) = None
weighed bytes (suc n) k w (b ∷ a ∷ at ∷ l ∷ ns) =
    cond (leb l most)
    (cond (leb (at + l) (length bytes))
    (cond (can_have b a)
    (cond (leb a k) (weighed bytes n (k - a + 1) (w + 5 + l) ns) None) None) None) None

-- the four numbers of a node
pub record GivenAt (ns : List ℕ) (place : ℕ) (r : Given) : Type 0 where
  pub kind_same : r.kind ≡ get_or ns place 0
  pub arity-same : r.arity ≡ get_or ns (place + 1) 0
  pub start-same : r.start ≡ get_or ns (place + 2) 0
  pub size_same : r.size ≡ get_or ns (place + 3) 0
  pub start-below : r.start ≤ 4294967295
  pub size_below : r.size ≤ 4294967295

pub record Weighing (ns : List ℕ) (count : ℕ) : Type 0 where
  pub inside : 4 * count ≤ length ns
  pub few : count ≤ most_nodes

-- the bytes of n nodes
unfoldable pub laid : List ℕ → ℕ → List ℕ → List ℕ
laid bytes zero ns = []
laid bytes (suc n) [] = []
laid bytes (suc n) (b ∷ []) = []
laid bytes (suc n) (b ∷ a ∷ []) = []
laid bytes (suc n) (b ∷ a ∷ at ∷ []) = []
laid bytes (suc n) (b ∷ a ∷ at ∷ l ∷ ns) = node_bytes (a_node b a (take l (drop at bytes))) ++ laid bytes n ns

-- what the functions that write ask: the lengths of the slices, and numbers that fit their bytes
pub record PutWord (room at n : ℕ) : Type 0 where
  pub inside : at + 2 ≤ room
  pub small : n ≤ most

-- a byte and two numbers
pub record PutFront (room at kind arity size : ℕ) : Type 0 where
  pub inside : at + 5 ≤ room
  pub kind_small : kind ≤ 255
  pub arity_small : arity ≤ most
  pub size_small : size ≤ most

pub record PutPart (long from size room at : ℕ) : Type 0 where
  pub read : from + size ≤ long
  pub write : at + size ≤ room

pub record PutNode (long : ℕ) (it : Given) (room at : ℕ) : Type 0 where
  pub read : it.start + it.size ≤ long
  pub write : at + 5 + it.size ≤ room
  pub kind_small : it.kind ≤ 255
  pub arity_small : it.arity ≤ most
  pub size_small : it.size ≤ most

-- the nodes weigh v bytes in all, w of them before these, and there is room for the others
pub record PutNodes (bytes ns : List ℕ) (n room at : ℕ) : Type 0 where
  pub trees : ℕ
  pub before : ℕ
  pub all : ℕ
  pub weighs : weighed bytes n trees before ns ≡ Some all
  pub few : trees + n ≤ most_nodes
  pub inside : 4 * n ≤ length ns
  pub fits : at + all ≤ room + before
  pub small : at + all ≤ most + 3 + before

pub record Weighs (bytes ns : List ℕ) (count size : ℕ) : Type 0 where
  pub weighs : weighed bytes count 0 0 ns ≡ Some size
  pub inside : 4 * count ≤ length ns
  pub few : count ≤ most_nodes

-- as many nodes, and bytes of them, as a pack can be asked to hold
pub record Light (count size : ℕ) : Type 0 where
  pub few : count ≤ most_nodes
  pub light : size ≤ most_nodes * (5 + most)

-- what stands before the nodes, of a body of b bytes and n nodes
abbrev pub head_bytes : Form → ℕ → ℕ → List ℕ
head_bytes f b n = version f ∷ (two b ++ (line_bytes f ++ two n))

pub record PutHead (f : Form) (b n room : ℕ) : Type 0 where
  pub inside : begins f ≤ room
  pub body_small : b ≤ most
  pub count_small : n ≤ most

-- the tests for 13 and 9, and what stands before the nodes
pub data PackBegun (f : Form) (n b : ℕ) (d : List ℕ) : PackAnswer → List ℕ → Type 0 where
  too_long : most < b → PackBegun f n b d (Err (fault TooLong 0)) d
  no_room : b ≤ most → length d < b + 3 → PackBegun f n b d (Err (fault NoRoom 0)) d
  begun : b ≤ most → b + 3 ≤ length d → PackBegun f n b d (Ok (b + 3)) (sets d 0 (head_bytes f b n))
