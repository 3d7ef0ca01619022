-- What packing and unpacking may answer, and leave in the lent slice. 02, requests 2 and 13: refusals 18, 14, 13, 9, in this order. Definitions only.
use Rattle.std.specs.Prelude.{ℕ, zero, suc, ◌+◌, ◌*◌, ◌<◌, ◌≤◌, ◌≡◌, List, [], ◌∷◌, length, get_or, take, drop}
use Rattle.std.proofs.lemmas.List.Edits.{sets}
use Rattle.lexer.specs.Refusal.{fault}
use Rattle.lexer.specs.declared.refusal.Fault.{Fault}
use Rattle.lexer.specs.declared.refusal.Refusal.TheVariants.{NoRoom, TooLong, NoPack, UnknownVersion}
use Rattle.pack.specs.Node.{Node, a_node, most, Acceptable}
use Rattle.pack.specs.Image.{version, line_bytes, body, image, IsPack}
use Rattle.pack.specs.declared.format.Form.{Form}
use Rattle.pack.specs.declared.format.Form.TheVariants.{One}
use Rattle.pack.specs.Answers.{PackAnswer, UnpackAnswer, unpacked_as}
use Rattle.std.specs.declared.result.Result.TheVariants.{Ok, Err}

-- ---- packing

-- acceptable nodes in the form f, written to the slice d: by each call that packs
pub data Written (f : Form) (ns : List Node) (d : List ℕ) : PackAnswer → List ℕ → Type 0 where
  -- 13: the body passes 65,535 bytes
  too_long : most < length (body f ns) → Written f ns d (Err (fault TooLong 0)) d
  -- 9: the slice is shorter than the image
  no_room : length (body f ns) ≤ most → length d < length (image f ns) → Written f ns d (Err (fault NoRoom 0)) d
  -- the image in front, and its length
  packed : length (body f ns) ≤ most → length (image f ns) ≤ length d → Written f ns d (Ok (length (image f ns))) (sets d 0 (image f ns))

-- four numbers a node: kind, arity, and the start and the length of its spelling in the bytes. So many of them name these nodes
pub data Names (bytes : List ℕ) : ℕ → List ℕ → List Node → Type 0 where
  nothing : {rest : List ℕ} → Names bytes zero rest []
  next : {n k a at l : ℕ} {rest : List ℕ} {ns : List Node} → at + l ≤ length bytes → Names bytes n rest ns →
      Names bytes (suc n) (k ∷ a ∷ at ∷ l ∷ rest) (a_node k a (take l (drop at bytes)) ∷ ns)

-- packing the nodes that the numbers name, in the form f, into the slice d
pub data PackOutcome (f : Form) (bytes : List ℕ) (numbers : List ℕ) (count : ℕ) (d : List ℕ) : PackAnswer → List ℕ → Type 0 where
  -- 14: the numbers name no acceptable nodes
  not_nodes : ((ns : List Node) → Names bytes count numbers ns → Acceptable ns → ⊥) → PackOutcome f bytes numbers count d (Err (fault NoPack 0)) d
  -- 13, 9, or the image
  written : {ns : List Node} {r : PackAnswer} {x : List ℕ} → Names bytes count numbers ns → Acceptable ns → Written f ns d r x → PackOutcome f bytes numbers count d r x

-- ---- unpacking

-- the four numbers of each node; the first node's bytes start at `at`, five before its spelling
unfoldable pub parts : ℕ → List Node → List ℕ
parts at [] = []
parts at (n ∷ ns) = n.kind ∷ n.arity ∷ (at + 5) ∷ length n.spelling ∷ parts (at + 5 + length n.spelling) ns

-- where the first node's bytes start
abbrev pub begins : Form → ℕ
begins f = length (line_bytes f) + 5

-- the nodes of a pack of the form f, put down in the slice d: by each call that unpacks
pub data Listed (f : Form) (ns : List Node) (d : List ℕ) : UnpackAnswer → List ℕ → Type 0 where
  -- 9: the slice has no four numbers for each
  no_room : length d < 4 * length ns → Listed f ns d (Err (fault NoRoom 0)) d
  -- four numbers of each in front, the form, and how many nodes they are
  unpacked : 4 * length ns ≤ length d → Listed f ns d (unpacked_as f (length ns)) (sets d 0 (parts (begins f) ns))

-- unpacking the image i into the slice d, for a reader of form 1 alone
pub data UnpackOutcome (i d : List ℕ) : UnpackAnswer → List ℕ → Type 0 where
  -- 14: the image is the pack of no nodes
  no_pack : ((ns : List Node) → IsPack One i ns → ⊥) → UnpackOutcome i d (Err (fault NoPack 0)) d
  -- 9, or the nodes
  listed : {ns : List Node} {r : UnpackAnswer} {x : List ℕ} → IsPack One i ns → Listed One ns d r x → UnpackOutcome i d r x

-- request 13: why a call that knows some versions reads no pack in the image i. "18 for an unknown version, before 14"
pub data Unread (Known : ℕ → Type 0) (i : List ℕ) : Fault → Type 0 where
  -- 14: with no byte there is no version
  empty : length i ≡ 0 → Unread Known i (fault NoPack 0)
  -- 18: the version byte
  unknown : 0 < length i → (Known (get_or i 0 0) → ⊥) → Unread Known i (fault UnknownVersion 0)
  -- 14: the image is the pack of no nodes, in no form
  no_pack : Known (get_or i 0 0) → ((f : Form) (ns : List Node) → IsPack f i ns → ⊥) → Unread Known i (fault NoPack 0)

-- a version byte that some form has
pub record Versioned (b : ℕ) : Type 0 where
  pub form : Form
  pub same : b ≡ version form

-- unpacking the image i into the slice d, for a reader of both forms
pub data EitherOutcome (i d : List ℕ) : UnpackAnswer → List ℕ → Type 0 where
  -- 18, 14
  unread : {w : Fault} → Unread Versioned i w → EitherOutcome i d (Err w) d
  -- 9, or the nodes
  listed : {f : Form} {ns : List Node} {r : UnpackAnswer} {x : List ℕ} → IsPack f i ns → Listed f ns d r x → EitherOutcome i d r x
