-- What is proved of packs: of the format, over the form; of the calls on nodes and images; of a clause. Statements only: each cites its proof. Assumes
-- nothing.
use Prim.Native.Nat.{ℕ, ◌+◌, ◌*◌, ◌<◌, ◌≤◌}
use mathlib.Core.Path.{◌≡◌, sym, ◌∙◌}
use mathlib.Core.Bool.{true}
use mathlib.Core.Logic.{◌⊎◌}
use mathlib.Core.List.{List}
use lib.ListN.{length, take}
use lib.Seq.{sets}
use Rattle.lexer.specs.Refusal.{fault, refuse}
use Rattle.lexer.specs.declared.cursor.Cursor.{Cursor}
use Rattle.lexer.specs.declared.refusal.Fault.{Fault}
use Rattle.lexer.specs.declared.refusal.Refusal.TheVariants.{NoRoom, TooLong, NoPack}
use Rattle.reader.specs.Token.{Token}
use Rattle.reader.specs.Tree.{Tree}
use Rattle.reader.specs.Clause.{first_offset, Outcome}
use Rattle.reader.proofs.Specimens.{All}
use Rattle.pack.specs.Node.{Node, nodes, most, most_nodes, Acceptable}
use Rattle.pack.specs.Node as N
use Rattle.pack.specs.Image.{line, image, longest_image, IsPack}
use Rattle.pack.specs.Calls.{Names, parts, begins, PackOutcome, UnpackOutcome, EitherOutcome}
use Rattle.pack.specs.Moves.{MoveOutcome, MoveUp, MoveDown}
use Rattle.pack.specs.Passes.{version_byte}
use Rattle.pack.specs.ClauseCall.{clause_nodes, ClauseAt, clause_form, ClausePack}
use Rattle.pack.specs.declared.format.Form.{Form}
use Rattle.pack.specs.declared.format.Form.TheVariants.{One, Two}
use Rattle.pack.specs.declared.format.Version.{Version}
use Rattle.pack.specs.Answers.{PackAnswer, UnpackAnswer, ClausePackAnswer, packed_as, unpacked_as}
use Rattle.std.specs.declared.result.Result.TheVariants.{Ok, Err}
use Rattle.pack.proofs.Basics.{Bytes}
use Rattle.pack.proofs.Trees.{stacked, Rooted, tree_stacked, stacked_tree}
use Rattle.pack.proofs.Images.{pack_form, pack_one}
use Rattle.pack.proofs.Trips as T
use Rattle.pack.proofs.Outcomes.{one_pack, some_pack, one_unpack, some_unpack, one_either, some_either, one_move, some_move}
use Rattle.pack.proofs.Moving as M
use Rattle.pack.proofs.Clauses as K
use Rattle.pack.proofs.Lines as L
use Rattle.pack.proofs.ClauseOutcomes as C
use Rattle.pack.proofs.Specimens.{Packs, clauses, packs, Said, lines, lines_said, Unpacks, images, unpacks}
use Rattle.std.specs.Prelude.{Err}

-- ---- the format

-- An image is the pack of one list of nodes at most, in one form at most: nobody can read it as another clause.
pub one-reading : (f g : Form) (i : List ℕ) (ns ms : List Node) → IsPack f i ns → IsPack g i ms → (f ≡ g) × (ns ≡ ms)
one-reading f g i ns ms p q = (pack_form f g i ns ms p q, pack_one f g i ns ms p q)

-- No image is of both forms.
pub never_both : (i : List ℕ) (l : ℕ) (ns ms : List Node) → IsPack One i ns → IsPack (Two l) i ms → ⊥
never_both = M.never_both

-- Nodes have one image in each form: no two images mean one clause.
pub one-image : (f : Form) (i j : List ℕ) (ns : List Node) → IsPack f i ns → IsPack f j ns → i ≡ j
one-image f i j ns p q = p.same ∙ sym q.same

-- Nodes are those of one tree exactly if a count of trees that stand, node by node, ends at one.
pub a-tree : (t : N.Tree) → stacked 0 (nodes t) ≡ true
a-tree = tree_stacked

pub no_other : (ns : List Node) → stacked 0 ns ≡ true → Rooted ns
no_other = stacked_tree

-- ---- unpacking and packing of nodes

-- The reader of both forms accepts exactly the images of acceptable nodes, and tells their form, given room for 1,023 nodes.
module _ (i d : List ℕ) (room : 4 * most_nodes ≤ length d) (r : UnpackAnswer) (x : List ℕ) (o : EitherOutcome i d r x) where
  pub every_pack_accepted : (f : Form) (ns : List Node) → IsPack f i ns → r ≡ unpacked_as f (length ns)
  every_pack_accepted f ns = T.accepts_pack i d room f ns r x o

  pub only_packs_accepted : (f : Form) (n : ℕ) → r ≡ unpacked_as f n → (ns : List Node) × IsPack f i ns
  only_packs_accepted f n = T.accepted_pack i d room f n r x o

-- A pack that is unpacked with room gives its nodes and nothing else.
pub unpacked_so : (f : Form) (i d : List ℕ) (ns : List Node) (r : UnpackAnswer) (x : List ℕ) → IsPack f i ns → 4 * length ns ≤ length d → EitherOutcome i d r x → T.Got f d ns r x
unpacked_so = T.unpacked_so

-- The reader of form 1 alone answers as that of both on every pack of form 1 ..
pub old_alike : (i d : List ℕ) (ns : List Node) (r : UnpackAnswer) (x : List ℕ) → IsPack One i ns → UnpackOutcome i d r x → EitherOutcome i d r x
old_alike = T.old_alike

-- .. and refuses whatever is none. So it refuses form 2, by 14, and shows no clause of it.
pub only_form_1 : (i d : List ℕ) (f : Form) (n : ℕ) (r : UnpackAnswer) (x : List ℕ) → UnpackOutcome i d r x → r ≡ unpacked_as f n → (ns : List Node) × IsPack One i ns
only_form_1 = T.old_accepted

pub old_refuses : (l : ℕ) (i d : List ℕ) (ns : List Node) (r : UnpackAnswer) (x : List ℕ) → IsPack (Two l) i ns → UnpackOutcome i d r x
    → (r ≡ Err (fault NoPack 0)) × (x ≡ d)
old_refuses = M.old_refuses

-- Unpacking what was packed: what packing leaves in front is a pack of the nodes that it was given ..
pub sent : (f : Form) (bytes numbers : List ℕ) (count : ℕ) (d : List ℕ) (r : PackAnswer) (x : List ℕ) (n : ℕ) → line f ≤ most → PackOutcome f bytes numbers count d r x
    → r ≡ Ok n → T.Sent f bytes numbers count (take n x)
sent = T.sent

-- .. and the numbers that unpacking leaves name those nodes: their kinds, arities and spellings.
pub received : (f : Form) (i : List ℕ) (ns : List Node) → IsPack f i ns → (d : List ℕ) → 4 * length ns ≤ length d → Names i (length ns) (sets d 0 (parts (begins f) ns)) ns
received = T.left_name

-- Packing what was unpacked gives the same bytes.
pub returned : (f : Form) (i : List ℕ) (ns : List Node) (d e : List ℕ) (r : PackAnswer) (x : List ℕ) → IsPack f i ns → 4 * length ns ≤ length d → length i ≤ length e
    → PackOutcome f i (sets d 0 (parts (begins f) ns)) (length ns) e r x → T.Both i e r x
returned = T.pack_unpacked

-- ---- a clause

-- The nodes of a clause are acceptable, so 14 never arises.
pub clause_acceptable : (s : List ℕ) (c : Cursor) (ts : List Token) (e : Cursor) (t : Tree) → ClauseAt s c ts e t → Acceptable (clause_nodes s ts t)
clause_acceptable = K.clause_acceptable

-- Every clause that has a reading is packed, but for 13 and 9; 9 only where the slice is shorter than the image.
pub clause_packs : (f : Form) (s : List ℕ) (c : Cursor) (d : List ℕ) (ts : List Token) (e : Cursor) (t : Tree) → ClauseAt s c ts e t → {r : ClausePackAnswer} {x : List ℕ}
    → ClausePack f s c d r x
    → (r ≡ packed_as (length (image f (clause_nodes s ts t))) e) ⊎ (r ≡ refuse (fault TooLong 0) c) ⊎ ((r ≡ refuse (fault NoRoom 0) c) × (length d < length (image f (clause_nodes s ts t))))
clause_packs = C.clause_packs

-- With a slice of 65,538 bytes a refusal is the clause call's, or 13.
pub clause_fits : (f : Form) (s : List ℕ) (c : Cursor) (d : List ℕ) → longest_image ≤ length d → (w : Fault) (r : ClausePackAnswer) {x : List ℕ} → ClausePack f s c d r x → r ≡ refuse w c
    → ((tree : List ℕ) → Outcome s c tree (refuse w c) tree) ⊎ (w ≡ fault TooLong 0)
clause_fits = C.clause_fits

-- What packing a clause leaves in front is the pack of its nodes, in form 2 with its line ..
pub clause_sent : (v : Version) (s : List ℕ) (c : Cursor) (d : List ℕ) (r : ClausePackAnswer) (x : List ℕ) (n : ℕ) (e : Cursor) → ClausePack (clause_form v s c) s c d r x → r ≡ packed_as n e
    → C.ClauseSent (clause_form v s c) s c e (take n x)
clause_sent = C.clause_sent

-- (which is one more than the newlines before its first token, where the cursor's line is the count of those before the cursor, as at the text's start; and it is so
-- of the cursor behind the clause again) ..
module _ (s : List ℕ) (c : Cursor) (ts : List Token) (e : Cursor) (t : Tree) (o : ClauseAt s c ts e t) (true-line : c.line ≡ L.newlines (take c.offset s)) where
  pub clause_line : clause_form Version.Two s c ≡ Two (L.newlines (take (first_offset s c) s) + 1)
  clause_line = L.clause_line s c ts e t o true-line

  pub next-line : e.line ≡ L.newlines (take e.offset s)
  next-line = L.next-line s c ts e t o true-line

-- .. and unpacking it gives that form and the clause's kinds, arities and spellings.
pub clause_received : (f : Form) (s : List ℕ) (c : Cursor) (e : Cursor) (i d : List ℕ) (r : UnpackAnswer) (x : List ℕ) → C.ClauseSent f s c e i → 4 * most_nodes ≤ length d
    → EitherOutcome i d r x → C.ClauseReceived f s c e i r x
clause_received = C.clause_received

-- ---- the moves between the forms

-- From 1 to 2, where it fits, and back is the same bytes;
pub up-and_down : (i d e : List ℕ) (r q : PackAnswer) (x y : List ℕ) (n : ℕ) → MoveUp i d r x → r ≡ Ok n → MoveDown (take n x) e q y → length i ≤ length e → T.Both i e q y
up-and_down = M.up-and_down

-- from 2 to 1 and back differs at most in the line, which is then 0;
pub down-and_up : (i d e : List ℕ) (r q : PackAnswer) (x y : List ℕ) (n : ℕ) → MoveDown i d r x → r ≡ Ok n → MoveUp (take n x) e q y → length i ≤ length e → M.LineLost i e q y
down-and_up = M.down-and_up

-- and from 2 to 1 it always fits.
pub down_fits : (i d : List ℕ) (r : PackAnswer) (x : List ℕ) → MoveDown i d r x → r ≡ Err (fault TooLong 0) → ⊥
down_fits = M.down_fits

-- ---- one answer and one content of the slice are permitted: there is one, and two coincide
module _ (f : Form) (bytes numbers : List ℕ) (n : ℕ) (d : List ℕ) where
  pub a_pack : (r : PackAnswer) × (x : List ℕ) × PackOutcome f bytes numbers n d r x
  a_pack = some_pack f bytes numbers n d

  pub pack_coincides : {r r' : PackAnswer} {x x' : List ℕ} → PackOutcome f bytes numbers n d r x → PackOutcome f bytes numbers n d r' x' → (r ≡ r') × (x ≡ x')
  pack_coincides = one_pack f bytes numbers n d

module _ (i d : List ℕ) where
  pub an_unpack : Bytes i → (r : UnpackAnswer) × (x : List ℕ) × UnpackOutcome i d r x
  an_unpack = some_unpack i d

  pub unpack_coincides : {r r' : UnpackAnswer} {x x' : List ℕ} → UnpackOutcome i d r x → UnpackOutcome i d r' x' → (r ≡ r') × (x ≡ x')
  unpack_coincides = one_unpack i d

  pub an_either : Bytes i → (r : UnpackAnswer) × (x : List ℕ) × EitherOutcome i d r x
  an_either = some_either i d

  pub either_coincides : {r r' : UnpackAnswer} {x x' : List ℕ} → EitherOutcome i d r x → EitherOutcome i d r' x' → (r ≡ r') × (x ≡ x')
  either_coincides = one_either i d

  pub a_move : Bytes i → (v : Version) (g : Form) → (r : PackAnswer) × (x : List ℕ) × MoveOutcome (version_byte v) g i d r x
  a_move = some_move i d

  pub move_coincides : (v : ℕ) (g : Form) {r r' : PackAnswer} {x x' : List ℕ} → MoveOutcome v g i d r x → MoveOutcome v g i d r' x' → (r ≡ r') × (x ≡ x')
  move_coincides = one_move i d

module _ (f : Form) (s : List ℕ) (c : Cursor) (d : List ℕ) where
  pub a_clause_pack : (r : ClausePackAnswer) × (x : List ℕ) × ClausePack f s c d r x
  a_clause_pack = C.some_clause_pack s c f d

  pub clause_pack_coincides : {r r' : ClausePackAnswer} {x x' : List ℕ} → ClausePack f s c d r x → ClausePack f s c d r' x' → (r ≡ r') × (x ≡ x')
  clause_pack_coincides = C.one_clause_pack s c f d

-- ---- specimens, from their bytes: a clause of each kind and its image; the line of clauses; images, with their form and the count of their nodes or none
pub clause_images : All Packs clauses
clause_images = packs

pub clause_lines : All Said lines
clause_lines = lines_said

pub image-nodes : All Unpacks images
image-nodes = unpacks
