-- A clause, from its text, as a pack. 02, requests 2 and 13. Definitions only.
use Rattle.std.specs.Prelude.{ℕ, ◌+◌, ◌≡◌, true, cond, List, [], ◌∷◌, ◌++◌, eqb, length, Err}
use Rattle.lexer.specs.Cursor.{part, move_to, valid}
use Rattle.lexer.specs.declared.cursor.Cursor.{Cursor}
use Rattle.lexer.specs.declared.refusal.Fault.{Fault}
use Rattle.reader.specs.Token.{Token}
use Rattle.reader.specs.Ops.{operators}
use Rattle.reader.specs.Tree.{NodeKind, negative, kind_number, Tree, node, Forest, nil, ◌◂◌, arity}
use Rattle.reader.specs.Grammar.{Reads}
use Rattle.reader.specs.Clause.{whole, clause_tokens, first_offset, Outcome}
use Rattle.reader.specs.Listing.{token_at}
use Rattle.pack.specs.Node.{Node, a_node}
use Rattle.pack.specs.Calls.{Written}
use Rattle.pack.specs.declared.format.Form.{Form}
use Rattle.pack.specs.declared.format.Version.{Version}
use Rattle.pack.specs.Answers.{PackAnswer, ClausePackAnswer, packed_as}
use Rattle.lexer.specs.Refusal.{refuse}
use Rattle.std.specs.declared.result.Result.TheVariants.{Ok, Err}

-- "The spelling is the token's source bytes; for kind 1 it runs on to the number's end": the spelling's last token, of a node at the token i
unfoldable pub last_of : ℕ → ℕ → ℕ
last_of kind i = cond (eqb kind (kind_number negative)) (i + 1) i

-- over the bytes from the start of one token to the end of another
module _ (word : ℕ → ℕ → List ℕ) where
  abbrev pub pack_node : NodeKind → ℕ → ℕ → Node
  pack_node k i a = a_node (kind_number k) a (word i (last_of (kind_number k) i))

  -- "for each tree node in order": the clause's tree is written children first
  unfoldable mutual
    pub pack_nodes : Tree → List Node
    pack_nodes (node i k f) = pack_all f ++ (pack_node k i (arity f) ∷ [])

    pub pack_all : Forest → List Node
    pack_all nil = []
    pack_all (t ◂ f) = pack_nodes t ++ pack_all f

-- the source bytes from the start of the token i to the end of the token j
abbrev pub source_of : List ℕ → List Token → ℕ → ℕ → List ℕ
source_of s ts i j = part (token_at ts i).start (token_at ts j).end s

-- the nodes of a clause: its text, its tokens and its tree
abbrev pub clause_nodes : List ℕ → List Token → Tree → List Node
clause_nodes s ts t = pack_nodes (source_of s ts) t

-- the clause at c has these tokens, this cursor after its mark, and this reading
pub record ClauseAt (s : List ℕ) (c : Cursor) (ts : List Token) (e : Cursor) (t : Tree) : Type 0 where
  pub valid_cursor : valid (length s) c ≡ true
  pub gathered : clause_tokens s c ≡ whole ts e
  pub reads : Reads operators ts t

-- the form of a pack of this version whose first token starts at the offset o: "the line of the clause's first token plus one", counted on from c
unfoldable pub form_at : Version → List ℕ → Cursor → ℕ → Form
form_at Version.One s c o = Form.One
form_at Version.Two s c o = Form.Two ((move_to s c o).line + 1)

-- the form in which the clause at c is packed
abbrev pub clause_form : Version → List ℕ → Cursor → Form
clause_form v s c = form_at v s c (first_offset s c)

-- what the pack of its nodes tells, with the cursor e behind the mark; a refusal gives c back
unfoldable pub told : Cursor → Cursor → PackAnswer → ClausePackAnswer
told c e (Ok n) = packed_as n e
told c e (Err w) = refuse w c

-- what the call may answer, and leave in the slice d, in the form f. 14 is no case: a clause's nodes are acceptable (proofs/Theorems)
pub data ClausePack (f : Form) (s : List ℕ) (c : Cursor) (d : List ℕ) : ClausePackAnswer → List ℕ → Type 0 where
  -- 8, 1 to 7, 10, 11: as the clause call refuses, whatever tree slice it is lent
  refused : {w : Fault} → ((tree : List ℕ) → Outcome s c tree (refuse w c) tree) → ClausePack f s c d (refuse w c) d
  -- 13, 9, or the pack of the reading's nodes
  written : {ts : List Token} {e : Cursor} {t : Tree} {r : PackAnswer} {x : List ℕ} → ClauseAt s c ts e t → Written f (clause_nodes s ts t) d r x →
      ClausePack f s c d (told c e r) x
