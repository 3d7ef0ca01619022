-- What holds of this crate: of a function that packs, whatever it is given, one number returned and one content of each lent slice are permitted. Assumes
-- nothing.
use Prim.Native.Nat.{ℕ}
use mathlib.Core.Path.{◌≡◌}
use mathlib.Core.List.{List}
use Rattle.lexer.specs.declared.cursor.Cursor.{Cursor}
use Rattle.pack.specs.Calls.{PackOutcome}
use Rattle.pack.specs.ClauseCall.{clause_form, ClausePack}
use Rattle.pack.specs.declared.format.Form.{Form}
use Rattle.pack.specs.declared.format.Version.{Version}
use Rattle.pack.proofs.Theorems.{pack_coincides, clause_pack_coincides}
use Rattle.fields.proofs.Theorems.{left_coincides}
use Rattle.fields_pack.specs.Told.{clause_pack_leaves, pack_leaves, ClausePackLeft, PackNodesLeft}

module _ (d x x' f g g' : List ℕ) (r r' : ℕ) where
  pub clause_pack_left_coincides : (v : Version) (s : List ℕ) (c : Cursor) → ClausePackLeft v s c d x f g r → ClausePackLeft v s c d x' f g' r' → (r ≡ r') × (x ≡ x') × (g ≡ g')
  clause_pack_left_coincides v s c p q =
      left_coincides (ClausePack (clause_form v s c) s c d) clause_pack_leaves x x' f g g' r r' p q (clause_pack_coincides (clause_form v s c) s c d p.permitted q.permitted)

  pub pack_nodes_left_coincides : (form : Form) (bytes numbers : List ℕ) (n : ℕ) → PackNodesLeft form bytes numbers n d x f g r → PackNodesLeft form bytes numbers n d x' f g' r'
      → (r ≡ r') × (x ≡ x') × (g ≡ g')
  pack_nodes_left_coincides form bytes numbers n p q =
      left_coincides (PackOutcome form bytes numbers n d) pack_leaves x x' f g g' r r' p q (pack_coincides form bytes numbers n d p.permitted q.permitted)
