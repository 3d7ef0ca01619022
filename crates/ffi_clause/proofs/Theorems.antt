-- What holds of this crate: whatever the function is given, one number returned and one content of each lent slice are permitted. Assumes nothing.
use Prim.Native.Nat.{ℕ}
use mathlib.Core.Path.{◌≡◌}
use mathlib.Core.List.{List}
use Rattle.lexer.specs.declared.cursor.Cursor.{Cursor}
use Rattle.reader.specs.Clause as Clause
use Rattle.reader.proofs.Theorems.{clause_coincides}
use Rattle.fields.proofs.Theorems.{left_coincides}
use Rattle.ffi_clause.specs.Clauses.{clause_leaves, ClauseLeft}

pub clause_left_coincides : (s : List ℕ) (c : Cursor) (d f x x' g g' : List ℕ) (r r' : ℕ) → ClauseLeft s c d x f g r → ClauseLeft s c d x' f g' r' → (r ≡ r') × (x ≡ x') × (g ≡ g')
clause_left_coincides s c d f x x' g g' r r' p q = left_coincides (Clause.Outcome s c d) clause_leaves x x' f g g' r r' p q (clause_coincides s c d p.permitted q.permitted)
