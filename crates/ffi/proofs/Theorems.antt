-- What holds of this crate: whatever a function is given, one number returned and one content of each lent slice are permitted. The text
-- function's contract is an equation; of the line function it rests on that of the line call. Assumes nothing.
use Prim.Native.Nat.{ℕ}
use mathlib.Core.Path.{◌≡◌, sym, ◌∙◌}
use mathlib.Core.List.{List}
use Rattle.lexer.specs.declared.cursor.Cursor.{Cursor}
use Rattle.lexer.specs.Text as Text
use Rattle.reader.specs.LineCall.{LineOutcome}
use Rattle.reader.proofs.Theorems.{line_coincides}
use Rattle.fields.proofs.Theorems.{left_coincides}
use Rattle.ffi.specs.Parts.{left, line_leaves, text_leaves, LineLeft}

pub text_coincides : (o : Text.Outcome) (f : List ℕ) (r r' : ℕ) (x x' g g' : List ℕ) → left r x g ≡ text_leaves o f → left r' x' g' ≡ text_leaves o f → (r ≡ r') × (x ≡ x') × (g ≡ g')
text_coincides o f r r' x x' g g' p q = let e = p ∙ sym q in (cc, cc, cc)

module _ (s : List ℕ) (c : Cursor) (d f x x' g g' : List ℕ) (r r' : ℕ) where
  pub line-left_coincides : LineLeft s c d x f g r → LineLeft s c d x' f g' r' → (r ≡ r') × (x ≡ x') × (g ≡ g')
  line-left_coincides p q = left_coincides (LineOutcome s c d) line_leaves x x' f g g' r r' p q (line_coincides s c d p.permitted q.permitted)
