-- What holds of this crate: whatever the reader of both forms and the moves are given, one number returned and one content of each lent slice are permitted. (Of
-- the functions that pack: fields_pack Theorems.) Assumes nothing.
use Prim.Native.Nat.{ℕ}
use mathlib.Core.Path.{◌≡◌}
use mathlib.Core.List.{List}
use Rattle.pack.specs.Calls.{EitherOutcome}
use Rattle.pack.specs.Moves.{MoveUp, MoveDown}
use Rattle.pack.specs.declared.format.Form.TheVariants.{One, Two}
use Rattle.pack.proofs.Theorems.{either_coincides, move_coincides}
use Rattle.fields.proofs.Theorems.{left_coincides}
use Rattle.fields_pack.specs.Told.{pack_leaves}
use Rattle.ffi_forms.specs.Either.{either_leaves, EitherLeft, MoveUpLeft, MoveDownLeft}

module _ (i d x x' f g g' : List ℕ) (r r' : ℕ) where
  pub either_left_coincides : EitherLeft i d x f g r → EitherLeft i d x' f g' r' → (r ≡ r') × (x ≡ x') × (g ≡ g')
  either_left_coincides p q = left_coincides (EitherOutcome i d) either_leaves x x' f g g' r r' p q (either_coincides i d p.permitted q.permitted)

  pub move_up_left_coincides : MoveUpLeft i d x f g r → MoveUpLeft i d x' f g' r' → (r ≡ r') × (x ≡ x') × (g ≡ g')
  move_up_left_coincides p q = left_coincides (MoveUp i d) pack_leaves x x' f g g' r r' p q (move_coincides i d 1 (Two 0) p.permitted q.permitted)

  pub move_down_left_coincides : MoveDownLeft i d x f g r → MoveDownLeft i d x' f g' r' → (r ≡ r') × (x ≡ x') × (g ≡ g')
  move_down_left_coincides p q = left_coincides (MoveDown i d) pack_leaves x x' f g g' r r' p q (move_coincides i d 2 One p.permitted q.permitted)
