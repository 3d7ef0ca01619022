-- What holds of this crate: whatever the function that unpacks is given, one number returned and one content of each lent slice are permitted. (Of those that
-- pack: fields_pack Theorems.) Assumes nothing.
use Prim.Native.Nat.{ℕ}
use mathlib.Core.Path.{◌≡◌}
use mathlib.Core.List.{List}
use Rattle.pack.specs.Calls.{UnpackOutcome}
use Rattle.pack.proofs.Theorems.{unpack_coincides}
use Rattle.fields.proofs.Theorems.{left_coincides}
use Rattle.ffi_pack.specs.Packs.{unpack_leaves, UnpackLeft}

module _ (i d x x' f g g' : List ℕ) (r r' : ℕ) where
  pub unpack_left_coincides : UnpackLeft i d x f g r → UnpackLeft i d x' f g' r' → (r ≡ r') × (x ≡ x') × (g ≡ g')
  unpack_left_coincides p q = left_coincides (UnpackOutcome i d) unpack_leaves x x' f g g' r r' p q (unpack_coincides i d p.permitted q.permitted)
