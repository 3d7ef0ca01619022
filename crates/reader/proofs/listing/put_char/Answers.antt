-- `reader::listing::put_char` meets its contract. Assumes nothing.
use Prim.Native.Nat.{ℕ, ◌-◌, ◌<◌, ◌≤◌}
use mathlib.Core.Path.{◌≡◌, refl}
use mathlib.Core.List.{List, [], ◌∷◌}
use native.Mathlib.Omega.{arith}
use borrow.Author.Rules.{rules}
use lib.ListN.{set}
use Rattle.reader.specs.Listing.{put, put_before, Room}
use Rattle.reader.proofs.Puts.{tell}
use Rattle.reader.proofs.listing.put_char.Goals as goal

module _ (char at room : ℕ) (h : Room (char ∷ []) at room) where
  some : 1 ≤ at
  some = h.fits

  place : at - 1 < room
  place = omega (arith, h.fits, h.inside)

stored : (char at : ℕ) (d : List ℕ) → put (at - 1) (set d (at - 1) char) ≡ put_before (char ∷ []) at d
stored char at d = tell (char ∷ []) at d (at - 1) (set d (at - 1) char) refl refl

ruleset ways = (some, place, stored, rules)

pub returns : goal.returns
returns c = search ways
