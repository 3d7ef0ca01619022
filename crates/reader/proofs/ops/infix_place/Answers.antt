-- `reader::ops::infix_place` meets its contract, as `prefix_place` does: one test over the table of operators. Assumes nothing.
use Prim.Native.Nat.{ℕ, ◌+◌, ◌*◌, ◌/◌, ◌%◌, ◌<◌}
use mathlib.Core.Path.{◌≡◌, refl}
use mathlib.Core.List.{List, []}
use lib.ListN.{get_or}
use Rattle.reader.specs.Token.{same_text}
use Rattle.reader.specs.Ops.{operators, find_inf, infix_of}
use Rattle.reader.specs.Roles.{infix_role}
use Rattle.reader.specs.Names.{trimmed, entry_at, infix_in}
use Rattle.reader.proofs.Finding.{name_of, by_bytes, below, belows, low, low_row, infix_placed, listed, is_infix_entry, place_for}
use Rattle.reader.proofs.ops.infix_place.Goals as goal

slot : ℕ → ℕ → ℕ → ℕ
slot a b c = a + 7 * b + 9 * c

-- eight rows of eight slots
places : List (List ℕ)
places = listed (λ i. listed (λ j. place_for is_infix_entry (λ a b c. slot a b c % 64) (8 * i + j) 0 operators) 0 8) 0 8

place : ℕ → ℕ → ℕ → ℕ
place a b c = get_or (get_or places (slot a b c / 8 % 8) []) (slot a b c % 8) 0

lower : (a b c : ℕ) → place a b c < 39
unfolding slot places place listed place_for is_infix_entry by_bytes name_of same_text below belows
lower a b c = low (get_or places (slot a b c / 8 % 8) []) (low_row places refl (slot a b c / 8 % 8)) (slot a b c % 8)

leads : (a b c : ℕ) → infix_in (entry_at (place a b c)) (trimmed a b c) ≡ infix_role (infix_of operators (trimmed a b c))
unfolding slot places place listed place_for is_infix_entry by_bytes name_of same_text find_inf infix_of infix_role entry_at infix_in
leads = infix_placed place lower refl

pub returns : goal.returns
unfolding slot places place listed place_for is_infix_entry by_bytes name_of same_text
returns c = let n = c.before.before.before.before.args.name in
    record { below = lower n.first n.second n.third; leads = leads n.first n.second n.third }
