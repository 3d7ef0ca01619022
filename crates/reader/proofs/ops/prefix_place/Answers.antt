-- `reader::ops::prefix_place` meets its contract: that its places lead to the right entries is one test over the table of operators, which antt computes.
-- Assumes nothing.
use Prim.Native.Nat.{ℕ, ◌+◌, ◌*◌, ◌%◌, ◌<◌}
use mathlib.Core.Path.{◌≡◌, refl}
use mathlib.Core.List.{List}
use lib.ListN.{get_or}
use Rattle.reader.specs.Token.{same_text}
use Rattle.reader.specs.Ops.{operators, find_pre, prefix_of}
use Rattle.reader.specs.Roles.{prefix_role}
use Rattle.reader.specs.Names.{trimmed, entry_at, prefix_in}
use Rattle.reader.proofs.Finding.{name_of, by_bytes, below, low, prefix_placed, listed, is_prefix_entry, place_for}
use Rattle.reader.proofs.ops.prefix_place.Goals as goal

slot : ℕ → ℕ → ℕ → ℕ
slot a b c = (2 * a + 3 * b) % 24

places : List ℕ
places = listed (λ k. place_for is_prefix_entry slot k 0 operators) 0 24

place : ℕ → ℕ → ℕ → ℕ
place a b c = get_or places (slot a b c) 0

lower : (a b c : ℕ) → place a b c < 39
unfolding slot places place listed place_for is_prefix_entry by_bytes name_of below
lower a b c = low places refl (slot a b c)

leads : (a b c : ℕ) → prefix_in (entry_at (place a b c)) (trimmed a b c) ≡ prefix_role (prefix_of operators (trimmed a b c))
unfolding slot places place listed place_for is_prefix_entry by_bytes name_of same_text find_pre prefix_of prefix_role entry_at prefix_in
leads = prefix_placed place lower refl

pub returns : goal.returns
unfolding slot places place listed place_for is_prefix_entry by_bytes name_of
returns c = let n = c.before.before.args.name in
    record { below = lower n.first n.second n.third; leads = leads n.first n.second n.third }
