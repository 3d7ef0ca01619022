-- What of a text is left at an offset, as a loop steps through it. Assumes nothing.
use mathlib.Core.Path.{◌≡◌}
use mathlib.Core.List.{List, [], ◌∷◌}
use Prim.Native.Nat.{ℕ, suc, ◌+◌, ◌-◌, ◌<◌, ◌≤◌}
use native.Mathlib.Numerals.{add-one}
use lib.ListN.{length, get_or, drop, drop_of_length-le}
use lib.Seq.{drop-cons}
use native.Mathlib.Omega.{arith}
use Rattle.lexer.specs.Cursor.{part}

-- within the text: the byte there, and the rest
pub drop_at : (s : List ℕ) (at : ℕ) → at < length s → drop at s ≡ get_or s at 0 ∷ drop (at + 1) s
drop_at s at h = rw add-one (drop-cons s at 0 h)

-- past its end: nothing
pub drop_end : (s : List ℕ) (at : ℕ) → length s ≤ at → drop at s ≡ []
drop_end s at h = drop_of_length-le s h

-- a part of a text: its first byte and the rest, or nothing
pub part_at : (s : List ℕ) (at to : ℕ) → at < to → to ≤ length s → part at to s ≡ get_or s at 0 ∷ part (at + 1) to s
part_at s at to h k =
    let l : at < length s = omega arith in
    let n : to - at ≡ suc (to - (at + 1)) = omega arith in
    rw (n, drop_at s at l)

pub part_none : (s : List ℕ) (at : ℕ) → part at at s ≡ []
part_none s at = let n : at - at ≡ 0 = omega arith in rw n

pub part-past : (s : List ℕ) (at to : ℕ) → to ≤ at → part at to s ≡ []
part-past s at to h = let n : to - at ≡ 0 = omega arith in rw n
