-- Records one behind the other cover the bytes from the first one's layout to the last one's end. Assumes nothing.
use Prim.Native.Nat.{ℕ, zero, suc, ◌+◌, ◌-◌, ◌<◌, ◌≤◌}
use mathlib.Core.Path.{◌≡◌, sym, ◌∙◌, ap}
use mathlib.Core.List.{List, [], ◌∷◌, ◌++◌}
use native.Mathlib.Omega.{arith}
use Rattle.reader.specs.Token.{Token}
use Rattle.reader.specs.Cover.{offsets, between, record_bytes, all_bytes}

offsets-joined : (a m n b : ℕ) → a + m ≡ b → offsets a m ++ offsets b n ≡ offsets a (m + n)
unfolding offsets
offsets-joined a zero n b h = let e : b ≡ a = omega arith in let k : 0 + n ≡ n = omega arith in cc
offsets-joined a (suc m) n b h =
    let k : suc (m + n) ≡ suc m + n = omega arith in
    ap (λ (l : List ℕ). a ∷ l) (offsets-joined (a + 1) m n b (omega arith)) ∙ ap (offsets a) k

between-joined : (a b e : ℕ) → a ≤ b → b ≤ e → between a b ++ between b e ≡ between a e
between-joined a b e h k =
    let m : b - a + (e - b) ≡ e - a = omega arith in
    offsets-joined a (b - a) (e - b) b (omega arith) ∙ ap (offsets a) m

-- no record covers no byte
pub covers_none : (e : ℕ) → all_bytes [] ≡ between e e
unfolding all_bytes offsets
covers_none e = let z : e - e ≡ 0 = omega arith in sym (ap (offsets e) z)

-- one record more
pub covers_more : (t : Token) (ts : List Token) (z e : ℕ) → t.layout ≡ z → z ≤ t.start → t.start < t.end → t.end ≤ e
    → all_bytes ts ≡ between t.end e → all_bytes (t ∷ ts) ≡ between z e
unfolding all_bytes
covers_more t ts z e l a b h r =
    ap (λ (bs : List ℕ). record_bytes t ++ bs) r
    ∙ ap (λ (bs : List ℕ). bs ++ between t.end e) (between-joined t.layout t.start t.end (omega arith) (omega arith))
    ∙ between-joined t.layout t.end e (omega arith) h
    ∙ ap (λ (k : ℕ). between k e) l
