-- Which bytes the records of a clause's tokens cover: 02, request 8, "each byte once". Definitions only.
use Rattle.std.specs.Prelude.{ℕ, zero, suc, ◌+◌, ◌-◌, List, [], ◌∷◌, ◌++◌}
use Rattle.reader.specs.Token.{Token}

-- the offsets from a on, n of them
unfoldable pub offsets : ℕ → ℕ → List ℕ
offsets a zero = []
offsets a (suc n) = a ∷ offsets (a + 1) n

-- the offsets from a to before e
abbrev pub between : ℕ → ℕ → List ℕ
between a e = offsets a (e - a)

-- 02, request 8: the bytes of one record: the layout before the token, then the token
abbrev pub record_bytes : Token → List ℕ
record_bytes t = between t.layout t.start ++ between t.start t.end

-- and of the records of a clause, in their order
unfoldable pub all_bytes : List Token → List ℕ
all_bytes [] = []
all_bytes (t ∷ ts) = record_bytes t ++ all_bytes ts
