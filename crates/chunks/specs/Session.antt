-- How a caller drives the reader, and what it is handed: 02, request 3. Definitions only.
use Rattle.std.specs.Prelude.{ℕ, zero, suc, List, [], ◌∷◌, drop, Some, None, Ok, Err}
use Rattle.chunks.specs.Feed.{Leaves, leaves, finishing, feeding}
use Rattle.chunks.specs.Given.{Given}
use Rattle.chunks.specs.Whole.{Handed, token, last, stuck}
use Rattle.chunks.specs.declared.delivery.Reader.{Reader}

-- the chunks that are left, with what is left of the first
abbrev pub left : List ℕ → List (List ℕ) → List (List ℕ)
left [] xs = xs
left (y ∷ ys) xs = (y ∷ ys) ∷ xs

-- by what a call gives: a token, and what comes behind it; what comes where more is wanted; the last
unfoldable pub told : Handed → Handed → Given → Handed
told behind on (Ok (Some r)) = token r.token r.next behind
told behind on (Ok None) = on
told behind on (Err w) = last w

-- a call, and what comes of the reader and the window that it leaves, and of the count of bytes that it takes
unfoldable pub call : (ℕ → Reader → List ℕ → Handed) → (ℕ → Reader → List ℕ → Handed) → Leaves → Handed
call behind on (leaves f w) = told (behind f.taken f.reader w) (on f.taken f.reader w) f.given

-- all that a caller is handed who feeds the chunks one after the other, the rest of each until nothing is left of it and more is wanted, then says that the
-- text has ended, and feeds empty chunks until one is refused; with a bound on the calls
unfoldable pub session : ℕ → List (List ℕ) → Reader → List ℕ → Handed
session zero chunks r w = stuck
session (suc n) [] r w = call (λ k r' w'. session n [] r' w') (λ k r' w'. session n [] r' w') (feeding (finishing r) w [])
session (suc n) (x ∷ xs) r w = call (λ k r' w'. session n (drop k x ∷ xs) r' w') (λ k r' w'. session n (left (drop k x) xs) r' w') (feeding r w x)
