-- Runs of bytes: of those that pass a test; of a stretch from one to another, but for two, which the code passes over in a run. Definitions only.
use Rattle.std.specs.Prelude.{ℕ, ◌+◌, Bool, false, cond, List, [], ◌∷◌, eqb, drop}
use Rattle.lexer.specs.Chars.{within}

-- where the bytes that pass a test end, from `at` on, where the list is left of the text
unfoldable pub run_to : (ℕ → Bool) → ℕ → List ℕ → ℕ
run_to passes at [] = at
run_to passes at (x ∷ xs) = cond (passes x) (run_to passes (at + 1) xs) at

-- the same from an offset of a text
abbrev pub run_of : (ℕ → Bool) → List ℕ → ℕ → ℕ
run_of passes s at = run_to passes at (drop at s)

-- x is from a to b, and neither p nor q
abbrev pub in_stretch : ℕ → ℕ → ℕ → ℕ → ℕ → Bool
in_stretch a b p q x = cond (eqb x p) false (cond (eqb x q) false (within a b x))

-- where a stretch of such bytes ends
abbrev pub stretch_end : ℕ → ℕ → ℕ → ℕ → List ℕ → ℕ → ℕ
stretch_end a b p q = run_of (in_stretch a b p q)
