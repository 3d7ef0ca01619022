-- A run of bytes whose classes are from lo to hi: the ways out of a turn of its scan. Assumes nothing.
use Prim.Native.Nat.{ℕ, ◌+◌, ◌<◌, ◌≤◌, max}
use native.Mathlib.Decide.{dec_le}
use mathlib.Core.Path.{◌≡◌, refl, ◌∙◌}
use mathlib.Core.Bool.{Bool, true, false}
use mathlib.Core.List.{List}
use native.Mathlib.Omega.{arith}
use borrow.Author.Tests.{leb-true, leb-false, eq-eqb, ne_eqb}
use lib.Dec.{leb, eqb}
use lib.ListN.{length, drop, get_or}
use Rattle.lexer.specs.Chars.{class_of, is, within}
use Rattle.lexer.specs.Name.{run_stop, run_end}
use Rattle.lexer.specs.Refusal.{fault}
use Rattle.lexer.specs.declared.refusal.Refusal.TheVariants.{EndOfText}
use Rattle.lexer.specs.Cursor.{Scan}
use Rattle.std.specs.declared.result.Result.TheVariants.{Err}
use Rattle.lexer.proofs.Steps.{drop_at, drop_end}

-- a run of one class
one_class : (k x : ℕ) → eqb x k ≡ within k k x
one_class k x = go (leb k x) refl (leb x k) refl
  where
    go : (t : Bool) → leb k x ≡ t → (u : Bool) → leb x k ≡ u → eqb x k ≡ within k k x
    go true e true f = let g = leb-true k x e in let h = leb-true x k f in cc (e, f, eq-eqb x k (omega arith))
    go true e false f = let g = leb-false x k f in cc (e, f, ne_eqb x k (λ h. omega arith))
    go false e u f = let g = leb-false k x e in cc (e, ne_eqb x k (λ h. omega arith))

pub of_class : (k b : ℕ) (t : Bool) → t ≡ is k b → t ≡ within k k (class_of b)
of_class k b t e = e ∙ one_class k (class_of b)

-- the invariant: what the scan finds from the start is what it finds from here
abbrev pub Same : ℕ → ℕ → List ℕ → ℕ → ℕ → Type 0
Same lo hi s from at = run_end lo hi from (drop from s) ≡ run_end lo hi at (drop at s)

module _ (lo hi : ℕ) (s : List ℕ) (from at : ℕ) (i : Same lo hi s from at) where
  -- behind the last byte; at once, where it starts beyond it
  pub run-ended : (e : ℕ) → length s ≤ at → (from ≤ length s → at ≤ length s) → e ≡ max from (length s) → Err (fault EndOfText e) ≡ run_end lo hi from (drop from s)
  unfolding run_end
  run-ended e h k m = go (dec_le from (length s))
    where
      go : Dec (from ≤ length s) → Err (fault EndOfText e) ≡ run_end lo hi from (drop from s)
      go (yes l) = let n : e ≡ at = omega (arith, k l) in cc (drop_end s at h)
      go (no l) = let n : e ≡ from = omega arith in cc (drop_end s from (omega arith))

  -- t says whether the byte at `at` is of those classes
  module _ (t : Bool) (h : at < length s) (e : t ≡ within lo hi (class_of (get_or s at 0))) where
    pub run-stops : (r : Scan) → t ≡ false → r ≡ run_stop at (class_of (get_or s at 0)) → r ≡ run_end lo hi from (drop from s)
    unfolding run_end
    run-stops r f q = cc (drop_at s at h)

    pub run-on : t ≡ true → Same lo hi s from (at + 1)
    unfolding run_end
    run-on f = cc (drop_at s at h)
