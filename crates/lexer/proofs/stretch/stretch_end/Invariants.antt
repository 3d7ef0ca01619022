-- `lexer::stretch::stretch_end` meets its contract. The invariant: the stretch from the start ends where it ends from here. Assumes nothing.
use Prim.Native.Nat.{ℕ, ◌+◌, ◌-◌, ◌<◌, ◌≤◌}
use mathlib.Core.Path.{◌≡◌}
use mathlib.Core.Bool.{Bool, true, false}
use mathlib.Core.List.{List}
use lib.ListN.{length, get_or}
use Rattle.lexer.specs.Stretch.{run_to, in_stretch, stretch_end}
use Rattle.lexer.proofs.Steps.{drop_at, drop_end}
use Rattle.lexer.proofs.stretch.stretch_end.Given as goal

abbrev pub Same : ℕ → ℕ → ℕ → ℕ → List ℕ → ℕ → ℕ → Type 0
Same a b p q s from at = stretch_end a b p q s from ≡ stretch_end a b p q s at

module _ (a b p q : ℕ) (s : List ℕ) (from at : ℕ) (i : Same a b p q s from at) where
  pub ended : length s ≤ at → at ≡ stretch_end a b p q s from
  unfolding run_to
  ended h = cc (drop_end s at h)

  -- t says whether the byte at `at` is of the stretch
  module _ (t : Bool) (h : at < length s) (e : t ≡ in_stretch a b p q (get_or s at 0)) where
    pub stops : t ≡ false → at ≡ stretch_end a b p q s from
    unfolding run_to
    stops f = cc (drop_at s at h)

    pub onward : t ≡ true → Same a b p q s from (at + 1)
    unfolding run_to
    onward f = cc (drop_at s at h)

abbrev pub invariant-loop-at : goal.invariant-loop-at
invariant-loop-at l = Same l.first l.last l.but l.nor l.text l.from l.at

abbrev pub decreases-loop-at : goal.decreases-loop-at
decreases-loop-at l = length l.text - l.at
