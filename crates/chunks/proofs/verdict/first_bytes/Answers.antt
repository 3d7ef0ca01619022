-- `chunks::verdict::first_bytes` meets its contract. Assumes nothing.
use Prim.Native.Nat.{ℕ, ◌-◌}
use mathlib.Core.Path.{◌≡◌, ◌∙◌, ap}
use mathlib.Core.List.{List, ◌++◌}
use native.Mathlib.Omega.{arith}
use lib.ListN.{take, drop, replicate}
use Rattle.std.proofs.lemmas.List.{drop-replicate}
use Rattle.chunks.specs.Shift.{unknown}
use Rattle.chunks.specs.Answers.{filled}
use Rattle.chunks.proofs.verdict.first_bytes.Goals as goal

first_put : (s : List ℕ) (n : ℕ) (y : List ℕ) → y ≡ take (n - 0) (drop 0 s) → y ++ drop (n - 0) (drop 0 (replicate 1028 unknown)) ≡ filled n s
first_put s n y e =
    let m : n - 0 ≡ n = omega arith in
    ap (λ (u : List ℕ). u ++ drop (n - 0) (replicate 1028 unknown)) (e ∙ ap (λ (k : ℕ). take k s) m)
    ∙ ap (λ (u : List ℕ). take n s ++ u) (drop-replicate (n - 0) 1028 unknown ∙ ap (λ (k : ℕ). replicate (1028 - k) unknown) m)

pub returns : goal.returns
returns c = first_put c.args.hand.now c.args.n c.copy_slice.new.to c.copy_slice.ensures.after
