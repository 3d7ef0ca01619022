-- A slice that stands at the front of a longer one, and the machine's state there. Assumes nothing.
use Prim.Native.Nat.{ℕ, zero, suc, ◌+◌, ◌≤◌}
use mathlib.Core.Path.{◌≡◌, refl}
use mathlib.Core.List.{List, ◌++◌}
use native.Mathlib.Omega.{arith}
use lib.ListN.{length, get_or-append}
use Rattle.reader.specs.Weight.{sizes, weight}
use Rattle.reader.specs.Layout.{frames_of, out_of, state_of}
use Rattle.reader.specs.declared.machine.Mode.{Mode}
use Rattle.reader.specs.declared.machine.Mode.TheVariants.{Want, Pend, Begun, Have, Dead, Done}
use Rattle.reader.proofs.Size.{count_low}
use Rattle.reader.proofs.Turns.{length_frames, length_out}

module _ (few rest : List ℕ) where
  same_frames : (d : ℕ) → d ≤ length few → frames_of (few ++ rest) d ≡ frames_of few d
  unfolding frames_of
  same_frames zero h = refl
  same_frames (suc d) h = rw (get_or-append few rest 0 d (omega arith), same_frames d (omega arith))

  same_out : (n : ℕ) → n ≤ length few → out_of (few ++ rest) n ≡ out_of few n
  unfolding out_of
  same_out zero h = refl
  same_out (suc n) h = rw (get_or-append few rest 0 n (omega arith), same_out n (omega arith))

module _ (st ns fs os : List ℕ) where
  frames_there : (d n : ℕ) → sizes (frames_of st d) + length (out_of ns n) ≤ length st → frames_of (st ++ fs) d ≡ frames_of st d
  frames_there d n h = same_frames st fs d (omega (arith, length_frames st d, count_low (frames_of st d)))

  out_there : (d n : ℕ) → sizes (frames_of st d) + length (out_of ns n) ≤ length ns → out_of (ns ++ os) n ≡ out_of ns n
  out_there d n h = same_out ns os n (omega (arith, length_out ns n))

  pub same_state : (m : Mode) → weight (state_of m st ns) ≤ length st → weight (state_of m st ns) ≤ length ns → state_of m (st ++ fs) (ns ++ os) ≡ state_of m st ns
  unfolding weight state_of
  same_state (Want p) h k = rw (frames_there p.depth p.count h, out_there p.depth p.count k)
  same_state (Pend p q) h k = rw (frames_there p.depth p.count (omega arith), out_there p.depth p.count (omega arith))
  same_state (Begun p x i) h k = rw (frames_there p.depth p.count (omega arith), out_there p.depth p.count (omega arith))
  same_state (Have p) h k = rw (frames_there p.depth p.count h, out_there p.depth p.count k)
  same_state Dead h k = refl
  same_state (Done n) h k = rw (same_out ns os n (omega (arith, length_out ns n)))
