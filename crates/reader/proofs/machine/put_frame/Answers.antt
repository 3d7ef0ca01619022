-- `reader::machine::put_frame` meets its contract. Assumes nothing.
use Prim.Native.Nat.{ℕ, ◌+◌}
use mathlib.Core.Path.{◌≡◌}
use mathlib.Core.List.{List, ◌∷◌}
use native.Mathlib.Omega.{arith}
use borrow.Author.Rules.{rules}
use lib.ListN.{set}
use Rattle.reader.specs.Machine.{Frame, red}
use Rattle.reader.specs.Layout.{frame_of, frames_of, out_of, Room}
use Rattle.reader.proofs.Stacks.{push_frame}
use Rattle.reader.proofs.machine.put_frame.Goals as goal

put : (st ns : List ℕ) (d n r : ℕ) (x : Frame) → Room st ns d n 1 → frame_of r ≡ x → red (frames_of (set st d r) (d + 1)) (out_of ns n) ≡ red (x ∷ frames_of st d) (out_of ns n)
put st ns d n r x h e = cc (push_frame st d r (omega (arith, h.frames)))

ruleset ways = (put, rules)

pub returns : goal.returns
returns c = search ways
