-- `reader::machine::put_node` meets its contract. Assumes nothing.
use Prim.Native.Nat.{ℕ, ◌+◌}
use mathlib.Core.Path.{◌≡◌}
use mathlib.Core.List.{List, ◌∷◌}
use native.Mathlib.Omega.{arith}
use borrow.Author.Rules.{rules}
use lib.ListN.{set}
use Rattle.reader.specs.Machine.{nd, red}
use Rattle.reader.specs.Layout.{node_of, frames_of, out_of, Room}
use Rattle.reader.proofs.Stacks.{push_node}
use Rattle.reader.proofs.machine.put_node.Goals as goal

put : (st ns : List ℕ) (d n r i w v : ℕ) → Room st ns d n 1 → w ≡ v → node_of r ≡ nd i w →
    red (frames_of st d) (out_of (set ns n r) (n + 1)) ≡ red (frames_of st d) (nd i v ∷ out_of ns n)
put st ns d n r i w v h e f = cc (push_node ns n r (omega (arith, h.nodes)))

ruleset ways = (put, rules)

pub returns : goal.returns
returns c = search ways
