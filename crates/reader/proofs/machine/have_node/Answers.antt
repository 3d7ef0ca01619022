-- `reader::machine::have_node` meets its contract. Assumes nothing.
use Prim.Native.Nat.{ℕ}
use mathlib.Core.Path.{◌≡◌}
use mathlib.Core.List.{List, ◌∷◌}
use borrow.Author.Rules.{rules}
use Rattle.reader.specs.Machine.{Node, red, have}
use Rattle.reader.specs.Layout.{frames_of, out_of, red_of, state_of}
use Rattle.reader.specs.declared.machine.Spot.{Spot}
use Rattle.reader.specs.declared.machine.Mode.TheVariants.{Have}
use Rattle.reader.proofs.machine.have_node.Goals as goal

ended : (st ns ns' : List ℕ) (s r : Spot) (x : Node) → red_of st ns' r ≡ red (frames_of st s.depth) (x ∷ out_of ns s.count) →
    state_of (Have r) st ns' ≡ have (frames_of st s.depth) (x ∷ out_of ns s.count)
unfolding state_of
ended st ns ns' s r x e = cc

ruleset ways = (ended, rules)

pub returns : goal.returns
returns c = search ways
