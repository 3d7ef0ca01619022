-- `reader::machine::want_in` meets its contract. Assumes nothing.
use Rattle.std.proofs.Common.{rules, ◌≡◌, ℕ, List, ◌∷◌}
use Rattle.reader.specs.Machine.{Frame, want, red}
use Rattle.reader.specs.Layout.{frames_of, out_of, red_of, state_of}
use Rattle.reader.specs.declared.machine.Spot.{Spot}
use Rattle.reader.specs.declared.machine.Mode.TheVariants.{Want}
use Rattle.reader.proofs.machine.want_in.Goals as goal

begins : (st st' ns : List ℕ) (s r : Spot) (f : Frame) → red_of st' ns r ≡ red (f ∷ frames_of st s.depth) (out_of ns s.count) →
    state_of (Want r) st' ns ≡ want (f ∷ frames_of st s.depth) (out_of ns s.count)
unfolding state_of
begins st st' ns s r f e = cc

ruleset ways = (begins, rules)

pub returns : goal.returns
returns c = search ways
