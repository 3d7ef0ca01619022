-- `reader::machine::want_under` meets its contract. Assumes nothing.
use Prim.Native.Nat.{ℕ}
use mathlib.Core.Path.{◌≡◌}
use mathlib.Core.List.{List, ◌∷◌}
use borrow.Author.Rules.{rules}
use Rattle.reader.specs.Tree.{packed}
use Rattle.reader.specs.Machine.{Frame, red, State, want_step}
use Rattle.reader.specs.Layout.{frames_of, out_of, red_of}
use Rattle.reader.proofs.Rooms.{room_one, room_framed}
use Rattle.reader.specs.declared.machine.Spot.{Spot}
use Rattle.reader.specs.Machine as M
use Rattle.reader.proofs.machine.want_under.Goals as goal

under : (st st' ns : List ℕ) (s q : Spot) (f : Frame) (j : ℕ) (k : M.Sight) (z : State) →
    red_of st' ns q ≡ red (f ∷ frames_of st s.depth) (out_of ns s.count) → z ≡ want_step packed (frames_of st' q.depth) (out_of ns q.count) j k →
    z ≡ want_step packed (f ∷ frames_of st s.depth) (out_of ns s.count) j k
under st st' ns s q f j k z e g = cc

ruleset ways = (under, room_one, room_framed, rules)

pub want_step-requires : goal.want_step-requires
want_step-requires c = search ways
