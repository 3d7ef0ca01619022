-- `reader::machine::want_step` meets its contract. Assumes nothing.
use Prim.Native.Nat.{ℕ}
use mathlib.Core.Path.{◌≡◌}
use mathlib.Core.Bool.{Bool, true, false}
use mathlib.Core.List.{List, ◌∷◌}
use borrow.Author.Rules.{rules}
use Rattle.reader.specs.Tree.{packed}
use Rattle.reader.specs.Machine.{nd, Out, Frames, State, have, want, want_step}
use Rattle.reader.specs.Layout.{frame_as, frames_of, out_of, sight_of, shape_of, state_of}
use Rattle.reader.proofs.Rooms.{takes-number, takes_var, takes-round}
use Rattle.reader.specs.declared.machine.Spot.{Spot}
use Rattle.reader.specs.declared.machine.Stop.{Stop}
use Rattle.reader.specs.declared.roles.Roles.{Roles}
use Rattle.reader.specs.declared.machine.Sight.{Sight}
use Rattle.reader.specs.declared.machine.Sight.TheVariants.{Name, Number, VarOrString, Round, Square, Brace, Stop as Stops}
use Rattle.reader.specs.declared.machine.Shape.TheVariants.{Squares, Braces}
use Rattle.reader.specs.declared.machine.Mode.TheVariants.{Pend, Begun, Dead}
use Rattle.reader.specs.Kinds.{kind_as}
use Rattle.reader.specs.declared.kinds.NodeKind.TheVariants as NodeKind
use Rattle.reader.specs.declared.machine.Tag.TheVariants as Tag
use Rattle.reader.proofs.machine.want_step.Goals as goal

module _ (st ns : List ℕ) (s : Spot) (i : ℕ) (k : Sight) where
  named : (e : ℕ) (r : Roles) → k ≡ Name e r →
      state_of (Pend s (record { index = i; end = e; roles = r })) st ns ≡ want_step packed (frames_of st s.depth) (out_of ns s.count) i (sight_of k)
  unfolding state_of want_step sight_of
  named e r g = rw g

  square : k ≡ Square → state_of (Begun s Squares i) st ns ≡ want_step packed (frames_of st s.depth) (out_of ns s.count) i (sight_of k)
  unfolding state_of shape_of want_step sight_of
  square g = rw g

  brace : k ≡ Brace → state_of (Begun s Braces i) st ns ≡ want_step packed (frames_of st s.depth) (out_of ns s.count) i (sight_of k)
  unfolding state_of shape_of want_step sight_of
  brace g = rw g

module _ (i : ℕ) (k : Sight) (fs : Frames) (out : Out) where
  stopped : (st ns : List ℕ) (x : Stop) → k ≡ Stops x → state_of Dead st ns ≡ want_step packed fs out i (sight_of k)
  unfolding state_of want_step sight_of
  stopped st ns x g = cc

  lowest : (st ns : List ℕ) (n : ℕ) (low : Bool) → k ≡ Number n low → low ≡ true → state_of Dead st ns ≡ want_step packed fs out i (sight_of k)
  unfolding state_of want_step sight_of
  lowest st ns n low g h = cc

  module _ (z : State) where
    number : (n : ℕ) (low : Bool) → k ≡ Number n low → low ≡ false → z ≡ have fs (nd i (packed (kind_as NodeKind.Plain) 0) ∷ out) → z ≡ want_step packed fs out i (sight_of k)
    unfolding want_step sight_of kind_as
    number n low g h f = cc

    var : k ≡ VarOrString → z ≡ have fs (nd i (packed (kind_as NodeKind.Plain) 0) ∷ out) → z ≡ want_step packed fs out i (sight_of k)
    unfolding want_step sight_of kind_as
    var g f = cc

    round : (ct : Bool) → k ≡ Round ct → z ≡ want (frame_as Tag.Round 0 0 0 ∷ fs) out → z ≡ want_step packed fs out i (sight_of k)
    unfolding want_step sight_of frame_as
    round ct g f = cc

ruleset ways = (named, square, brace, stopped, lowest, number, var, round, takes-number, takes_var, takes-round, rules)

pub returns-in-Name : goal.returns-in-Name
returns-in-Name c = search ways

pub returns-in-Number-default-true : goal.returns-in-Number-default-true
returns-in-Number-default-true c = search ways

pub returns-in-Number : goal.returns-in-Number
returns-in-Number c = search ways

pub returns-in-VarOrString : goal.returns-in-VarOrString
returns-in-VarOrString c = search ways

pub returns-in-Round : goal.returns-in-Round
returns-in-Round c = search ways

pub returns-in-Square : goal.returns-in-Square
returns-in-Square c = search ways

pub returns-in-Brace : goal.returns-in-Brace
returns-in-Brace c = search ways

pub returns-in-Stop : goal.returns-in-Stop
returns-in-Stop c = search ways

pub have_node-requires-clause-room : goal.have_node-requires-clause-room
have_node-requires-clause-room c = search ways

pub have_node-requires-in-VarOrString-clause-room : goal.have_node-requires-in-VarOrString-clause-room
have_node-requires-in-VarOrString-clause-room c = search ways

pub want_in-requires : goal.want_in-requires
want_in-requires c = search ways
