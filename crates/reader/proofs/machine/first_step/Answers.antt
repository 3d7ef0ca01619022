-- `reader::machine::first_step` meets its contract. Assumes nothing.
use Prim.Native.Nat.{ℕ}
use mathlib.Core.Path.{◌≡◌}
use mathlib.Core.List.{◌∷◌}
use borrow.Author.Rules.{rules}
use Rattle.reader.specs.Tree.{packed}
use Rattle.reader.specs.Machine.{Out, Frames, opened, bound, inside, State, want_step}
use Rattle.reader.specs.Layout.{frame_as, shape_of}
use Rattle.reader.specs.declared.machine.Shape.{Shape}
use Rattle.reader.specs.declared.machine.Shape.TheVariants.{Squares, Braces}
use Rattle.reader.specs.Machine as M
use Rattle.reader.specs.declared.machine.Tag.TheVariants as Tag
use Rattle.reader.proofs.machine.first_step.Goals as goal

module _ (h : Shape) (i j : ℕ) (k : M.Sight) (fs : Frames) (out : Out) (z : State) where
  in-squares : h ≡ Squares → z ≡ want_step packed (frame_as Tag.List i 0 0 ∷ fs) out j k → z ≡ want_step packed (opened (inside (shape_of h) i) ∷ fs) out j k
  unfolding frame_as inside shape_of
  in-squares e f = cc

  in-braces : h ≡ Braces → z ≡ want_step packed (frame_as Tag.Curly i 0 0 ∷ fs) out j k → z ≡ want_step packed (opened (inside (shape_of h) i) ∷ fs) out j k
  unfolding frame_as inside shape_of
  in-braces e f = cc

ruleset ways = (in-squares, in-braces, rules)

pub returns-in-Squares : goal.returns-in-Squares
returns-in-Squares c = search ways

pub returns-in-Braces : goal.returns-in-Braces
returns-in-Braces c = search ways
