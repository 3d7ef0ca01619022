-- `reader::machine::empty_step` meets its contract. Assumes nothing.
use Rattle.std.proofs.Common.{rules, ◌≡◌, ℕ, Bool, true, false, cond, List, ◌∷◌}
use Rattle.reader.specs.Tree.{packed}
use Rattle.reader.specs.Machine.{nd, Out, Frames, shuts, empty_kind, State, have, dead}
use Rattle.reader.specs.Layout.{shape_of, state_of}
use Rattle.reader.specs.declared.machine.Shape.{Shape}
use Rattle.reader.specs.declared.machine.Shape.TheVariants.{Squares, Braces}
use Rattle.reader.specs.declared.machine.Mode.TheVariants.{Dead}
use Rattle.reader.specs.Token
use Rattle.reader.specs.Kinds.{kind_as}
use Rattle.reader.specs.declared.kinds.NodeKind.TheVariants as NodeKind
use Rattle.reader.proofs.machine.empty_step.Goals as goal

module _ (h : Shape) (i : ℕ) (x : Token.Stop) (fs : Frames) (out : Out) (v : Bool) (e : v ≡ shuts (shape_of h) x) where
  abbrev after : State
  after = cond (shuts (shape_of h) x) (have fs (nd i (packed (empty_kind (shape_of h)) 0) ∷ out)) dead

  not_here : (st ns : List ℕ) → v ≡ false → state_of Dead st ns ≡ after
  unfolding state_of
  not_here st ns f = cc

  module _ (z : State) (f : v ≡ true) where
    empty-list : h ≡ Squares → z ≡ have fs (nd i (packed (kind_as NodeKind.EmptyList) 0) ∷ out) → z ≡ after
    unfolding shape_of empty_kind kind_as
    empty-list g k = cc

    empty-curly : h ≡ Braces → z ≡ have fs (nd i (packed (kind_as NodeKind.EmptyCurly) 0) ∷ out) → z ≡ after
    unfolding shape_of empty_kind kind_as
    empty-curly g k = cc

ruleset ways = (not_here, empty-list, empty-curly, rules)

pub returns-then-not-shuts_at_once : goal.returns-then-not-shuts_at_once
returns-then-not-shuts_at_once c = search ways

pub returns-in-Squares : goal.returns-in-Squares
returns-in-Squares c = search ways

pub returns-in-Braces : goal.returns-in-Braces
returns-in-Braces c = search ways
