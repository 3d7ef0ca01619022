-- `reader::machine::shuts_at_once` meets its contract. Assumes nothing.
use Rattle.std.proofs.Common.{rules, ◌≡◌, refl, true, false}
use Rattle.reader.specs.Machine.{shuts}
use Rattle.reader.specs.Layout.{stop_as, shape_of}
use Rattle.reader.specs.declared.machine.Stop.{Stop}
use Rattle.reader.specs.declared.machine.Stop.TheVariants.{Close, CloseList, CloseCurly, Bar, DoubleBar, Comma, EndMark}
use Rattle.reader.specs.declared.machine.Shape.{Shape}
use Rattle.reader.specs.declared.machine.Shape.TheVariants.{Squares, Braces}
use Rattle.reader.proofs.machine.shuts_at_once.Goals as goal

module _ (h : Shape) (x : Stop) where
  squares : h ≡ Squares → x ≡ CloseList → true ≡ shuts (shape_of h) (stop_as x)
  unfolding shuts shape_of stop_as
  squares e f = rw (e, f)

  braces : h ≡ Braces → x ≡ CloseCurly → true ≡ shuts (shape_of h) (stop_as x)
  unfolding shuts shape_of stop_as
  braces e f = rw (e, f)

not_squares : (h : Shape) (x : Stop) → h ≡ Squares → (x ≡ CloseList → ⊥) → false ≡ shuts (shape_of h) (stop_as x)
unfolding shuts shape_of stop_as
not_squares h Close e f = rw e
not_squares h CloseList e f = absurd (f refl)
not_squares h CloseCurly e f = rw e
not_squares h Bar e f = rw e
not_squares h DoubleBar e f = rw e
not_squares h Comma e f = rw e
not_squares h EndMark e f = rw e

not_braces : (h : Shape) (x : Stop) → h ≡ Braces → (x ≡ CloseCurly → ⊥) → false ≡ shuts (shape_of h) (stop_as x)
unfolding shuts shape_of stop_as
not_braces h Close e f = rw e
not_braces h CloseList e f = rw e
not_braces h CloseCurly e f = absurd (f refl)
not_braces h Bar e f = rw e
not_braces h DoubleBar e f = rw e
not_braces h Comma e f = rw e
not_braces h EndMark e f = rw e

ruleset ways = (squares, braces, not_squares, not_braces, rules)

pub returns-in_default : goal.returns-in_default
returns-in_default c = search ways

pub returns-in_default-2 : goal.returns-in_default-2
returns-in_default-2 c = search ways

pub returns-in-Squares-CloseList : goal.returns-in-Squares-CloseList
returns-in-Squares-CloseList c = search ways

pub returns-in-Squares-CloseList-2 : goal.returns-in-Squares-CloseList-2
returns-in-Squares-CloseList-2 c = search ways
