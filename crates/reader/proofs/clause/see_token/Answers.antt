-- `reader::clause::see_token` meets its contract: one law for each kind of token. Assumes nothing.
use Prim.Native.Nat.{ℕ}
use mathlib.Core.Path.{◌≡◌, ◌∙◌, ap}
use mathlib.Core.Bool.{Bool, true, false}
use mathlib.Core.List.{List}
use borrow.Author.Rules.{rules}
use Rattle.lexer.specs.declared.cursor.Cursor.{Cursor}
use Rattle.lexer.specs.declared.token.Token as lexer
use Rattle.reader.specs.Token as R
use Rattle.reader.specs.Token.{terminal_as}
use Rattle.reader.specs.Ops.{operators}
use Rattle.reader.specs.Layout.{sight_of, stop_as}
use Rattle.reader.specs.Machine.{see}
use Rattle.reader.specs.Clause.{token_in}
use Rattle.reader.specs.Gather.{sight_from, ReadFrom}
use Rattle.reader.specs.declared.machine.Sight.TheVariants.{Number, VarOrString, Round, Square, Brace, Stop}
use Rattle.reader.specs.declared.machine.Stop.TheVariants.{Close, CloseList, CloseCurly, Bar, DoubleBar, Comma, EndMark}
use Rattle.reader.proofs.Sights.{Known, known, sight_known}
use Rattle.reader.proofs.clause.see_token.Goals as goal

module _ (s : List ℕ) (c : Cursor) (t : lexer.Token) (d : Cursor) (r : ReadFrom s c t d) where
  it : Known s c t d
  it = known s c t d r.reads

  seen : (m : R.Kind) → t.kind ≡ m → see operators (terminal_as m (token_in s t d.offset it.text)) ≡ sight_from s c
  seen = sight_known s c t d it

  variable : t.kind ≡ R.Variable → sight_of VarOrString ≡ sight_from s c
  unfolding sight_of see terminal_as
  variable = seen R.Variable

  string : t.kind ≡ R.String → sight_of VarOrString ≡ sight_from s c
  unfolding sight_of see terminal_as
  string = seen R.String

  number : (low : Bool) → t.kind ≡ R.Number → low ≡ R.is_lowest t.value → sight_of (Number t.start low) ≡ sight_from s c
  unfolding sight_of see terminal_as
  number low k e = ap (λ (l : Bool). sight_of (Number t.start l)) e ∙ seen R.Number k

  round : t.kind ≡ R.Open → sight_of (Round false) ≡ sight_from s c
  unfolding sight_of see terminal_as
  round = seen R.Open

  round_ct : t.kind ≡ R.OpenCT → sight_of (Round true) ≡ sight_from s c
  unfolding sight_of see terminal_as
  round_ct = seen R.OpenCT

  square : t.kind ≡ R.OpenList → sight_of Square ≡ sight_from s c
  unfolding sight_of see terminal_as
  square = seen R.OpenList

  brace : t.kind ≡ R.OpenCurly → sight_of Brace ≡ sight_from s c
  unfolding sight_of see terminal_as
  brace = seen R.OpenCurly

  -- the stops
  close : t.kind ≡ R.Close → sight_of (Stop Close) ≡ sight_from s c
  unfolding sight_of stop_as see terminal_as
  close = seen R.Close

  close-list : t.kind ≡ R.CloseList → sight_of (Stop CloseList) ≡ sight_from s c
  unfolding sight_of stop_as see terminal_as
  close-list = seen R.CloseList

  close-curly : t.kind ≡ R.CloseCurly → sight_of (Stop CloseCurly) ≡ sight_from s c
  unfolding sight_of stop_as see terminal_as
  close-curly = seen R.CloseCurly

  bar : t.kind ≡ R.HeadTailSeparator → sight_of (Stop Bar) ≡ sight_from s c
  unfolding sight_of stop_as see terminal_as
  bar = seen R.HeadTailSeparator

  double-bar : t.kind ≡ R.DoubleBar → sight_of (Stop DoubleBar) ≡ sight_from s c
  unfolding sight_of stop_as see terminal_as
  double-bar = seen R.DoubleBar

  comma : t.kind ≡ R.Comma → sight_of (Stop Comma) ≡ sight_from s c
  unfolding sight_of stop_as see terminal_as
  comma = seen R.Comma

  end-mark : t.kind ≡ R.End → sight_of (Stop EndMark) ≡ sight_from s c
  unfolding sight_of stop_as see terminal_as
  end-mark = seen R.End

ruleset ways = (variable, string, number, round, round_ct, square, brace, close, close-list, close-curly, bar, double-bar, comma, end-mark, rules)

pub returns-in-Variable : goal.returns-in-Variable
returns-in-Variable c = search ways

pub returns-in-Number : goal.returns-in-Number
returns-in-Number c = search ways

pub returns-in-Open : goal.returns-in-Open
returns-in-Open c = search ways

pub returns-in-OpenCT : goal.returns-in-OpenCT
returns-in-OpenCT c = search ways

pub returns-in-Close : goal.returns-in-Close
returns-in-Close c = search ways

pub returns-in-OpenList : goal.returns-in-OpenList
returns-in-OpenList c = search ways

pub returns-in-CloseList : goal.returns-in-CloseList
returns-in-CloseList c = search ways

pub returns-in-OpenCurly : goal.returns-in-OpenCurly
returns-in-OpenCurly c = search ways

pub returns-in-CloseCurly : goal.returns-in-CloseCurly
returns-in-CloseCurly c = search ways

pub returns-in-HeadTailSeparator : goal.returns-in-HeadTailSeparator
returns-in-HeadTailSeparator c = search ways

pub returns-in-DoubleBar : goal.returns-in-DoubleBar
returns-in-DoubleBar c = search ways

pub returns-in-Comma : goal.returns-in-Comma
returns-in-Comma c = search ways

pub returns-in-End : goal.returns-in-End
returns-in-End c = search ways
