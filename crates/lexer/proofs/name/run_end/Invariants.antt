-- `lexer::name::run_end` meets its contract. Assumes nothing.
use Rattle.lexer.proofs.Runs.{Same}
use Rattle.lexer.proofs.name.run_end.Given as goal

abbrev pub invariant-loop-at : goal.invariant-loop-at
invariant-loop-at g l = Same g.C.Class.low g.C.Class.high l.text l.from l.at
