use borrow.Author.Rules.{rules}
use Rattle.lexer.proofs.stretch.stretch_end.Invariants.{ended, stops, onward}
use Rattle.lexer.proofs.stretch.stretch_end.Goals as goal

ruleset ways = (stops, onward, ended, rules)

pub loop-at-preserved : goal.loop-at-preserved
loop-at-preserved c = search ways

pub returns-else-in_stretch : goal.returns-else-in_stretch
returns-else-in_stretch c = search ways

pub returns : goal.returns
returns c = search ways
