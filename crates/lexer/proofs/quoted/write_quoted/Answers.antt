use borrow.Author.Rules.{rules}
use Rattle.lexer.proofs.HandedOn.{handed_on}
use Rattle.lexer.proofs.quoted.write_quoted.Invariants.{begin, done, refuse, close, beyond, skip, skip_less, inside, fits, char, char_less}
use Rattle.lexer.proofs.quoted.write_quoted.Goals as goal

ruleset ways = (handed_on, begin, done, refuse, close, beyond, skip, skip_less, inside, fits, char, char_less, rules)

pub loop-i-init : goal.loop-i-init
loop-i-init c = search ways

pub returns-in_default : goal.returns-in_default
returns-in_default c = search (ways, c.in_default.ensures)

pub returns-in-Beyond : goal.returns-in-Beyond
returns-in-Beyond c = search (ways, c.in-Ok.ensures)

pub returns-in-Close : goal.returns-in-Close
returns-in-Close c = search (ways, c.in-Ok.ensures)

pub loop-i-smaller-in-Skip : goal.loop-i-smaller-in-Skip
loop-i-smaller-in-Skip c = search (ways, c.in-Ok.ensures)

pub loop-i-preserved-in-Skip : goal.loop-i-preserved-in-Skip
loop-i-preserved-in-Skip c = search (ways, c.in-Ok.ensures)

pub loop-i-smaller : goal.loop-i-smaller
loop-i-smaller c = search (ways, c.in-Ok.ensures)

pub loop-i-preserved : goal.loop-i-preserved
loop-i-preserved c = search (ways, c.in-Ok.ensures)
