use borrow.Author.Rules.{rules}
use Rattle.reader.proofs.machine.put_tree.Invariants.{begin, ended, first_in, second_in, goes}
use Rattle.reader.proofs.machine.put_tree.Goals as goal

ruleset ways = (begin, ended, first_in, second_in, goes, rules)

pub loop-j-init : goal.loop-j-init
loop-j-init c = search ways

pub loop-j-preserved : goal.loop-j-preserved
loop-j-preserved c = search ways

pub returns : goal.returns
returns c = search ways
