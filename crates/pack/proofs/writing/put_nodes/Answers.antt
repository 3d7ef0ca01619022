use borrow.Author.Rules.{rules}
use Rattle.pack.proofs.writing.put_nodes.Invariants.{begin, ended, four-inside, node_asked, again, at-fits, size_fits}
use Rattle.pack.proofs.writing.put_nodes.Goals as goal

ruleset ways = (begin, ended, four-inside, node_asked, at-fits, size_fits, again, rules)

pub loop-i-preserved : goal.loop-i-preserved
loop-i-preserved c = search ways

pub returns : goal.returns
returns c = search ways

pub put_node-requires : goal.put_node-requires
put_node-requires c = search ways

pub overflow_add-at : goal.overflow_add-at
overflow_add-at c = search ways

pub overflow_add-at-in-loop-i : goal.overflow_add-at-in-loop-i
overflow_add-at-in-loop-i c = search ways
