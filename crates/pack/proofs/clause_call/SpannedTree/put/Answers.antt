use borrow.Author.Rules.{rules}
use Rattle.pack.proofs.clause_call.SpannedTree.put.Invariants.{begin, ended, node_at, node_asked, place-fits, size_fits, again}
use Rattle.pack.proofs.clause_call.SpannedTree.put.Goals as goal

ruleset ways = (begin, ended, node_at, node_asked, place-fits, size_fits, again, rules)

pub loop-i-preserved : goal.loop-i-preserved
loop-i-preserved c = search ways

pub returns : goal.returns
returns c = search ways

pub given-it-requires : goal.given-it-requires
given-it-requires c = search ways

pub put_node-requires : goal.put_node-requires
put_node-requires c = search ways
