use borrow.Author.Rules.{rules}
use Rattle.pack.proofs.clause_call.SpannedTree.weigh.Invariants.{begin, ended, node_at, again}
use Rattle.pack.proofs.clause_call.SpannedTree.weigh.Goals as goal

ruleset ways = (begin, ended, node_at, again, rules)

pub loop-i-preserved : goal.loop-i-preserved
loop-i-preserved c = search ways

pub returns : goal.returns
returns c = search ways

pub given-requires : goal.given-requires
given-requires c = search ways
