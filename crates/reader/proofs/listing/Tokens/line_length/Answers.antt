use borrow.Author.Rules.{rules}
use Rattle.reader.proofs.listing.Tokens.line_length.Invariants.{begin, done, under, second, asks, short, again}
use Rattle.reader.proofs.listing.Tokens.line_length.Goals as goal

ruleset ways = (begin, done, under, second, asks, short, again, rules)

pub loop-node-preserved : goal.loop-node-preserved
loop-node-preserved c = search ways

pub returns-in_err-left : goal.returns-in_err-left
returns-in_err-left c =
    short _ _ _ _ _ _ _ _ c.loop-node.invariant c.loop-node-test.true c.node_length.result c.node_length.ensures c.from_residual.result c.from_residual.ensures c.in_err-left.ensures

pub returns : goal.returns
returns c = search ways

pub overflow_sub-result : goal.overflow_sub-result
overflow_sub-result c = search ways

pub node_length-requires : goal.node_length-requires
node_length-requires c = search ways
