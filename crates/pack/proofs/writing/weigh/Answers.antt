use borrow.Author.Rules.{rules}
use Rattle.pack.proofs.writing.weigh.Invariants.{begin, four-inside, heavy, outside, off, again, one_tree, not-one}
use Rattle.pack.proofs.writing.weigh.Goals as goal

ruleset ways = (begin, four-inside, heavy, outside, off, again, one_tree, not-one, rules)

pub returns-then-it-gt-LONGEST_SPELLING : goal.returns-then-it-gt-LONGEST_SPELLING
returns-then-it-gt-LONGEST_SPELLING c = search ways

pub returns-then-bytes-it : goal.returns-then-bytes-it
returns-then-bytes-it c = search ways

pub returns-in_err-trees : goal.returns-in_err-trees
returns-in_err-trees c = search ways

pub loop-i-preserved : goal.loop-i-preserved
loop-i-preserved c =
    again c.args.bytes.now c.args.nodes.now c.args.count c.loop-i.i c.loop-i.trees c.loop-i.size c.loop-i.invariant c.loop-i-test.true
    c.given_at-it.result c.given_at-it.ensures c.if-it-gt-LONGEST_SPELLING.false c.if-bytes-it.false c.stack.result c.stack.ensures
    c.in_ok-trees.trees c.in_ok-trees.was

pub returns-then-trees-eq1 : goal.returns-then-trees-eq1
returns-then-trees-eq1 c = search ways

pub returns : goal.returns
returns c = search ways
