-- `reader::machine::node` meets its contract. Assumes nothing.
use borrow.Author.Rules.{rules}
use Rattle.reader.proofs.Stacks.{node_word}
use Rattle.reader.proofs.machine.node.Goals as goal

ruleset ways = (node_word, rules)

pub returns : goal.returns
returns c = search ways
