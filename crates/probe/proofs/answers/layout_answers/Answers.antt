use Rattle.probe.proofs.Onward.{layout_nearer}
use borrow.Author.Rules.{rules}
use Rattle.probe.proofs.answers.layout_answers.Goals as goal

pub loop-kind-smaller : goal.loop-kind-smaller
loop-kind-smaller c = search (layout_nearer, rules)
