use Rattle.probe.proofs.Onward.{nearer}
use borrow.Author.Rules.{rules}
use Rattle.probe.proofs.answers.token_answers.Goals as goal

pub loop-read-smaller : goal.loop-read-smaller
loop-read-smaller c = search (nearer, rules)
