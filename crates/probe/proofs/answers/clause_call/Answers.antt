-- `clause_call` is safe, and a clause that it reads moves the cursor on. Assumes nothing.
use Rattle.probe.proofs.Onward.{clause_nearer}
use borrow.Author.Rules.{rules}
use Rattle.probe.proofs.answers.clause_call.Goals as goal

pub returns : goal.returns
returns c = search (clause_nearer, rules)
