-- `fields::put_answer` meets its contract. Assumes nothing.
use borrow.Author.Rules.{rules}
use Rattle.fields.specs.Fields.{answer_leaves}
use Rattle.fields.proofs.put_answer.Goals as goal

pub returns-in-Err : goal.returns-in-Err
unfolding answer_leaves
returns-in-Err c = search rules

pub returns-in-Ok : goal.returns-in-Ok
unfolding answer_leaves
returns-in-Ok c = search rules
