-- `fields::put_layout` meets its contract. Assumes nothing.
use borrow.Author.Rules.{rules}
use Rattle.fields.specs.Fields.{layout_leaves}
use Rattle.fields.proofs.put_layout.Goals as goal

pub returns-in-Err : goal.returns-in-Err
unfolding layout_leaves
returns-in-Err c = search rules

pub returns-in-Ok-Absent : goal.returns-in-Ok-Absent
unfolding layout_leaves
returns-in-Ok-Absent c = search rules

pub returns-in-Ok-Text : goal.returns-in-Ok-Text
unfolding layout_leaves
returns-in-Ok-Text c = search rules
