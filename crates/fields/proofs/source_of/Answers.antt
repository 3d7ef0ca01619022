-- `fields::source_of` meets its contract. Assumes nothing.
use borrow.Author.Rules.{rules}
use Rattle.fields.specs.Fields.{source_of}
use Rattle.fields.proofs.source_of.Goals as goal

pub returns-then-number-eq-FIELD : goal.returns-then-number-eq-FIELD
unfolding source_of
returns-then-number-eq-FIELD c = search rules

pub returns-else-number-eq-FIELD : goal.returns-else-number-eq-FIELD
unfolding source_of
returns-else-number-eq-FIELD c = search rules
