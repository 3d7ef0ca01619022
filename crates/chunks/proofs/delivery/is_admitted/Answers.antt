-- `chunks::delivery::is_admitted` meets its contract. Assumes nothing.
use borrow.Author.Rules.{rules}
use Rattle.chunks.proofs.Feeds.{admit_some, admit_fits, admit_short, admit_ended, admit_open, admit_none}
use Rattle.chunks.proofs.delivery.is_admitted.Goals as goal

ruleset ways = (admit_some, admit_fits, admit_short, admit_ended, admit_open, admit_none, rules)

pub returns-then-is_sound : goal.returns-then-is_sound
returns-then-is_sound c = search ways

pub overflow_add-result : goal.overflow_add-result
overflow_add-result c = search ways

pub overflow_sub-result-then-is_sound : goal.overflow_sub-result-then-is_sound
overflow_sub-result-then-is_sound c = search ways
