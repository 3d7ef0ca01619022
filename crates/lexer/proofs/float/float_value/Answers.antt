-- `lexer::float::float_value` meets its contract. Assumes nothing.
use borrow.Author.Rules.{rules}
use Rattle.lexer.proofs.float.Ways.{exponent-beyond, fraction-beyond, both-down, exponent_more, fraction_more}
use Rattle.lexer.proofs.float.float_value.Goals as goal

ruleset ways = (exponent-beyond, fraction-beyond, both-down, exponent_more, fraction_more, rules)

pub returns-then-x-gt-LARGEST_TENS : goal.returns-then-x-gt-LARGEST_TENS
returns-then-x-gt-LARGEST_TENS c = search ways

pub returns-then-f-gt-LARGEST_TENS : goal.returns-then-f-gt-LARGEST_TENS
returns-then-f-gt-LARGEST_TENS c = search ways

pub returns-then-minus : goal.returns-then-minus
returns-then-minus c = search ways

pub returns-then-f-x : goal.returns-then-f-x
returns-then-f-x c = search ways

pub returns : goal.returns
returns c = search ways
