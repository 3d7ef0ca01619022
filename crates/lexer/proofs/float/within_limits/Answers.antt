-- `lexer::float::within_limits` meets its contract. Assumes nothing.
use borrow.Author.Rules.{rules}
use Rattle.lexer.proofs.float.Values.{many_digits, many_tens}
use Rattle.lexer.proofs.float.Ways.{value-inside}
use Rattle.lexer.proofs.float.within_limits.Goals as goal

ruleset ways = (many_digits, many_tens, value-inside, rules)

pub returns-then-m-gt-LARGEST_DIGITS : goal.returns-then-m-gt-LARGEST_DIGITS
returns-then-m-gt-LARGEST_DIGITS c = search ways

pub returns-then-k-gt-LARGEST_TENS : goal.returns-then-k-gt-LARGEST_TENS
returns-then-k-gt-LARGEST_TENS c = search ways

pub returns : goal.returns
returns c = search ways
