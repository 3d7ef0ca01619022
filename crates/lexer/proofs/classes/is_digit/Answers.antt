-- `lexer::classes::is_digit` meets its contract. Assumes nothing.
use borrow.Author.Rules.{rules}
use Rattle.lexer.specs.Chars.{class_of, is, decimal_digit, digit_zero, digit_nine}
use Rattle.lexer.proofs.Sets.{in-range}
use Rattle.lexer.proofs.classes.is_digit.Goals as goal

pub returns : goal.returns
unfolding class_of
returns c = search (in-range (is decimal_digit) digit_zero digit_nine, rules)
