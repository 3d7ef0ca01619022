-- `lexer::classes::is_small` meets its contract. Assumes nothing.
use borrow.Author.Rules.{rules}
use Rattle.lexer.specs.Chars.{class_of, is, small_letter, small_a, small_z}
use Rattle.lexer.proofs.Sets.{in-range}
use Rattle.lexer.proofs.classes.is_small.Goals as goal

pub returns : goal.returns
unfolding class_of
returns c = search (in-range (is small_letter) small_a small_z, rules)
