-- `lexer::float::scaled` meets its contract. Assumes nothing.
use borrow.Author.Rules.{rules}
use lib.Dec.{le→leb}
use lib.Ieee.{round, of_bits}
use Rattle.lexer.proofs.float.Tens.{powers}
use Rattle.lexer.proofs.float.Ways.{goes_up, goes_down}
use Rattle.lexer.proofs.float.scaled.Goals as goal

ruleset ways = (goes_up, goes_down, le→leb, rules)

pub returns-then-up : goal.returns-then-up
unfolding powers round of_bits
returns-then-up c = search ways

pub returns-else-up : goal.returns-else-up
unfolding powers round of_bits
returns-else-up c = search ways
