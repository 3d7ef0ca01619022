use borrow.Author.Rules.{rules}
use Rattle.lexer.proofs.digits.read_digits.Invariants.{start, based, ended, stopped, one_digit, more}
use Rattle.lexer.proofs.digits.read_digits.Goals as goal

ruleset ways = (start, based, ended, stopped, one_digit, more, rules)

pub returns-then-base-d : goal.returns-then-base-d
returns-then-base-d c = search ways

pub loop-at-preserved : goal.loop-at-preserved
loop-at-preserved c = search ways

pub returns : goal.returns
returns c = search (ways, c.loop-at.auto.at-end)
