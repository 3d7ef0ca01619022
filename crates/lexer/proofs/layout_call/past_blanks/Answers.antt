use borrow.Author.Rules.{rules}
use Rattle.lexer.proofs.layout_call.past_blanks.Invariants.{begins, ended, can_skip, stops, on}
use Rattle.lexer.proofs.layout_call.past_blanks.Goals as goal

ruleset ways = (begins, ended, can_skip, stops, on, rules)

pub returns-then-not-is_layout : goal.returns-then-not-is_layout
returns-then-not-is_layout c = search ways

pub loop-at-preserved : goal.loop-at-preserved
loop-at-preserved c = search ways

pub returns : goal.returns
returns c = search ways
