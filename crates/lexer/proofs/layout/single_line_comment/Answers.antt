use borrow.Author.Rules.{rules}
use Rattle.lexer.proofs.layout.single_line_comment.Invariants.{can_skip_along, ended, foreign, can_skip, closed, more, less}
use Rattle.lexer.proofs.layout.single_line_comment.Goals as goal

ruleset ways = (can_skip_along, ended, foreign, can_skip, closed, more, less, rules)

pub returns-in-End : goal.returns-in-End
returns-in-End c = search ways

pub returns-in-Foreign : goal.returns-in-Foreign
returns-in-Foreign c = search ways

pub returns-then-b-eq10 : goal.returns-then-b-eq10
returns-then-b-eq10 c = search ways

pub loop-b-preserved : goal.loop-b-preserved
loop-b-preserved c = search ways

pub skip_along-c-requires : goal.skip_along-c-requires
skip_along-c-requires c = search ways

pub skip_char-c-requires : goal.skip_char-c-requires
skip_char-c-requires c = search ways

pub loop-b-smaller : goal.loop-b-smaller
loop-b-smaller c = search ways
