use borrow.Author.Rules.{rules}
use Rattle.lexer.proofs.layout.comment_text.Invariants.{started, can_skip_along, ended, foreign, can_skip, other, less, starred, linked, can_skip_behind, less_behind, less_outer, stars, ended-behind, foreign_behind, closed, other_behind}
use Rattle.lexer.proofs.layout.comment_text.Goals as goal

ruleset ways = (started, can_skip_along, ended, foreign, can_skip, other, less, starred, linked, ended-behind, foreign_behind, can_skip_behind, closed, less_behind, less_outer, stars, other_behind, rules)

pub returns-in-End : goal.returns-in-End
returns-in-End c = search ways

pub returns-in-Foreign : goal.returns-in-Foreign
returns-in-Foreign c = search ways

pub loop-d-init : goal.loop-d-init
loop-d-init c = search ways

pub returns-in-End-peek_char : goal.returns-in-End-peek_char
returns-in-End-peek_char c = search ways

pub returns-in-Foreign-peek_char : goal.returns-in-Foreign-peek_char
returns-in-Foreign-peek_char c = search ways

pub loop-d-preserved : goal.loop-d-preserved
loop-d-preserved c = search ways

pub comment-preserved : goal.comment-preserved
comment-preserved c = search ways

pub returns : goal.returns
returns c = search ways

pub skip_along-c-requires : goal.skip_along-c-requires
skip_along-c-requires c = search ways

pub skip_char-c-requires : goal.skip_char-c-requires
skip_char-c-requires c = search ways

pub skip_char-c-requires-in-Byte-peek_char : goal.skip_char-c-requires-in-Byte-peek_char
skip_char-c-requires-in-Byte-peek_char c = search ways

pub comment-preserved-then-d-ne42 : goal.comment-preserved-then-d-ne42
comment-preserved-then-d-ne42 c = search ways

pub loop-d-smaller : goal.loop-d-smaller
loop-d-smaller c = search ways

pub comment-smaller : goal.comment-smaller
comment-smaller c = search ways
