use borrow.Author.Rules.{rules}
use Rattle.lexer.proofs.HandedOn.{handed_on}
use Rattle.lexer.proofs.Layouts.{later_here}
use Rattle.lexer.proofs.layout.scan_for_layout.Invariants.{can_skip, there, refused, none, more, less}
use Rattle.lexer.proofs.layout.scan_for_layout.Goals as goal

ruleset ways = (handed_on, later_here, can_skip, there, refused, none, more, less, rules)

pub skip_along-c-requires : goal.skip_along-c-requires
skip_along-c-requires c = search ways

pub consume_layout-requires : goal.consume_layout-requires
consume_layout-requires c = search ways

pub returns-in_err-consume_layout : goal.returns-in_err-consume_layout
returns-in_err-consume_layout c = search (ways, c.in_err-consume_layout.was)

pub returns-in-None : goal.returns-in-None
returns-in-None c = search ways

pub loop-next-smaller : goal.loop-next-smaller
loop-next-smaller c = search ways

pub loop-next-preserved : goal.loop-next-preserved
loop-next-preserved c = search (ways, c.in_ok-consume_layout.was)
