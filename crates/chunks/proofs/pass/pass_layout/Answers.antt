use borrow.Author.Rules.{rules}
use Rattle.chunks.proofs.pass.pass_layout.Invariants.{able, begun, here, run-ahead, run_inside, run_able, run-on, run_less, stops, ended}
use Rattle.chunks.proofs.pass.pass_layout.Goals as goal

ruleset ways = (begun, here, able, run-ahead, run_inside, run_able, run-on, run_less, stops, ended, rules)

pub loop-at-preserved : goal.loop-at-preserved
loop-at-preserved c = search ways

pub returns-in-Err : goal.returns-in-Err
returns-in-Err c = search ways

pub returns : goal.returns
returns c = search ways

pub overflow_sub-end : goal.overflow_sub-end
overflow_sub-end c = search ways

pub past_plain-c-requires : goal.past_plain-c-requires
past_plain-c-requires c = search ways

pub loop-at-smaller : goal.loop-at-smaller
loop-at-smaller c = search ways
