use borrow.Author.Rules.{rules}
use Rattle.reader.proofs.line_call.span_tokens.Invariants.{begin, starts_kept, ends_kept, full, start_there, end_there, halted, start-fits, end-fits, ended, again}
use Rattle.reader.proofs.line_call.span_tokens.Goals as goal

ruleset ways = (begin, starts_kept, ends_kept, full, start_there, end_there, halted, start-fits, end-fits, ended, again, rules)

pub loop-i-init : goal.loop-i-init
loop-i-init c = search ways

pub returns-in-Err : goal.returns-in-Err
returns-in-Err c = search ways

pub returns-then-is_end : goal.returns-then-is_end
returns-then-is_end c = search ways

pub loop-i-preserved : goal.loop-i-preserved
loop-i-preserved c = search ways

pub returns : goal.returns
returns c = search ways

pub overflow_cast-starts : goal.overflow_cast-starts
overflow_cast-starts c = search ways

pub overflow_cast-ends : goal.overflow_cast-ends
overflow_cast-ends c = search ways
