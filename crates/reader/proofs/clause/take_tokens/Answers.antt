use borrow.Author.Rules.{rules}
use Rattle.reader.proofs.clause.take_tokens.Invariants.{started, pauses, room, stops, read_there, ends, again}
use Rattle.reader.proofs.clause.take_tokens.Goals as goal

ruleset ways = (started, pauses, room, stops, read_there, ends, again, rules)

pub returns-in-Err : goal.returns-in-Err
returns-in-Err c = search ways

pub returns-then-is_end : goal.returns-then-is_end
returns-then-is_end c = search ways

pub loop-index-preserved : goal.loop-index-preserved
loop-index-preserved c = search ways

pub returns : goal.returns
returns c = search ways

pub step-mode-requires : goal.step-mode-requires
step-mode-requires c = search ways
