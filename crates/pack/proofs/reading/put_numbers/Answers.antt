use borrow.Author.Rules.{rules}
use Rattle.pack.proofs.reading.put_numbers.Invariants.{begin, ended, inside, put_asked, again}
use Rattle.pack.proofs.reading.put_numbers.Goals as goal

ruleset ways = (begin, ended, inside, put_asked, again, rules)

pub loop-i-preserved : goal.loop-i-preserved
loop-i-preserved c = search ways

pub returns : goal.returns
returns c = search ways

pub head_at-head-requires : goal.head_at-head-requires
head_at-head-requires c = search ways
