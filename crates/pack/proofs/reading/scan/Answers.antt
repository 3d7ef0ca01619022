use borrow.Author.Rules.{rules}
use Rattle.pack.proofs.reading.scan.Invariants.{begin, five_inside, short, long, off, again, over, ended}
use Rattle.pack.proofs.reading.scan.Goals as goal

ruleset ways = (begin, five_inside, short, long, off, again, over, ended, rules)

pub returns-then-s-at-lt-FRONT : goal.returns-then-s-at-lt-FRONT
returns-then-s-at-lt-FRONT c = search ways

pub returns-then-s-at : goal.returns-then-s-at
returns-then-s-at c = search ways

pub returns-in_default : goal.returns-in_default
returns-in_default c = search ways

pub loop-preserved : goal.loop-preserved
loop-preserved c = search ways

pub returns-then-at-s : goal.returns-then-at-s
returns-then-at-s c = search ways

pub returns : goal.returns
returns c = search ways
