use borrow.Author.Rules.{rules}
use Rattle.reader.proofs.machine.reduce.Invariants.{begin, ended, bracket, stays-prefix, stays-infix, goes-prefix, goes-infix}
use Rattle.reader.proofs.machine.reduce.Goals.{in-Prefix, in-Infix}
use Rattle.reader.proofs.machine.reduce.Goals as goal

ruleset ways = (begin, ended, bracket, rules)

pub returns-in_default : goal.returns-in_default
returns-in_default c = search ways

pub returns-then-bound-priority : goal.returns-then-bound-priority
returns-then-bound-priority c = elim c.match-tag_of.branch [
  | in-Prefix w ↦ search (stays-prefix, ways)
  | in-Infix w ↦ search (stays-infix, ways)
]

pub loop-depth-preserved : goal.loop-depth-preserved
loop-depth-preserved c = elim c.match-tag_of.branch [
  | in-Prefix w ↦ search (goes-prefix, ways)
  | in-Infix w ↦ search (goes-infix, ways)
]

pub returns : goal.returns
returns c = search ways
