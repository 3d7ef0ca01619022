-- `chunks::hand::read_at_once` meets its contract. Assumes nothing.
use borrow.Author.Rules.{rules}
use Rattle.chunks.proofs.Hands.{held_passable}
use Rattle.chunks.proofs.Quick.{brief_held, brief_more, brief_tells, brief_fits}
use Rattle.chunks.proofs.hand.read_at_once.Goals as goal

ruleset ways = (brief_held, held_passable, brief_more, brief_tells, brief_fits, rules)

pub returns-then-came_to : goal.returns-then-came_to
returns-then-came_to c = search ways

pub returns : goal.returns
returns c = search ways

pub judged-requires : goal.judged-requires
judged-requires c = search ways
