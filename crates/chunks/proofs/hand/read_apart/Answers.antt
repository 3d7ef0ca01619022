-- `chunks::hand::read_apart` meets its contract. Assumes nothing.
use borrow.Author.Rules.{rules}
use Rattle.chunks.proofs.Hands.{held_passable, held_starts, held_starts_tells, held_waits_tells, held-stops_tells}
use Rattle.chunks.proofs.hand.read_apart.Goals as goal

ruleset ways = (held_passable, held_starts, held_starts_tells, held_waits_tells, held-stops_tells, rules)

pub returns-in-Waits : goal.returns-in-Waits
returns-in-Waits c = search ways

pub returns-in-Stops : goal.returns-in-Stops
returns-in-Stops c = search ways

pub start_token-requires : goal.start_token-requires
start_token-requires c = search ways
