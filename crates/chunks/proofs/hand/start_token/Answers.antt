-- `chunks::hand::start_token` meets its contract. Assumes nothing.
use borrow.Author.Rules.{rules}
use Rattle.chunks.proofs.Hands.{start-inside, start_fits, start_tells}
use Rattle.chunks.proofs.hand.start_token.Goals as goal

ruleset ways = (start-inside, start_fits, start_tells, rules)

pub returns : goal.returns
returns c = search ways

pub judged-requires : goal.judged-requires
judged-requires c = search ways
