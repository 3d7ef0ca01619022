-- `chunks::delivery::take_chunk` meets its contract. Assumes nothing.
use borrow.Author.Rules.{rules}
use Rattle.chunks.proofs.Feeds.{take-some, take-takes, take_end, take-to, take_windowed, take_leaves}
use Rattle.chunks.proofs.delivery.take_chunk.Goals as goal

ruleset ways = (take-some, take-takes, take_end, take-to, take_windowed, take_leaves, rules)

pub returns : goal.returns
returns c = search ways

pub read_window-requires : goal.read_window-requires
read_window-requires c = search ways
