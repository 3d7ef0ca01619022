-- `chunks::delivery::read_window` meets its contract. Assumes nothing.
use borrow.Author.Rules.{rules}
use Rattle.chunks.proofs.Feeds.{window_some, window_sum, window_one, window_start, window_end, window_last, window_held, window_behind, window_gave}
use Rattle.chunks.proofs.delivery.read_window.Goals as goal

ruleset ways = (window_some, window_sum, window_one, window_start, window_end, window_last, window_held, window_behind, window_gave, rules)

pub returns : goal.returns
returns c = search ways

pub fed_by-requires : goal.fed_by-requires
fed_by-requires c = search ways
