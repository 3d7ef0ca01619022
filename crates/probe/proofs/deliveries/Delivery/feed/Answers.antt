-- `feed` is safe: a call takes no more bytes than the chunk has left. Assumes nothing.
use Rattle.probe.proofs.Taken.{takes-at_most}
use borrow.Author.Rules.{rules}
use Rattle.probe.proofs.deliveries.Delivery.feed.Goals as goal

pub slice_bounds-left-start : goal.slice_bounds-left-start
slice_bounds-left-start c = search (takes-at_most, rules)

pub slice_bounds-left-count : goal.slice_bounds-left-count
slice_bounds-left-count c = search (takes-at_most, rules)
