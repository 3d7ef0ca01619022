-- `reader::listing::put_part` meets its contract. Assumes nothing.
use borrow.Author.Rules.{rules}
use Rattle.reader.proofs.Puts.{copied, part_length}
use Rattle.reader.proofs.listing.put_part.Goals as goal

ruleset ways = (copied, part_length, rules)

pub returns : goal.returns
returns c = search ways
