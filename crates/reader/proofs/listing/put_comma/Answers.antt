-- `reader::listing::put_comma` meets its contract. Assumes nothing.
use borrow.Author.Rules.{rules}
use Rattle.reader.proofs.Puts.{copied}
use Rattle.reader.proofs.listing.put_comma.Goals as goal

ruleset ways = (copied, rules)

pub returns : goal.returns
returns c = search ways
