use borrow.Author.Rules.{rules}
use lib.Seq.{length_front}
use Rattle.listing.proofs.list_text.Invariants.{nearer, begin, under, lent, kept, fits, placed_again, ended, read_on}
use Rattle.listing.proofs.list_text.Goals as goal

ruleset ways = (begin, under, lent, kept, fits, placed_again, ended, read_on, nearer, length_front, rules)

pub returns-in-Err : goal.returns-in-Err
returns-in-Err c = search ways

pub loop-refused-preserved : goal.loop-refused-preserved
loop-refused-preserved c = record { placed = search ways; behind = search ways }

pub loop-refused-smaller : goal.loop-refused-smaller
loop-refused-smaller c = search ways
