-- A term's children have one node less before them, and each of them leaves fewer, so the measures are twice the nodes for a term, and one more for several.
use Prim.Native.Nat.{◌+◌, ◌*◌}
use Rattle.reader.proofs.listing.+put_term_put_terms.Given as goal

abbrev pub decreases-put_term : goal.decreases-put_term
decreases-put_term l = l.nodes * 2

abbrev pub decreases-put_terms : goal.decreases-put_terms
decreases-put_terms l = l.nodes * 2 + 1
