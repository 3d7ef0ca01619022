-- `reader::listing::Tokens::put_word` meets its contract. Assumes nothing.
use Prim.Native.Nat.{ℕ, ◌<◌}
use mathlib.Core.Path.{◌≡◌}
use mathlib.Core.List.{List}
use borrow.Author.Rules.{rules}
use lib.ListN.{length, get_or}
use Rattle.reader.specs.Listing.{spelling, word, put, put_before, SpanRoom, SpannedRoom}
use Rattle.reader.proofs.listing.Tokens.put_word.Goals as goal

module _ (s starts ends : List ℕ) (i j at room : ℕ) (h : SpannedRoom s starts ends i j at room) where
  first : i < length starts
  first = h.spanned.first

  last : j < length ends
  last = h.spanned.last

  module _ (from to : ℕ) (e : from ≡ get_or starts i 0) (f : to ≡ get_or ends j 0) where
    asks : SpanRoom s from to (spelling s from to) at room
    unfolding word
    asks = rw (e, f) (record { span = h.spanned.span; place = h.place })

module _ (s starts ends : List ℕ) (i j at : ℕ) (d : List ℕ) (from to : ℕ) (e : from ≡ get_or starts i 0) (f : to ≡ get_or ends j 0) where
  gives : (r : ℕ) (d' : List ℕ) → put r d' ≡ put_before (spelling s from to) at d → put r d' ≡ put_before (word s starts ends i j) at d
  unfolding word
  gives r d' h = cc

ruleset ways = (first, last, asks, gives, rules)

pub returns : goal.returns
returns c = search ways

pub put_spelling-requires : goal.put_spelling-requires
put_spelling-requires c = search ways
