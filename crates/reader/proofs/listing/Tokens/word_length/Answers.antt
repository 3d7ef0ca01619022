-- `reader::listing::Tokens::word_length` meets its contract. Assumes nothing.
use Prim.Native.Nat.{ℕ, ◌<◌}
use mathlib.Core.Path.{◌≡◌}
use mathlib.Core.List.{List}
use borrow.Author.Rules.{rules}
use lib.ListN.{length, get_or}
use Rattle.reader.specs.Listing.{spelling, word, Span, Spanned}
use Rattle.reader.proofs.listing.Tokens.word_length.Goals as goal

module _ (s starts ends : List ℕ) (i j : ℕ) (h : Spanned s starts ends i j) where
  first : i < length starts
  first = h.first

  last : j < length ends
  last = h.last

  module _ (from to : ℕ) (e : from ≡ get_or starts i 0) (f : to ≡ get_or ends j 0) where
    asks : Span s from to
    asks = rw (e, f) h.span

module _ (s starts ends : List ℕ) (i j from to : ℕ) (e : from ≡ get_or starts i 0) (f : to ≡ get_or ends j 0) where
  gives : (r : ℕ) → r ≡ length (spelling s from to) → r ≡ length (word s starts ends i j)
  unfolding word
  gives r h = cc

ruleset ways = (first, last, asks, gives, rules)

pub returns : goal.returns
returns c = search ways
