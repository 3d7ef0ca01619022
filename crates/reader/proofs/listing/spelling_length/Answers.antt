-- `reader::listing::spelling_length` meets its contract. Assumes nothing.
use Prim.Native.Nat.{ℕ, ◌-◌, ◌<◌, ◌≤◌}
use mathlib.Core.Path.{◌≡◌, sym, ap, ◌∙◌}
use mathlib.Core.List.{List}
use native.Mathlib.Omega.{arith}
use borrow.Author.Rules.{rules}
use lib.ListN.{length, get_or}
use Rattle.lexer.specs.Chars.{comma}
use Rattle.reader.specs.Listing.{spelling, Span}
use Rattle.reader.proofs.Puts.{spelling-comma, spelling-part, part_length}
use Rattle.reader.proofs.listing.spelling_length.Goals as goal

module _ (s : List ℕ) (from to : ℕ) (h : Span s from to) where
  read : from < length s
  read = omega (arith, h.ordered, h.inside)

  ordered : from ≤ to
  ordered = omega (arith, h.ordered)

  as-comma : get_or s from 0 ≡ comma → 3 ≡ length (spelling s from to)
  as-comma e = ap length (sym (spelling-comma s from to e))

  as-part : (get_or s from 0 ≡ comma → ⊥) → to - from ≡ length (spelling s from to)
  as-part e = sym (ap length (spelling-part s from to e) ∙ part_length s from to h.inside)

ruleset ways = (read, ordered, as-comma, as-part, rules)

pub returns-then-text-from-eq44 : goal.returns-then-text-from-eq44
returns-then-text-from-eq44 c = search ways

pub returns : goal.returns
returns c = search ways
