-- The functions put_term and put_terms, which call one another, meet their contracts. Assumes nothing.
use Prim.Native.Nat.{ℕ, ◌+◌, ◌-◌, ◌*◌, ◌<◌}
use mathlib.Core.Path.{◌≡◌}
use mathlib.Core.List.{List}
use native.Mathlib.Omega.{arith}
use borrow.Author.Rules.{rules}
use lib.ListN.{length}
use Rattle.reader.specs.Listing.{SomeTerm, SomeTerms, TermPut}
use Rattle.reader.specs.declared.listing.Before.{Before}
use Rattle.reader.proofs.Walks.{rooted, some_node, back_room, none-put, one-put, last_asks, fewer}
use Rattle.reader.proofs.Prefixes.{inside_low, children_asks, left_low, front_asks, term_there, separator_low, char_asks, place_low, others_ask, terms_there, same_length}
use Rattle.reader.proofs.listing.+put_term_put_terms.Goals as goal

module _ (s starts ends ms : List ℕ) (nodes at : ℕ) (d : List ℕ) (o : SomeTerm s starts ends ms nodes at (length d)) where
  children_fewer : (t : ℕ) → nodes * 2 ≡ t → (nodes - 1) * 2 + 1 < t
  children_fewer t e = omega (arith, some_node s starts ends ms nodes at d o)

last_fewer : (nodes t : ℕ) → nodes * 2 + 1 ≡ t → nodes * 2 < t
last_fewer nodes t e = omega arith

module _ (s starts ends ms : List ℕ) (nodes at count c : ℕ) (d : List ℕ) (o : SomeTerms s starts ends ms nodes at count c (length d)) where
  rest_fewer : (count ≡ 0 → ⊥) → (left : Before) (d₁ : List ℕ) → TermPut s starts ends ms nodes at d left d₁ → (t : ℕ) → nodes * 2 + 1 ≡ t → left.nodes * 2 + 1 < t
  rest_fewer h left d₁ q t e = omega (arith, fewer s starts ends ms nodes at count c d o h left d₁ q)

ruleset ways = (rooted, some_node, back_room, inside_low, children_asks, left_low, front_asks, term_there, none-put, one-put, terms_there, last_asks, separator_low, char_asks, place_low, others_ask, same_length, children_fewer, last_fewer, rest_fewer, rules)

pub put_term-root_of-root-requires : goal.put_term-root_of-root-requires
put_term-root_of-root-requires t c = search ways

pub put_term-put_back-inside-requires : goal.put_term-put_back-inside-requires
put_term-put_back-inside-requires t c = search ways

pub put_term-overflow_sub-nodes : goal.put_term-overflow_sub-nodes
put_term-overflow_sub-nodes t c = search ways

pub put_term-put_terms-left-requires : goal.put_term-put_terms-left-requires
put_term-put_terms-left-requires t c = search ways

pub put_term-put_front-requires : goal.put_term-put_front-requires
put_term-put_front-requires t c = search ways

pub put_term-returns : goal.put_term-returns
put_term-returns t c = search ways

pub put_terms-returns-then-count-eq0 : goal.put_terms-returns-then-count-eq0
put_terms-returns-then-count-eq0 t c = search ways

pub put_terms-put_term-left-requires : goal.put_terms-put_term-left-requires
put_terms-put_term-left-requires t c = search ways

pub put_terms-returns-then-count-eq1 : goal.put_terms-returns-then-count-eq1
put_terms-returns-then-count-eq1 t c = search ways

pub put_terms-put_char-place-requires : goal.put_terms-put_char-place-requires
put_terms-put_char-place-requires t c = search ways

pub put_terms-put_terms-requires : goal.put_terms-put_terms-requires
put_terms-put_terms-requires t c = search ways

pub put_terms-returns : goal.put_terms-returns
put_terms-returns t c = search ways

pub put_term-slice_bounds-put_terms-end : goal.put_term-slice_bounds-put_terms-end
put_term-slice_bounds-put_terms-end t c = search ways

pub put_term-slice_bounds-put_terms-end-2 : goal.put_term-slice_bounds-put_terms-end-2
put_term-slice_bounds-put_terms-end-2 t c = search ways

pub put_term-slice_bounds-put_front-end : goal.put_term-slice_bounds-put_front-end
put_term-slice_bounds-put_front-end t c = search ways

pub put_term-slice_bounds-put_front-end-2 : goal.put_term-slice_bounds-put_front-end-2
put_term-slice_bounds-put_front-end-2 t c = search ways

pub put_terms-slice_bounds-put_char-end : goal.put_terms-slice_bounds-put_char-end
put_terms-slice_bounds-put_char-end t c = search ways

pub put_terms-slice_bounds-put_char-end-2 : goal.put_terms-slice_bounds-put_char-end-2
put_terms-slice_bounds-put_char-end-2 t c = search ways

pub put_terms-slice_bounds-put_terms-end : goal.put_terms-slice_bounds-put_terms-end
put_terms-slice_bounds-put_terms-end t c = search ways

pub put_terms-slice_bounds-put_terms-end-2 : goal.put_terms-slice_bounds-put_terms-end-2
put_terms-slice_bounds-put_terms-end-2 t c = search ways
