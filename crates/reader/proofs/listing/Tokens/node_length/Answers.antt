-- `reader::listing::Tokens::node_length` meets its contract. Assumes nothing.
use Prim.Native.Nat.{ℕ, ◌+◌, ◌-◌, ◌/◌, ◌%◌}
use mathlib.Core.Path.{◌≡◌}
use mathlib.Core.List.{List}
use native.Mathlib.Omega.{arith}
use borrow.Author.Rules.{rules}
use mir.Syntax.{w64}
use mir.Val.{Fits}
use lib.ListN.{length}
use Rattle.reader.specs.Listing.{kind_of, shape_of, shape_at, word, front, back, own, Node}
use Rattle.reader.proofs.Puts.{front-short, back-short}
use Rattle.reader.specs.declared.listing.Shape.{Shape}
use Rattle.reader.proofs.listing.Tokens.node_length.Goals as goal

module _ (s starts ends : List ℕ) (token packed : ℕ) (x : Shape) (e : x ≡ shape_of (kind_of (packed / 1024))) where
  module _ (h : Node s starts ends (shape_at packed) token) (i : ℕ) (f : i ≡ token) where
    asks : Node s starts ends x i
    asks = rw (e, f) h

    module _ (n : ℕ) (g : n ≡ length (front (word s starts ends) x i)) (a m : ℕ) (j : a ≡ packed % 1024) (k : m ≡ a - 1) where
      fits : Fits w64 (n + m)
      fits = record { fits = omega (arith, front-short s starts ends x i asks) }

      fits_all : (b : ℕ) → b ≡ length (back x) → Fits w64 (n + m + b)
      fits_all b l = record { fits = omega (arith, front-short s starts ends x i asks, back-short x) }

  whole : (i n a m b : ℕ) → i ≡ token → n ≡ length (front (word s starts ends) x i) → a ≡ packed % 1024 → m ≡ a - 1 → b ≡ length (back x) → n + m + b ≡ own (word s starts ends) token packed
  unfolding own
  whole i n a m b f g j k l = cc

ruleset ways = (asks, fits, fits_all, whole, rules)

pub returns : goal.returns
returns c = search ways

pub overflow_add-result : goal.overflow_add-result
overflow_add-result c = search ways

pub overflow_add-result-2 : goal.overflow_add-result-2
overflow_add-result-2 c = search ways
