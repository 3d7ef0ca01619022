-- `pack::reading::count_nodes` meets its contract. Assumes nothing.
use Prim.Native.Nat.{ℕ, ◌+◌, ◌-◌, ◌<◌, ◌≤◌}
use mathlib.Core.Path.{◌≡◌, sym, ◌∙◌}
use mathlib.Core.Bool.{Bool, true, false}
use mathlib.Core.List.{List}
use native.Mathlib.Omega.{arith}
use borrow.Author.Rules.{rules}
use borrow.Author.Tests.{le-leb, lt-leb, eq-eqb, ne_eqb}
use lib.ListN.{length, drop}
use Rattle.pack.specs.Node.{most_nodes}
use Rattle.pack.specs.Passes.{Inside, Word, word_at, scanned, Scanning, counted, Skips}
use Rattle.std.specs.declared.option.Option.TheVariants.{Some, None}
use Rattle.pack.proofs.reading.count_nodes.Goals as goal

module _ (s : List ℕ) (skip : ℕ) (h : Skips skip) where
  short : length s < skip + 5 → None ≡ counted skip s
  unfolding counted
  short f = cc (lt-leb (skip + 5) (length s) f)

  module _ (f : skip + 5 ≤ length s) where
    size-inside : Inside s 1 2
    size-inside = record { inside = omega arith }

    count-inside : Inside s (skip + 3) 2
    count-inside = record { inside = omega arith }

    module _ (r : ℕ) (w : Word s 1 r) where
      other_size : (r ≡ length s - 3 → ⊥) → None ≡ counted skip s
      unfolding counted
      other_size g = cc (le-leb (skip + 5) (length s) f, ne_eqb (word_at s 1) (length s - 3) (λ e. g (w.same ∙ e)))

      module _ (g : r ≡ length s - 3) (n : ℕ) (x : Word s (skip + 3) n) where
        many : 1023 < n → None ≡ counted skip s
        unfolding counted
        many l =
            cc
            (le-leb (skip + 5) (length s) f, eq-eqb (word_at s 1) (length s - 3) (sym w.same ∙ g), lt-leb n most_nodes l, x.same)

        module _ (l : n ≤ 1023) where
          scanning : Scanning s (skip + 5) n
          scanning = record { inside = f; few = l }

          module _ (b : Bool) (e : b ≡ scanned n 0 (drop (skip + 5) s)) where
            some-nodes : b ≡ true → Some n ≡ counted skip s
            unfolding counted
            some-nodes t =
                cc
                (le-leb (skip + 5) (length s) f, eq-eqb (word_at s 1) (length s - 3) (sym w.same ∙ g), le-leb n most_nodes l, x.same)

            no-tree : b ≡ false → None ≡ counted skip s
            unfolding counted
            no-tree t =
                cc
                (le-leb (skip + 5) (length s) f, eq-eqb (word_at s 1) (length s - 3) (sym w.same ∙ g), le-leb n most_nodes l, x.same)

ruleset ways = (short, size-inside, count-inside, other_size, many, scanning, some-nodes, no-tree, rules)

pub returns-then-s-skip : goal.returns-then-s-skip
returns-then-s-skip c = search ways

pub returns-then-word_at-s : goal.returns-then-word_at-s
returns-then-word_at-s c = search ways

pub returns-then-count-gt-MOST_NODES : goal.returns-then-count-gt-MOST_NODES
returns-then-count-gt-MOST_NODES c = search ways

pub returns-then-scan : goal.returns-then-scan
returns-then-scan c = search ways

pub returns : goal.returns
returns c = search ways
