-- `pack::writing::weigh` meets its contract. The invariant: the weight from the start is the weight from here. Assumes nothing.
use Prim.Native.Nat.{ℕ, ◌+◌, ◌-◌, ◌*◌, ◌<◌, ◌≤◌}
use mathlib.Core.Path.{◌≡◌, refl, sym, ◌∙◌, subst}
use mathlib.Core.List.{List}
use native.Mathlib.Omega.{arith}
use borrow.Author.Tests.{le-leb, lt-leb, eq-eqb, ne_eqb}
use lib.ListN.{length, drop}
use Rattle.pack.specs.Node.{most, most_nodes}
use Rattle.pack.specs.Passes.{Inside, GivenAt, weighed, Weighing}
use Rattle.pack.specs.declared.nodes.Given.{Given}
use Rattle.std.specs.declared.option.Option.TheVariants.{Some, None}
use Rattle.pack.proofs.Basics.{subst-two}
use Rattle.std.specs.declared.option.Option.{Option}
use Rattle.pack.specs.Kinds.{stack}
use Rattle.pack.proofs.Stacks.{stack_off, stands}
use Rattle.pack.proofs.Weighing.{weigh_node, weigh_end}
use Rattle.pack.proofs.writing.weigh.Given as goal

pub record Inv (bytes ns : List ℕ) (count left place trees size : ℕ) : Type 0 where
  pub same : weighed bytes count 0 0 ns ≡ weighed bytes left trees size (drop place ns)
  pub inside : place + 4 * left ≤ length ns
  pub bound : trees + left ≤ most_nodes
  pub light : size + left * 65540 ≤ 67047420

-- when so many are done
abbrev pub At : (bytes ns : List ℕ) (count done trees size : ℕ) → Type 0
At bytes ns count done trees size = Inv bytes ns count (count - done) (4 * done) trees size

pub begin : (bytes ns : List ℕ) (count : ℕ) → Weighing ns count → At bytes ns count 0 0 0
begin bytes ns count h =
    let k : count ≡ count - 0 = omega arith in
    subst (λ (n : ℕ). Inv bytes ns count n 0 0 0) k
    (record { same = refl; inside = omega (arith, h.inside); bound = omega (arith, h.few); light = omega (arith, h.few) })

module _ (bytes ns : List ℕ) (count done trees size : ℕ) (v : At bytes ns count done trees size) where
  abbrev left : ℕ
  left = count - done

  abbrev place : ℕ
  place = 4 * done

  module _ (o : done < count) where
    h : 0 < left
    h = omega arith

    pub four : place + 4 ≤ length ns
    four = omega (arith, v.inside)

    pub four-inside : Inside ns place 4
    four-inside = record { inside = four }

    module _ (r : Given) (g : GivenAt ns place r) where
      pub heavy : most < r.size → None ≡ weighed bytes count 0 0 ns
      heavy l = sym (v.same ∙ weigh_node bytes ns place left trees size h four r g ∙ cc (lt-leb r.size most l))

      module _ (l : r.size ≤ most) where
        pub outside : length bytes < r.start + r.size → None ≡ weighed bytes count 0 0 ns
        outside m =
            sym (v.same ∙ weigh_node bytes ns place left trees size h four r g ∙ cc (le-leb r.size most l, lt-leb (r.start + r.size) (length bytes) m))

        module _ (m : r.start + r.size ≤ length bytes) (x : Option ℕ) (p : x ≡ stack trees r.kind r.arity) where
          pub off : x ≡ None → None ≡ weighed bytes count 0 0 ns
          off q =
              let t = weighed bytes (left - 1) (trees - r.arity + 1) (size + 5 + r.size) (drop (place + 4) ns) in
              sym
              (v.same ∙ weigh_node bytes ns place left trees size h four r g
              ∙ cc (le-leb r.size most l, le-leb (r.start + r.size) (length bytes) m, stack_off t None trees r.kind r.arity (sym p ∙ q)))

          pub again : (next : ℕ) → x ≡ Some next → At bytes ns count (done + 1) next (size + 5 + r.size)
          again next q =
              let k : left - 1 ≡ count - (done + 1) = omega arith in
              let w : place + 4 ≡ 4 * (done + 1) = omega arith in
              let z = stands trees r.kind r.arity next (sym p ∙ q) in
              subst-two (λ (n f : ℕ). Inv bytes ns count n f next (size + 5 + r.size)) k w
              (record {
                same =
                    v.same ∙ weigh_node bytes ns place left trees size h four r g
                    ∙ cc (le-leb r.size most l, le-leb (r.start + r.size) (length bytes) m, z.can, le-leb r.arity trees z.few, z.same);
                inside = omega (arith, v.inside);
                bound = omega (arith, v.bound, z.same, z.few);
                light = omega (arith, v.light);
              })

  module _ (o : count ≤ done) where
    none : left ≤ 0
    none = omega arith

    pub one_tree : trees ≡ 1 → Some size ≡ weighed bytes count 0 0 ns
    one_tree e = sym (v.same ∙ weigh_end bytes ns place left trees size none ∙ cc (eq-eqb trees 1 e))

    pub not-one : (trees ≡ 1 → ⊥) → None ≡ weighed bytes count 0 0 ns
    not-one e = sym (v.same ∙ weigh_end bytes ns place left trees size none ∙ cc (ne_eqb trees 1 e))

abbrev pub invariant-loop-i : goal.invariant-loop-i
invariant-loop-i l = At l.bytes l.nodes l.count l.i l.trees l.size
