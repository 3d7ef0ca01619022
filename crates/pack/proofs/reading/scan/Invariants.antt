-- `pack::reading::scan` meets its contract. The invariant: the scan from the start is the scan from here. Assumes nothing.
use Prim.Native.Nat.{ℕ, ◌+◌, ◌-◌, ◌<◌, ◌≤◌}
use mathlib.Core.Path.{◌≡◌, sym, ◌∙◌, ap}
use mathlib.Core.Bool.{false, cond}
use mathlib.Core.List.{List}
use native.Mathlib.Omega.{arith}
use borrow.Author.Tests.{le-leb, lt-leb}
use lib.Dec.{eqb, leb}
use lib.ListN.{length, drop}
use Rattle.pack.specs.Node.{can_have, most_nodes}
use Rattle.pack.specs.Passes.{Inside, Headed, scanned, Scanning}
use Rattle.pack.specs.declared.reading.Head.{Head}
use Rattle.std.specs.declared.option.Option.{Option}
use Rattle.std.specs.declared.option.Option.TheVariants.{Some, None}
use Rattle.pack.specs.Kinds.{stack}
use Rattle.pack.proofs.Stacks.{stack_off, stands}
use Rattle.pack.proofs.Scanned.{scan-short, scan_node, scan_end, scan-over}
use Rattle.pack.proofs.reading.scan.Given as goal

-- of the nodes so many are done
pub record Inv (s : List ℕ) (from count at done trees : ℕ) : Type 0 where
  pub same : scanned count 0 (drop from s) ≡ scanned (count - done) trees (drop at s)
  pub inside : at ≤ length s
  pub bound : trees + (count - done) ≤ most_nodes

pub begin : (s : List ℕ) (from count : ℕ) → Scanning s from count → Inv s from count from 0 0
begin s from count h =
    record { same = ap (λ (n : ℕ). scanned n 0 (drop from s)) (omega arith); inside = h.inside; bound = omega (arith, h.few) }

module _ (s : List ℕ) (from count at done trees : ℕ) (v : Inv s from count at done trees) where
  abbrev left : ℕ
  left = count - done

  module _ (o : done < count) where
    h : 0 < left
    h = omega arith

    pub five_inside : (5 ≤ length s - at) → Inside s at 5
    five_inside f = record { inside = omega (arith, v.inside) }

    pub short : length s - at < 5 → false ≡ scanned count 0 (drop from s)
    short f = sym (v.same ∙ scan-short s at left trees h (omega arith))

    module _ (f : 5 ≤ length s - at) (r : Head) (g : Headed s at r) where
      pub node : scanned left trees (drop at s)
          ≡ cond (leb r.size (length s - at - 5))
          (cond (can_have r.kind r.arity)
          (cond (leb r.arity trees) (scanned (left - 1) (trees - r.arity + 1) (drop (at + 5 + r.size) s)) false) false) false
      node = scan_node s at left trees h (omega (arith, v.inside)) r g

      pub long : length s - at - 5 < r.size → false ≡ scanned count 0 (drop from s)
      long l = sym (v.same ∙ node ∙ cc (lt-leb r.size (length s - at - 5) l))

      module _ (l : r.size ≤ length s - at - 5) where
        module _ (x : Option ℕ) (p : x ≡ stack trees r.kind r.arity) where
          pub off : x ≡ None → false ≡ scanned count 0 (drop from s)
          off q =
              let t = scanned (left - 1) (trees - r.arity + 1) (drop (at + 5 + r.size) s) in
              sym (v.same ∙ node ∙ cc (le-leb r.size (length s - at - 5) l, stack_off t false trees r.kind r.arity (sym p ∙ q)))

          pub again : (next : ℕ) → x ≡ Some next → Inv s from count (at + 5 + r.size) (done + 1) next
          again next q =
              let k : left - 1 ≡ count - (done + 1) = omega arith in
              let z = stands trees r.kind r.arity next (sym p ∙ q) in
              record {
                same = v.same ∙ node ∙ cc (le-leb r.size (length s - at - 5) l, le-leb r.arity trees z.few, z.can, z.same, k);
                inside = omega (arith, v.inside);
                bound = omega (arith, v.bound, z.same, z.few);
              }

  module _ (o : count ≤ done) where
    e : left ≤ 0
    e = omega arith

    pub over : at < length s → false ≡ scanned count 0 (drop from s)
    over l = sym (v.same ∙ scan-over s at left trees e l)

    pub ended : length s ≤ at → eqb trees 1 ≡ scanned count 0 (drop from s)
    ended l = sym (v.same ∙ scan_end s at left trees e l)

abbrev pub invariant-loop : goal.invariant-loop
invariant-loop l = Inv l.s l.from l.count l.at l.counter l.trees
