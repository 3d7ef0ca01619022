-- `pack::clause_call::SpannedTree::put` meets its contract. The invariant: what is to be stored from the start is what is to be stored from here.
-- Assumes nothing.
use Prim.Native.Nat.{ℕ, ◌+◌, ◌-◌, ◌*◌, ◌<◌, ◌≤◌}
use mathlib.Core.Path.{◌≡◌, refl, sym, ◌∙◌, ap, subst}
use mathlib.Core.List.{List}
use native.Mathlib.Omega.{arith}
use mir.Syntax.{w64}
use mir.Val.{Fits}
use lib.ListN.{length, take, drop}
use lib.Seq.{sets, length-sets}
use Rattle.pack.specs.Node.{Node, a_node, most}
use Rattle.pack.specs.Image.{node_bytes, nodes_bytes}
use Rattle.pack.specs.Passes.{PutNode}
use Rattle.pack.specs.Walk.{NodeAt, GivenNode, Walk, weight, nodes_of, PutTree}
use Rattle.pack.specs.declared.nodes.Given.{Given}
use Rattle.pack.proofs.Basics.{sets_append, part_length, subst-two}
use Rattle.pack.proofs.Scans.{node_length}
use Rattle.pack.proofs.Clauses as K
use Rattle.pack.proofs.clause_call.SpannedTree.put.Given as goal

pub record Inv (s ms : List ℕ) (count : ℕ) (starts ends d₀ : List ℕ) (from : ℕ) (d : List ℕ) (left at place : ℕ) : Type 0 where
  pub same : sets d₀ from (nodes_bytes (nodes_of s starts ends count ms)) ≡ sets d place (nodes_bytes (nodes_of s starts ends left (drop at ms)))
  pub walk : Walk s ms at left starts ends
  pub fits : place + weight starts ends left (drop at ms) ≤ length d
  pub small : place + weight starts ends left (drop at ms) ≤ most + 3
  pub long : length d ≡ length d₀

-- when so many are done
abbrev pub At : (s ms : List ℕ) (count : ℕ) (starts ends d₀ : List ℕ) (from : ℕ) (d : List ℕ) (done place : ℕ) → Type 0
At s ms count starts ends d₀ from d done place = Inv s ms count starts ends d₀ from d (count - done) (2 * done) place

module _ (s ms : List ℕ) (count : ℕ) (starts ends : List ℕ) where
  pub begin : (d : List ℕ) (from : ℕ) → PutTree s ms count starts ends (length d) from → At s ms count starts ends d from d 0 from
  begin d from h =
      let k : count ≡ count - 0 = omega arith in
      subst (λ (n : ℕ). Inv s ms count starts ends d from d n 0 from) k
      (record { same = refl; walk = h.walk; fits = h.fits; small = h.small; long = refl })

  module _ (d₀ : List ℕ) (from : ℕ) (d : List ℕ) (done place : ℕ) (v : At s ms count starts ends d₀ from d done place) where
    abbrev left : ℕ
    left = count - done

    abbrev at : ℕ
    at = 2 * done

    pub ended : count ≤ done → d ≡ sets d₀ from (nodes_bytes (nodes_of s starts ends count ms))
    unfolding nodes_bytes
    ended o =
        let h : left ≤ 0 = omega arith in
        sym (v.same ∙ ap (λ (l : List Node). sets d place (nodes_bytes l)) (K.nodes_end s ms at left starts ends v.walk h))

    module _ (o : done < count) where
      h : 0 < left
      h = omega arith

      pub node_at : NodeAt ms at starts ends
      node_at = K.node_at s ms at left starts ends v.walk h

      module _ (r : Given) (g : GivenNode ms at starts ends r) where
        pub on : weight starts ends left (drop at ms) ≡ 5 + r.size + weight starts ends (left - 1) (drop (at + 2) ms)
        on = K.weight_node s ms at left starts ends v.walk h r g

        pub inside : r.start + r.size ≤ length s
        inside = K.node_inside s ms at left starts ends v.walk h r g

        pub node_asked : PutNode (length s) r (length d) place
        node_asked =
            record {
              read = inside;
              write = omega (arith, on, v.fits);
              kind_small = g.kind_small;
              arity_small = g.arity_small;
              size_small = g.size_small;
            }

        pub place-fits : Fits w64 (place + 5)
        place-fits = record { fits = omega (arith, on, v.small) }

        pub size_fits : Fits w64 (place + 5 + r.size)
        size_fits = record { fits = omega (arith, on, v.small) }

        module _ (d' : List ℕ) (e : d' ≡ sets d place (node_bytes (a_node r.kind r.arity (take r.size (drop r.start s))))) where
          next-length : length d' ≡ length d
          next-length = ap length e ∙ length-sets d place (node_bytes (a_node r.kind r.arity (take r.size (drop r.start s))))

          pub again : At s ms count starts ends d₀ from d' (done + 1) (place + 5 + r.size)
          unfolding nodes_bytes
          again =
              let n = a_node r.kind r.arity (take r.size (drop r.start s)) in
              let x = nodes_bytes (nodes_of s starts ends (left - 1) (drop (at + 2) ms)) in
              let l : place + length (node_bytes n) ≡ place + 5 + r.size = omega (arith, node_length n, part_length r.start r.size s inside) in
              let e1 : left - 1 ≡ count - (done + 1) = omega arith in
              let e2 : at + 2 ≡ 2 * (done + 1) = omega arith in
              subst-two (λ (m f : ℕ). Inv s ms count starts ends d₀ from d' m f (place + 5 + r.size)) e1 e2
              (record {
                same =
                    v.same ∙ ap (λ (k : List Node). sets d place (nodes_bytes k)) (K.nodes_node s ms at left starts ends v.walk h r g)
                    ∙ sets_append d place (place + 5 + r.size) (node_bytes n) x l
                    ∙ ap (λ (m : List ℕ). sets m (place + 5 + r.size) x) (sym e);
                walk = K.walk_on s ms at left starts ends v.walk h;
                fits = omega (arith, v.fits, on, next-length);
                small = omega (arith, v.small, on);
                long = next-length ∙ v.long;
              })

abbrev pub invariant-loop-i : goal.invariant-loop-i
invariant-loop-i l = At l.text l.self.tree.now l.self.count l.self.starts.now l.self.ends.now l.initial.out l.from l.out l.i l.place
