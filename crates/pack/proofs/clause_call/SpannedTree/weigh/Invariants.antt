-- `pack::clause_call::SpannedTree::weigh` meets its contract. The invariant: the weight from the start is the weight from here and what was summed.
-- Assumes nothing.
use Prim.Native.Nat.{ℕ, ◌+◌, ◌-◌, ◌*◌, ◌<◌, ◌≤◌}
use mathlib.Core.Path.{◌≡◌, subst}
use mathlib.Core.List.{List}
use native.Mathlib.Omega.{arith}
use lib.ListN.{drop}
use Rattle.pack.specs.Node.{most, most_nodes}
use Rattle.pack.specs.Walk.{NodeAt, GivenNode, Walk, weight, SomeWalk, TreeWeighs}
use Rattle.pack.specs.declared.nodes.Given.{Given}
use Rattle.pack.proofs.Basics.{subst-two}
use Rattle.pack.proofs.Clauses as K
use Rattle.pack.proofs.clause_call.SpannedTree.weigh.Given as goal

pub record Inv (ms : List ℕ) (count : ℕ) (starts ends : List ℕ) (left at size : ℕ) : Type 0 where
  pub same : weight starts ends count ms ≡ size + weight starts ends left (drop at ms)
  pub text : List ℕ
  pub walk : Walk text ms at left starts ends
  pub light : size + left * (5 + most) ≤ most_nodes * (5 + most)

-- when so many are done
abbrev pub At : (ms : List ℕ) (count : ℕ) (starts ends : List ℕ) (done size : ℕ) → Type 0
At ms count starts ends done size = Inv ms count starts ends (count - done) (2 * done) size

pub begin : (ms : List ℕ) (count : ℕ) (starts ends : List ℕ) → SomeWalk ms count starts ends → At ms count starts ends 0 0
begin ms count starts ends h =
    let k : count ≡ count - 0 = omega arith in
    subst (λ (n : ℕ). Inv ms count starts ends n 0 0) k (record { same = omega arith; text = h.text; walk = h.walk; light = omega (arith, h.walk.near) })

module _ (ms : List ℕ) (count : ℕ) (starts ends : List ℕ) (done size : ℕ) (v : At ms count starts ends done size) where
  abbrev left : ℕ
  left = count - done

  abbrev at : ℕ
  at = 2 * done

  pub ended : count ≤ done → TreeWeighs ms count starts ends size
  ended o =
      let h : left ≤ 0 = omega arith in
      record { same = omega (arith, v.same, K.weight_end v.text ms at left starts ends v.walk h); light = omega (arith, v.light) }

  module _ (o : done < count) where
    h : 0 < left
    h = omega arith

    pub node_at : NodeAt ms at starts ends
    node_at = K.node_at v.text ms at left starts ends v.walk h

    pub again : (r : Given) → GivenNode ms at starts ends r → At ms count starts ends (done + 1) (size + 5 + r.size)
    again r g =
        let k : left - 1 ≡ count - (done + 1) = omega arith in
        let w : at + 2 ≡ 2 * (done + 1) = omega arith in
        subst-two (λ (n f : ℕ). Inv ms count starts ends n f (size + 5 + r.size)) k w
        (record {
          same = omega (arith, v.same, K.weight_node v.text ms at left starts ends v.walk h r g);
          text = v.text;
          walk = K.walk_on v.text ms at left starts ends v.walk h;
          light = omega (arith, v.light, g.size_small);
        })

abbrev pub invariant-loop-i : goal.invariant-loop-i
invariant-loop-i l = At l.self.tree.now l.self.count l.self.starts.now l.self.ends.now l.i l.size
