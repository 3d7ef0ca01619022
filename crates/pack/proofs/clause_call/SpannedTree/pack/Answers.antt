-- `pack::clause_call::SpannedTree::pack` meets its contract. Assumes nothing.
use Prim.Native.Nat.{ℕ, ◌+◌, ◌-◌}
use mathlib.Core.Path.{◌≡◌, ap, ◌∙◌}
use mathlib.Core.List.{List}
use native.Mathlib.Omega.{arith}
use borrow.Author.Rules.{rules}
use lib.ListN.{length}
use lib.Seq.{sets}
use Rattle.lexer.specs.declared.refusal.Fault.{Fault}
use Rattle.pack.specs.Node.{Node}
use Rattle.pack.specs.Image.{nodes_bytes, body}
use Rattle.pack.specs.Calls.{begins, Written}
use Rattle.pack.specs.Passes.{Light, PackBegun}
use Rattle.pack.specs.Walk.{Walk, SomeWalk, TreeWeighs, nodes_of, PutTree}
use Rattle.pack.specs.declared.format.Form.{Form}
use Rattle.pack.specs.Answers.{PackAnswer}
use Rattle.std.specs.declared.result.Result.TheVariants.{Ok, Err}
use Rattle.pack.proofs.Images.{body-length}
use Rattle.pack.proofs.Packs.{begun-refused, begun-packed, begun_roomy}
use Rattle.pack.proofs.Clauses.{nodes-count, weight_is}
use Rattle.pack.proofs.clause_call.SpannedTree.pack.Goals as goal

module _ (s ms : List ℕ) (count : ℕ) (starts ends : List ℕ) (w : Walk s ms 0 count starts ends) where
  some_walk : SomeWalk ms count starts ends
  some_walk = record { text = s; walk = w }

  abbrev nodes : List Node
  nodes = nodes_of s starts ends count ms

  count-is : length nodes ≡ count
  count-is = nodes-count s starts ends w.lying

  module _ (size : ℕ) (t : TreeWeighs ms count starts ends size) where
    light : Light count size
    light = record { few = omega (arith, w.near); light = t.light }

    module _ (f : Form) where
      body_is : length (body f nodes) ≡ begins f - 3 + size
      body_is = omega (arith, body-length f nodes, t.same, weight_is s starts ends w.source w.lying)

      module _ (d d' : List ℕ) (r : PackAnswer) (o : PackBegun f count (begins f - 3 + size) d r d') where
        refused : (q : Fault) → r ≡ Err q → Written f nodes d (Err q) d'
        refused = begun-refused f nodes count (begins f - 3 + size) count-is body_is d d' r o

        module _ (l : ℕ) (x : r ≡ Ok l) (at : ℕ) (e : at ≡ begins f) where
          tree_asked : PutTree s ms count starts ends (length d') at
          tree_asked =
              let m = begun_roomy f nodes count (begins f - 3 + size) count-is body_is d d' r o l x in
              record { walk = w; fits = omega (arith, e, t.same, m.fits); small = omega (arith, e, t.same, m.small) }

          packed : (d'' : List ℕ) → d'' ≡ sets d' at (nodes_bytes nodes) → Written f nodes d (Ok l) d''
          packed d'' y = begun-packed f nodes count (begins f - 3 + size) count-is body_is d d' r o l x d'' (y ∙ ap (λ (k : ℕ). sets d' k (nodes_bytes nodes)) e)

ruleset ways = (some_walk, light, refused, tree_asked, packed, rules)

pub returns-in_err-length : goal.returns-in_err-length
returns-in_err-length c = search ways

pub returns : goal.returns
returns c = search ways
