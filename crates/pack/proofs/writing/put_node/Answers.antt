-- `pack::writing::put_node` meets its contract. Assumes nothing.
use Prim.Native.Nat.{ℕ, ◌+◌}
use mathlib.Core.Path.{◌≡◌, sym, ◌∙◌, ap}
use mathlib.Core.List.{List, ◌∷◌, ◌++◌}
use native.Mathlib.Omega.{arith}
use borrow.Author.Rules.{rules}
use lib.ListN.{length, take, drop}
use lib.Seq.{sets, length-sets}
use Rattle.pack.specs.Node.{a_node}
use Rattle.pack.specs.Image.{two, node_bytes}
use Rattle.pack.specs.Passes.{PutFront, PutPart, PutNode}
use Rattle.pack.specs.declared.nodes.Given.{Given}
use Rattle.pack.proofs.Basics.{sets_append, part_length}
use Rattle.pack.proofs.writing.put_node.Goals as goal

front_asked : (long room : ℕ) (it : Given) (at : ℕ) → PutNode long it room at → PutFront room at it.kind it.arity it.size
front_asked long room it at h =
    record { inside = omega (arith, h.write); kind_small = h.kind_small; arity_small = h.arity_small; size_small = h.size_small }

part_asked : (long : ℕ) (it : Given) (d : List ℕ) (at : ℕ) (d' : List ℕ) → PutNode long it (length d) at
    → d' ≡ sets d at (it.kind ∷ (two it.arity ++ two it.size)) → PutPart long it.start it.size (length d') (at + 5)
part_asked long it d at d' h e =
    let l : length d' ≡ length d = ap length e ∙ length-sets d at (it.kind ∷ (two it.arity ++ two it.size)) in
    record { read = h.read; write = omega (arith, l, h.write) }

module _ (bytes : List ℕ) (it : Given) (d : List ℕ) (at : ℕ) (d' d'' : List ℕ) (e : d' ≡ sets d at (it.kind ∷ (two it.arity ++ two it.size))) (g : d'' ≡ sets d' (at + 5) (take it.size (drop it.start bytes))) where
  same : length d'' ≡ length d
  same =
      ap length g ∙ length-sets d' (at + 5) (take it.size (drop it.start bytes)) ∙ ap length e
      ∙ length-sets d at (it.kind ∷ (two it.arity ++ two it.size))

  put : PutNode (length bytes) it (length d) at → d'' ≡ sets d at (node_bytes (a_node it.kind it.arity (take it.size (drop it.start bytes))))
  unfolding node_bytes
  put h =
      let p = take it.size (drop it.start bytes) in
      let l : length p ≡ it.size = part_length it.start it.size bytes h.read in
      let a : sets d at (it.kind ∷ (two it.arity ++ (two it.size ++ p))) ≡ sets (sets d at (it.kind ∷ (two it.arity ++ two it.size))) (at + 5) p =
      sets_append d at (at + 5) (it.kind ∷ (two it.arity ++ two it.size)) p (omega arith) in
      g ∙ ap (λ (m : List ℕ). sets m (at + 5) p) e ∙ sym a
      ∙ ap (λ (n : ℕ). sets d at (it.kind ∷ (two it.arity ++ (two n ++ p)))) (sym l)

ruleset ways = (front_asked, part_asked, same, put, rules)

pub returns : goal.returns
returns c = search ways
