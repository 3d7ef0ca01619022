-- `pack::writing::put_nodes` meets its contract. The invariant: what is to be stored from the start is what is to be stored from here. Assumes nothing.
use Prim.Native.Nat.{ℕ, ◌+◌, ◌-◌, ◌*◌, ◌<◌, ◌≤◌}
use mathlib.Core.Path.{◌≡◌, refl, sym, ◌∙◌, ap, subst}
use mathlib.Core.List.{List}
use native.Mathlib.Omega.{arith}
use mir.Syntax.{w64}
use mir.Val.{Fits}
use lib.ListN.{length, take, drop, length-drop}
use lib.Seq.{sets, length-sets}
use Rattle.pack.specs.Node.{a_node}
use Rattle.pack.specs.Image.{node_bytes}
use Rattle.pack.specs.Passes.{Inside, GivenAt, laid, PutNode, PutNodes}
use Rattle.pack.specs.declared.nodes.Given.{Given}
use Rattle.pack.proofs.Basics.{sets_append, part_length, subst-two}
use Rattle.pack.proofs.Scans.{node_length}
use Rattle.pack.proofs.Weights.{can_small}
use Rattle.pack.proofs.Weighing.{Weighty, weigh_first, laid_node, laid_end}
use Rattle.pack.proofs.writing.put_nodes.Given as goal

pub record Inv (bytes ns : List ℕ) (count : ℕ) (d₀ : List ℕ) (from : ℕ) (d : List ℕ) (left place at : ℕ) : Type 0 where
  pub same : sets d₀ from (laid bytes count ns) ≡ sets d at (laid bytes left (drop place ns))
  pub here : PutNodes bytes (drop place ns) left (length d) at
  pub inside : place + 4 * left ≤ length ns
  pub long : length d ≡ length d₀

-- when so many are done
abbrev pub At : (bytes ns : List ℕ) (count : ℕ) (d₀ : List ℕ) (from : ℕ) (d : List ℕ) (done at : ℕ) → Type 0
At bytes ns count d₀ from d done at = Inv bytes ns count d₀ from d (count - done) (4 * done) at

pub begin : (bytes ns : List ℕ) (count : ℕ) (d : List ℕ) (from : ℕ) → PutNodes bytes ns count (length d) from → At bytes ns count d from d 0 from
begin bytes ns count d from h =
    let k : count ≡ count - 0 = omega arith in
    subst (λ (n : ℕ). Inv bytes ns count d from d n 0 from) k (record { same = refl; here = h; inside = omega (arith, h.inside); long = refl })

module _ (bytes ns : List ℕ) (count : ℕ) (d₀ : List ℕ) (from : ℕ) (d : List ℕ) (done at : ℕ) (v : At bytes ns count d₀ from d done at) where
  abbrev left : ℕ
  left = count - done

  abbrev place : ℕ
  place = 4 * done

  pub ended : count ≤ done → d ≡ sets d₀ from (laid bytes count ns)
  ended o = let h : left ≤ 0 = omega arith in sym (v.same ∙ ap (sets d at) (laid_end bytes ns place left 0 0 h))

  module _ (o : done < count) where
    h : 0 < left
    h = omega arith

    pub four : place + 4 ≤ length ns
    four = omega (arith, v.inside)

    pub four-inside : Inside ns place 4
    four-inside = record { inside = four }

    module _ (r : Given) (g : GivenAt ns place r) where
      pub first : Weighty bytes ns place left v.here.trees v.here.before r v.here.all
      first = weigh_first bytes ns place left v.here.trees v.here.before h four r g v.here.all v.here.weighs

      pub node_asked : PutNode (length bytes) r (length d) at
      node_asked =
          record {
            read = first.inside;
            write = omega (arith, first.grows, v.here.fits);
            kind_small = omega (arith, can_small r.kind r.arity first.can);
            arity_small = omega (arith, first.arity_few, v.here.few);
            size_small = first.size_small;
          }

      module _ (d' : List ℕ) (e : d' ≡ sets d at (node_bytes (a_node r.kind r.arity (take r.size (drop r.start bytes))))) where
        pub next-length : length d' ≡ length d
        next-length = ap length e ∙ length-sets d at (node_bytes (a_node r.kind r.arity (take r.size (drop r.start bytes))))

        pub again : At bytes ns count d₀ from d' (done + 1) (at + 5 + r.size)
        again =
            let n = a_node r.kind r.arity (take r.size (drop r.start bytes)) in
            let x = laid bytes (left - 1) (drop (place + 4) ns) in
            let l : at + length (node_bytes n) ≡ at + 5 + r.size = omega (arith, node_length n, part_length r.start r.size bytes first.inside) in
            let k : left - 1 ≡ count - (done + 1) = omega arith in
            let w : place + 4 ≡ 4 * (done + 1) = omega arith in
            subst-two (λ (m f : ℕ). Inv bytes ns count d₀ from d' m f (at + 5 + r.size)) k w
            (record {
              same =
                  v.same ∙ ap (sets d at) (laid_node bytes ns place left 0 0 h four r g) ∙ sets_append d at (at + 5 + r.size) (node_bytes n) x l
                  ∙ ap (λ (m : List ℕ). sets m (at + 5 + r.size) x) (sym e);
              here =
                  record {
                    trees = v.here.trees - r.arity + 1;
                    before = v.here.before + 5 + r.size;
                    all = v.here.all;
                    weighs = first.on;
                    few = omega (arith, v.here.few, first.arity_few);
                    inside = omega (arith, v.inside, length-drop (place + 4) ns);
                    fits = omega (arith, v.here.fits, next-length);
                    small = omega (arith, v.here.small);
                  };
              inside = omega (arith, v.inside);
              long = next-length ∙ v.long;
            })

      pub at-fits : Fits w64 (at + 5)
      at-fits = record { fits = omega (arith, first.grows, v.here.small) }

      pub size_fits : Fits w64 (at + 5 + r.size)
      size_fits = record { fits = omega (arith, first.grows, v.here.small) }

abbrev pub invariant-loop-i : goal.invariant-loop-i
invariant-loop-i l = At l.bytes l.nodes l.count l.initial.out l.from l.out l.i l.at
