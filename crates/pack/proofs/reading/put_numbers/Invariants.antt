-- `pack::reading::put_numbers` meets its contract. The invariant: what is to be stored from the start is what is to be stored from here. Assumes nothing.
use Prim.Native.Nat.{ℕ, ◌+◌, ◌-◌, ◌*◌, ◌<◌, ◌≤◌}
use mathlib.Core.Path.{◌≡◌, refl, sym, ◌∙◌, ap, subst}
use mathlib.Core.List.{List, [], ◌∷◌}
use native.Mathlib.Omega.{arith}
use lib.ListN.{length, drop}
use lib.Seq.{sets, length-sets}
use Rattle.pack.specs.Passes.{Inside, PutGiven, Headed, listed, Reading, Listing}
use Rattle.pack.specs.declared.reading.Head.{Head}
use Rattle.pack.proofs.Basics.{sets_append, subst-two}
use Rattle.pack.proofs.Scanned.{scan-inside, scan_passes, list-node, list_end}
use Rattle.pack.proofs.reading.put_numbers.Given as goal

pub record Inv (s : List ℕ) (from count : ℕ) (d₀ d : List ℕ) (at left place : ℕ) : Type 0 where
  pub same : sets d₀ 0 (listed count from (drop from s)) ≡ sets d place (listed left at (drop at s))
  pub here : Reading s at left
  pub room : place + 4 * left ≤ length d
  pub long : length d ≡ length d₀

-- when so many are done
abbrev pub At : (s : List ℕ) (from count : ℕ) (d₀ d : List ℕ) (at done : ℕ) → Type 0
At s from count d₀ d at done = Inv s from count d₀ d at (count - done) (4 * done)

pub begin : (s : List ℕ) (from count : ℕ) (d : List ℕ) → Listing s from count d → At s from count d d from 0
begin s from count d h =
    let k : count ≡ count - 0 = omega arith in
    subst (λ (n : ℕ). Inv s from count d d from n 0) k (record { same = refl; here = h.reading; room = omega (arith, h.room); long = refl })

module _ (s : List ℕ) (from count : ℕ) (d₀ d : List ℕ) (at done : ℕ) (v : At s from count d₀ d at done) where
  abbrev left : ℕ
  left = count - done

  abbrev place : ℕ
  place = 4 * done

  pub ended : count ≤ done → d ≡ sets d₀ 0 (listed count from (drop from s))
  ended h = sym (v.same ∙ ap (sets d place) (list_end s at left 0 (omega arith)))

  module _ (o : done < count) where
    h : 0 < left
    h = omega arith

    pub five : at + 5 ≤ length s
    five = scan-inside s at left v.here.trees h v.here.reads

    pub inside : Inside s at 5
    inside = record { inside = five }

    module _ (r : Head) (g : Headed s at r) where
      pub put_asked : PutGiven (record { kind = r.kind; arity = r.arity; start = at + 5; size = r.size }) (length d) place
      put_asked =
          record {
            inside = omega (arith, v.room);
            kind_small = omega (arith, g.kind_below);
            arity_small = omega (arith, g.arity-below);
            start_small = omega (arith, five, v.here.short);
            size_small = omega (arith, g.size_below);
          }

      module _ (d' : List ℕ) (e : d' ≡ sets d place (r.kind ∷ r.arity ∷ (at + 5) ∷ r.size ∷ [])) where
        pub next-length : length d' ≡ length d
        next-length = ap length e ∙ length-sets d place (r.kind ∷ r.arity ∷ (at + 5) ∷ r.size ∷ [])

        pub again : At s from count d₀ d' (at + 5 + r.size) (done + 1)
        again =
            let x = listed (left - 1) (at + 5 + r.size) (drop (at + 5 + r.size) s) in
            let q = scan_passes s at left v.here.trees h five r g v.here.reads in
            let k : left - 1 ≡ count - (done + 1) = omega arith in
            let m : place + 4 ≡ 4 * (done + 1) = omega arith in
            subst-two (Inv s from count d₀ d' (at + 5 + r.size)) k m
            (record {
              same =
                  v.same ∙ ap (sets d place) (list-node s at left 0 h five r g)
                  ∙ sets_append d place (place + 4) (r.kind ∷ r.arity ∷ (at + 5) ∷ r.size ∷ []) x (omega arith)
                  ∙ ap (λ (l : List ℕ). sets l (place + 4) x) (sym e);
              here = record { trees = v.here.trees - r.arity + 1; reads = q.on; inside = q.size-inside; short = v.here.short };
              room = omega (arith, next-length, v.room);
              long = next-length ∙ v.long;
            })

abbrev pub invariant-loop-i : goal.invariant-loop-i
invariant-loop-i l = At l.s l.from l.count l.initial.nodes l.nodes l.at l.i
