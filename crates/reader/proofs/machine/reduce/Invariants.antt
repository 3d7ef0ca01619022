-- `reader::machine::reduce` meets its contract. Assumes nothing.
use Prim.Native.Nat.{ℕ, ◌+◌, ◌-◌, ◌<◌, ◌≤◌}
use mathlib.Core.Path.{◌≡◌, refl, ◌∙◌}
use mathlib.Core.List.{List, ◌∷◌}
use native.Mathlib.Omega.{arith}
use borrow.Author.Tests.{lt-ltb, le-ltb}
use lib.ListN.{length, get_or, set, length-set}
use Rattle.reader.specs.Tree.{packed}
use Rattle.reader.specs.Kinds.{kind_as}
use Rattle.reader.specs.Machine.{nd, Out, Frames, red, lt?}
use Rattle.reader.specs.Layout.{tag_of, index_of, prio_of, bound_of, frame_as, frame_of, node_of, frames_of, out_of, Room}
use Rattle.reader.proofs.Stacks.{push_node, pop_frame, no_frame}
use Rattle.reader.specs.Machine as M
use Rattle.reader.specs.declared.kinds.NodeKind.TheVariants as NodeKind
use Rattle.reader.specs.declared.machine.Tag.{Tag}
use Rattle.reader.specs.declared.machine.Tag.TheVariants.{Prefix, Infix, Top, Round, Curly, Call, List as ListTag, Tail}
use Rattle.reader.proofs.machine.reduce.Given as goal

pub record Inv (st ns₀ : List ℕ) (b d₀ n₀ : ℕ) (ns : List ℕ) (d n : ℕ) : Type 0 where
  pub same : M.reduce packed b (frames_of st d₀) (out_of ns₀ n₀) ≡ M.reduce packed b (frames_of st d) (out_of ns n)
  pub room : Room st ns d n 0
  pub long : length ns ≡ length ns₀

pub begin : (st ns : List ℕ) (b d n : ℕ) → Room st ns d n 0 → Inv st ns b d n ns d n
begin st ns b d n r = record { same = refl; room = r; long = refl }

-- a bracket stays
module _ (b i q c : ℕ) (fs : Frames) (out : Out) where
  kept : (t : Tag) → (t ≡ Prefix → ⊥) → (t ≡ Infix → ⊥) → M.reduce packed b (frame_as t i q c ∷ fs) out ≡ red (frame_as t i q c ∷ fs) out
  unfolding M.reduce frame_as
  kept Prefix f g = absurd (f refl)
  kept Infix f g = absurd (g refl)
  kept Top f g = refl
  kept Round f g = refl
  kept Curly f g = refl
  kept Call f g = refl
  kept ListTag f g = refl
  kept Tail f g = refl

-- the ways out of a turn: w is the word on top, t its tag, q its priority
module _ (st ns₀ : List ℕ) (b d₀ n₀ : ℕ) (ns : List ℕ) (d n : ℕ) (v : Inv st ns₀ b d₀ n₀ ns d n) where
  pub ended : d ≤ 0 → red (frames_of st d) (out_of ns n) ≡ M.reduce packed b (frames_of st d₀) (out_of ns₀ n₀)
  unfolding M.reduce
  ended h = let z = v.same in cc (no_frame st d h)

  module _ (t : Tag) (h : 0 < d) (e : t ≡ tag_of (get_or st (d - 1) 0)) where
    pub bracket : (t ≡ Prefix → ⊥) → (t ≡ Infix → ⊥) → red (frames_of st d) (out_of ns n) ≡ M.reduce packed b (frames_of st d₀) (out_of ns₀ n₀)
    unfolding frame_of
    bracket f g =
        let z = v.same in
        let w = get_or st (d - 1) 0 in
        cc (pop_frame st d h, kept b (index_of w) (prio_of w) (bound_of w) (frames_of st (d - 1)) (out_of ns n) t f g)

    module _ (q : ℕ) (f : q ≡ prio_of (get_or st (d - 1) 0)) where
      pub stays-prefix : t ≡ Prefix → b ≤ q → red (frames_of st d) (out_of ns n) ≡ M.reduce packed b (frames_of st d₀) (out_of ns₀ n₀)
      unfolding M.reduce frame_of frame_as lt?
      stays-prefix g k = let z = v.same in cc (pop_frame st d h, le-ltb q b k)

      pub goes-prefix : (r i x y : ℕ) → i ≡ index_of (get_or st (d - 1) 0) → x ≡ y → y ≡ packed (kind_as NodeKind.Prefix) 1 → t ≡ Prefix → q < b → node_of r ≡ nd i x →
          Inv st ns₀ b d₀ n₀ (set ns n r) (d - 1) (n + 1)
      unfolding M.reduce M.emit kind_as frame_of frame_as lt?
      goes-prefix r i x y p a c g k j =
          let z = v.same in
          let o : n < length ns = omega (arith, v.room.nodes) in
          record {
            same = cc (pop_frame st d h, lt-ltb q b k, push_node ns n r o);
            room = record { frames = omega (arith, v.room.frames); nodes = rw (length-set ns n r) (omega (arith, v.room.nodes)) };
            long = length-set ns n r ∙ v.long;
          }

      pub stays-infix : t ≡ Infix → b ≤ q → red (frames_of st d) (out_of ns n) ≡ M.reduce packed b (frames_of st d₀) (out_of ns₀ n₀)
      unfolding M.reduce frame_of frame_as lt?
      stays-infix g k = let z = v.same in cc (pop_frame st d h, le-ltb q b k)

      pub goes-infix : (r i x y : ℕ) → i ≡ index_of (get_or st (d - 1) 0) → x ≡ y → y ≡ packed (kind_as NodeKind.Infix) 2 → t ≡ Infix → q < b → node_of r ≡ nd i x →
          Inv st ns₀ b d₀ n₀ (set ns n r) (d - 1) (n + 1)
      unfolding M.reduce M.emit kind_as frame_of frame_as lt?
      goes-infix r i x y p a c g k j =
          let z = v.same in
          let o : n < length ns = omega (arith, v.room.nodes) in
          record {
            same = cc (pop_frame st d h, lt-ltb q b k, push_node ns n r o);
            room = record { frames = omega (arith, v.room.frames); nodes = rw (length-set ns n r) (omega (arith, v.room.nodes)) };
            long = length-set ns n r ∙ v.long;
          }

abbrev pub invariant-loop-depth : goal.invariant-loop-depth
invariant-loop-depth l = Inv l.frames l.initial.nodes l.bound l.initial.depth l.initial.count l.nodes l.depth l.count

abbrev pub decreases-loop-depth : goal.decreases-loop-depth
decreases-loop-depth l = l.depth
