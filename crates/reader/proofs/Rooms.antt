-- Room and place numbers after operators were completed, after a frame and after a node. Assumes nothing.
use Prim.Native.Nat.{ℕ, suc, ◌+◌, ◌-◌, ◌<◌, ◌≤◌}
use mathlib.Core.Path.{◌≡◌, refl, sym, ◌∙◌, ap, subst}
use mathlib.Core.Bool.{Bool, true, false, cond}
use mathlib.Core.List.{List, [], ◌∷◌}
use native.Mathlib.Omega.{arith}
use lib.ListN.{length, get_or}
use Rattle.reader.specs.Tree.{packed}
use Rattle.reader.specs.Machine.{Node, Out, op, Frame, waiting, opened, Frames, lt?, Red, red, emit, reduce, size, Numbered, none_left, one_more}
use Rattle.reader.specs.Layout.{frame_of, frames_of, out_of, Room, most, Held, stop_takes, takes}
use Rattle.reader.specs.declared.machine.Stop.{Stop}
use Rattle.reader.specs.declared.machine.Stop.TheVariants.{Comma}
use Rattle.reader.specs.declared.roles.Roles.{Roles}
use Rattle.reader.specs.declared.machine.Sight.{Sight}
use Rattle.reader.specs.declared.machine.Sight.TheVariants.{Name, Number, VarOrString, Round, Stop as Stops}
use Rattle.reader.proofs.Stacks.{frames_length, out_length, pop_frame}

NumberedRed : Red → Type 0
NumberedRed (red fs out) = Numbered most fs

words : Red → ℕ
words (red fs out) = length fs + length out

reduce_words : (b : ℕ) (fs : Frames) (out : Out) → words (reduce packed b fs out) ≡ length fs + length out
unfolding reduce words
reduce_words b [] out = refl
reduce_words b (opened br ∷ fs) out = refl
reduce_words b (waiting (op i k q c) ∷ fs) out = go (lt? q b) (reduce_words b fs (emit packed (op i k q c) ∷ out))
  where
    go : (v : Bool) → words (reduce packed b fs (emit packed (op i k q c) ∷ out)) ≡ length fs + suc (length out) →
        words (cond v (reduce packed b fs (emit packed (op i k q c) ∷ out)) (red (waiting (op i k q c) ∷ fs) out)) ≡ suc (length fs) + length out
    go true h = omega arith
    go false h = refl

-- Completing operators leaves as much room.
pub room_reduced : (st ns ns' : List ℕ) (d n d' n' k b : ℕ) → Room st ns d n k → length ns' ≡ length ns →
    red (frames_of st d') (out_of ns' n') ≡ reduce packed b (frames_of st d) (out_of ns n) → Room st ns' d' n' k
unfolding words
room_reduced st ns ns' d n d' n' k b r l e =
    let f : length (frames_of st d') + length (out_of ns' n') ≡ length (frames_of st d) + length (out_of ns n) =
    ap words e ∙ reduce_words b (frames_of st d) (out_of ns n) in
    let g : d' + n' ≡ d + n = omega (arith, f, frames_length st d', out_length ns' n', frames_length st d, out_length ns n) in
    record { frames = omega (arith, r.frames); nodes = omega (arith, r.nodes) }

-- Places that can be counted

first_size : (f : Frame) (fs gs : Frames) → Numbered most gs → gs ≡ f ∷ fs → size f ≤ most
first_size f fs [] none_left e = let z : ◌≡◌ {A = ℕ} 0 1 = cc in absurd (omega arith)
first_size f fs (g ∷ gs) (one_more a b) e = let h : g ≡ f = cc in subst (λ (z : Frame). size z ≤ most) h a

numbered-reduce : (b : ℕ) (fs : Frames) (out : Out) → Numbered most fs → NumberedRed (reduce packed b fs out)
unfolding reduce NumberedRed
numbered-reduce b [] out h = h
numbered-reduce b (opened br ∷ fs) out h = h
numbered-reduce b (waiting (op i k q c) ∷ fs) out (one_more a h) = go (lt? q b) (numbered-reduce b fs (emit packed (op i k q c) ∷ out) h)
  where
    go : (v : Bool) → NumberedRed (reduce packed b fs (emit packed (op i k q c) ∷ out)) →
        NumberedRed (cond v (reduce packed b fs (emit packed (op i k q c) ∷ out)) (red (waiting (op i k q c) ∷ fs) out))
    go true x = x
    go false x = one_more a h

places_reduced : (st ns ns' : List ℕ) (d n d' n' b : ℕ) → Numbered most (frames_of st d) →
    red (frames_of st d') (out_of ns' n') ≡ reduce packed b (frames_of st d) (out_of ns n) → Numbered most (frames_of st d')
unfolding NumberedRed
places_reduced st ns ns' d n d' n' b h e = subst NumberedRed (sym e) (numbered-reduce b (frames_of st d) (out_of ns n) h)

pub held_reduced : (st ns ns' : List ℕ) (d n d' n' k b : ℕ) → Held st ns d n k → length ns' ≡ length ns →
    red (frames_of st d') (out_of ns' n') ≡ reduce packed b (frames_of st d) (out_of ns n) → Held st ns' d' n' k
held_reduced st ns ns' d n d' n' k b h l e =
    record { room = room_reduced st ns ns' d n d' n' k b h.room l e; places = places_reduced st ns ns' d n d' n' b h.places e }

pub top-size : (st : List ℕ) (d : ℕ) → 0 < d → Numbered most (frames_of st d) → size (frame_of (get_or st (d - 1) 0)) ≤ most
top-size st d h f = first_size (frame_of (get_or st (d - 1) 0)) (frames_of st (d - 1)) (frames_of st d) f (pop_frame st d h)

-- Less room

module _ (st ns : List ℕ) (d n k : ℕ) where
  pub room_none : Room st ns d n k → Room st ns d n 0
  room_none r = record { frames = omega (arith, r.frames); nodes = omega (arith, r.nodes) }

  pub room_one : Room st ns d n (k + 1) → Room st ns d n 1
  room_one r = record { frames = omega (arith, r.frames); nodes = omega (arith, r.nodes) }

  pub held_room : Held st ns d n k → Room st ns d n k
  held_room h = h.room

  pub held_room_none : Held st ns d n k → Room st ns d n 0
  held_room_none h = room_none h.room

  pub held_room_one : Held st ns d n (k + 1) → Room st ns d n 1
  held_room_one h = room_one h.room

  pub held_none : Held st ns d n k → Held st ns d n 0
  held_none h = record { room = room_none h.room; places = h.places }

  pub held_one : Held st ns d n (k + 1) → Held st ns d n 1
  held_one h = record { room = room_one h.room; places = h.places }

pub depth_in : (st ns : List ℕ) (d n k : ℕ) → Room st ns d n k → d ≤ length st
depth_in st ns d n k r = omega (arith, r.frames)

module _ (st ns : List ℕ) (d n : ℕ) where
  module _ (k : Sight) (r : Room st ns d n (takes k)) where
    takes_name : (e : ℕ) (x : Roles) → k ≡ Name e x → Room st ns d n 1
    unfolding takes
    takes_name e x h = rw h at r

    pub takes-number : (s : ℕ) (low : Bool) → k ≡ Number s low → Room st ns d n 1
    unfolding takes
    takes-number s low h = rw h at r

    pub takes_var : k ≡ VarOrString → Room st ns d n 1
    unfolding takes
    takes_var h = rw h at r

    pub takes-round : (ct : Bool) → k ≡ Round ct → Room st ns d n 1
    unfolding takes
    takes-round ct h = rw h at r

  module _ (k : Sight) (h : Held st ns d n (takes k)) where
    pub held_name : (e : ℕ) (x : Roles) → k ≡ Name e x → Room st ns d n 1
    held_name e x g = takes_name k h.room e x g

    pub held_stop : (x : Stop) → k ≡ Stops x → Held st ns d n (stop_takes x)
    unfolding takes
    held_stop x g = rw g at h

  pub held-comma : (x : Stop) → Held st ns d n (stop_takes x) → x ≡ Comma → Held st ns d n 1
  unfolding stop_takes
  held-comma x h g = rw g at h

-- After a frame or a node more

pub room_framed : (st st' ns : List ℕ) (d n d' n' k : ℕ) (f : Frame) → Room st ns d n (k + 1) → length st' ≡ length st →
    red (frames_of st' d') (out_of ns n') ≡ red (f ∷ frames_of st d) (out_of ns n) → Room st' ns d' n' k
unfolding words
room_framed st st' ns d n d' n' k f r l e =
    let g : length (frames_of st' d') + length (out_of ns n') ≡ suc (length (frames_of st d)) + length (out_of ns n) = ap words e in
    let h : d' + n' ≡ suc (d + n) = omega (arith, frames_length st' d', out_length ns n', frames_length st d, out_length ns n) in
    record { frames = omega (arith, r.frames); nodes = omega (arith, r.nodes) }

room_noded : (st ns ns' : List ℕ) (d n d' n' k : ℕ) (x : Node) → Room st ns d n (k + 1) → length ns' ≡ length ns →
    red (frames_of st d') (out_of ns' n') ≡ red (frames_of st d) (x ∷ out_of ns n) → Room st ns' d' n' k
unfolding words
room_noded st ns ns' d n d' n' k x r l e =
    let g : length (frames_of st d') + length (out_of ns' n') ≡ length (frames_of st d) + suc (length (out_of ns n)) = ap words e in
    let h : d' + n' ≡ suc (d + n) = omega (arith, frames_length st d', out_length ns' n', frames_length st d, out_length ns n) in
    record { frames = omega (arith, r.frames); nodes = omega (arith, r.nodes) }

places_noded : (st ns ns' : List ℕ) (d n d' n' : ℕ) (x : Node) → Numbered most (frames_of st d) →
    red (frames_of st d') (out_of ns' n') ≡ red (frames_of st d) (x ∷ out_of ns n) → Numbered most (frames_of st d')
unfolding NumberedRed
places_noded st ns ns' d n d' n' x h e = subst NumberedRed (sym e) h

pub held_noded : (st ns ns' : List ℕ) (d n d' n' k : ℕ) (x : Node) → Held st ns d n (k + 1) → length ns' ≡ length ns →
    red (frames_of st d') (out_of ns' n') ≡ red (frames_of st d) (x ∷ out_of ns n) → Held st ns' d' n' k
held_noded st ns ns' d n d' n' k x h l e =
    record { room = room_noded st ns ns' d n d' n' k x h.room l e; places = places_noded st ns ns' d n d' n' x h.places e }
