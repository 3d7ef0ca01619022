-- Words, and the two stacks: pushing, popping, and what a store beyond a stack leaves alone. Assumes nothing.
use Prim.Native.Nat.{ℕ, zero, suc, ◌+◌, ◌-◌, ◌*◌, ◌/◌, ◌%◌, ◌<◌, ◌≤◌}
use mathlib.Core.Path.{◌≡◌, refl, sym, ap, ◌∙◌}
use mathlib.Core.Bool.{Bool}
use mathlib.Core.List.{List, [], ◌∷◌, ◌++◌}
use native.Mathlib.Omega.{arith}
use native.Mathlib.Numerals.{add-one}
use lib.ListN.{length, get_or, set, take}
use lib.Seq.{get_or-set_same, get_or-set_other, get_or-take, length-take-le}
use Rattle.std.specs.Prelude.{Option, Some, None, slice_get}
use Rattle.std.proofs.lemmas.Option.{slice_get_within, get_or_from_slice_get, slice_get-get_or}
use Rattle.reader.specs.Machine.{nd, bound, separates, laid}
use Rattle.reader.specs.Layout.{tag_as, index_of, prio_of, bound_of, frame_as, frame_of, node_of, frames_of, out_of}
use Rattle.reader.specs.declared.machine.Tag.{Tag}
use Rattle.reader.proofs.Answer.{laid-length}

none_some : {x : ℕ} → None ≡ Some x → ⊥
none_some e = let z : ◌≡◌ {A = ℕ} 0 1 = ap (λ (o : Option ℕ). held o) e in absurd (omega arith)
  where
    held : Option ℕ → ℕ
    held None = 0
    held (Some y) = 1

-- Words

-- n is the number of the tag t
pub frame_word : (t : Tag) (n i q b : ℕ) → tag_as n ≡ t → n < 8 → i < 65536 → q < 65536 → frame_of (n + 8 * i + 524288 * q + 34359738368 * b) ≡ frame_as t i q b
unfolding frame_of
frame_word t n i q b ht hn hi hq =
    let w = n + 8 * i + 524288 * q + 34359738368 * b in
    let e : w % 8 ≡ n = omega arith in
    let f₀ : w / 8 ≡ i + 65536 * q + 4294967296 * b = omega arith in
    let f : index_of w ≡ i = rw f₀ (omega arith) in
    let g₀ : w / 524288 ≡ q + 65536 * b = omega arith in
    let g : prio_of w ≡ q = rw g₀ (omega arith) in
    let h : bound_of w ≡ b = omega arith in
    rw (e, f, g, h, ht)

pub node_word : (i n : ℕ) → n < 65536 → node_of (65536 * i + n) ≡ nd i n
unfolding node_of
node_word i n hn =
    let w = 65536 * i + n in
    let e : w / 65536 ≡ i = omega arith in
    let f : w % 65536 ≡ n = omega arith in
    rw (e, f)

-- Stacks

frames_kept : (st : List ℕ) (e v d : ℕ) → d ≤ e → frames_of (set st e v) d ≡ frames_of st d
unfolding frames_of
frames_kept st e v zero h = refl
frames_kept st e v (suc d) h =
    let g : get_or (set st e v) d 0 ≡ get_or st d 0 = get_or-set_other st e d v 0 (λ q. omega arith) in
    rw (g, frames_kept st e v d (omega arith))

out_kept : (ns : List ℕ) (e v n : ℕ) → n ≤ e → out_of (set ns e v) n ≡ out_of ns n
unfolding out_of
out_kept ns e v zero h = refl
out_kept ns e v (suc n) h =
    let g : get_or (set ns e v) n 0 ≡ get_or ns n 0 = get_or-set_other ns e n v 0 (λ q. omega arith) in
    rw (g, out_kept ns e v n (omega arith))

pub push_frame : (st : List ℕ) (d v : ℕ) → d < length st → frames_of (set st d v) (d + 1) ≡ frame_of v ∷ frames_of st d
unfolding frames_of
push_frame st d v h = rw (add-one d, get_or-set_same st d v 0 h, frames_kept st d v d (omega arith))

pub push_node : (ns : List ℕ) (n v : ℕ) → n < length ns → out_of (set ns n v) (n + 1) ≡ node_of v ∷ out_of ns n
unfolding out_of
push_node ns n v h = rw (add-one n, get_or-set_same ns n v 0 h, out_kept ns n v n (omega arith))

pub pop_frame : (st : List ℕ) (d : ℕ) → 0 < d → frames_of st d ≡ frame_of (get_or st (d - 1) 0) ∷ frames_of st (d - 1)
unfolding frames_of
pop_frame st zero h = absurd (omega arith)
pop_frame st (suc d) h = let e : suc d - 1 ≡ d = omega arith in rw e

pub no_frame : (st : List ℕ) (d : ℕ) → d ≤ 0 → frames_of st d ≡ []
unfolding frames_of
no_frame st zero h = refl
no_frame st (suc d) h = absurd (omega arith)

pub frames_length : (st : List ℕ) (d : ℕ) → length (frames_of st d) ≡ d
unfolding frames_of
frames_length st zero = refl
frames_length st (suc d) = ap suc (frames_length st d)

pub out_length : (ns : List ℕ) (n : ℕ) → length (out_of ns n) ≡ n
unfolding out_of
out_length ns zero = refl
out_length ns (suc n) = ap suc (out_length ns n)

-- The whole of a slice, and a part of it, as a stack
module _ (st : List ℕ) where
  pub none_on_top : None ≡ slice_get st (length st - 1) → frames_of st (length st) ≡ []
  unfolding frames_of
  none_on_top e = go st refl
    where
      go : (xs : List ℕ) → st ≡ xs → frames_of st (length st) ≡ []
      go [] h = rw h
      go (x ∷ xs) h =
          let k : length st - 1 < length st = rw h (omega arith) in
          absurd (none_some (e ∙ slice_get-get_or st (length st - 1) 0 k))

  pub one_on_top : (w : ℕ) → Some w ≡ slice_get st (length st - 1) → frames_of st (length st) ≡ frame_of w ∷ frames_of st (length st - 1)
  one_on_top w e =
      let k : length st - 1 < length st = slice_get_within st (length st - 1) w (sym e) in
      let g : get_or st (length st - 1) 0 ≡ w = get_or_from_slice_get st (length st - 1) w 0 (sym e) in
      pop_frame st (length st) (omega arith) ∙ ap (λ (v : ℕ). frame_of v ∷ frames_of st (length st - 1)) g

  frames_part : (d e : ℕ) → e ≤ d → frames_of (take d st) e ≡ frames_of st e
  unfolding frames_of
  frames_part d zero h = refl
  frames_part d (suc e) h = let g : get_or (take d st) e 0 ≡ get_or st e 0 = get_or-take d st e 0 (omega arith) in rw (g, frames_part d e (omega arith))

  pub top_part : (d : ℕ) → d ≤ length st → frames_of (take d st) (length (take d st)) ≡ frames_of st d
  top_part d h = ap (frames_of (take d st)) (length-take-le d st h) ∙ frames_part d d (omega arith)

  pub part_length : (d : ℕ) → d ≤ length st → d ≡ length (take d st)
  part_length d h = sym (length-take-le d st h)

  pub part_bound : (d t : ℕ) → d ≤ length st → t ≡ bound (frames_of (take d st) (length (take d st))) → t ≡ bound (frames_of st d)
  part_bound d t h e = e ∙ ap bound (top_part d h)

  pub part_separates : (d : ℕ) (v : Bool) → d ≤ length st → v ≡ separates (frames_of (take d st) (length (take d st))) → v ≡ separates (frames_of st d)
  part_separates d v h e = e ∙ ap separates (top_part d h)

-- The numbers of the first words

pub laid_next : (ns : List ℕ) (n : ℕ) → laid (out_of ns (n + 1)) ≡ laid (out_of ns n) ++ (get_or ns n 0 / 65536 ∷ get_or ns n 0 % 65536 ∷ [])
unfolding laid out_of node_of
laid_next ns n = rw (add-one n)

pub laid-count : (ns : List ℕ) (n : ℕ) → length (laid (out_of ns n)) ≡ 2 * n
laid-count ns n = omega (arith, laid-length (out_of ns n), out_length ns n)
