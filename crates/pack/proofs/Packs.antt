-- What packing leaves, once over the form: one thing always, and nothing else. Assumes nothing.
use Prim.Native.Nat.{ℕ, ◌+◌, ◌*◌, ◌<◌, ◌≤◌}
use mathlib.Core.Path.{◌≡◌, refl, sym, ◌∙◌, ap, subst}
use mathlib.Core.Bool.{Bool, true, false}
use mathlib.Core.List.{List, ◌∷◌, ◌++◌, append_assoc}
use native.Mathlib.Omega.{arith}
use lib.Dec.{leb}
use lib.ListN.{length, take, length-append}
use lib.Seq.{sets, length-sets}
use borrow.Author.Tests.{leb-true, leb-false}
use Rattle.pack.specs.Node.{Node, most, most_nodes, Acceptable}
use Rattle.pack.specs.Image.{two, nodes_bytes, version, line_bytes, line, body, image, IsPack}
use Rattle.pack.specs.Calls.{Written, packed, begins, PackOutcome, not_nodes}
use Rattle.pack.specs.declared.format.Form.{Form}
use Rattle.pack.specs.Passes.{weighed, Weighs, head_bytes, PackBegun, begun}
use Rattle.lexer.specs.Refusal.{fault}
use Rattle.lexer.specs.declared.refusal.Fault.{Fault}
use Rattle.lexer.specs.declared.refusal.Refusal.TheVariants.{NoPack}
use Rattle.pack.specs.Answers.{PackAnswer}
use Rattle.std.specs.declared.option.Option.TheVariants.{None}
use Rattle.std.specs.declared.result.Result.TheVariants.{Ok, Err}
use Rattle.pack.proofs.Basics.{sets_append, sets-front}
use Rattle.pack.proofs.Trees.{stacked, tree_stacked, stacked_tree}
use Rattle.pack.proofs.Images.{image-length}
use Rattle.pack.proofs.Weights.{names_count, names_room, Weigh, weigh_sound, weigh_complete}

-- ---- what is written
module _ (f : Form) (ns : List Node) (d : List ℕ) where
  abbrev Some : Type 0
  Some = (r : PackAnswer) × (x : List ℕ) × Written f ns d r x

  by-room : length (body f ns) ≤ most → (t : Bool) → leb (length (image f ns)) (length d) ≡ t → Some
  by-room s true e = (_, _, packed s (leb-true (length (image f ns)) (length d) e))
  by-room s false e = (_, _, Written.no_room s (leb-false (length (image f ns)) (length d) e))

  by_length : (t : Bool) → leb (length (body f ns)) most ≡ t → Some
  by_length true e = by-room (leb-true (length (body f ns)) most e) (leb (length (image f ns)) (length d)) refl
  by_length false e = (_, _, Written.too_long (leb-false (length (body f ns)) most e))

  pub some_written : (r : PackAnswer) × (x : List ℕ) × Written f ns d r x
  some_written = by_length (leb (length (body f ns)) most) refl

module _ (f : Form) (ns ms : List Node) (d : List ℕ) (e : ns ≡ ms) where
  same_body : length (body f ns) ≡ length (body f ms)
  same_body = ap (λ (z : List Node). length (body f z)) e

  same_size : length (image f ns) ≡ length (image f ms)
  same_size = ap (λ (z : List Node). length (image f z)) e

  pub one_written : {r r' : PackAnswer} {x x' : List ℕ} → Written f ns d r x → Written f ms d r' x' → (r ≡ r') × (x ≡ x')
  one_written (Written.too_long h) (Written.too_long k) = (refl, refl)
  one_written (Written.too_long h) (Written.no_room k l) = absurd (omega (arith, same_body))
  one_written (Written.too_long h) (packed k l) = absurd (omega (arith, same_body))
  one_written (Written.no_room h i) (Written.too_long k) = absurd (omega (arith, same_body))
  one_written (Written.no_room h i) (Written.no_room k l) = (refl, refl)
  one_written (Written.no_room h i) (packed k l) = absurd (omega (arith, same_size))
  one_written (packed h i) (Written.too_long k) = absurd (omega (arith, same_body))
  one_written (packed h i) (Written.no_room k l) = absurd (omega (arith, same_size))
  one_written (packed h i) (packed k l) = (ap Ok same_size, ap (λ (z : List Node). sets d 0 (image f z)) e)

-- what stands in front, where it says so
pub front : (f : Form) (ns : List Node) (d x : List ℕ) (n : ℕ) → Written f ns d (Ok n) x → Acceptable ns → line f ≤ most → IsPack f (take n x) ns
front f ns d x n (packed h i) a l = record { acceptable = a; line-fits = l; fits = h; same = sets-front d (image f ns) i }

-- ---- as the code packs: what stands before the nodes, and then they

-- there is room for them
pub record Roomy (b : ℕ) (d : List ℕ) : Type 0 where
  pub small : b ≤ most
  pub fits : b + 3 ≤ length d

roomy_so : {f : Form} {n b l : ℕ} {d d' : List ℕ} → PackBegun f n b d (Ok l) d' → Roomy b d'
roomy_so {f} {n} {b} {d = d} (begun s h) = record { small = s; fits = omega (arith, length-sets d 0 (head_bytes f b n)) }

module _ (f : Form) (ns : List Node) where
  head_image : head_bytes f (length (body f ns)) (length ns) ++ nodes_bytes ns ≡ image f ns
  unfolding image body
  head_image = ap (λ (l : List ℕ). version f ∷ (two (length (body f ns)) ++ l)) (append_assoc (line_bytes f) (two (length ns)) (nodes_bytes ns))

  module _ (n b : ℕ) (c : length ns ≡ n) (e : length (body f ns) ≡ b) where
    refused_so : {q : Fault} {d d' : List ℕ} → PackBegun f n b d (Err q) d' → Written f ns d (Err q) d'
    refused_so (PackBegun.too_long h) = Written.too_long (omega (arith, e))
    refused_so (PackBegun.no_room s h) = Written.no_room (omega (arith, e)) (omega (arith, e, image-length f ns))

    written : (d d'' : List ℕ) → d'' ≡ sets (sets d 0 (head_bytes f b n)) (begins f) (nodes_bytes ns) → d'' ≡ sets d 0 (image f ns)
    written d d'' y =
        let l : 0 + length (head_bytes f b n) ≡ begins f = omega (arith, length-append (line_bytes f) (two n)) in
        let z : head_bytes f b n ++ nodes_bytes ns ≡ image f ns =
        ap (λ (m : ℕ). head_bytes f b m ++ nodes_bytes ns) (sym c) ∙ ap (λ (m : ℕ). head_bytes f m (length ns) ++ nodes_bytes ns) (sym e) ∙ head_image in
        y ∙ sym (sets_append d 0 (begins f) (head_bytes f b n) (nodes_bytes ns) l) ∙ ap (sets d 0) z

    packed_so : {l : ℕ} {d d' : List ℕ} (d'' : List ℕ) → PackBegun f n b d (Ok l) d' → d'' ≡ sets d' (begins f) (nodes_bytes ns) → Written f ns d (Ok l) d''
    packed_so {d = d} d'' (begun s h) y =
        let k : length (image f ns) ≡ b + 3 = omega (arith, e, image-length f ns) in
        let w : Written f ns d (Ok (length (image f ns))) (sets d 0 (image f ns)) = packed (omega (arith, e)) (omega (arith, k)) in
        subst (Written f ns d (Ok (b + 3))) (sym (written d d'' y))
        (subst (λ (m : ℕ). Written f ns d (Ok m) (sets d 0 (image f ns))) k w)

    module _ (d d' : List ℕ) (r : PackAnswer) (o : PackBegun f n b d r d') where
      told : (z : PackAnswer) → r ≡ z → PackBegun f n b d z d'
      told z x = subst (λ (z : PackAnswer). PackBegun f n b d z d') x o

      pub begun-refused : (q : Fault) → r ≡ Err q → Written f ns d (Err q) d'
      begun-refused q x = refused_so (told (Err q) x)

      module _ (l : ℕ) (x : r ≡ Ok l) where
        pub begun_roomy : Roomy b d'
        begun_roomy = roomy_so (told (Ok l) x)

        pub begun-packed : (d'' : List ℕ) → d'' ≡ sets d' (begins f) (nodes_bytes ns) → Written f ns d (Ok l) d''
        begun-packed d'' y = packed_so d'' (told (Ok l) x) y

-- ---- nodes that were weighed
module _ (bytes numbers : List ℕ) (count size : ℕ) (w : Weighs bytes numbers count size) where
  pub found : Weigh bytes count 0 0 numbers size
  found = weigh_sound bytes count 0 0 numbers size w.weighs

  pub counted : length found.nodes ≡ count
  counted = names_count found.names

  accepted : Acceptable found.nodes
  accepted =
      let r = stacked_tree found.nodes found.stack in
      record { few = omega (arith, counted, w.few); fitting = found.fitting; tree = r.tree; whole = r.whole }

  pub pack_written : (f : Form) {d d' : List ℕ} {r : PackAnswer} → Written f found.nodes d r d' → PackOutcome f bytes numbers count d r d'
  pack_written f w = PackOutcome.written found.names accepted w

-- ---- and nodes that are none
module _ (f : Form) (bytes numbers : List ℕ) (count : ℕ) (d : List ℕ) where
  pub pack_many : most_nodes < count → PackOutcome f bytes numbers count d (Err (fault NoPack 0)) d
  pack_many h = not_nodes (λ ns x a. omega (arith, names_count x, a.few))

  pub pack_few : length numbers < 4 * count → PackOutcome f bytes numbers count d (Err (fault NoPack 0)) d
  pack_few h = not_nodes (λ ns x a. omega (arith, names_room x))

  pub pack_no_tree : weighed bytes count 0 0 numbers ≡ None → PackOutcome f bytes numbers count d (Err (fault NoPack 0)) d
  pack_no_tree h =
      not_nodes
      (λ ns x a. let e = weigh_complete bytes 0 0 x a.fitting (ap (stacked 0) (sym a.whole) ∙ tree_stacked a.tree) in
      let z : ◌≡◌ {A = ℕ} 0 1 = cc in omega arith)
