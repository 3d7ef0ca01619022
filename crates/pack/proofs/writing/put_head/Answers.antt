-- `pack::writing::put_head` meets its contract. Assumes nothing.
use Prim.Native.Nat.{ℕ}
use mathlib.Core.Path.{◌≡◌, refl, sym, ◌∙◌, ap}
use mathlib.Core.List.{List, ◌∷◌, ◌++◌}
use native.Mathlib.Omega.{arith}
use borrow.Author.Rules.{rules}
use lib.ListN.{length}
use lib.Seq.{sets, length-sets}
use Rattle.pack.specs.Image.{two, version, line_bytes}
use Rattle.pack.specs.Calls.{begins}
use Rattle.pack.specs.Passes.{PutWord, PutFront, head_bytes, PutHead}
use Rattle.pack.specs.declared.format.Form.{Form}
use Rattle.pack.specs.declared.format.Form.TheVariants.{One, Two}
use Rattle.pack.proofs.Basics.{sets_append}
use Rattle.pack.proofs.writing.put_head.Goals as goal

module _ (f : Form) (b n : ℕ) where
  module _ (e : f ≡ One) where
    room_one : (room : ℕ) → PutHead f b n room → PutFront room 0 1 b n
    unfolding line_bytes
    room_one room h =
        let k = ap begins e in
        record { inside = omega (arith, h.inside, k); kind_small = omega arith; arity_small = h.body_small; size_small = h.count_small }

    done-one : (d d' : List ℕ) → d' ≡ sets d 0 (1 ∷ (two b ++ two n)) → d' ≡ sets d 0 (head_bytes f b n)
    unfolding version line_bytes
    done-one d d' x = x ∙ ap (λ (g : Form). sets d 0 (head_bytes g b n)) (sym e)

  module _ (l : ℕ) (e : f ≡ Two l) (m : ℕ) (w : m ≡ l) where
    module _ (v : ℕ) (z : v ≡ 2) (d d' : List ℕ) (x : d' ≡ sets d 0 (v ∷ (two b ++ two m))) where
      kept : length d' ≡ length d
      kept = ap length x ∙ length-sets d 0 (v ∷ (two b ++ two m))

      room_count : PutHead f b n (length d) → PutWord (length d') 5 n
      unfolding line_bytes
      room_count h = let k = ap begins e in record { inside = omega (arith, h.inside, k, kept); small = h.count_small }

      done-two : (d'' : List ℕ) → d'' ≡ sets d' 5 (two n) → d'' ≡ sets d 0 (head_bytes f b n)
      unfolding version line_bytes
      done-two d'' y =
          y ∙ ap (λ (u : List ℕ). sets u 5 (two n)) x
          ∙ sym (sets_append d 0 5 (v ∷ (two b ++ two m)) (two n) refl)
          ∙ ap (λ (k : ℕ). sets d 0 (k ∷ (two b ++ (two m ++ two n)))) z
          ∙ ap (λ (k : ℕ). sets d 0 (2 ∷ (two b ++ (two k ++ two n)))) w
          ∙ ap (λ (g : Form). sets d 0 (head_bytes g b n)) (sym e)

ruleset ways = (room_one, done-one, kept, room_count, done-two, rules)

pub returns-in-One : goal.returns-in-One
returns-in-One c = search ways

pub returns-in-Two : goal.returns-in-Two
returns-in-Two c = search ways

pub put_word-requires : goal.put_word-requires
put_word-requires c = search ways
