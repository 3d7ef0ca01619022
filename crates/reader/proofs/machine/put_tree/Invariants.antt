-- `reader::machine::put_tree` meets its contract. Assumes nothing.
use Prim.Native.Nat.{ℕ, suc, ◌+◌, ◌*◌, ◌/◌, ◌%◌, ◌<◌, ◌≤◌}
use mathlib.Core.Path.{◌≡◌, refl, subst, ◌∙◌}
use mathlib.Core.List.{List, [], ◌∷◌, ◌++◌}
use native.Mathlib.Omega.{arith}
use lib.ListN.{length, get_or, set, take, length-set}
use lib.Seq.{sets, get_or-take, length-take-le}
use Rattle.reader.specs.Machine.{laid}
use Rattle.reader.specs.Layout.{out_of, Copies}
use Rattle.reader.proofs.Stacks.{laid_next, laid-count}
use Rattle.reader.proofs.machine.put_tree.Given as goal

pub sets_append : (d : List ℕ) (i k : ℕ) (vs ws : List ℕ) → i + length vs ≡ k → sets d i (vs ++ ws) ≡ sets (sets d i vs) k ws
sets_append d i k [] ws h = let e : i ≡ k = omega arith in rw e
sets_append d i k (v ∷ vs) ws h = sets_append (set d i v) (suc i) k vs ws (omega arith)

pub record Inv (ns d₀ : List ℕ) (n : ℕ) (d : List ℕ) (j : ℕ) : Type 0 where
  pub same : d ≡ sets d₀ 0 (laid (out_of ns j))
  pub copies : Copies ns d₀ n
  pub long : length d ≡ length d₀
  pub low : j ≤ n

pub begin : (ns d : List ℕ) (n : ℕ) → Copies ns d n → Inv ns d n d 0
unfolding laid out_of
begin ns d n c = record { same = refl; copies = c; long = refl; low = omega arith }

module _ (ns d₀ : List ℕ) (n : ℕ) (d : List ℕ) (j : ℕ) (v : Inv ns d₀ n d j) where
  all : length (take n ns) ≡ n
  all = length-take-le n ns v.copies.words

  pub ended : length (take n ns) ≤ j → d ≡ sets d₀ 0 (laid (out_of ns n))
  ended h = let l = v.low in let k = all in let e : j ≡ n = omega arith in rw (← e) v.same

  module _ (h : j < length (take n ns)) where
    pub first_in : 2 * j < length d
    first_in = let k = all in omega (arith, v.copies.room, v.long)

    pub second_in : 2 * j + 1 < length d
    second_in = let k = all in omega (arith, v.copies.room, v.long)

    pub goes : (a b : ℕ) → a ≡ get_or (take n ns) j 0 / 65536 → b ≡ get_or (take n ns) j 0 % 65536 → Inv ns d₀ n (set (set d (2 * j) a) (2 * j + 1) b) (j + 1)
    goes a b f g =
        let x = laid (out_of ns j) in
        let k : j < n = subst (λ (m : ℕ). j < m) all h in
        let w : get_or (take n ns) j 0 ≡ get_or ns j 0 = get_or-take n ns j 0 k in
        let e : sets d₀ 0 (x ++ (a ∷ b ∷ [])) ≡ set (set (sets d₀ 0 x) (2 * j) a) (suc (2 * j)) b =
        sets_append d₀ 0 (2 * j) x (a ∷ b ∷ []) (omega (arith, laid-count ns j)) in
        let s : suc (2 * j) ≡ 2 * j + 1 = omega arith in
        record {
          same = cc (laid_next ns j, v.same, w, e, s);
          copies = v.copies;
          long = length-set (set d (2 * j) a) (2 * j + 1) b ∙ length-set d (2 * j) a ∙ v.long;
          low = omega arith;
        }

abbrev pub invariant-loop-j : goal.invariant-loop-j
invariant-loop-j l = Inv l.nodes l.initial.tree l.count l.tree l.j
