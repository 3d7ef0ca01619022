-- A tree is determined by its nodes, if kind and arity are packed injectively; and its numbers are the machine's nodes laid out. Assumes nothing.
use Prim.Native.Nat.{ℕ, ◌+◌, ◌*◌, ◌<◌}
use mathlib.Core.Path.{◌≡◌, refl, ap, sym, ◌∙◌}
use mathlib.Core.Bool.{cond}
use mathlib.Core.List.{List, [], ◌∷◌, ◌++◌, append-nil, append_assoc}
use native.Mathlib.Omega.{arith}
use lib.Dec.{eqb}
use Rattle.reader.specs.Tree.{NodeKind, plain, negative, call, prefix, infx, list, list_tail, curly, empty_list, empty_curly, kind_number, Tree, node, Forest, nil, ◌◂◌, arity, packed, numbers, numbers_all}
use Rattle.reader.specs.Machine.{Out, laid}
use Rattle.reader.proofs.Basics.{push, pushes}

-- A packing with no bound on the arity: `packed` is injective only below 1,024 children.

kind_at : ℕ → NodeKind
kind_at n =
    cond (eqb n 0) plain
    (cond (eqb n 1) negative
    (cond (eqb n 2) call
    (cond (eqb n 3) prefix
    (cond (eqb n 4) infx
    (cond (eqb n 5) list
    (cond (eqb n 6) list_tail
    (cond (eqb n 7) curly
    (cond (eqb n 8) empty_list
    empty_curly))))))))

kind-at : (k : NodeKind) → kind_at (kind_number k) ≡ k
unfolding kind_at kind_number
kind-at plain = refl
kind-at negative = refl
kind-at call = refl
kind-at prefix = refl
kind-at infx = refl
kind-at list = refl
kind-at list_tail = refl
kind-at curly = refl
kind-at empty_list = refl
kind-at empty_curly = refl

kind_low : (k : NodeKind) → kind_number k < 10
unfolding kind_number
kind_low plain = omega arith
kind_low negative = omega arith
kind_low call = omega arith
kind_low prefix = omega arith
kind_low infx = omega arith
kind_low list = omega arith
kind_low list_tail = omega arith
kind_low curly = omega arith
kind_low empty_list = omega arith
kind_low empty_curly = omega arith

unfoldable pub wide : NodeKind → ℕ → ℕ
wide k a = a * 10 + kind_number k

wide-arity : (k l : NodeKind) (a b : ℕ) → wide k a ≡ wide l b → a ≡ b
unfolding wide
wide-arity k l a b e = omega (arith, e, kind_low k, kind_low l)

wide_kind : (k l : NodeKind) (a b : ℕ) → wide k a ≡ wide l b → k ≡ l
unfolding wide
wide_kind k l a b e =
    let same : a ≡ b = wide-arity k l a b e in
    let n : kind_number k ≡ kind_number l = omega (arith, e) in
    sym (kind-at k) ∙ ap kind_at n ∙ kind-at l

mutual
  unfolding push pushes arity

  push_inj : (t u : Tree) (x y : Out) → push wide t x ≡ push wide u y → (t ≡ u) × (x ≡ y)
  push_inj (node i k f) (node j l g) x y e =
      let w : wide k (arity f) ≡ wide l (arity g) = cc in
      let rest : pushes wide f x ≡ pushes wide g y = cc in
      let kinds : k ≡ l = wide_kind k l (arity f) (arity g) w in
      let h : (f ≡ g) × (x ≡ y) = pushes_inj f g x y (wide-arity k l (arity f) (arity g) w) rest in
      let p : f ≡ g = h.0 in
      (cc, h.1)

  pushes_inj : (f g : Forest) (x y : Out) → arity f ≡ arity g → pushes wide f x ≡ pushes wide g y → (f ≡ g) × (x ≡ y)
  pushes_inj nil nil x y s e = (refl, e)
  pushes_inj nil (u ◂ g) x y s e = absurd (omega arith)
  pushes_inj (t ◂ f) nil x y s e = absurd (omega arith)
  pushes_inj (t ◂ f) (u ◂ g) x y s e =
      let same : arity f ≡ arity g = omega arith in
      let h : (f ≡ g) × (push wide t x ≡ push wide u y) = pushes_inj f g (push wide t x) (push wide u y) same e in
      let k : (t ≡ u) × (x ≡ y) = push_inj t u x y h.1 in
      let p : f ≡ g = h.0 in
      let q : t ≡ u = k.0 in
      (cc, k.1)

pub push_injective : (t u : Tree) → push wide t [] ≡ push wide u [] → t ≡ u
push_injective t u e = (push_inj t u [] [] e).0

-- The numbers of a tree

mutual
  unfolding push pushes numbers numbers_all laid

  laid_push : (t : Tree) (out : Out) → laid (push packed t out) ≡ laid out ++ numbers t
  laid_push (node i k f) out =
      ap (λ (z : List ℕ). z ++ (i ∷ packed k (arity f) ∷ [])) (laid_pushes f out) ∙ append_assoc (laid out) (numbers_all f) (i ∷ packed k (arity f) ∷ [])

  laid_pushes : (f : Forest) (out : Out) → laid (pushes packed f out) ≡ laid out ++ numbers_all f
  laid_pushes nil out = sym (append-nil (laid out))
  laid_pushes (t ◂ f) out =
      laid_pushes f (push packed t out) ∙ ap (λ (z : List ℕ). z ++ numbers_all f) (laid_push t out) ∙ append_assoc (laid out) (numbers t) (numbers_all f)

pub laid_tree : (t : Tree) → laid (push packed t []) ≡ numbers t
unfolding laid
laid_tree t = laid_push t []
