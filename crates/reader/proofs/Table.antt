-- A table that passes the test is fair; and document 01's table passes it. Assumes nothing.
use Prim.Native.Nat.{ℕ, ◌≤◌}
use mathlib.Core.Path.{◌≡◌, refl, ap, subst}
use mathlib.Core.Bool.{Bool, true, false, ◌&&◌, ◌||◌, not, cond, false≢true}
use mathlib.Core.Logic.{◌↔◌}
use mathlib.Core.Option.{Option, none, some}
use mathlib.Core.List.{List, [], ◌∷◌}
use native.Mathlib.Omega.{arith}
use lib.Dec.{eqb, leb}
use lib.ListN.{length}
use borrow.Author.Tests.{eqb-true, leb-true, eq-eqb}
use Rattle.reader.specs.Token.{Terminal, same_text}
use Rattle.reader.specs.Ops.{Pre, fy, Inf, xfx, xfy, yfx, pre_prio, prio, Entry, prefix_op, infix_op, Table, operators, find_pre, find_inf, is_comma, prefix_of, infix_of, IsInfix, named, the_comma}
use Rattle.reader.specs.Admitted.{every, any, twice, none_twice, in_range, comma_fits, of_comma, leans_right, clash, none_clash, admits}
use Rattle.reader.proofs.Basics.{Fair}

data In (e : Entry) : Table → Type 0 where
  here : {T : Table} → In e (e ∷ T)
  there : {f : Entry} {T : Table} → In e T → In e (f ∷ T)

pub and_left : (a b : Bool) → a && b ≡ true → a ≡ true
and_left true b h = refl
and_left false b h = h

pub and_right : (a b : Bool) → a && b ≡ true → b ≡ true
and_right true b h = h
and_right false b h = absurd (false≢true h)

every_in : (f : Entry → Bool) {e : Entry} {T : Table} → every f T ≡ true → In e T → f e ≡ true
unfolding every
every_in f {e} h (here {T}) = and_left (f e) (every f T) h
every_in f h (there {f = g} {T} i) = every_in f (and_right (f g) (every f T) h) i

not_none : {A : Type 0} (a : A) → none ≡ some a → ⊥
not_none a h = let z : ◌≡◌ {A = ℕ} 0 1 = cc in omega arith

-- What is found has an entry.

found_pre : (T : Table) (x : List ℕ) (r : Pre) → find_pre T x ≡ some r → (y : List ℕ) × In (prefix_op y r) T
unfolding find_pre
found_pre [] x r h = absurd (not_none r h)
found_pre (prefix_op y q ∷ T) x r h = go (same_text x y) h (found_pre T x r)
  where
    go : (v : Bool) → cond v (some q) (find_pre T x) ≡ some r → (find_pre T x ≡ some r → (z : List ℕ) × In (prefix_op z r) T) →
        (z : List ℕ) × In (prefix_op z r) (prefix_op y q ∷ T)
    go true e ih = let same : q ≡ r = cc in (y, subst (λ (z : Pre). In (prefix_op y z) (prefix_op y q ∷ T)) same here)
    go false e ih = let i = ih e in (i.0, there i.1)
found_pre (infix_op y q ∷ T) x r h = let i = found_pre T x r h in (i.0, there i.1)

found-inf : (T : Table) (x : List ℕ) (r : Inf) → find_inf T x ≡ some r → (y : List ℕ) × In (infix_op y r) T
unfolding find_inf
found-inf [] x r h = absurd (not_none r h)
found-inf (prefix_op y q ∷ T) x r h = let i = found-inf T x r h in (i.0, there i.1)
found-inf (infix_op y q ∷ T) x r h = go (same_text x y) h (found-inf T x r)
  where
    go : (v : Bool) → cond v (some q) (find_inf T x) ≡ some r → (find_inf T x ≡ some r → (z : List ℕ) × In (infix_op z r) T) →
        (z : List ℕ) × In (infix_op z r) (infix_op y q ∷ T)
    go true e ih = let same : q ≡ r = cc in (y, subst (λ (z : Inf). In (infix_op y z) (infix_op y q ∷ T)) same here)
    go false e ih = let i = ih e in (i.0, there i.1)

unquoted : {A : Type 0} (v : Bool) (a : Option A) (r : A) → cond v none a ≡ some r → a ≡ some r
unquoted true a r h = absurd (not_none r h)
unquoted false a r h = h

prefix-in : (T : Table) (x : List ℕ) (r : Pre) → prefix_of T x ≡ some r → (y : List ℕ) × In (prefix_op y r) T
unfolding prefix_of
prefix-in T x r h = found_pre T x r (unquoted (is_comma x) (find_pre T x) r h)

name_in : (T : Table) (x : List ℕ) (r : Inf) → infix_of T x ≡ some r → (y : List ℕ) × In (infix_op y r) T
unfolding infix_of
name_in T x r h = found-inf T x r (unquoted (is_comma x) (find_inf T x) r h)

-- The comma's entry is there, and it is xfy 1000.

or_false : (a b : Bool) → not a || b ≡ true → a ≡ true → b ≡ true
or_false true b h e = h
or_false false b h e = absurd (false≢true e)

not-both : (a : Bool) → not a ≡ true → a ≡ true → ⊥
not-both true h e = false≢true h
not-both false h e = false≢true e

comma_role : (e : Entry) → of_comma e ≡ true → comma_fits e ≡ true → (y : List ℕ) × (e ≡ infix_op y (xfy 1000))
unfolding of_comma comma_fits
comma_role (prefix_op x r) h k = absurd (not-both (is_comma x) k h)
comma_role (infix_op x (xfx p)) h k = absurd (not-both (is_comma x) k h)
comma_role (infix_op x (xfy p)) h k = (x, ap (λ (z : ℕ). infix_op x (xfy z)) (eqb-true p 1000 (or_false (is_comma x) (eqb p 1000) k h)))
comma_role (infix_op x (yfx p)) h k = absurd (not-both (is_comma x) k h)

comma_in : (T : Table) → any of_comma T ≡ true → every comma_fits T ≡ true → (y : List ℕ) × In (infix_op y (xfy 1000)) T
unfolding any every
comma_in [] h k = absurd (false≢true h)
comma_in (e ∷ T) h k = go (of_comma e) refl h (λ w. comma_in T w (and_right (comma_fits e) (every comma_fits T) k))
  where
    go : (v : Bool) → of_comma e ≡ v → v || any of_comma T ≡ true → (any of_comma T ≡ true → (y : List ℕ) × In (infix_op y (xfy 1000)) T) →
        (y : List ℕ) × In (infix_op y (xfy 1000)) (e ∷ T)
    go true w h ih =
        let c = comma_role e w (and_left (comma_fits e) (every comma_fits T) k) in
        (c.0, subst (λ (z : Entry). In z (e ∷ T)) c.1 here)
    go false w h ih = let i = ih h in (i.0, there i.1)

-- The parts of the test

module _ (T : Table) (h : admits T ≡ true) where
  clear : none_clash T ≡ true
  unfolding admits
  clear = and_right (none_twice T && every in_range T && every comma_fits T && any of_comma T) (none_clash T) h

  front : none_twice T && every in_range T && every comma_fits T && any of_comma T ≡ true
  unfolding admits
  front = and_left (none_twice T && every in_range T && every comma_fits T && any of_comma T) (none_clash T) h

  fits : none_twice T && every in_range T && every comma_fits T ≡ true
  fits = and_left (none_twice T && every in_range T && every comma_fits T) (any of_comma T) front

  range : every in_range T ≡ true
  range = and_right (none_twice T) (every in_range T) (and_left (none_twice T && every in_range T) (every comma_fits T) fits)

  infix-in : {k : Terminal} (r : Inf) → IsInfix T k r → (y : List ℕ) × In (infix_op y r) T
  infix-in r (named {x} e) = name_in T x r e
  infix-in r the_comma =
      comma_in T (and_right (none_twice T && every in_range T && every comma_fits T) (any of_comma T) front)
      (and_right (none_twice T && every in_range T) (every comma_fits T) fits)

  no_clash : {e f : Entry} → In e T → In f T → clash e f ≡ true → ⊥
  unfolding none_clash
  no_clash {e} {f} i j c = not-both (clash e f) (every_in (λ g. not (clash e g)) (every_in (λ d. every (λ g. not (clash d g)) T) clear i) j) c

  low : (p : ℕ) → leb 1 p && leb p 1200 ≡ true → 1 ≤ p
  low p e = leb-true 1 p (and_left (leb 1 p) (leb p 1200) e)

  pub fair : Fair T
  unfolding in_range clash leans_right
  fair =
      record {
        prefix_low = λ x r e. low (pre_prio r) (every_in in_range range (prefix-in T x r e).1);
        infix_low = λ x r e. low (prio r) (every_in in_range range (name_in T x r e).1);
        no_yfx_xfy = λ {k} {l} p x y. no_clash (infix-in (yfx p) x).1 (infix-in (xfy p) y).1 (eq-eqb p p refl);
        no_yfx_fy = λ {k} p x i e. no_clash (infix-in (yfx p) i).1 (prefix-in T x (fy p) e).1 (eq-eqb p p refl);
      }

-- The same text is the same list of bytes.

same-text : (x y : List ℕ) → same_text x y ≡ true → x ≡ y
unfolding same_text
same-text [] [] h = refl
same-text [] (b ∷ y) h = absurd (false≢true h)
same-text (a ∷ x) [] h = absurd (false≢true h)
same-text (a ∷ x) (b ∷ y) h =
    let p : a ≡ b = eqb-true a b (and_left (eqb a b) (same_text x y) h) in
    let q : x ≡ y = same-text x y (and_right (eqb a b) (same_text x y) h) in
    cc

text_same : (x : List ℕ) → same_text x x ≡ true
unfolding same_text
text_same [] = refl
text_same (a ∷ x) = rw (eq-eqb a a refl, text_same x)

pub same_exactly : (x y : List ℕ) → (same_text x y ≡ true) ↔ (x ≡ y)
same_exactly x y = (same-text x y, λ e. subst (λ (z : List ℕ). same_text x z ≡ true) e (text_same x))

-- Document 01's table

pub operators-count : length operators ≡ 39
operators-count = refl

pub operators-admitted : admits operators ≡ true
unfolding admits every any twice none_twice in_range comma_fits of_comma leans_right clash none_clash same_text pre_prio prio
operators-admitted = refl
