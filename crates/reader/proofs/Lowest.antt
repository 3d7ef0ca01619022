-- In a reading a number of the lowest integer's magnitude is the second half of a negative number, and no node stands at it: both by one induction on
-- the reading. Assumes nothing.
use Prim.Native.Nat.{ℕ, suc, ◌+◌, ◌-◌, ◌<◌, ◌≤◌}
use mathlib.Core.Path.{◌≡◌, refl, sym, subst, ◌∙◌}
use mathlib.Core.Bool.{Bool, true, false, false≢true}
use mathlib.Core.List.{List, [], ◌∷◌}
use mathlib.Core.Logic.{◌⊎◌, inl, inr, ⊎_elim, ⊎_map}
use native.Mathlib.Nat.{eq-or-lt_of_le}
use native.Mathlib.Omega.{arith}
use borrow.Author.Tests.{eq-eqb}
use Rattle.lexer.specs.Digits.{largest_magnitude}
use Rattle.reader.specs.Token.{Integer, Token, Number, is_lowest, Terminal, name, number, var_or_string, round, square, brace, stop, terminal_as, Tok, tok, terminals}
use Rattle.reader.specs.Ops.{Table, Inf, IsInfix, named, the_comma}
use Rattle.reader.specs.Tree.{NodeKind, plain, negative, call, prefix, infx, list, list_tail, curly, empty_list, empty_curly, Tree, node, leaf, Forest, nil, ◌◂◌, snoc, Has, root, below, HasIn, first, later}
use Rattle.reader.specs.Grammar.{Term, a_number, a_var_or_string, a_name, a_call, a_round, a_list, a_list_tail, a_curly, an_empty_list, an_empty_curly, a_negative, a_prefix, an_infix, Args, one, more, Place, alone, whole, Clause, clause, Reads}
use Rattle.reader.specs.Listing.{token_at}
use Rattle.reader.proofs.Spans.{Limited}

-- low: a number of that magnitude
abbrev is_low : Terminal → Bool
is_low (name x e) = false
is_low (number s low) = low
is_low var_or_string = false
is_low (round ct) = false
is_low square = false
is_low brace = false
is_low (stop x) = false

infix_high : {T : Table} {k : Terminal} {r : Inf} → IsInfix T k r → is_low k ≡ false
infix_high (named h) = refl
infix_high the_comma = refl

-- ---- the nodes of trees side by side
abbrev beside : Forest → Forest → Forest
beside nil g = g
beside (t ◂ f) g = t ◂ beside f g

last_beside : (f : Forest) (t : Tree) → beside f (t ◂ nil) ≡ snoc f t
unfolding snoc
last_beside nil t = refl
last_beside (u ◂ f) t = cc (last_beside f t)

module _ {i : ℕ} {k : NodeKind} where
  in_left : (f g : Forest) → HasIn i k f → HasIn i k (beside f g)
  in_left nil g h = elim h [ ]
  in_left (t ◂ f) g (first h) = first h
  in_left (t ◂ f) g (later h) = later (in_left f g h)

  in_right : (f g : Forest) → HasIn i k g → HasIn i k (beside f g)
  in_right nil g h = h
  in_right (t ◂ f) g h = later (in_right f g h)

  in_either : (f g : Forest) → HasIn i k (beside f g) → HasIn i k f ⊎ HasIn i k g
  in_either nil g h = inr h
  in_either (t ◂ f) g (first h) = inl (first h)
  in_either (t ◂ f) g (later h) = ⊎_map later (λ x. x) (in_either f g h)

-- the token before j has the node of a negative number
abbrev Negated : ℕ → Forest → Type 0
Negated j f = (i : ℕ) × (i + 1 ≡ j) × HasIn i negative f

grow : {j : ℕ} {f g : Forest} → ((i : ℕ) → HasIn i negative f → HasIn i negative g) → Negated j f → Negated j g
grow h x = (x.0, x.1, h x.0 x.2)

this_or_later : {n j : ℕ} → n ≤ j → (n ≡ j) ⊎ (n + 1 ≤ j)
this_or_later m = ⊎_map (λ x. x) (λ y. omega arith) (eq-or-lt_of_le m)

module _ (low : ℕ → Bool) where
  -- tokens whose indexes run on from i, each low exactly if its index is; behind them no index is
  data Told : ℕ → List Tok → Type 0 where
    none : {i : ℕ} → ((j : ℕ) → i ≤ j → low j ≡ false) → Told i []
    next : {i j : ℕ} {k : Terminal} {ts : List Tok} → i ≡ j → low i ≡ is_low k → Told (i + 1) ts → Told i (tok j k ∷ ts)

  ended : {i : ℕ} → Told i [] → (j : ℕ) → i ≤ j → low j ≡ false
  ended (none h) = h

  module _ {at i : ℕ} {k : Terminal} {ts : List Tok} where
    here : Told at (tok i k ∷ ts) → at ≡ i
    here (next e h r) = e

    on : Told at (tok i k ∷ ts) → Told (at + 1) ts
    on (next e h r) = r

    high : is_low k ≡ false → Told at (tok i k ∷ ts) → low i ≡ false
    high f (next e h r) = cc

    -- a low index from this token on is behind it
    further : is_low k ≡ false → Told at (tok i k ∷ ts) → (j : ℕ) → low j ≡ true → at ≤ j → at + 1 ≤ j
    further f (next e h r) j l m = ⊎_elim (λ (q : at ≡ j). absurd (false≢true cc)) (λ y. y) (this_or_later m)

  -- behind trees whose tokens began at `at`: none of their nodes stands at a low index, and a low index is negated or is behind too
  record Past (at : ℕ) (rest : List Tok) (f : Forest) : Type 0 where
    to : ℕ
    told : Told to rest
    bare : (j : ℕ) (k : NodeKind) → HasIn j k f → low j ≡ false
    signs : (j : ℕ) → low j ≡ true → at ≤ j → Negated j f ⊎ (to ≤ j)

  nothing : {at : ℕ} {rest : List Tok} → Told at rest → Past at rest nil
  nothing {at} r = record { to = at; told = r; bare = empty; signs = λ j l m. inr m }
    where
      empty : (j : ℕ) (k : NodeKind) → HasIn j k nil → low j ≡ false
      empty j k = elim [ ]

  -- a token before, and one behind
  opened : {at i : ℕ} {k : Terminal} {us rest : List Tok} {f : Forest} → is_low k ≡ false → Told at (tok i k ∷ us) → Past (at + 1) rest f → Past at rest f
  opened h r v = record { to = v.to; told = v.told; bare = v.bare; signs = λ j l m. v.signs j l (further h r j l m) }

  closed : {at i : ℕ} {k : Terminal} {rest : List Tok} {f : Forest} → is_low k ≡ false → Past at (tok i k ∷ rest) f → Past at rest f
  closed h v = record { to = v.to + 1; told = on v.told; bare = v.bare; signs = λ j l m. ⊎_map (λ x. x) (further h v.told j l) (v.signs j l m) }

  joined : {at : ℕ} {us rest : List Tok} (f g : Forest) (v : Past at us f) → Past v.to rest g → Past at rest (beside f g)
  joined f g v w =
      record {
        to = w.to;
        told = w.told;
        bare = λ j k x. ⊎_elim (v.bare j k) (w.bare j k) (in_either f g x);
        signs = λ j l m. ⊎_elim (λ x. inl (grow (λ i. in_left f g) x)) (λ y. ⊎_map (grow (λ i. in_right f g)) (λ z. z) (w.signs j l y)) (v.signs j l m);
      }

  -- a node over the trees
  over : {at i : ℕ} {rest : List Tok} {f : Forest} (k : NodeKind) → low i ≡ false → Past at rest f → Past at rest (node i k f ◂ nil)
  over {i = i} {f = f} k h v =
      record {
        to = v.to;
        told = v.told;
        bare = bare_over;
        signs = λ j l m. ⊎_map (grow (λ i x. first (below x))) (λ y. y) (v.signs j l m);
      }
    where
      bare_over : (j : ℕ) (n : NodeKind) → HasIn j n (node i k f ◂ nil) → low j ≡ false
      bare_over j n (first root) = h
      bare_over j n (first (below x)) = v.bare j n x
      bare_over j n (later x) = elim x [ ]

  -- a node at the first token
  headed : {at i : ℕ} {c : Terminal} {us rest : List Tok} {f : Forest} (k : NodeKind) → is_low c ≡ false → Told at (tok i c ∷ us) → Past (at + 1) rest f
      → Past at rest (node i k f ◂ nil)
  headed k h r v = over k (high h r) (opened h r v)

  leaf-past : {at i : ℕ} {c : Terminal} {rest : List Tok} → is_low c ≡ false → Told at (tok i c ∷ rest) → Past at rest (leaf i ◂ nil)
  leaf-past h r = headed plain h r (nothing (on r))

  -- a minus and the number that it negates
  negative_past : {at i j e : ℕ} {x : List ℕ} {c : Terminal} {rest : List Tok} → Told at (tok i (name x e) ∷ tok j c ∷ rest)
      → Past at rest (node i negative nil ◂ nil)
  negative_past {at} {i} r =
      let v = headed negative refl r (nothing (on r)) in
      let e = here r in
      record {
        to = at + 1 + 1;
        told = on (on r);
        bare = v.bare;
        signs = λ j l m. ⊎_map (λ (q : at + 1 ≡ j). (i, omega arith, first root)) (λ y. y) (this_or_later (further refl r j l m));
      }

  module _ (T : Table) where
    mutual
      term_past : {p at : ℕ} {ts rest : List Tok} {t : Tree} → Term T p ts rest t → Told at ts → Past at rest (t ◂ nil)
      term_past a_number r = leaf-past refl r
      term_past a_var_or_string r = leaf-past refl r
      term_past (a_name h) r = leaf-past refl r
      term_past (a_call w) r = headed call refl r (opened refl (on r) (closed refl (args_past w (on (on r)))))
      term_past (a_round w) r = opened refl r (closed refl (place-past w (on r)))
      term_past (a_list w) r = headed list refl r (closed refl (args_past w (on r)))
      term_past (a_list_tail {f = f} {t = t} w v e) r =
          let x = closed refl (args_past w (on r)) in
          headed list_tail refl r (closed refl (subst (Past _ _) (last_beside f t ∙ e) (joined _ _ x (place-past v x.told))))
      term_past (a_curly w) r = headed curly refl r (closed refl (place-past w (on r)))
      term_past an_empty_list r = headed empty_list refl r (opened refl (on r) (nothing (on (on r))))
      term_past an_empty_curly r = headed empty_curly refl r (opened refl (on r) (nothing (on (on r))))
      term_past (a_negative h) r = negative_past r
      term_past (a_prefix a b c w d) r = headed prefix refl r (term_past w (on r))
      term_past (an_infix w a b c v d) r =
          let x = term_past w r in
          let y = closed (infix_high b) x in
          over infx (high (infix_high b) x.told) (joined _ _ y (term_past v y.told))

      args_past : {at : ℕ} {ts rest : List Tok} {f : Forest} → Args T ts rest f → Told at ts → Past at rest f
      args_past (one w) r = place-past w r
      args_past (more w v) r = let x = closed refl (place-past w r) in joined _ _ x (args_past v x.told)

      place-past : {p at : ℕ} {ts rest : List Tok} {t : Tree} → Place T p ts rest t → Told at ts → Past at rest (t ◂ nil)
      place-past (alone h) r = leaf-past refl r
      place-past (whole w h) r = term_past w r

    clause_past : {at : ℕ} {ts : List Tok} {t : Tree} → Clause T ts t → Told at ts → Past at [] (t ◂ nil)
    clause_past (clause w) r = closed refl (place-past w r)

-- ---- of the tokens of a clause

-- is the token with the index low
abbrev low_in : List Token → ℕ → Bool
low_in ts j = is_low (terminal_as (token_at ts j).kind (token_at ts j))

all_told : (low : ℕ → Bool) (ts : List Token) (i : ℕ) → ((j n : ℕ) → j + i ≡ n → low n ≡ low_in ts j) → Told low i (terminals i ts)
unfolding terminals terminal_as
all_told low [] i h = none (λ n (m : i ≤ n). h (n - i) n (omega arith))
all_told low (t ∷ ts) i h = next refl (h 0 i (omega arith)) (all_told low ts (i + 1) (λ j n e. h (suc j) n (omega arith)))

module _ (T : Table) (ts : List Token) (t : Tree) (reads : Reads T ts t) (j : ℕ) (k : (token_at ts j).kind ≡ Number) (h : is_lowest (token_at ts j).value ≡ true) where
  low_here : low_in ts j ≡ true
  unfolding terminal_as
  low_here = cc

  read : Past (low_in ts) 0 [] (t ◂ nil)
  read = clause_past (low_in ts) T reads (all_told (low_in ts) ts 0 (λ i n e. let z : i ≡ n = omega arith in cc))

  pub reads_negated : (i : ℕ) × (i + 1 ≡ j) × Has i negative t
  reads_negated = ⊎_elim in_tree (λ m. absurd (false≢true (sym (ended (low_in ts) read.told j m) ∙ low_here))) (read.signs j low_here (omega arith))
    where
      in_tree : Negated j (t ◂ nil) → (i : ℕ) × (i + 1 ≡ j) × Has i negative t
      in_tree (i, e, first x) = (i, e, x)
      in_tree (i, e, later x) = elim x [ ]

  pub reads_bare : (n : NodeKind) → Has j n t → ⊥
  reads_bare n x = false≢true (sym (read.bare j n (first x)) ∙ low_here)

-- so where no token's integer is above that magnitude, one at which a node stands is below it
pub plain_below : (ts : List Token) → Limited ts → (T : Table) (t : Tree) → Reads T ts t → (j : ℕ) (k : NodeKind) → Has j k t
    → (n : ℕ) → (token_at ts j).kind ≡ Number → (token_at ts j).value ≡ Integer n → n < largest_magnitude
unfolding is_lowest
plain_below ts limited T t reads j k x n a f =
    ⊎_elim (λ (z : n ≡ largest_magnitude). absurd (reads_bare T ts t reads j a (cc (f, eq-eqb n largest_magnitude z)) k x)) (λ l. l) (eq-or-lt_of_le (limited j n f))
