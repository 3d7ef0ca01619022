-- The tree of a reading lies within its tokens: what the listing asks of a tree holds for every clause of at most 1,024 tokens. Assumes nothing.
use Prim.Native.Nat.{ℕ, ◌+◌, ◌<◌, ◌≤◌}
use mathlib.Core.Path.{◌≡◌, refl, sym, ap, subst, ◌∙◌}
use mathlib.Core.Bool.{Bool, true, false}
use mathlib.Core.List.{List, [], ◌∷◌}
use native.Mathlib.Omega.{arith}
use lib.ListN.{length}
use Rattle.reader.specs.Token.{Token, Terminal, Tok, tok, terminals}
use Rattle.reader.specs.Ops.{Table}
use Rattle.reader.specs.Tree.{NodeKind, plain, negative, call, prefix, infx, list, list_tail, curly, empty_list, empty_curly, Tree, node, leaf, Forest, nil, ◌◂◌, arity, snoc}
use Rattle.reader.specs.Grammar.{Term, a_number, a_var_or_string, a_name, a_call, a_round, a_list, a_list_tail, a_curly, an_empty_list, an_empty_curly, a_negative, a_prefix, an_infix, Args, one, more, Place, alone, whole, clause, Reads}
use Rattle.reader.specs.Listing.{shape_of, last_token, Within, root, WithinAll}
use Rattle.reader.specs.Listing

-- tokens whose indexes run from one to another
pub data Run (n : ℕ) : ℕ → List Tok → Type 0 where
  end : {i : ℕ} → i ≡ n → Run n i []
  next : {i j : ℕ} {k : Terminal} {ts : List Tok} → i ≡ j → Run n (i + 1) ts → Run n i (tok j k ∷ ts)

pub here : {n i j : ℕ} {k : Terminal} {ts : List Tok} → Run n i (tok j k ∷ ts) → i ≡ j
here (next e r) = e

pub on : {n i j : ℕ} {k : Terminal} {ts : List Tok} → Run n i (tok j k ∷ ts) → Run n (i + 1) ts
on (next e r) = r

pub below : {n i : ℕ} {ts : List Tok} → Run n i ts → i ≤ n
below (end e) = omega arith
below (next e r) = let h = below r in omega arith

pub numbered : (ts : List Token) (i n : ℕ) → i + length ts ≡ n → Run n i (terminals i ts)
unfolding terminals
numbered [] i n e = let z : i ≡ n = omega arith in end z
numbered (t ∷ ts) i n e = next refl (numbered ts (i + 1) n (omega arith))

-- behind a term that began at `at`, and behind several
pub record Past (n at : ℕ) (rest : List Tok) (t : Tree) : Type 0 where
  pub to : ℕ
  pub run : Run n to rest
  ahead : at < to
  within : Within n t

pub record PastAll (n at : ℕ) (rest : List Tok) (f : Forest) : Type 0 where
  pub to : ℕ
  pub run : Run n to rest
  ahead : at + arity f ≤ to
  within : WithinAll n f

none_within : (n : ℕ) → WithinAll n nil
none_within n = Listing.none

last_within : {n : ℕ} {t : Tree} (f : Forest) → WithinAll n f → Within n t → WithinAll n (snoc f t)
unfolding snoc
last_within nil w v = Listing.more v w
last_within (u ◂ f) (Listing.more a w) v = Listing.more a (last_within f w v)

snoc-arity : (f : Forest) (t : Tree) → arity (snoc f t) ≡ arity f + 1
unfolding snoc arity
snoc-arity nil t = refl
snoc-arity (u ◂ f) t = let h = snoc-arity f t in omega arith

-- every kind but one
abbrev others : NodeKind → Bool
others plain = true
others negative = false
others call = true
others prefix = true
others infx = true
others list = true
others list_tail = true
others curly = true
others empty_list = true
others empty_curly = true

pub apart : (k : NodeKind) → others k ≡ true → k ≡ negative → ⊥
apart k h e = let z : false ≡ true = sym (ap others e) ∙ h in let y : ◌≡◌ {A = ℕ} 0 1 = cc in omega arith

module _ (n : ℕ) (small : n ≤ 1024) where
  -- a node whose own token is the first of its term, or any between
  node_within : (i : ℕ) (k : NodeKind) (f : Forest) → last_token (shape_of k) i < n → arity f < n → WithinAll n f → Within n (node i k f)
  node_within i k f a b w = let z : arity f < 1024 = omega arith in root a z w

  leaf-past : {i : ℕ} {k : Terminal} {rest : List Tok} (at : ℕ) → Run n at (tok i k ∷ rest) → Past n at rest (leaf i)
  unfolding shape_of last_token arity
  leaf-past {i} at r =
      let e = here r in
      let l = below (on r) in
      record { to = at + 1; run = on r; ahead = omega arith; within = node_within i plain nil (omega arith) (omega arith) (none_within n) }

  negative_past : {i j : ℕ} {k m : Terminal} {rest : List Tok} (at : ℕ) → Run n at (tok i k ∷ tok j m ∷ rest) → Past n at rest (node i negative nil)
  unfolding shape_of last_token arity
  negative_past {i} at r =
      let e = here r in
      let l = below (on (on r)) in
      record { to = at + 1 + 1; run = on (on r); ahead = omega arith; within = node_within i negative nil (omega arith) (omega arith) (none_within n) }

  -- a node of any other kind, at a token before the end
  lies : (k : NodeKind) (i : ℕ) → (k ≡ negative → ⊥) → i < n → last_token (shape_of k) i < n
  unfolding shape_of last_token
  lies plain i h l = l
  lies negative i h l = absurd (h refl)
  lies call i h l = l
  lies prefix i h l = l
  lies infx i h l = l
  lies list i h l = l
  lies list_tail i h l = l
  lies curly i h l = l
  lies empty_list i h l = l
  lies empty_curly i h l = l

  -- ---- several terms
  closed : {m : ℕ} {c : Terminal} {rest : List Tok} {f : Forest} (from : ℕ) → PastAll n from (tok m c ∷ rest) f → PastAll n from rest f
  closed from v = record { to = v.to + 1; run = on v.run; ahead = omega (arith, v.ahead); within = v.within }

  nothing_past : {rest : List Tok} (from : ℕ) → Run n from rest → PastAll n from rest nil
  unfolding arity
  nothing_past from r = record { to = from; run = r; ahead = omega arith; within = none_within n }

  one-past : {rest : List Tok} {t : Tree} (from : ℕ) → Past n from rest t → PastAll n from rest (t ◂ nil)
  unfolding arity
  one-past from v = record { to = v.to; run = v.run; ahead = omega (arith, v.ahead); within = Listing.more v.within (none_within n) }

  more_past : {i : ℕ} {c : Terminal} {us rest : List Tok} {t : Tree} {f : Forest} (from : ℕ) (v : Past n from (tok i c ∷ us) t) → PastAll n (v.to + 1) rest f
      → PastAll n from rest (t ◂ f)
  unfolding arity
  more_past from v w = record { to = w.to; run = w.run; ahead = omega (arith, v.ahead, w.ahead); within = Listing.more v.within w.within }

  last_past : {i : ℕ} {c : Terminal} {us rest : List Tok} {t : Tree} {f g : Forest} (from : ℕ) (v : PastAll n from (tok i c ∷ us) f) → Past n (v.to + 1) rest t → snoc f t ≡ g
      → PastAll n from rest g
  last_past {rest = rest} {t = t} {f = f} from v w e =
      subst (PastAll n from rest) e
      (record { to = w.to; run = w.run; ahead = omega (arith, v.ahead, w.ahead, snoc-arity f t); within = last_within f v.within w.within })

  -- ---- one term
  node_past : {i : ℕ} {c : Terminal} {us rest : List Tok} (k : NodeKind) (f : Forest) (at from : ℕ) → (k ≡ negative → ⊥) → at < from → Run n at (tok i c ∷ us)
      → PastAll n from rest f → Past n at rest (node i k f)
  node_past {i} k f at from h l r v =
      let e = here r in
      let b = below (on r) in
      let d = below v.run in
      record {
        to = v.to;
        run = v.run;
        ahead = omega (arith, v.ahead);
        within = node_within i k f (lies k i h (omega arith)) (omega (arith, v.ahead)) v.within;
      }

  infix_past : {i : ℕ} {c : Terminal} {us rest : List Tok} {t u : Tree} (at : ℕ) (v : Past n at (tok i c ∷ us) t) → Past n (v.to + 1) rest u → Past n at rest (node i infx (t ◂ u ◂ nil))
  unfolding arity
  infix_past {i} {t = t} {u = u} at v w =
      let e = here v.run in
      let d = below w.run in
      record {
        to = w.to;
        run = w.run;
        ahead = omega (arith, v.ahead, w.ahead);
        within =
            node_within i infx (t ◂ u ◂ nil) (lies infx i (apart infx refl) (omega (arith, w.ahead))) (omega (arith, v.ahead, w.ahead))
            (Listing.more v.within (Listing.more w.within (none_within n)));
      }

  round-past : {m : ℕ} {c : Terminal} {rest : List Tok} {t : Tree} (at : ℕ) → Past n (at + 1) (tok m c ∷ rest) t → Past n at rest t
  round-past at v = record { to = v.to + 1; run = on v.run; ahead = omega (arith, v.ahead); within = v.within }

  module _ (T : Table) where
    mutual
      pub term_past : {p : ℕ} {ts rest : List Tok} {t : Tree} → Term T p ts rest t → (at : ℕ) → Run n at ts → Past n at rest t
      term_past a_number at r = leaf-past at r
      term_past a_var_or_string at r = leaf-past at r
      term_past (a_name h) at r = leaf-past at r
      term_past (a_call {f = f} w) at r = node_past call f at (at + 1 + 1) (apart call refl) (omega arith) r (closed (at + 1 + 1) (args_past w (at + 1 + 1) (on (on r))))
      term_past (a_round w) at r = round-past at (place-past w (at + 1) (on r))
      term_past (a_list {f = f} w) at r = node_past list f at (at + 1) (apart list refl) (omega arith) r (closed (at + 1) (args_past w (at + 1) (on r)))
      term_past (a_list_tail {g = g} w v e) at r =
          let a = args_past w (at + 1) (on r) in
          node_past list_tail g at (at + 1) (apart list_tail refl) (omega arith) r (closed (at + 1) (last_past (at + 1) a (place-past v (a.to + 1) (on a.run)) e))
      term_past (a_curly {t = t} w) at r =
          node_past curly (t ◂ nil) at (at + 1) (apart curly refl) (omega arith) r (closed (at + 1) (one-past (at + 1) (place-past w (at + 1) (on r))))
      term_past an_empty_list at r = node_past empty_list nil at (at + 1) (apart empty_list refl) (omega arith) r (closed (at + 1) (nothing_past (at + 1) (on r)))
      term_past an_empty_curly at r = node_past empty_curly nil at (at + 1) (apart empty_curly refl) (omega arith) r (closed (at + 1) (nothing_past (at + 1) (on r)))
      term_past (a_negative h) at r = negative_past at r
      term_past (a_prefix {t = t} a b c w d) at r =
          node_past prefix (t ◂ nil) at (at + 1) (apart prefix refl) (omega arith) r (one-past (at + 1) (term_past w (at + 1) (on r)))
      term_past (an_infix w a b c v d) at r = let x = term_past w at r in infix_past at x (term_past v (x.to + 1) (on x.run))

      pub args_past : {ts rest : List Tok} {f : Forest} → Args T ts rest f → (at : ℕ) → Run n at ts → PastAll n at rest f
      args_past (one w) at r = one-past at (place-past w at r)
      args_past (more w v) at r = let x = place-past w at r in more_past at x (args_past v (x.to + 1) (on x.run))

      pub place-past : {p : ℕ} {ts rest : List Tok} {t : Tree} → Place T p ts rest t → (at : ℕ) → Run n at ts → Past n at rest t
      place-past (alone h) at r = leaf-past at r
      place-past (whole w h) at r = term_past w at r

-- 01: indexes count from 0 in the clause, and a clause has at most 1,024 tokens
pub reads_within : (T : Table) (ts : List Token) (t : Tree) → length ts ≤ 1024 → Reads T ts t → Within (length ts) t
reads_within T ts t h (clause w) = (place-past (length ts) h T w 0 (numbered ts 0 (length ts) (omega arith))).within
