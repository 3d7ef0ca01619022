-- The listing's contract leaves one outcome, and speaks of the line of the clause's tokens. Assumes nothing.
use Prim.Native.Nat.{ℕ, ◌+◌, ◌<◌, ◌≤◌}
use mathlib.Core.Path.{◌≡◌, refl, sym, ap, ◌∙◌}
use mathlib.Core.List.{List, map}
use native.Mathlib.Omega.{arith}
use lib.ListN.{length, get_or, take, get_or-map}
use Rattle.reader.specs.Token.{Token}
use Rattle.reader.specs.Tree.{Tree, node, Forest, nil, ◌◂◌}
use Rattle.reader.specs.Listing.{shape_of, last_separator, front, printed, joined, others, token_at, spelled, line, spelling, word, last_token, Within, root, WithinAll, none, more, leaves, line_outcome, Listable, SomeListable, Lists, Listed}
use Rattle.reader.specs.declared.listing.Shape.{Shape}
use Rattle.reader.specs.declared.listing.Shape.TheVariants.{Word, Negative, Call, Square, Tail, Curly}
use Rattle.reader.proofs.Chains.{front_at}
use Rattle.reader.proofs.Spans.{Told}

-- two outcomes that the contract permits are one
pub one_outcome : (s starts ends ms : List ℕ) (nodes : ℕ) (d : List ℕ) (r : Listed) (d' : List ℕ) (q : Listed) (e : List ℕ) → SomeListable s starts ends ms nodes
    → Lists s starts ends ms nodes d r d' → Lists s starts ends ms nodes d q e → leaves r d' ≡ leaves q e
one_outcome s starts ends ms nodes d r d' q e o a b = a.line o.tree o.is ∙ sym (b.line o.tree o.is)

-- only the words of the tree's tokens count
module _ (tokens : ℕ) (w w' : ℕ → ℕ → List ℕ) (f : (i j : ℕ) → i ≤ j → j < tokens → w i j ≡ w' i j) where
  front_same : (x : Shape) (i : ℕ) → last_token x i < tokens → front w x i ≡ front w' x i
  unfolding front last_token
  front_same Word i h = f i i (omega arith) h
  front_same Negative i h = f i (i + 1) (omega arith) h
  front_same Call i h = cc (f i i (omega arith) h)
  front_same Square i h = refl
  front_same Tail i h = refl
  front_same Curly i h = refl

  mutual
    unfolding printed joined others

    printed_same : (t : Tree) → Within tokens t → printed w t ≡ printed w' t
    printed_same (node i k h) (root a b v) = cc (front_same (shape_of k) i a, joined_same (last_separator (shape_of k)) h v)

    joined_same : (c : ℕ) (h : Forest) → WithinAll tokens h → joined w c h ≡ joined w' c h
    joined_same c nil none = refl
    joined_same c (t ◂ h) (more u v) = cc (printed_same t u, others_same c h v)

    others_same : (c : ℕ) (h : Forest) → WithinAll tokens h → others w c h ≡ others w' c h
    others_same c nil none = refl
    others_same c (t ◂ h) (more u v) = cc (printed_same t u, others_same c h v)

-- the spans in front are the tokens' spans, and a comma stands where the Comma starts
module _ (s starts ends : List ℕ) (ts : List Token) (a : take (length ts) starts ≡ map (λ (k : Token). k.start) ts) (b : take (length ts) ends ≡ map (λ (k : Token). k.end) ts) (h : Told s ts) where
  start-at : (i : ℕ) → i < length ts → get_or starts i 0 ≡ (token_at ts i).start
  start-at i l = front_at (λ (k : Token). k.start) ts starts a i l ∙ get_or-map (λ (k : Token). k.start) ts i _

  end_at : (i : ℕ) → i < length ts → get_or ends i 0 ≡ (token_at ts i).end
  end_at i l = front_at (λ (k : Token). k.end) ts ends b i l ∙ get_or-map (λ (k : Token). k.end) ts i _

  -- by the first byte and by the kind it is the same
  word-spelled : (i j : ℕ) → i ≤ j → j < length ts → word s starts ends i j ≡ spelled s ts i j
  unfolding word spelling spelled
  word-spelled i j l k = let m : i < length ts = omega arith in cc (start-at i m, end_at j k, h i m)

  pub printed_line : (t : Tree) → Within (length ts) t → printed (word s starts ends) t ≡ line s ts t
  printed_line t w = printed_same (length ts) (word s starts ends) (spelled s ts) word-spelled t w

  -- what the call leaves is the line of the clause
  pub lists_line : (ms : List ℕ) (nodes : ℕ) (d : List ℕ) (r : Listed) (d' : List ℕ) (t : Tree) → Listable s starts ends ms nodes t → Within (length ts) t
      → Lists s starts ends ms nodes d r d' → leaves r d' ≡ line_outcome (line s ts t) d
  lists_line ms nodes d r d' t w v h = h.line t w ∙ ap (λ (l : List ℕ). line_outcome l d) (printed_line t v)
