-- A term within a term: what a tree's numbers and its line are made of, read from the last node. Assumes nothing.
use Prim.Native.Nat.{ℕ, ◌+◌, ◌-◌, ◌/◌, ◌%◌, ◌<◌, ◌≤◌}
use mathlib.Core.Path.{◌≡◌, refl, sym, ap, subst, ◌∙◌}
use mathlib.Core.List.{List, [], ◌∷◌, ◌++◌, append_assoc, append-nil}
use native.Mathlib.Omega.{arith}
use lib.ListN.{length, get_or, take, length-append}
use lib.Seq.{take-take, take_at, get_or-take, get_or_at, length-take-le}
use Rattle.lexer.specs.Chars.{comma}
use Rattle.reader.specs.Tree.{NodeKind, plain, negative, call, prefix, infx, list, list_tail, curly, empty_list, empty_curly, kind_number, packed, Tree, node, Forest, nil, ◌◂◌, arity, numbers, numbers_all}
use Rattle.reader.specs.Listing.{kind_of, shape_of, shape_at, separator, last_separator, front, back, printed, joined, others, last_token, Within, root, WithinAll, none, more, own, own_all, Nodes, also}

pub kind_of-number : (k : NodeKind) → kind_of (kind_number k) ≡ k
unfolding kind_of kind_number
kind_of-number plain = refl
kind_of-number negative = refl
kind_of-number call = refl
kind_of-number prefix = refl
kind_of-number infx = refl
kind_of-number list = refl
kind_of-number list_tail = refl
kind_of-number curly = refl
kind_of-number empty_list = refl
kind_of-number empty_curly = refl

pub packed_kind : (k : NodeKind) (a : ℕ) → a < 1024 → packed k a / 1024 ≡ kind_number k
unfolding packed
packed_kind k a h = omega arith

pub packed-arity : (k : NodeKind) (a : ℕ) → a < 1024 → packed k a % 1024 ≡ a
unfolding packed
packed-arity k a h = omega arith

pub packed-both : (k : NodeKind) (a : ℕ) → a < 1024 → (kind_of (packed k a / 1024) ≡ k) × (packed k a % 1024 ≡ a)
packed-both k a h = (ap kind_of (packed_kind k a h) ∙ kind_of-number k, packed-arity k a h)

pub packed_shape : (k : NodeKind) (a : ℕ) → a < 1024 → shape_at (packed k a) ≡ shape_of k
packed_shape k a h = ap (λ (n : ℕ). shape_of (kind_of n)) (packed_kind k a h) ∙ ap shape_of (kind_of-number k)

-- ---- the front part of the numbers
module _ (ms : List ℕ) (n : ℕ) (left ns : List ℕ) (whole : n ≤ length ms) (same : take n ms ≡ left ++ ns) where
  pub front_length : length left + length ns ≡ n
  front_length = sym (length-append left ns) ∙ ap length (sym same) ∙ length-take-le n ms whole

  pub take_left : (m : ℕ) → length left ≡ m → take m ms ≡ left
  take_left m e =
      let l : m ≤ n = omega (arith, front_length) in
      sym (take-take m n ms l) ∙ ap (take m) same ∙ take_at left ns m e

-- the last node's numbers
module _ (ms : List ℕ) (n : ℕ) (left : List ℕ) (i p : ℕ) (whole : n ≤ length ms) (same : take n ms ≡ left ++ i ∷ p ∷ []) where
  pub last-token : (m : ℕ) → m + 2 ≡ n → get_or ms m 0 ≡ i
  last-token m e =
      let l = front_length ms n left (i ∷ p ∷ []) whole same in
      sym (get_or-take n ms m 0 (omega arith)) ∙ ap (λ (ns : List ℕ). get_or ns m 0) same ∙ get_or_at left i (p ∷ []) 0 m (omega arith)

  pub last_packed : (m : ℕ) → m + 2 ≡ n → get_or ms (m + 1) 0 ≡ p
  last_packed m e =
      let l = front_length ms n left (i ∷ p ∷ []) whole same in
      sym (get_or-take n ms (m + 1) 0 (omega arith)) ∙ ap (λ (ns : List ℕ). get_or ns (m + 1) 0) (same ∙ sym (append_assoc left (i ∷ []) (p ∷ [])))
      ∙ get_or_at (left ++ i ∷ []) p [] 0 (m + 1) (length-append left (i ∷ []) ∙ omega arith)

-- ---- the last of the children
module _ (word : ℕ → ℕ → List ℕ) where
  pub record Split (c tokens : ℕ) (f : Forest) : Type 0 where
    pub rest : Forest
    pub last : Tree
    pub count : arity rest + 1 ≡ arity f
    pub within-rest : WithinAll tokens rest
    pub within_last : Within tokens last
    pub numbered : numbers_all f ≡ numbers_all rest ++ numbers last
    pub parted : others word c f ≡ others word comma rest ++ c ∷ printed word last

  comma_always : (f : Forest) → separator comma f ≡ comma
  unfolding separator
  comma_always nil = refl
  comma_always (t ◂ f) = refl

  split_one : (c tokens : ℕ) (t : Tree) → Within tokens t → Split c tokens (t ◂ nil)
  unfolding arity numbers_all others separator
  split_one c tokens t h =
      record {
        rest = nil;
        last = t;
        count = refl;
        within-rest = none;
        within_last = h;
        numbered = append-nil (numbers t);
        parted = ap (λ (l : List ℕ). c ∷ l) (append-nil (printed word t));
      }

  split_more : (c tokens : ℕ) (t u : Tree) (f : Forest) → Within tokens t → Split c tokens (u ◂ f) → Split c tokens (t ◂ u ◂ f)
  unfolding arity numbers_all others separator
  split_more c tokens t u f h v =
      record {
        rest = t ◂ v.rest;
        last = v.last;
        count = ap (λ (n : ℕ). n + 1) v.count;
        within-rest = more h v.within-rest;
        within_last = v.within_last;
        numbered = ap (λ (l : List ℕ). numbers t ++ l) v.numbered ∙ sym (append_assoc (numbers t) (numbers_all v.rest) (numbers v.last));
        parted =
            ap (λ (l : List ℕ). comma ∷ printed word t ++ l) v.parted
            ∙ ap (λ (l : List ℕ). comma ∷ l) (sym (append_assoc (printed word t) (others word comma v.rest) (c ∷ printed word v.last)))
            ∙ ap (λ (k : ℕ). k ∷ (printed word t ++ others word comma v.rest) ++ c ∷ printed word v.last) (sym (comma_always v.rest));
      }

  pub split : (c tokens : ℕ) (t : Tree) (f : Forest) → WithinAll tokens (t ◂ f) → Split c tokens (t ◂ f)
  split c tokens t nil (more h k) = split_one c tokens t h
  split c tokens t (u ◂ f) (more h k) = split_more c tokens t u f h (split c tokens u f k)

-- ---- the line is as long as its nodes are together
module _ (word : ℕ → ℕ → List ℕ) where
  -- a node's numbers in front of others
  own-node : (i : ℕ) (k : NodeKind) (a : ℕ) (ns : List ℕ) → a < 1024
      → own_all word (i ∷ packed k a ∷ ns) ≡ length (front word (shape_of k) i) + (a - 1) + length (back (shape_of k)) + own_all word ns
  unfolding own_all own
  own-node i k a ns h = cc (packed_shape k a h, packed-arity k a h)

  pub separated : (c : ℕ) (f : Forest) → length (joined word c f) + arity f ≡ length (others word c f) + (arity f - 1)
  unfolding joined others arity
  separated c nil = refl
  separated c (t ◂ f) = omega arith

  pub printed_length : (i : ℕ) (k : NodeKind) (f : Forest) → length (printed word (node i k f))
      ≡ length (front word (shape_of k) i) + (length (joined word (last_separator (shape_of k)) f) + length (back (shape_of k)))
  unfolding printed
  printed_length i k f = simp length-append

  pub others-length : (c : ℕ) (t : Tree) (f : Forest) → length (others word c (t ◂ f)) ≡ length (printed word t) + length (others word c f) + 1
  unfolding others
  others-length c t f = omega (arith, length-append (printed word t) (others word c f))

  node_split : (i : ℕ) (k : NodeKind) (f : Forest) (ns : List ℕ) → numbers (node i k f) ++ ns ≡ numbers_all f ++ (i ∷ packed k (arity f) ∷ ns)
  unfolding numbers
  node_split i k f ns = append_assoc (numbers_all f) (i ∷ packed k (arity f) ∷ []) ns

  forest_split : (t : Tree) (f : Forest) (ns : List ℕ) → numbers_all (t ◂ f) ++ ns ≡ numbers t ++ (numbers_all f ++ ns)
  unfolding numbers_all
  forest_split t f ns = append_assoc (numbers t) (numbers_all f) ns

  nil_split : (ns : List ℕ) → numbers_all nil ++ ns ≡ ns
  unfolding numbers_all
  nil_split ns = refl

  own-none : (c : ℕ) (ns : List ℕ) → own_all word (numbers_all nil ++ ns) + arity nil ≡ length (others word c nil) + own_all word ns
  unfolding numbers_all arity others
  own-none c ns = omega arith

  one_more : (t : Tree) (f : Forest) → arity (t ◂ f) ≡ arity f + 1
  unfolding arity
  one_more t f = refl

  mutual
    pub own_term : {tokens : ℕ} (t : Tree) → Within tokens t → (ns : List ℕ) → own_all word (numbers t ++ ns) ≡ length (printed word t) + own_all word ns
    own_term (node i k f) (root a b w) ns =
        let all = own_terms (last_separator (shape_of k)) f w (i ∷ packed k (arity f) ∷ ns) in
        omega (arith, ap (own_all word) (node_split i k f ns), all, own-node i k (arity f) ns b, separated (last_separator (shape_of k)) f, printed_length i k f)

    own_terms : {tokens : ℕ} (c : ℕ) (f : Forest) → WithinAll tokens f → (ns : List ℕ)
        → own_all word (numbers_all f ++ ns) + arity f ≡ length (others word c f) + own_all word ns
    own_terms c nil none ns = own-none c ns
    own_terms c (t ◂ f) (more h w) ns =
        omega (arith, ap (own_all word) (forest_split t f ns), own_term t h (numbers_all f ++ ns), own_terms c f w ns, others-length c t f, one_more t f)

  -- ---- every node lies within the tokens
  node_lies : {tokens : ℕ} (i : ℕ) (k : NodeKind) (a : ℕ) → a < 1024 → last_token (shape_of k) i < tokens → last_token (shape_at (packed k a)) i < tokens
  node_lies i k a h l = rw (packed_shape k a h) l

  mutual
    pub term_nodes : {tokens : ℕ} (t : Tree) → Within tokens t → (ns : List ℕ) → Nodes tokens ns → Nodes tokens (numbers t ++ ns)
    term_nodes {tokens} (node i k f) (root a b w) ns h =
        subst (Nodes tokens) (sym (node_split i k f ns)) (terms_nodes f w (i ∷ packed k (arity f) ∷ ns) (also (node_lies i k (arity f) b a) h))

    terms_nodes : {tokens : ℕ} (f : Forest) → WithinAll tokens f → (ns : List ℕ) → Nodes tokens ns → Nodes tokens (numbers_all f ++ ns)
    terms_nodes {tokens} nil none ns h = subst (Nodes tokens) (sym (nil_split ns)) h
    terms_nodes {tokens} (t ◂ f) (more w k) ns h =
        subst (Nodes tokens) (sym (forest_split t f ns)) (term_nodes t w (numbers_all f ++ ns) (terms_nodes f k ns h))
