-- The nodes of a clause: they are acceptable, and the code finds them in its tree. Assumes nothing.
use Prim.Native.Nat.{ℕ, suc, ◌+◌, ◌-◌, ◌*◌, ◌/◌, ◌%◌, ◌<◌, ◌≤◌}
use mathlib.Core.Path.{◌≡◌, refl, sym, ◌∙◌, ap, subst}
use mathlib.Core.Bool.{Bool, true, false, cond}
use mathlib.Core.List.{List, [], ◌∷◌, ◌++◌, append_assoc, append-nil}
use native.Mathlib.Omega.{arith}
use lib.Dec.{eqb}
use lib.ListN.{length, get_or, take, drop, length-append, length-drop, take-append-drop}
use Rattle.lexer.specs.Cursor.{part}
use Rattle.lexer.specs.declared.cursor.Cursor.{Cursor}
use Rattle.lexer.proofs.Theorems.{is-valid}
use Rattle.reader.specs.Token.{Token}
use Rattle.reader.specs.Ops.{operators}
use Rattle.reader.specs.Tree.{NodeKind, plain, negative, call, prefix, infx, list, list_tail, curly, empty_list, empty_curly, kind_number, Tree, node, Forest, nil, ◌◂◌, arity, packed, numbers, numbers_all}
use Rattle.reader.specs.Listing.{shape_of, last_token, token_at, Source, Within, root, WithinAll, none, more}
use Rattle.reader.proofs.Theorems.{kind_and_arity, kind-number, clause_numbers}
use Rattle.pack.specs.Node.{Node, a_node, most, most_nodes, Fitting, Each, also, Acceptable}
use Rattle.pack.specs.Node as N
use Rattle.pack.specs.Image.{node_bytes, nodes_bytes}
use Rattle.pack.specs.ClauseCall.{last_of, pack_node, pack_nodes, pack_all, source_of, clause_nodes, ClauseAt}
use Rattle.pack.specs.Walk.{last_at, NodeAt, GivenNode, Lying, Walk, weight, nodes_of}
use Rattle.pack.specs.Walk as M
use Rattle.pack.specs.declared.nodes.Given.{Given}
use Rattle.pack.proofs.Arities.{Shaped, shaped, ShapedAll, no_tree, a_tree, reads_shaped}
use Rattle.pack.proofs.Basics.{part_length, drop-two}
use Rattle.pack.proofs.Scans.{node_length}

-- ---- how many nodes
mutual
  pub size : Tree → ℕ
  size (node i k f) = size_all f + 1

  size_all : Forest → ℕ
  size_all nil = 0
  size_all (t ◂ f) = size t + size_all f

mutual
  unfolding size numbers

  pub numbers_size : (t : Tree) → length (numbers t) ≡ 2 * size t
  numbers_size (node i k f) = omega (arith, length-append (numbers_all f) (i ∷ packed k (arity f) ∷ []), all-size f)

  all-size : (f : Forest) → length (numbers_all f) ≡ 2 * size_all f
  all-size nil = refl
  all-size (t ◂ f) = omega (arith, length-append (numbers t) (numbers_all f), numbers_size t, all-size f)

-- ---- the last token of a spelling
last-of : (k : NodeKind) (i : ℕ) → last_of (kind_number k) i ≡ last_token (shape_of k) i
unfolding last_of kind_number last_token shape_of
last-of plain i = refl
last-of negative i = refl
last-of call i = refl
last-of prefix i = refl
last-of infx i = refl
last-of list i = refl
last-of list_tail i = refl
last-of curly i = refl
last-of empty_list i = refl
last-of empty_curly i = refl

last_in : {tokens : ℕ} (k : NodeKind) (i : ℕ) → last_token (shape_of k) i < tokens → last_of (kind_number k) i < tokens
last_in k i h = rw (last-of k i) h

last-at : (k : NodeKind) (a i : ℕ) → a < 1024 → last_at (packed k a) i ≡ last_of (kind_number k) i
last-at k a i h = ap (λ (n : ℕ). last_of n i) (kind-number k a h)

-- it is the node's own or the next
last_by : (b : Bool) (i : ℕ) → (i ≤ cond b (i + 1) i) × (cond b (i + 1) i ≤ i + 1)
last_by true i = (omega arith, omega arith)
last_by false i = (omega arith, omega arith)

last_late : (k i : ℕ) → i ≤ last_of k i
unfolding last_of kind_number
last_late k i = (last_by (eqb k 1) i).0

pub last_near : (k i : ℕ) → last_of k i ≤ i + 1
unfolding last_of kind_number
last_near k i = (last_by (eqb k 1) i).1

-- ---- the tree's numbers, one node behind the other
node_split : (i : ℕ) (k : NodeKind) (f : Forest) (ms : List ℕ) → numbers (node i k f) ++ ms ≡ numbers_all f ++ (i ∷ packed k (arity f) ∷ ms)
unfolding numbers
node_split i k f ms = append_assoc (numbers_all f) (i ∷ packed k (arity f) ∷ []) ms

forest_split : (t : Tree) (f : Forest) (ms : List ℕ) → numbers_all (t ◂ f) ++ ms ≡ numbers t ++ (numbers_all f ++ ms)
unfolding numbers
forest_split t f ms = append_assoc (numbers t) (numbers_all f) ms

mutual
  unfolding size numbers

  pub lying_tree : {tokens : ℕ} (t : Tree) → Within tokens t → (m n : ℕ) (ms : List ℕ) → n ≡ size t + m → Lying tokens m ms → Lying tokens n (numbers t ++ ms)
  lying_tree {tokens} (node i k f) (root a b w) m n ms e h =
      subst (Lying tokens n) (sym (node_split i k f ms))
      (lying_all f w (suc m) n (i ∷ packed k (arity f) ∷ ms) (omega arith) (M.also (rw (last-at k (arity f) i b) (last_in k i a)) h))

  lying_all : {tokens : ℕ} (f : Forest) → WithinAll tokens f → (m n : ℕ) (ms : List ℕ) → n ≡ size_all f + m → Lying tokens m ms → Lying tokens n (numbers_all f ++ ms)
  lying_all {tokens} nil none m n ms e h = let d : m ≡ n = omega arith in subst (λ (j : ℕ). Lying tokens j ms) d h
  lying_all {tokens} (t ◂ f) (more v w) m n ms e h =
      subst (Lying tokens n) (sym (forest_split t f ms))
      (lying_tree t v (size_all f + m) n (numbers_all f ++ ms) (omega arith) (lying_all f w m (size_all f + m) ms refl h))

-- ---- nodes, one behind the other, over the words of the tokens
module _ (word : ℕ → ℕ → List ℕ) where
  node_nodes : (i : ℕ) (k : NodeKind) (f : Forest) (ns : List Node) → pack_nodes word (node i k f) ++ ns ≡ pack_all word f ++ (pack_node word k i (arity f) ∷ ns)
  unfolding pack_nodes
  node_nodes i k f ns = append_assoc (pack_all word f) (pack_node word k i (arity f) ∷ []) ns

  forest_nodes : (t : Tree) (f : Forest) (ns : List Node) → pack_all word (t ◂ f) ++ ns ≡ pack_nodes word t ++ (pack_all word f ++ ns)
  unfolding pack_nodes
  forest_nodes t f ns = append_assoc (pack_nodes word t) (pack_all word f) ns

  -- every node fits
  module _ (short : (i j : ℕ) → length (word i j) ≤ most) where
    mutual
      unfolding pack_nodes

      fits_tree : (t : Tree) → Shaped t → (ns : List Node) → Each Fitting ns → Each Fitting (pack_nodes word t ++ ns)
      fits_tree (node i k f) (shaped c g) ns h =
          rw (node_nodes i k f ns)
          (fits_all f g (pack_node word k i (arity f) ∷ ns)
          (also {n = pack_node word k i (arity f)} (record { can = c; short = short i (last_of (kind_number k) i) }) h))

      fits_all : (f : Forest) → ShapedAll f → (ns : List Node) → Each Fitting ns → Each Fitting (pack_all word f ++ ns)
      fits_all nil no_tree ns h = h
      fits_all (t ◂ f) (a_tree x g) ns h = rw (forest_nodes t f ns) (fits_tree t x (pack_all word f ++ ns) (fits_all f g ns h))

  -- the tree as nodes have it
  mutual
    as-tree : Tree → N.Tree
    as-tree (node i k f) = N.node (kind_number k) (word i (last_of (kind_number k) i)) (as-forest f)

    as-forest : Forest → N.Forest
    as-forest nil = N.nil
    as-forest (t ◂ f) = N.◌◂◌ (as-tree t) (as-forest f)

  as-count : (f : Forest) → N.count (as-forest f) ≡ arity f
  unfolding as-tree N.count arity
  as-count nil = refl
  as-count (t ◂ f) = ap (λ (n : ℕ). n + 1) (as-count f)

  mutual
    unfolding as-tree N.nodes pack_nodes

    as-nodes : (t : Tree) → N.nodes (as-tree t) ≡ pack_nodes word t
    as-nodes (node i k f) = cc (as-all f, as-count f)

    as-all : (f : Forest) → N.nodes_all (as-forest f) ≡ pack_all word f
    as-all nil = refl
    as-all (t ◂ f) = cc (as-nodes t, as-all f)

  mutual
    unfolding pack_nodes size

    pub nodes-size : (t : Tree) → length (pack_nodes word t) ≡ size t
    nodes-size (node i k f) = omega (arith, length-append (pack_all word f) (pack_node word k i (arity f) ∷ []), forest_size f)

    forest_size : (f : Forest) → length (pack_all word f) ≡ size_all f
    forest_size nil = refl
    forest_size (t ◂ f) = omega (arith, length-append (pack_nodes word t) (pack_all word f), nodes-size t, forest_size f)

-- only the words of the tree's tokens count
module _ (tokens : ℕ) (w w' : ℕ → ℕ → List ℕ) (f : (i j : ℕ) → i ≤ j → j < tokens → w i j ≡ w' i j) where
  mutual
    unfolding pack_nodes

    pub nodes-same : (t : Tree) → Within tokens t → pack_nodes w t ≡ pack_nodes w' t
    nodes-same (node i k h) (root a b v) =
        cc (all_same h v, f i (last_of (kind_number k) i) (last_late (kind_number k) i) (last_in k i a))

    all_same : (h : Forest) → WithinAll tokens h → pack_all w h ≡ pack_all w' h
    all_same nil none = refl
    all_same (t ◂ h) (more u v) = cc (nodes-same t u, all_same h v)

-- ---- as the code finds the nodes, over the spans of the tokens
abbrev pub spanned : List ℕ → List ℕ → List ℕ → ℕ → ℕ → List ℕ
spanned s starts ends i j = part (get_or starts i 0) (get_or ends j 0) s

module _ (s starts ends : List ℕ) {tokens : ℕ} where
  pub nodes-count : {n : ℕ} {ms : List ℕ} → Lying tokens n ms → length (nodes_of s starts ends n ms) ≡ n
  unfolding nodes_of
  nodes-count M.nothing = refl
  nodes-count (M.also a w) = ap suc (nodes-count w)

  mutual
    unfolding size numbers pack_nodes nodes_of

    pub nodes_tree : (t : Tree) → Within tokens t → (m n : ℕ) (ms : List ℕ) → n ≡ size t + m
        → nodes_of s starts ends n (numbers t ++ ms) ≡ pack_nodes (spanned s starts ends) t ++ nodes_of s starts ends m ms
    nodes_tree (node i k f) (root a b w) m n ms e =
        let p = packed k (arity f) in
        let h = nodes-all f w (suc m) n (i ∷ p ∷ ms) (omega arith) in
        let q : nodes_of s starts ends (suc m) (i ∷ p ∷ ms) ≡ pack_node (spanned s starts ends) k i (arity f) ∷ nodes_of s starts ends m ms =
        cc (last-at k (arity f) i b, kind-number k (arity f) b, (kind_and_arity k (arity f) b).1) in
        ap (nodes_of s starts ends n) (node_split i k f ms) ∙ h ∙ ap (λ (l : List Node). pack_all (spanned s starts ends) f ++ l) q
        ∙ sym (node_nodes (spanned s starts ends) i k f (nodes_of s starts ends m ms))

    nodes-all : (f : Forest) → WithinAll tokens f → (m n : ℕ) (ms : List ℕ) → n ≡ size_all f + m
        → nodes_of s starts ends n (numbers_all f ++ ms) ≡ pack_all (spanned s starts ends) f ++ nodes_of s starts ends m ms
    nodes-all nil none m n ms e = let d : n ≡ m = omega arith in ap (λ (j : ℕ). nodes_of s starts ends j ms) d
    nodes-all (t ◂ f) (more v w) m n ms e =
        ap (nodes_of s starts ends n) (forest_split t f ms)
        ∙ nodes_tree t v (size_all f + m) n (numbers_all f ++ ms) (omega arith)
        ∙ ap (λ (l : List Node). pack_nodes (spanned s starts ends) t ++ l) (nodes-all f w m (size_all f + m) ms refl)
        ∙ sym (forest_nodes (spanned s starts ends) t f (nodes_of s starts ends m ms))

-- ---- the nodes of a clause are acceptable, so 14 never arises
part-short : (a e : ℕ) (s : List ℕ) → length (part a e s) ≤ length s
part-short a e s =
    omega
    (arith, length-append (take (e - a) (drop a s)) (drop (e - a) (drop a s)), ap length (take-append-drop (e - a) (drop a s)), length-drop a s)

module _ (s : List ℕ) (c : Cursor) (ts : List Token) (e : Cursor) (t : Tree) (o : ClauseAt s c ts e t) where
  pub clause_size : size t ≤ most_nodes
  clause_size = omega (arith, clause_numbers s c ts e o.valid_cursor o.gathered t o.reads, numbers_size t)

  pub clause_acceptable : Acceptable (clause_nodes s ts t)
  clause_acceptable =
      let short : (i j : ℕ) → length (source_of s ts i j) ≤ most =
      λ i j. omega (arith, part-short (token_at ts i).start (token_at ts j).end s, (is-valid (length s) c o.valid_cursor).short) in
      record {
        few = omega (arith, nodes-size (source_of s ts) t, clause_size);
        fitting = rw append-nil at (fits_tree (source_of s ts) short t (reads_shaped operators ts o.reads) [] N.none);
        tree = as-tree (source_of s ts) t;
        whole = as-nodes (source_of s ts) t;
      }

-- ---- as the code goes through the tree
record Here (tokens : ℕ) (ms : List ℕ) (at left : ℕ) : Type 0 where
  both : at + 2 ≤ length ms
  lies : last_at (get_or ms (at + 1) 0) (get_or ms at 0) < tokens
  early : get_or ms at 0 ≤ last_at (get_or ms (at + 1) 0) (get_or ms at 0)
  rest : Lying tokens (left - 1) (drop (at + 2) ms)

here-at : {tokens n : ℕ} {l : List ℕ} (ms : List ℕ) (at left : ℕ) → Lying tokens n l → drop at ms ≡ l → left ≡ n → 0 < left → Here tokens ms at left
here-at ms at left M.nothing e d h = absurd (omega arith)
here-at {tokens} ms at left (M.also {n = n} {i = i} {p = p} {ms = rest} a w) e d h =
    let b : at + 2 ≤ length ms = omega (arith, length-drop at ms, ap length e) in
    let x = drop-two ms at b in
    let y : i ≡ get_or ms at 0 = cc (x, e) in
    let z : p ≡ get_or ms (at + 1) 0 = cc (x, e) in
    let r : rest ≡ drop (at + 2) ms = cc (x, e) in
    let m : n ≡ left - 1 = omega arith in
    record {
      both = b;
      lies = rw (← y, ← z) a;
      early = last_late (get_or ms (at + 1) 0 / 1024) (get_or ms at 0);
      rest = subst (λ (k : ℕ). Lying tokens k (drop (at + 2) ms)) m (subst (Lying tokens n) r w);
    }

module _ (s starts ends : List ℕ) {tokens : ℕ} (source : Source s starts ends tokens) where
  pub weight_is : {n : ℕ} {ms : List ℕ} → Lying tokens n ms → weight starts ends n ms ≡ length (nodes_bytes (nodes_of s starts ends n ms))
  unfolding weight nodes_of nodes_bytes
  weight_is M.nothing = refl
  weight_is (M.also {n = n} {i = i} {p = p} {ms = ms} a w) =
      let l = last_at p i in
      let x : get_or starts i 0 + (get_or ends l 0 - get_or starts i 0) ≤ length s =
      omega (arith, source.ordered i l (last_late (p / 1024) i) a, source.inside l a) in
      let it = a_node (p / 1024) (p % 1024) (part (get_or starts i 0) (get_or ends l 0) s) in
      omega
      (arith, weight_is w, length-append (node_bytes it) (nodes_bytes (nodes_of s starts ends n ms)), node_length it, part_length (get_or starts i 0) (get_or ends l 0 - get_or starts i 0) s x)

module _ (s ms : List ℕ) (at left : ℕ) (starts ends : List ℕ) (w : Walk s ms at left starts ends) where
  module _ (h : left ≤ 0) where
    none_left : left ≡ 0
    none_left = omega arith

    pub weight_end : weight starts ends left (drop at ms) ≡ 0
    unfolding weight
    weight_end = ap (λ (n : ℕ). weight starts ends n (drop at ms)) none_left

    pub nodes_end : nodes_of s starts ends left (drop at ms) ≡ []
    unfolding nodes_of
    nodes_end = ap (λ (n : ℕ). nodes_of s starts ends n (drop at ms)) none_left

  module _ (h : 0 < left) where
    here : Here w.tokens ms at left
    here = here-at ms at left w.lying refl refl h

    one_more : left ≡ suc (left - 1)
    one_more = omega arith

    pub node_at : NodeAt ms at starts ends
    node_at =
        let i = get_or ms at 0 in
        let l = last_at (get_or ms (at + 1) 0) i in
        record {
          both = here.both;
          first = omega (arith, here.early, here.lies, w.source.started);
          last = omega (arith, here.lies, w.source.ended);
          ordered = omega (arith, w.source.ordered i l here.early here.lies);
        }

    pub walk_on : Walk s ms (at + 2) (left - 1) starts ends
    walk_on = record { tokens = w.tokens; source = w.source; lying = here.rest; near = omega (arith, w.near) }

    module _ (r : Given) (g : GivenNode ms at starts ends r) where
      pub node_inside : r.start + r.size ≤ length s
      node_inside =
          let l = last_at (get_or ms (at + 1) 0) (get_or ms at 0) in
          omega (arith, g.start-same, g.size_same, node_at.ordered, w.source.inside l here.lies)

      pub weight_node : weight starts ends left (drop at ms) ≡ 5 + r.size + weight starts ends (left - 1) (drop (at + 2) ms)
      unfolding weight
      weight_node =
          ap (λ (n : ℕ). weight starts ends n (drop at ms)) one_more ∙ ap (weight starts ends (suc (left - 1))) (drop-two ms at here.both)
          ∙ cc g.size_same

      pub nodes_node : nodes_of s starts ends left (drop at ms)
          ≡ a_node r.kind r.arity (take r.size (drop r.start s)) ∷ nodes_of s starts ends (left - 1) (drop (at + 2) ms)
      unfolding nodes_of
      nodes_node =
          ap (λ (n : ℕ). nodes_of s starts ends n (drop at ms)) one_more ∙ ap (nodes_of s starts ends (suc (left - 1))) (drop-two ms at here.both)
          ∙ cc (g.kind_same, g.arity-same, g.start-same, g.size_same)
