-- One step of the walk over a tree: a term from its children, and terms from the last of them. Assumes nothing.
use Prim.Native.Nat.{ℕ, ◌+◌, ◌-◌, ◌*◌, ◌%◌, ◌<◌, ◌≤◌}
use mathlib.Core.Path.{◌≡◌, refl, sym, ap, ◌∙◌}
use mathlib.Core.List.{List, [], ◌∷◌, ◌++◌, append_assoc}
use native.Mathlib.Omega.{arith}
use lib.ListN.{length, get_or, take, drop, length-append}
use Rattle.lexer.specs.Chars.{comma}
use Rattle.reader.specs.Tree.{NodeKind, packed, Tree, node, Forest, nil, ◌◂◌, arity, numbers, numbers_all}
use Rattle.reader.specs.Listing.{shape_of, shape_at, last_separator, word, front, back, printed, joined, others, last_token, Within, root, WithinAll, NodeRoom, Rooted, root_at, put, put_before, Room, Wrote, TermAt, SomeTerm, TermPut, TermsAt, SomeTerms, TermsPut}
use Rattle.reader.specs.declared.listing.Before.{Before}
use Rattle.reader.specs.declared.listing.Root.{Root}
use Rattle.reader.proofs.Puts.{room_as, room_behind, room_before, put_both, put-none}
use Rattle.reader.proofs.Terms.{packed-arity, packed_shape, front_length, take_left, last-token, last_packed, Split, split}

within_token : {n i : ℕ} {k : NodeKind} {f : Forest} → Within n (node i k f) → last_token (shape_of k) i < n
within_token (root a b c) = a

within-arity : {n i : ℕ} {k : NodeKind} {f : Forest} → Within n (node i k f) → arity f < 1024
within-arity (root a b c) = b

within_children : {n i : ℕ} {k : NodeKind} {f : Forest} → Within n (node i k f) → WithinAll n f
within_children (root a b c) = c

-- ---- a term
module _ (s starts ends ms : List ℕ) (nodes at : ℕ) (d : List ℕ) (i : ℕ) (k : NodeKind) (f : Forest) (w : TermAt s starts ends ms nodes at (length d) (node i k f)) where
  numbered : take (nodes * 2) ms ≡ (w.stands.left ++ numbers_all f) ++ i ∷ packed k (arity f) ∷ []
  unfolding numbers
  numbered = w.stands.same ∙ sym (append_assoc w.stands.left (numbers_all f) (i ∷ packed k (arity f) ∷ []))

  counted : length (w.stands.left ++ numbers_all f) + 2 ≡ nodes * 2
  counted = front_length ms (nodes * 2) (w.stands.left ++ numbers_all f) (i ∷ packed k (arity f) ∷ []) w.stands.whole numbered

  rooted_at : Rooted ms nodes
  rooted_at = record { some = omega (arith, counted); whole = w.stands.whole }

  module _ (r : Root) (e : r ≡ root_at ms nodes) where
    token-is : r.token ≡ i
    token-is = ap (λ (n : Root). n.token) e ∙ last-token ms (nodes * 2) (w.stands.left ++ numbers_all f) i (packed k (arity f)) w.stands.whole numbered ((nodes - 1) * 2) (omega (arith, counted))

    packed-is : get_or ms ((nodes - 1) * 2 + 1) 0 ≡ packed k (arity f)
    packed-is =
        last_packed ms (nodes * 2) (w.stands.left ++ numbers_all f) i (packed k (arity f)) w.stands.whole numbered ((nodes - 1) * 2) (omega (arith, counted))

    shape_is : r.shape ≡ shape_of k
    shape_is = ap (λ (n : Root). n.shape) e ∙ ap shape_at packed-is ∙ packed_shape k (arity f) (within-arity w.within)

    arity-is : r.arity ≡ arity f
    arity-is = ap (λ (n : Root). n.arity) e ∙ ap (λ (n : ℕ). n % 1024) packed-is ∙ packed-arity k (arity f) (within-arity w.within)

    abbrev F : List ℕ
    F = front (word s starts ends) r.shape r.token

    abbrev J : List ℕ
    J = joined (word s starts ends) (last_separator r.shape) f

    abbrev B : List ℕ
    B = back r.shape

    line-is : printed (word s starts ends) (node i k f) ≡ F ++ (J ++ B)
    unfolding printed
    line-is = rw (shape_is, token-is)

    room_all : Room (F ++ (J ++ B)) at (length d)
    room_all = room_as line-is w.stands.place

    room_rest : Room (J ++ B) at (length d)
    room_rest = room_behind F (J ++ B) at (length d) room_all

    back_room_at : Room B at (length d)
    back_room_at = room_behind J B at (length d) room_rest

    module _ (inside : ℕ) (d₁ : List ℕ) (g : put inside d₁ ≡ put_before B at d) (l : length d₁ ≡ length d) (c : ℕ) (h : c ≡ last_separator r.shape) where
      children_at : TermsAt s starts ends ms (nodes - 1) inside r.arity c (length d₁) f
      children_at =
          record {
            tokens = w.tokens;
            source = w.source;
            within = within_children w.within;
            many = sym arity-is;
            stands =
                record {
                  left = w.stands.left;
                  whole = omega (arith, w.stands.whole);
                  same = take_left ms (nodes * 2) (w.stands.left ++ numbers_all f) _ w.stands.whole numbered ((nodes - 1) * 2) (omega (arith, counted));
                  place = rw h (room_before J B at (length d) room_rest d inside d₁ g (length d₁) (sym l));
                };
          }

      module _ (left : Before) (d₂ : List ℕ) (q : TermsPut s starts ends ms (nodes - 1) inside r.arity c d₁ left d₂) where
        children_put : Wrote (nodes - 1) inside d₁ (numbers_all f) (joined (word s starts ends) c f) left d₂
        children_put = q.wrote f children_at

        behind-put : put left.at d₂ ≡ put_before (J ++ B) at d
        behind-put = put_both J B at (length d) room_rest d inside d₁ g left.at d₂ (rw h at children_put.written)

        front_room_at : length d₂ ≡ length d → NodeRoom s starts ends r.shape r.token left.at (length d₂)
        front_room_at l₂ =
            record {
              is = record { tokens = w.tokens; source = w.source; within = rw (shape_is, token-is) (within_token w.within) };
              place = room_before F (J ++ B) at (length d) room_all d left.at d₂ behind-put (length d₂) (sym l₂);
            }

        term_wrote : (a : ℕ) (d₃ : List ℕ) → put a d₃ ≡ put_before F left.at d₂
            → Wrote nodes at d (numbers (node i k f)) (printed (word s starts ends) (node i k f)) (record { nodes = left.nodes; at = a }) d₃
        unfolding numbers
        term_wrote a d₃ j =
            record {
              rest = omega (arith, length-append (numbers_all f) (i ∷ packed k (arity f) ∷ []), children_put.rest, counted);
              written = cc (line-is, put_both F (J ++ B) at (length d) room_all d left.at d₂ behind-put a d₃ j);
            }

-- the same, whatever the term
module _ (s starts ends ms : List ℕ) (nodes at : ℕ) (d : List ℕ) where
  rooted_of : (t : Tree) → TermAt s starts ends ms nodes at (length d) t → Rooted ms nodes
  rooted_of (node i k f) w = rooted_at s starts ends ms nodes at d i k f w

  module _ (r : Root) (e : r ≡ root_at ms nodes) where
    back_room_of : (t : Tree) → TermAt s starts ends ms nodes at (length d) t → Room (back r.shape) at (length d)
    back_room_of (node i k f) w = back_room_at s starts ends ms nodes at d i k f w r e

    module _ (inside : ℕ) (d₁ : List ℕ) (g : put inside d₁ ≡ put_before (back r.shape) at d) (l : length d₁ ≡ length d) (c : ℕ) (h : c ≡ last_separator r.shape) where
      children_of : (t : Tree) → TermAt s starts ends ms nodes at (length d) t → SomeTerms s starts ends ms (nodes - 1) inside r.arity c (length d₁)
      children_of (node i k f) w = record { forest = f; are = children_at s starts ends ms nodes at d i k f w r e inside d₁ g l c h }

      module _ (left : Before) (d₂ : List ℕ) (q : TermsPut s starts ends ms (nodes - 1) inside r.arity c d₁ left d₂) where
        front_room_of : length d₂ ≡ length d → (t : Tree) → TermAt s starts ends ms nodes at (length d) t → NodeRoom s starts ends r.shape r.token left.at (length d₂)
        front_room_of l₂ (node i k f) w = front_room_at s starts ends ms nodes at d i k f w r e inside d₁ g l c h left d₂ q l₂

        wrote_of : (a : ℕ) (d₃ : List ℕ) → put a d₃ ≡ put_before (front (word s starts ends) r.shape r.token) left.at d₂
            → (t : Tree) → TermAt s starts ends ms nodes at (length d) t → Wrote nodes at d (numbers t) (printed (word s starts ends) t) (record { nodes = left.nodes; at = a }) d₃
        wrote_of a d₃ j (node i k f) w = term_wrote s starts ends ms nodes at d i k f w r e inside d₁ g l c h left d₂ q a d₃ j

-- ---- the ways of `put_term`
module _ (s starts ends ms : List ℕ) (nodes at : ℕ) (d : List ℕ) (o : SomeTerm s starts ends ms nodes at (length d)) where
  pub rooted : Rooted ms nodes
  rooted = rooted_of s starts ends ms nodes at d o.tree o.is

  pub some_node : 1 ≤ nodes
  some_node = rooted.some

  module _ (r : Root) (e : r ≡ root_at ms nodes) where
    pub back_room : Room (back r.shape) at (length d)
    back_room = back_room_of s starts ends ms nodes at d r e o.tree o.is

    module _ (inside : ℕ) (d₁ : List ℕ) (g : put inside d₁ ≡ put_before (back r.shape) at d) (l : length d₁ ≡ length d) (c : ℕ) (h : c ≡ last_separator r.shape) where
      pub children : SomeTerms s starts ends ms (nodes - 1) inside r.arity c (length d₁)
      children = children_of s starts ends ms nodes at d r e inside d₁ g l c h o.tree o.is

      module _ (left : Before) (d₂ : List ℕ) (q : TermsPut s starts ends ms (nodes - 1) inside r.arity c d₁ left d₂) where
        pub front_room : length d₂ ≡ length d₁ → NodeRoom s starts ends r.shape r.token left.at (length d₂)
        front_room l₂ = front_room_of s starts ends ms nodes at d r e inside d₁ g l c h left d₂ q (l₂ ∙ l) o.tree o.is

        pub term_put : (a : ℕ) (d₃ : List ℕ) → put a d₃ ≡ put_before (front (word s starts ends) r.shape r.token) left.at d₂
            → TermPut s starts ends ms nodes at d (record { nodes = left.nodes; at = a }) d₃
        term_put a d₃ j = record { wrote = wrote_of s starts ends ms nodes at d r e inside d₁ g l c h left d₂ q a d₃ j }

-- ---- several terms, from the last
parts : (s starts ends : List ℕ) (c tokens : ℕ) (f : Forest) → (arity f ≡ 0 → ⊥) → WithinAll tokens f → Split (word s starts ends) c tokens f
unfolding arity
parts s starts ends c tokens nil h w = absurd (h refl)
parts s starts ends c tokens (t ◂ f) h w = split (word s starts ends) c tokens t f w

empty : (f : Forest) → arity f ≡ 0 → f ≡ nil
unfolding arity
empty nil h = refl
empty (t ◂ f) h = absurd (omega arith)

module _ (s starts ends : List ℕ) (c : ℕ) (t : Tree) where
  joined-one : (f rest : Forest) → (arity f ≡ 0 → ⊥) → arity rest ≡ 0 → others (word s starts ends) c f ≡ others (word s starts ends) comma rest ++ c ∷ printed (word s starts ends) t
      → joined (word s starts ends) c f ≡ printed (word s starts ends) t
  unfolding arity joined others
  joined-one nil rest h k e = absurd (h refl)
  joined-one (u ◂ f) nil h k e = cc
  joined-one (u ◂ f) (v ◂ g) h k e = absurd (omega arith)

  joined_more : (f rest : Forest) → (arity f ≡ 0 → ⊥) → (arity rest ≡ 0 → ⊥) → others (word s starts ends) c f ≡ others (word s starts ends) comma rest ++ c ∷ printed (word s starts ends) t
      → joined (word s starts ends) c f ≡ joined (word s starts ends) comma rest ++ ((c ∷ []) ++ printed (word s starts ends) t)
  unfolding arity joined others
  joined_more nil rest h k e = absurd (h refl)
  joined_more (u ◂ f) nil h k e = absurd (k refl)
  joined_more (u ◂ f) (v ◂ g) h k e = ap (drop 1) e

  last_shorter : (f rest : Forest) → (arity f ≡ 0 → ⊥) → others (word s starts ends) c f ≡ others (word s starts ends) comma rest ++ c ∷ printed (word s starts ends) t
      → length (printed (word s starts ends) t) ≤ length (joined (word s starts ends) c f)
  unfolding arity joined others
  last_shorter nil rest h e = absurd (h refl)
  last_shorter (u ◂ f) rest h e = omega (arith, ap length e, length-append (others (word s starts ends) comma rest) (c ∷ printed (word s starts ends) t))

module _ (s starts ends ms : List ℕ) (nodes at count c : ℕ) (d : List ℕ) (f : Forest) (w : TermsAt s starts ends ms nodes at count c (length d) f) where
  none_wrote : count ≡ 0 → Wrote nodes at d (numbers_all f) (joined (word s starts ends) c f) (record { nodes = nodes; at = at }) d
  unfolding numbers_all joined
  none_wrote h = rw (empty f (w.many ∙ h)) (record { rest = omega arith; written = put-none at d })

  module _ (h : count ≡ 0 → ⊥) where
    some : arity f ≡ 0 → ⊥
    some e = h (sym w.many ∙ e)

    parted : Split (word s starts ends) c w.tokens f
    parted = parts s starts ends c w.tokens f some w.within

    abbrev T : Tree
    T = parted.last

    abbrev G : Forest
    G = parted.rest

    same_numbers : take (nodes * 2) ms ≡ (w.stands.left ++ numbers_all G) ++ numbers T
    same_numbers = w.stands.same ∙ ap (λ (l : List ℕ). w.stands.left ++ l) parted.numbered ∙ sym (append_assoc w.stands.left (numbers_all G) (numbers T))

    last-at : TermAt s starts ends ms nodes at (length d) T
    last-at =
        record {
          tokens = w.tokens;
          source = w.source;
          within = parted.within_last;
          stands =
              record {
                left = w.stands.left ++ numbers_all G;
                whole = w.stands.whole;
                same = same_numbers;
                place =
                    record {
                      fits = omega (arith, w.stands.place.fits, last_shorter s starts ends c T f G some parted.parted);
                      inside = w.stands.place.inside;
                    };
              };
        }

    module _ (left : Before) (d₁ : List ℕ) (q : TermPut s starts ends ms nodes at d left d₁) where
      last_put : Wrote nodes at d (numbers T) (printed (word s starts ends) T) left d₁
      last_put = q.wrote T last-at

      one_wrote : count ≡ 1 → Wrote nodes at d (numbers_all f) (joined (word s starts ends) c f) left d₁
      unfolding numbers_all
      one_wrote e =
          let z : arity G ≡ 0 = omega (arith, parted.count, w.many) in
          record {
            rest = omega (arith, last_put.rest, ap length parted.numbered, length-append (numbers_all G) (numbers T), ap (λ (g : Forest). length (numbers_all g)) (empty G z));
            written = cc (joined-one s starts ends c T f G some z parted.parted, last_put.written);
          }

      module _ (h₁ : count ≡ 1 → ⊥) where
        abbrev Js : List ℕ
        Js = joined (word s starts ends) comma G

        abbrev P : List ℕ
        P = printed (word s starts ends) T

        line : joined (word s starts ends) c f ≡ Js ++ ((c ∷ []) ++ P)
        line = joined_more s starts ends c T f G some (λ z. h₁ (omega (arith, parted.count, w.many))) parted.parted

        joined_room : Room (Js ++ ((c ∷ []) ++ P)) at (length d)
        joined_room = room_as line w.stands.place

        last_room : Room ((c ∷ []) ++ P) at (length d)
        last_room = room_behind Js ((c ∷ []) ++ P) at (length d) joined_room

        char_room_at : length d₁ ≡ length d → Room (c ∷ []) left.at (length d₁)
        char_room_at l = room_before (c ∷ []) P at (length d) last_room d left.at d₁ last_put.written (length d₁) (sym l)

        module _ (place : ℕ) (d₂ : List ℕ) (g : put place d₂ ≡ put_before (c ∷ []) left.at d₁) where
          both : put place d₂ ≡ put_before ((c ∷ []) ++ P) at d
          both = put_both (c ∷ []) P at (length d) last_room d left.at d₁ last_put.written place d₂ g

          counts : length (w.stands.left ++ numbers_all G) ≡ left.nodes * 2
          counts = omega (arith, last_put.rest, front_length ms (nodes * 2) (w.stands.left ++ numbers_all G) (numbers T) w.stands.whole same_numbers)

          rest_at : length d₂ ≡ length d → TermsAt s starts ends ms left.nodes place (count - 1) comma (length d₂) G
          rest_at l =
              record {
                tokens = w.tokens;
                source = w.source;
                within = parted.within-rest;
                many = omega (arith, parted.count, w.many);
                stands =
                    record {
                      left = w.stands.left;
                      whole = omega (arith, last_put.rest, w.stands.whole);
                      same = take_left ms (nodes * 2) (w.stands.left ++ numbers_all G) (numbers T) w.stands.whole same_numbers (left.nodes * 2) counts;
                      place = room_before Js ((c ∷ []) ++ P) at (length d) joined_room d place d₂ both (length d₂) (sym l);
                    };
              }

          more_wrote : length d₂ ≡ length d → (r : Before) (d₃ : List ℕ) → TermsPut s starts ends ms left.nodes place (count - 1) comma d₂ r d₃
              → Wrote nodes at d (numbers_all f) (joined (word s starts ends) c f) r d₃
          more_wrote l r d₃ j =
              let v = j.wrote G (rest_at l) in
              record {
                rest = omega (arith, v.rest, last_put.rest, ap length parted.numbered, length-append (numbers_all G) (numbers T));
                written = cc (line, put_both Js ((c ∷ []) ++ P) at (length d) joined_room d place d₂ both r.at d₃ v.written);
              }

-- a term has a node
numbers_some : (t : Tree) → 2 ≤ length (numbers t)
unfolding numbers
numbers_some (node i k f) = omega (arith, length-append (numbers_all f) (i ∷ packed k (arity f) ∷ []))

-- ---- the ways of `put_terms`
module _ (s starts ends ms : List ℕ) (nodes at count c : ℕ) (d : List ℕ) where
  pub none-put : count ≡ 0 → TermsPut s starts ends ms nodes at count c d (record { nodes = nodes; at = at }) d
  none-put h = record { wrote = λ f w. none_wrote s starts ends ms nodes at count c d f w h }

  module _ (h : count ≡ 0 → ⊥) (left : Before) (d₁ : List ℕ) (q : TermPut s starts ends ms nodes at d left d₁) where
    pub one-put : count ≡ 1 → TermsPut s starts ends ms nodes at count c d left d₁
    one-put e = record { wrote = λ f w. one_wrote s starts ends ms nodes at count c d f w h left d₁ q e }

    pub more_put : (count ≡ 1 → ⊥) → (place : ℕ) (d₂ : List ℕ) → put place d₂ ≡ put_before (c ∷ []) left.at d₁ → length d₁ ≡ length d → length d₂ ≡ length d₁
        → (r : Before) (d₃ : List ℕ) → TermsPut s starts ends ms left.nodes place (count - 1) comma d₂ r d₃ → TermsPut s starts ends ms nodes at count c d r d₃
    more_put h₁ place d₂ g l l₂ r d₃ j = record { wrote = λ f w. more_wrote s starts ends ms nodes at count c d f w h left d₁ q h₁ place d₂ g (l₂ ∙ l) r d₃ j }

  module _ (o : SomeTerms s starts ends ms nodes at count c (length d)) (h : count ≡ 0 → ⊥) where
    pub last_asks : SomeTerm s starts ends ms nodes at (length d)
    last_asks = record { tree = _; is = last-at s starts ends ms nodes at count c d o.forest o.are h }

    module _ (left : Before) (d₁ : List ℕ) (q : TermPut s starts ends ms nodes at d left d₁) where
      pub fewer : left.nodes * 2 + 1 < nodes * 2 + 1
      fewer = omega (arith, (last_put s starts ends ms nodes at count c d o.forest o.are h left d₁ q).rest, numbers_some (T s starts ends ms nodes at count c d o.forest o.are h))

      module _ (h₁ : count ≡ 1 → ⊥) where
        pub char_room : length d₁ ≡ length d → Room (c ∷ []) left.at (length d₁)
        char_room l = char_room_at s starts ends ms nodes at count c d o.forest o.are h left d₁ q h₁ l

        pub rest_asks : (place : ℕ) (d₂ : List ℕ) → put place d₂ ≡ put_before (c ∷ []) left.at d₁ → length d₁ ≡ length d → length d₂ ≡ length d₁
            → SomeTerms s starts ends ms left.nodes place (count - 1) comma (length d₂)
        rest_asks place d₂ g l l₂ =
            record { forest = _; are = rest_at s starts ends ms nodes at count c d o.forest o.are h left d₁ q h₁ place d₂ g (l₂ ∙ l) }
