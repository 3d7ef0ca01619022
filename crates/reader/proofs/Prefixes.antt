-- The walk over a tree puts each piece at the end of the bytes in front of the last: what is put there is put before a place in all of them. Assumes nothing.
use Prim.Native.Nat.{ℕ, ◌-◌, ◌≤◌}
use mathlib.Core.Path.{◌≡◌}
use mathlib.Core.List.{List, [], ◌∷◌, ◌++◌}
use native.Mathlib.Omega.{arith}
use lib.ListN.{length, take, drop, length-append, length-drop}
use lib.Seq.{length-take-le}
use Rattle.lexer.specs.Chars.{comma}
use Rattle.reader.specs.Tree.{Tree, Forest}
use Rattle.reader.specs.Listing.{last_separator, word, front, back, NodeRoom, root_at, put, put_before, Room, Stands, Wrote, TermAt, SomeTerm, TermPut, TermsAt, SomeTerms, TermsPut}
use Rattle.reader.specs.declared.listing.Before.{Before}
use Rattle.reader.specs.declared.listing.Root.{Root}
use Rattle.reader.proofs.Puts.{told, within, room_in}
use Rattle.reader.proofs.Walks.{children, front_room, term_put, more_put, char_room, rest_asks}

-- a slice whose first p bytes were written keeps its length
pub same_length : (p : ℕ) (d e : List ℕ) → p ≤ length d → length e ≡ length (take p d) → length (e ++ drop p d) ≡ length d
same_length p d e l h = omega (arith, length-append e (drop p d), h, length-take-le p d l, length-drop p d)

module _ (s starts ends ms : List ℕ) (nodes p : ℕ) (d : List ℕ) where
  stands_in : {ns bs : List ℕ} → Stands ms nodes p (length d) ns bs → Stands ms nodes (length (take p d)) (length (take p d)) ns bs
  stands_in h = record { left = h.left; whole = h.whole; same = h.same; place = room_in d h.place }

  term_in : {t : Tree} → TermAt s starts ends ms nodes p (length d) t → TermAt s starts ends ms nodes (length (take p d)) (length (take p d)) t
  term_in h = record { tokens = h.tokens; source = h.source; within = h.within; stands = stands_in h.stands }

  wrote_out : {ns bs e : List ℕ} {r : Before} → Room bs p (length d) → Wrote nodes (length (take p d)) (take p d) ns bs r e → Wrote nodes p d ns bs r (e ++ drop p d)
  wrote_out {bs = bs} {e = e} {r = r} h w = record { rest = w.rest; written = within bs p r.at d e h.inside h.fits w.written }

  pub some_term_in : SomeTerm s starts ends ms nodes p (length d) → SomeTerm s starts ends ms nodes (length (take p d)) (length (take p d))
  some_term_in o = record { tree = o.tree; is = term_in o.is }

  pub term_out : {r : Before} {e : List ℕ} → TermPut s starts ends ms nodes (length (take p d)) (take p d) r e → TermPut s starts ends ms nodes p d r (e ++ drop p d)
  term_out q = record { wrote = λ t w. wrote_out w.stands.place (q.wrote t (term_in w)) }

  module _ (count c : ℕ) where
    terms_in : {f : Forest} → TermsAt s starts ends ms nodes p count c (length d) f → TermsAt s starts ends ms nodes (length (take p d)) count c (length (take p d)) f
    terms_in h = record { tokens = h.tokens; source = h.source; within = h.within; many = h.many; stands = stands_in h.stands }

    some_in : SomeTerms s starts ends ms nodes p count c (length d) → SomeTerms s starts ends ms nodes (length (take p d)) count c (length (take p d))
    some_in o = record { forest = o.forest; are = terms_in o.are }

    terms_out : {r : Before} {e : List ℕ} → TermsPut s starts ends ms nodes (length (take p d)) count c (take p d) r e → TermsPut s starts ends ms nodes p count c d r (e ++ drop p d)
    terms_out q = record { wrote = λ f w. wrote_out w.stands.place (q.wrote f (terms_in w)) }

-- bytes that were put start no further on than where they end
low : (bs : List ℕ) (at : ℕ) (d : List ℕ) (p : ℕ) (d' : List ℕ) → put p d' ≡ put_before bs at d → p ≤ at
low bs at d p d' g = omega (arith, (told bs at d p d' g).start)

-- ---- a term
module _ (s starts ends ms : List ℕ) (nodes : ℕ) (d : List ℕ) (o : SomeTerm s starts ends ms nodes (length d) (length d)) (r : Root) (e : r ≡ root_at ms nodes)
    (inside : ℕ) (d₁ : List ℕ) (g : put inside d₁ ≡ put_before (back r.shape) (length d) d) (l : length d₁ ≡ length d) (c : ℕ) (h : c ≡ last_separator r.shape) where
  pub inside_low : inside ≤ length d₁
  inside_low = omega (arith, low (back r.shape) (length d) d inside d₁ g)

  pub children_asks : SomeTerms s starts ends ms (nodes - 1) (length (take inside d₁)) r.arity c (length (take inside d₁))
  children_asks = some_in s starts ends ms (nodes - 1) inside d₁ r.arity c (children s starts ends ms nodes (length d) d o r e inside d₁ g l c h)

  module _ (left : Before) (d₂ : List ℕ) (q : TermsPut s starts ends ms (nodes - 1) (length (take inside d₁)) r.arity c (take inside d₁) left d₂) (k : length d₂ ≡ length (take inside d₁)) where
    front_at : NodeRoom s starts ends r.shape r.token left.at (length (d₂ ++ drop inside d₁))
    front_at =
        front_room s starts ends ms nodes (length d) d o r e inside d₁ g l c h left (d₂ ++ drop inside d₁) (terms_out s starts ends ms (nodes - 1) inside d₁ r.arity c q)
        (same_length inside d₁ d₂ inside_low k)

    pub left_low : left.at ≤ length (d₂ ++ drop inside d₁)
    left_low = front_at.place.inside

    pub front_asks : NodeRoom s starts ends r.shape r.token (length (take left.at (d₂ ++ drop inside d₁))) (length (take left.at (d₂ ++ drop inside d₁)))
    front_asks = record { is = front_at.is; place = room_in (d₂ ++ drop inside d₁) front_at.place }

    pub term_there : (a : ℕ) (d₃ : List ℕ)
        → put a d₃ ≡ put_before (front (word s starts ends) r.shape r.token) (length (take left.at (d₂ ++ drop inside d₁))) (take left.at (d₂ ++ drop inside d₁))
        → TermPut s starts ends ms nodes (length d) d (record { nodes = left.nodes; at = a }) (d₃ ++ drop left.at (d₂ ++ drop inside d₁))
    term_there a d₃ j =
        term_put s starts ends ms nodes (length d) d o r e inside d₁ g l c h left (d₂ ++ drop inside d₁) (terms_out s starts ends ms (nodes - 1) inside d₁ r.arity c q) a
        (d₃ ++ drop left.at (d₂ ++ drop inside d₁))
        (within (front (word s starts ends) r.shape r.token) left.at a (d₂ ++ drop inside d₁) d₃ front_at.place.inside front_at.place.fits j)

-- ---- several terms
module _ (s starts ends ms : List ℕ) (nodes count c : ℕ) (d : List ℕ) (o : SomeTerms s starts ends ms nodes (length d) count c (length d)) (h : count ≡ 0 → ⊥)
    (left : Before) (d₁ : List ℕ) (q : TermPut s starts ends ms nodes (length d) d left d₁) (h₁ : count ≡ 1 → ⊥) (l : length d₁ ≡ length d) where
  char_at : Room (c ∷ []) left.at (length d₁)
  char_at = char_room s starts ends ms nodes (length d) count c d o h left d₁ q h₁ l

  pub separator_low : left.at ≤ length d₁
  separator_low = char_at.inside

  pub char_asks : Room (c ∷ []) (length (take left.at d₁)) (length (take left.at d₁))
  char_asks = room_in d₁ char_at

  module _ (place : ℕ) (d₂ : List ℕ) (g : put place d₂ ≡ put_before (c ∷ []) (length (take left.at d₁)) (take left.at d₁)) (k : length d₂ ≡ length (take left.at d₁)) where
    put_there : put place (d₂ ++ drop left.at d₁) ≡ put_before (c ∷ []) left.at d₁
    put_there = within (c ∷ []) left.at place d₁ d₂ char_at.inside char_at.fits g

    long : length (d₂ ++ drop left.at d₁) ≡ length d₁
    long = same_length left.at d₁ d₂ char_at.inside k

    pub place_low : place ≤ length (d₂ ++ drop left.at d₁)
    place_low = omega (arith, low (c ∷ []) left.at d₁ place (d₂ ++ drop left.at d₁) put_there, char_at.inside, long)

    pub others_ask : SomeTerms s starts ends ms left.nodes (length (take place (d₂ ++ drop left.at d₁))) (count - 1) comma (length (take place (d₂ ++ drop left.at d₁)))
    others_ask =
        some_in s starts ends ms left.nodes place (d₂ ++ drop left.at d₁) (count - 1) comma
        (rest_asks s starts ends ms nodes (length d) count c d o h left d₁ q h₁ place (d₂ ++ drop left.at d₁) put_there l long)

    pub terms_there : (r : Before) (d₃ : List ℕ)
        → TermsPut s starts ends ms left.nodes (length (take place (d₂ ++ drop left.at d₁))) (count - 1) comma (take place (d₂ ++ drop left.at d₁)) r d₃
        → TermsPut s starts ends ms nodes (length d) count c d r (d₃ ++ drop place (d₂ ++ drop left.at d₁))
    terms_there r d₃ j =
        more_put s starts ends ms nodes (length d) count c d h left d₁ q h₁ place (d₂ ++ drop left.at d₁) put_there l long r (d₃ ++ drop place (d₂ ++ drop left.at d₁))
        (terms_out s starts ends ms left.nodes place (d₂ ++ drop left.at d₁) (count - 1) comma j)
