-- Bytes put before bytes that were put, and the shapes of nodes: what the proofs of the listing's functions share. Assumes nothing.
use Prim.Native.Nat.{ℕ, suc, ◌+◌, ◌-◌, ◌<◌, ◌≤◌}
use mathlib.Core.Path.{◌≡◌, refl, sym, ap, subst, ◌∙◌}
use mathlib.Core.Logic.{◌⊎◌, inl, inr}
use mathlib.Core.List.{List, [], ◌∷◌, ◌++◌, append-nil}
use native.Mathlib.Nat.{add-zero}
use native.Mathlib.Omega.{arith}
use lib.ListN.{length, get_or, set, take, drop, length-append, length-drop, drop_of_length-le}
use lib.Seq.{sets, sets-eq, set_comm, take-append_seam, take-take, take-length, length-take-le}
use borrow.Author.Tests.{eqb-true, eqb-false, eq-eqb, ne_eqb}
use Rattle.lexer.specs.Chars.{comma, open_paren, open_bracket, open_brace}
use Rattle.lexer.specs.Cursor.{part, longest}
use Rattle.reader.specs.Listing.{quoted_comma, spelling, word, front, back, last_token, put, put_before, Room, Span, Spanned, Node}
use Rattle.reader.specs.declared.listing.Shape.{Shape}
use Rattle.reader.specs.declared.listing.Shape.TheVariants.{Word, Negative, Call, Square, Tail, Curly}
use lib.Dec.{eqb}
use borrow.Rule.Slice.PartMut.{put_mid}
use Rattle.std.proofs.lemmas.Slice.{put_mid-paste}
use mathlib.Core.Bool.{Bool, true, false}

-- a store below a run of stores
pub set-sets : (bs d : List ℕ) (i j c : ℕ) → i < j → set (sets d j bs) i c ≡ sets (set d i c) j bs
set-sets [] d i j c h = refl
set-sets (b ∷ bs) d i j c h =
    set-sets bs (set d j b) i (suc j) c (omega arith) ∙ ap (λ (e : List ℕ). sets e (suc j) bs) (set_comm d j i b c (λ e. omega arith))

-- a run of stores right below another
pub sets-sets : (cs bs d : List ℕ) (i : ℕ) → sets (sets d (i + length cs) bs) i cs ≡ sets d i (cs ++ bs)
sets-sets [] bs d i = rw (add-zero i)
sets-sets (c ∷ cs) bs d i =
    let e : i + suc (length cs) ≡ suc i + length cs = omega arith in
    ap (λ (d' : List ℕ). sets d' (suc i) cs) (set-sets bs d i (i + suc (length cs)) c (omega arith) ∙ ap (λ (k : ℕ). sets (set d i c) k bs) e)
    ∙ sets-sets cs bs (set d i c) (suc i)

-- what was stored in front stands there
pub sets-front : (d bs : List ℕ) → length bs ≤ length d → take (length bs) (sets d 0 bs) ≡ bs
sets-front d bs h = rw (sets-eq bs d 0 (omega arith)) (take-append_seam bs (drop (0 + length bs) d))

-- what an equation of `put` says
pub record Told (bs : List ℕ) (at : ℕ) (d : List ℕ) (r : ℕ) (d' : List ℕ) : Type 0 where
  pub start : r ≡ at - length bs
  pub slice : d' ≡ sets d r bs

pub told : (bs : List ℕ) (at : ℕ) (d : List ℕ) (r : ℕ) (d' : List ℕ) → put r d' ≡ put_before bs at d → Told bs at d r d'
unfolding put_before
told bs at d r d' h = record { start = cc; slice = cc }

pub tell : (bs : List ℕ) (at : ℕ) (d : List ℕ) (r : ℕ) (d' : List ℕ) → r ≡ at - length bs → d' ≡ sets d r bs → put r d' ≡ put_before bs at d
unfolding put_before
tell bs at d r d' h k = cc

-- the same bytes by another name
pub room_as : {bs cs : List ℕ} {at room : ℕ} → bs ≡ cs → Room bs at room → Room cs at room
room_as {bs} {cs} {at} {room} e h = subst (λ (l : List ℕ). Room l at room) e h

-- nothing is put
pub put-none : (at : ℕ) (d : List ℕ) → put at d ≡ put_before [] at d
put-none at d = tell [] at d at d (omega arith) refl

-- the bytes cs before the bytes bs
module _ (cs bs : List ℕ) (at room : ℕ) (h : Room (cs ++ bs) at room) where
  lengths : length cs + length bs ≤ at
  lengths = omega (arith, h.fits, length-append cs bs)

  pub room_behind : Room bs at room
  room_behind = record { fits = omega (arith, lengths); inside = h.inside }

  module _ (d : List ℕ) (p : ℕ) (d' : List ℕ) (f : put p d' ≡ put_before bs at d) where
    pub room_before : (room' : ℕ) → room ≡ room' → Room cs p room'
    room_before room' e =
        let t = told bs at d p d' f in record { fits = omega (arith, lengths, t.start); inside = omega (arith, t.start, h.inside) }

    pub put_both : (r : ℕ) (d'' : List ℕ) → put r d'' ≡ put_before cs p d' → put r d'' ≡ put_before (cs ++ bs) at d
    put_both r d'' g =
        let t = told bs at d p d' f in
        let u = told cs p d' r d'' g in
        let e : p ≡ r + length cs = omega (arith, lengths, t.start, u.start) in
        tell (cs ++ bs) at d r d'' (omega (arith, length-append cs bs, t.start, u.start))
        (u.slice ∙ ap (λ (l : List ℕ). sets l r cs) (t.slice ∙ ap (λ (k : ℕ). sets d k bs) e) ∙ sets-sets cs bs d r)

-- what fits before p fits at the end of the first p bytes
pub room_in : {bs : List ℕ} {p : ℕ} (d : List ℕ) → Room bs p (length d) → Room bs (length (take p d)) (length (take p d))
room_in {bs} {p} d h = let n = length-take-le p d h.inside in record { fits = omega (arith, h.fits); inside = omega arith }

-- bytes that were put at the end of the first p bytes were put before p
pub within : (cs : List ℕ) (p r : ℕ) (d e : List ℕ) → p ≤ length d → length cs ≤ p → put r e ≡ put_before cs (length (take p d)) (take p d) → put r (e ++ drop p d) ≡ put_before cs p d
within cs p r d e l h f =
    let n = length-take-le p d l in
    let t = told cs (length (take p d)) (take p d) r e f in
    let w : r + length cs ≡ p = omega (arith, t.start, n) in
    let none : drop (r + length cs) (take p d) ≡ [] = drop_of_length-le (take p d) (omega (arith, n)) in
    let front : e ≡ take r d ++ cs =
    t.slice ∙ sets-eq cs (take p d) r (omega (arith, n))
    ∙ ap (λ (l : List ℕ). l ++ cs ++ drop (r + length cs) (take p d)) (take-take r p d (omega arith))
    ∙ ap (λ (l : List ℕ). take r d ++ cs ++ l) none
    ∙ append-nil (take r d ++ cs) in
    tell cs p d r (e ++ drop p d) (omega arith)
    (ap (λ (l : List ℕ). l ++ drop p d) front ∙ ap (λ (k : ℕ). take r d ++ cs ++ drop k d) (sym w) ∙ sym (sets-eq cs d r (omega arith)))

-- bytes that were copied to the place before `at`
pub copied : (bs : List ℕ) (at p : ℕ) (d new : List ℕ) → Room bs at (length d) → p ≡ at - length bs → new ≡ bs → put p (put_mid p (at - p) d new) ≡ put_before bs at d
copied bs at p d new h e f =
    let w : p + length bs ≡ at = omega (arith, h.fits) in
    tell bs at d p (put_mid p (at - p) d new) e
    (put_mid-paste p (at - p) d new bs (length bs) f (omega arith) refl ∙ ap (λ (l : List ℕ). take p d ++ l ++ drop (p + length bs) d) (take-length bs) ∙ sym (sets-eq bs d p (omega (arith, h.inside))))

-- ---- spellings
module _ (s : List ℕ) (from to : ℕ) where
  pub spelling-comma : get_or s from 0 ≡ comma → spelling s from to ≡ quoted_comma
  unfolding spelling
  spelling-comma h = cc (eq-eqb (get_or s from 0) comma h)

  pub spelling-part : (get_or s from 0 ≡ comma → ⊥) → spelling s from to ≡ part from to s
  unfolding spelling
  spelling-part h = cc (ne_eqb (get_or s from 0) comma h)

  pub part_length : to ≤ length s → length (part from to s) ≡ to - from
  part_length h = length-take-le (to - from) (drop from s) (simp length-drop (omega arith))

  -- no spelling is longer than the text may be
  pub spelling-short : Span s from to → length (spelling s from to) ≤ longest
  spelling-short h = by (eqb (get_or s from 0) comma) refl
    where
      by : (v : Bool) → eqb (get_or s from 0) comma ≡ v → length (spelling s from to) ≤ longest
      by true e = omega (arith, ap length (spelling-comma (eqb-true _ _ e)))
      by false e = omega (arith, ap length (spelling-part (eqb-false _ _ e)), part_length h.inside, h.inside, h.short)

-- ---- the tokens of a node
module _ (s starts ends : List ℕ) (x : Shape) (i : ℕ) (h : Node s starts ends x i) where
  pub spanned : (j : ℕ) → i ≤ j → last_token x i ≡ j → Spanned s starts ends i j
  spanned j l e =
      let k : j < h.tokens = omega (arith, h.within, e) in
      record {
        first = omega (arith, k, h.source.started);
        last = omega (arith, k, h.source.ended);
        span = record { short = h.source.short; ordered = h.source.ordered i j l k; inside = h.source.inside j k };
      }

  pub as-word : x ≡ Word → Spanned s starts ends i i
  unfolding last_token
  as-word e = spanned i (omega arith) (cc)

  pub as-negative : x ≡ Negative → Spanned s starts ends i (i + 1)
  unfolding last_token
  as-negative e = spanned (i + 1) (omega arith) (cc)

  pub as_call : x ≡ Call → Spanned s starts ends i i
  unfolding last_token
  as_call e = spanned i (omega arith) (cc)

-- ---- what stands before the children, by the shape
module _ (s starts ends : List ℕ) (x : Shape) (i : ℕ) where
  pub front-word : x ≡ Word → front (word s starts ends) x i ≡ word s starts ends i i
  unfolding front
  front-word e = cc

  pub front_negative : x ≡ Negative → front (word s starts ends) x i ≡ word s starts ends i (i + 1)
  unfolding front
  front_negative e = cc

  pub front-call : x ≡ Call → front (word s starts ends) x i ≡ word s starts ends i i ++ open_paren ∷ []
  unfolding front
  front-call e = cc

  pub front-bracket : (x ≡ Square) ⊎ (x ≡ Tail) → front (word s starts ends) x i ≡ open_bracket ∷ []
  unfolding front
  front-bracket (inl e) = cc
  front-bracket (inr e) = cc

  pub front_curly : x ≡ Curly → front (word s starts ends) x i ≡ open_brace ∷ []
  unfolding front
  front_curly e = cc

-- no longer than a spelling and a bracket
pub front-short : (s starts ends : List ℕ) (x : Shape) (i : ℕ) → Node s starts ends x i → length (front (word s starts ends) x i) ≤ longest + 1
unfolding front word
front-short s starts ends Word i h = omega (arith, spelling-short _ _ _ (as-word s starts ends Word i h refl).span)
front-short s starts ends Negative i h = omega (arith, spelling-short _ _ _ (as-negative s starts ends Negative i h refl).span)
front-short s starts ends Call i h =
    omega (arith, length-append (word s starts ends i i) (open_paren ∷ []), spelling-short _ _ _ (as_call s starts ends Call i h refl).span)
front-short s starts ends Square i h = omega arith
front-short s starts ends Tail i h = omega arith
front-short s starts ends Curly i h = omega arith

pub back-short : (x : Shape) → length (back x) ≤ 1
unfolding back
back-short Word = omega arith
back-short Negative = omega arith
back-short Call = omega arith
back-short Square = omega arith
back-short Tail = omega arith
back-short Curly = omega arith
