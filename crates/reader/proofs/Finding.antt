-- How a name is found: the entry at one place says of a name what the whole table says. Assumes nothing.
use Prim.Native.Nat.{ℕ, zero, suc, ◌+◌, ◌<◌}
use mathlib.Core.Path.{◌≡◌, ◌∙◌, refl, sym, subst, subst⁻¹}
use mathlib.Core.Bool.{Bool, true, false, ◌&&◌, ◌||◌, not, cond, false≢true}
use mathlib.Core.Option.{none}
use mathlib.Core.List.{List, [], ◌∷◌, map}
use native.Mathlib.Omega.{arith}
use lib.Dec.{eqb, ltb}
use lib.ListN.{length, get_or}
use borrow.Author.Tests.{eqb-true, eqb-false, ltb-true, not-true, not-false}
use Rattle.std.specs.Prelude.{None}
use Rattle.reader.specs.Token.{same_text}
use Rattle.reader.specs.Ops.{spell, Entry, prefix_op, infix_op, Table, operators, find_pre, find_inf, is_comma, is_minus, prefix_of, infix_of}
use Rattle.reader.specs.Roles.{prefix_role, infix_role, roles_of}
use Rattle.reader.specs.Names.{space, trimmed, entry_at, prefix_in, infix_in}
use Rattle.reader.specs.declared.roles.Roles.{Roles}
use Rattle.reader.proofs.Table.{and_left, and_right, same_exactly}

unfoldable pub name_of : Entry → List ℕ
name_of (prefix_op y r) = y
name_of (infix_op y r) = y

-- has the table an entry of this name
unfoldable pub named : Table → List ℕ → Bool
named [] x = false
named (e ∷ T) x = same_text x (name_of e) || named T x

-- Two functions of a name agree at each named one, if they do at the names of the table.
module _ {A : Type 0} (f g : List ℕ → A) where
  agree-named : (T : Table) (x : List ℕ) → map (λ e. f (name_of e)) T ≡ map (λ e. g (name_of e)) T → named T x ≡ true → f x ≡ g x
  unfolding named
  agree-named [] x t h = absurd (false≢true h)
  agree-named (e ∷ T) x t h = go (same_text x (name_of e)) refl h (agree-named T x (cc))
    where
      go : (v : Bool) → same_text x (name_of e) ≡ v → v || named T x ≡ true → (named T x ≡ true → f x ≡ g x) → f x ≡ g x
      go true s k rest =
          let same : x ≡ name_of e = (same_exactly x (name_of e)).0 s in
          let here : f (name_of e) ≡ g (name_of e) = cc in
          cc
      go false s k rest = rest k

  -- The one test over the table; what is left is to agree where the name is not in it.
  pub agree : (T : Table) → map (λ e. f (name_of e)) T ≡ map (λ e. g (name_of e)) T → ((x : List ℕ) → named T x ≡ false → f x ≡ g x) → (x : List ℕ) → f x ≡ g x
  agree T t other x = go (named T x) refl
    where
      go : (v : Bool) → named T x ≡ v → f x ≡ g x
      go true h = agree-named T x t h
      go false h = other x h

-- A name that is not in the table

or_left : (a b : Bool) → a || b ≡ false → a ≡ false
or_left true b h = h
or_left false b h = refl

or_right : (a b : Bool) → a || b ≡ false → b ≡ false
or_right true b h = absurd (false≢true (sym h))
or_right false b h = h

module _ (x : List ℕ) where
  no_pre : (T : Table) → named T x ≡ false → find_pre T x ≡ none
  unfolding named find_pre name_of
  no_pre [] h = refl
  no_pre (prefix_op y r ∷ T) h = rw (or_left (same_text x y) (named T x) h) (no_pre T (or_right (same_text x y) (named T x) h))
  no_pre (infix_op y r ∷ T) h = no_pre T (or_right (same_text x y) (named T x) h)

  no_inf : (T : Table) → named T x ≡ false → find_inf T x ≡ none
  unfolding named find_inf name_of
  no_inf [] h = refl
  no_inf (prefix_op y r ∷ T) h = no_inf T (or_right (same_text x y) (named T x) h)
  no_inf (infix_op y r ∷ T) h = rw (or_left (same_text x y) (named T x) h) (no_inf T (or_right (same_text x y) (named T x) h))

  other_name : (d : Entry) (T : Table) (i : ℕ) → i < length T → named T x ≡ false → same_text x (name_of (get_or T i d)) ≡ false
  unfolding named
  other_name d [] i l h = absurd (omega arith)
  other_name d (e ∷ T) zero l h = or_left (same_text x (name_of e)) (named T x) h
  other_name d (e ∷ T) (suc i) l h = other_name d T i (omega arith) (or_right (same_text x (name_of e)) (named T x) h)

-- The bytes of a short name, by which its place is found.
unfoldable pub by_bytes : (ℕ → ℕ → ℕ → ℕ) → List ℕ → ℕ
by_bytes h [] = 0
by_bytes h (a ∷ []) = h a space space
by_bytes h (a ∷ b ∷ []) = h a b space
by_bytes h (a ∷ b ∷ c ∷ []) = h a b c
by_bytes h (a ∷ b ∷ c ∷ d ∷ x) = 0

pub by_trimmed : (h : ℕ → ℕ → ℕ → ℕ) (a b c : ℕ) → by_bytes h (trimmed a b c) ≡ h a b c
unfolding by_bytes trimmed
by_trimmed h a b c = go (eqb c space) (eqb b space) refl refl
  where
    go : (v w : Bool) → eqb c space ≡ v → eqb b space ≡ w →
        by_bytes h (cond v (cond w (a ∷ []) (a ∷ b ∷ [])) (a ∷ b ∷ c ∷ [])) ≡ h a b c
    go true true e f = cc (eqb-true c space e, eqb-true b space f)
    go true false e f = cc (eqb-true c space e)
    go false w e f = refl

-- Two short names have the same text exactly if they have the same bytes.

differ : (x y : List ℕ) → (x ≡ y → ⊥) → same_text x y ≡ false
differ x y n = go (same_text x y) refl
  where
    go : (v : Bool) → same_text x y ≡ v → v ≡ false
    go true h = absurd (n ((same_exactly x y).0 h))
    go false h = refl

module _ (h : ℕ → ℕ → ℕ → ℕ) (a b c d e f : ℕ) where
  pub other_byte : (h a b c ≡ h d e f → ⊥) → same_text (trimmed a b c) (trimmed d e f) ≡ false
  other_byte n = differ (trimmed a b c) (trimmed d e f) (λ same. n (cc (by_trimmed h a b c, by_trimmed h d e f)))

-- Two short names have the same text exactly if they have the same bytes.
module _ (a b c d e f : ℕ) where
  abbrev pub bytes_eq : Bool
  bytes_eq = eqb a d && (eqb b e && eqb c f)

  pub same_bytes : bytes_eq ≡ same_text (trimmed a b c) (trimmed d e f)
  same_bytes = go (eqb a d) refl (eqb b e) refl (eqb c f) refl
    where
      go : (x : Bool) → eqb a d ≡ x → (y : Bool) → eqb b e ≡ y → (z : Bool) → eqb c f ≡ z → x && (y && z) ≡ same_text (trimmed a b c) (trimmed d e f)
      go false p y q z r = sym (other_byte (λ i j k. i) a b c d e f (eqb-false a d p))
      go true p false q z r = sym (other_byte (λ i j k. j) a b c d e f (eqb-false b e q))
      go true p true q false r = sym (other_byte (λ i j k. k) a b c d e f (eqb-false c f r))
      go true p true q true r =
          let g : a ≡ d = eqb-true a d p in
          let h : b ≡ e = eqb-true b e q in
          let l : c ≡ f = eqb-true c f r in
          sym ((same_exactly (trimmed a b c) (trimmed d e f)).1 (cc))

  module _ (differ : Bool) (n : differ ≡ not bytes_eq) where
    pub same_name : differ ≡ false → true ≡ same_text (trimmed a b c) (trimmed d e f)
    same_name e = sym (not-false bytes_eq (sym n ∙ e)) ∙ same_bytes

    pub other_named : differ ≡ true → false ≡ same_text (trimmed a b c) (trimmed d e f)
    other_named e = sym (not-true bytes_eq (sym n ∙ e)) ∙ same_bytes

-- The places in the code's two small tables

unfoldable pub below : List ℕ → Bool
below [] = true
below (x ∷ xs) = ltb x 39 && below xs

unfoldable pub belows : List (List ℕ) → Bool
belows [] = true
belows (xs ∷ rows) = below xs && belows rows

pub low : (xs : List ℕ) → below xs ≡ true → (k : ℕ) → get_or xs k 0 < 39
unfolding below
low [] t k = omega arith
low (x ∷ xs) t zero = ltb-true x 39 (and_left (ltb x 39) (below xs) t)
low (x ∷ xs) t (suc k) = low xs (and_right (ltb x 39) (below xs) t) k

pub low_row : (rows : List (List ℕ)) → belows rows ≡ true → (k : ℕ) → below (get_or rows k []) ≡ true
unfolding below belows
low_row [] t k = refl
low_row (xs ∷ rows) t zero = and_left (below xs) (belows rows) t
low_row (xs ∷ rows) t (suc k) = low_row rows (and_right (below xs) (belows rows) t) k

-- One law for both roles: a test at the names of the table is enough for every short name.
module _ {R : Type 0} (roleIn : Entry → List ℕ → R) (whole : List ℕ → R) (absent : R) (in-other : (e : Entry) (x : List ℕ) → same_text x (name_of e) ≡ false → roleIn e x ≡ absent) (whole-other : (x : List ℕ) → named operators x ≡ false → whole x ≡ absent) (h : ℕ → ℕ → ℕ → ℕ) (lower : (a b c : ℕ) → h a b c < 39) where
  by_low : (x : List ℕ) → by_bytes h x < 39
  unfolding by_bytes
  by_low [] = omega arith
  by_low (a ∷ []) = lower a space space
  by_low (a ∷ b ∷ []) = lower a b space
  by_low (a ∷ b ∷ c ∷ []) = lower a b c
  by_low (a ∷ b ∷ c ∷ d ∷ x) = omega arith

  other : (x : List ℕ) → named operators x ≡ false → roleIn (entry_at (by_bytes h x)) x ≡ whole x
  unfolding entry_at
  other x u =
      in-other (entry_at (by_bytes h x)) x (other_name x (entry_at 39) operators (by_bytes h x) (by_low x) u) ∙ sym (whole-other x u)

  placed : map (λ e. roleIn (entry_at (by_bytes h (name_of e))) (name_of e)) operators ≡ map (λ e. whole (name_of e)) operators →
      (a b c : ℕ) → roleIn (entry_at (h a b c)) (trimmed a b c) ≡ whole (trimmed a b c)
  placed test a b c =
      subst (λ (k : ℕ). roleIn (entry_at k) (trimmed a b c) ≡ whole (trimmed a b c)) (by_trimmed h a b c)
      (agree (λ x. roleIn (entry_at (by_bytes h x)) x) whole operators test other (trimmed a b c))

prefix_other : (e : Entry) (x : List ℕ) → same_text x (name_of e) ≡ false → prefix_in e x ≡ None
unfolding prefix_in name_of
prefix_other (prefix_op y r) x h = rw h
prefix_other (infix_op y r) x h = refl

infix_other : (e : Entry) (x : List ℕ) → same_text x (name_of e) ≡ false → infix_in e x ≡ None
unfolding infix_in name_of
infix_other (prefix_op y r) x h = refl
infix_other (infix_op y r) x h = rw h

prefix_whole : (x : List ℕ) → named operators x ≡ false → prefix_role (prefix_of operators x) ≡ None
unfolding prefix_of prefix_role
prefix_whole x u = go (is_comma x)
  where
    go : (v : Bool) → prefix_role (cond v none (find_pre operators x)) ≡ None
    go true = refl
    go false = rw (no_pre x operators u)

infix_whole : (x : List ℕ) → named operators x ≡ false → infix_role (infix_of operators x) ≡ None
unfolding infix_of infix_role
infix_whole x u = go (is_comma x)
  where
    go : (v : Bool) → infix_role (cond v none (find_inf operators x)) ≡ None
    go true = refl
    go false = rw (no_inf x operators u)

module _ (h : ℕ → ℕ → ℕ → ℕ) (lower : (a b c : ℕ) → h a b c < 39) where
  pub prefix_placed : map (λ e. prefix_in (entry_at (by_bytes h (name_of e))) (name_of e)) operators ≡ map (λ e. prefix_role (prefix_of operators (name_of e))) operators →
      (a b c : ℕ) → prefix_in (entry_at (h a b c)) (trimmed a b c) ≡ prefix_role (prefix_of operators (trimmed a b c))
  prefix_placed = placed prefix_in (λ x. prefix_role (prefix_of operators x)) None prefix_other prefix_whole h lower

  pub infix_placed : map (λ e. infix_in (entry_at (by_bytes h (name_of e))) (name_of e)) operators ≡ map (λ e. infix_role (infix_of operators (name_of e))) operators →
      (a b c : ℕ) → infix_in (entry_at (h a b c)) (trimmed a b c) ≡ infix_role (infix_of operators (trimmed a b c))
  infix_placed = placed infix_in (λ x. infix_role (infix_of operators x)) None infix_other infix_whole h lower

-- No name that fails a test has a role, if all the table's names pass it.

abbrev pub no_roles : Roles
no_roles = record { minus = false; prefix = None; «infix» = None }

not-minus : (x : List ℕ) → named operators x ≡ false → is_minus x ≡ false
unfolding named name_of same_text
not-minus x u = differ x (spell "-") (λ same. false≢true (sym u ∙ subst⁻¹ (λ (z : List ℕ). named operators z ≡ true) same refl))

roles_other : (x : List ℕ) → named operators x ≡ false → roles_of operators x ≡ no_roles
unfolding roles_of
roles_other x u = cc (not-minus x u, prefix_whole x u, infix_whole x u)

pub filtered : (pass : List ℕ → Bool) → map (λ e. roles_of operators (name_of e)) operators ≡ map (λ e. cond (pass (name_of e)) (roles_of operators (name_of e)) no_roles) operators →
    (x : List ℕ) → pass x ≡ false → no_roles ≡ roles_of operators x
filtered pass test x fails =
    sym (agree (roles_of operators) (λ y. cond (pass y) (roles_of operators y) no_roles) operators test other x ∙ rw fails)
  where
    either : (v : Bool) (r : Roles) → r ≡ no_roles → r ≡ cond v r no_roles
    either true r e = refl
    either false r e = e

    other : (y : List ℕ) → named operators y ≡ false → roles_of operators y ≡ cond (pass y) (roles_of operators y) no_roles
    other y u = either (pass y) (roles_of operators y) (roles_other y u)

-- the texts that are spelt by a short name
unfoldable pub short : List ℕ → Bool
short [] = false
short (a ∷ []) = true
short (a ∷ b ∷ []) = not (eqb b space)
short (a ∷ b ∷ c ∷ []) = not (eqb c space)
short (a ∷ b ∷ c ∷ d ∷ x) = false

pub no_role : (x : List ℕ) → short x ≡ false → no_roles ≡ roles_of operators x
unfolding short name_of roles_of prefix_role infix_role prefix_of infix_of find_pre find_inf same_text
no_role = filtered short refl

too-long : (x : List ℕ) → (length x ≡ 1 → ⊥) → (length x ≡ 2 → ⊥) → (length x ≡ 3 → ⊥) → short x ≡ false
unfolding short
too-long [] e f g = refl
too-long (a ∷ []) e f g = absurd (e refl)
too-long (a ∷ b ∷ []) e f g = absurd (f refl)
too-long (a ∷ b ∷ c ∷ []) e f g = absurd (g refl)
too-long (a ∷ b ∷ c ∷ d ∷ x) e f g = refl

pub long_name : (x : List ℕ) → (length x ≡ 1 → ⊥) → (length x ≡ 2 → ⊥) → (length x ≡ 3 → ⊥) → no_roles ≡ roles_of operators x
long_name x e f g = no_role x (too-long x e f g)

-- A table in another form, entry by entry.
pub at_map : {A B : Type 0} (f : A → B) (xs : List A) (i : ℕ) (d : A) (e : B) → i < length xs → f (get_or xs i d) ≡ get_or (map f xs) i e
at_map f [] i d e h = absurd (omega arith)
at_map f (x ∷ xs) zero d e h = refl
at_map f (x ∷ xs) (suc i) d e h = at_map f xs i d e (omega arith)

-- What the code's two small tables hold: at each slot the place of the entry whose name falls there, or 0.

unfoldable pub listed : {A : Type 0} → (ℕ → A) → ℕ → ℕ → List A
listed f k zero = []
listed f k (suc n) = f k ∷ listed f (k + 1) n

unfoldable pub is_prefix_entry : Entry → Bool
is_prefix_entry (prefix_op y r) = true
is_prefix_entry (infix_op y r) = false

-- 01: "A quoted comma is no operator."
unfoldable pub is_infix_entry : Entry → Bool
is_infix_entry (prefix_op y r) = false
is_infix_entry (infix_op y r) = not (is_comma y)

unfoldable pub place_for : (Entry → Bool) → (ℕ → ℕ → ℕ → ℕ) → ℕ → ℕ → Table → ℕ
place_for has slot k i [] = 0
place_for has slot k i (e ∷ T) = cond (has e && eqb (by_bytes slot (name_of e)) k) i (place_for has slot k (i + 1) T)
