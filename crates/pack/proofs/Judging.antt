-- What an image is to a call that knows some versions: a pack, or why it reads none. Assumes nothing.
use Prim.Native.Nat.{ℕ, ◌+◌, ◌<◌, ◌≤◌}
use mathlib.Core.Path.{◌≡◌, refl, sym, ◌∙◌, ap, subst}
use mathlib.Core.Bool.{Bool, true, false}
use mathlib.Core.List.{List}
use native.Mathlib.Omega.{arith}
use lib.Dec.{eqb, leb}
use lib.ListN.{length, get_or, take, drop}
use borrow.Author.Tests.{leb-true, leb-false, eqb-true, eqb-false}
use Rattle.lexer.specs.Refusal.{fault}
use Rattle.lexer.specs.declared.refusal.Fault.{Fault}
use Rattle.lexer.specs.declared.refusal.Refusal.TheVariants.{NoPack, UnknownVersion}
use Rattle.pack.specs.Node.{Node}
use Rattle.pack.specs.Image.{two, version, line_bytes, line, IsPack}
use Rattle.pack.specs.Calls.{Listed, UnpackOutcome, Unread, empty, unknown, Versioned, EitherOutcome}
use Rattle.pack.specs.Moves.{Only, MoveOutcome}
use Rattle.pack.specs.Passes.{word_at, counted, SomePack, PackListed, PackMoved, version_byte, line_size, form_in, Judgement, refuses, finds, version_in}
use Rattle.pack.specs.declared.format.Form.{Form}
use Rattle.pack.specs.declared.format.Form.TheVariants.{One, Two}
use Rattle.pack.specs.declared.format.Version.{Version}
use Rattle.pack.specs.Answers.{PackAnswer, UnpackAnswer, unpacked_as}
use Rattle.std.specs.declared.option.Option.{Option}
use Rattle.std.specs.declared.option.Option.TheVariants.{Some, None}
use Rattle.std.specs.declared.result.Result.TheVariants.{Ok, Err}
use Rattle.pack.specs.declared.answers.Unpacked.{Unpacked}
use Rattle.pack.proofs.Basics.{Bytes, two_high, two_low, drop-two}
use Rattle.pack.proofs.Images.{pack_version, pack_some, pack_counted, Read, counts, counted_pack}

-- a pack of a version that is known is read
pub pack_read : {Known : ℕ → Type 0} (f : Form) (i : List ℕ) (ns : List Node) → IsPack f i ns → {w : Fault} → Unread Known i w → Known (version f) → ⊥
pack_read f i ns p (empty h) k = let z = pack_some f i ns p in omega arith
pack_read {Known} f i ns p (unknown h g) k = g (subst Known (sym (pack_version f i ns p)) k)
pack_read f i ns p (Unread.no_pack h g) k = g f ns p

-- one refusal
pub one_unread : {Known : ℕ → Type 0} {i : List ℕ} {w w' : Fault} → Unread Known i w → Unread Known i w' → w ≡ w'
one_unread (empty h) (empty k) = refl
one_unread (empty h) (unknown k g) = absurd (omega arith)
one_unread (empty h) (Unread.no_pack k g) = refl
one_unread (unknown h g) (empty k) = absurd (omega arith)
one_unread (unknown h g) (unknown k l) = refl
one_unread (unknown h g) (Unread.no_pack k l) = absurd (g k)
one_unread (Unread.no_pack h g) (empty k) = refl
one_unread (Unread.no_pack h g) (unknown k l) = absurd (l h)
one_unread (Unread.no_pack h g) (Unread.no_pack k l) = refl

-- ---- one version

-- the line's bytes are those of the version
line-size : (v : Version) (f : Form) → version f ≡ version_byte v → length (line_bytes f) ≡ line_size v
unfolding version line_bytes
line-size Version.One One h = refl
line-size Version.One (Two l) h = absurd (omega arith)
line-size Version.Two One h = absurd (omega arith)
line-size Version.Two (Two l) h = refl

pub form_version : (v : Version) (i : List ℕ) → version (form_in v i) ≡ version_byte v
unfolding version
form_version Version.One i = refl
form_version Version.Two i = refl

module _ (v : Version) (i : List ℕ) (h : get_or i 0 0 ≡ version_byte v) where
  -- where no count is found there is no pack, of whichever form
  pub no_count : counted (line_size v) i ≡ None → (f : Form) (ns : List Node) → IsPack f i ns → ⊥
  no_count e f ns p =
      let l = line-size v f (sym (pack_version f i ns p) ∙ h) in
      let z : ◌≡◌ {A = ℕ} 0 1 = cc (pack_counted f i ns p, l) in omega arith

-- and where one is found there is a pack of the form that stands there
pub a_count : (v : Version) (i : List ℕ) (n : ℕ) → Bytes i → get_or i 0 0 ≡ version_byte v → counted (line_size v) i ≡ Some n → Read (form_in v i) i n
unfolding version line_bytes line
a_count Version.One i n b h e = counted_pack One i n b (record { versioned = h; lined = refl; line-fits = omega arith }) e
a_count Version.Two i n b h e =
    let c = counts 2 i n e in
    let l = b.below (3 + 1) in
    let k = b.below 3 in
    let t : take 2 (drop 3 i) ≡ two (word_at i 3) =
    ap (take 2) (drop-two i 3 (omega (arith, c.long))) ∙ cc (two_high (get_or i 3 0) (get_or i (3 + 1) 0) l, two_low (get_or i 3 0) (get_or i (3 + 1) 0) l) in
    counted_pack (Two (word_at i 3)) i n b (record { versioned = h; lined = t; line-fits = omega (arith, l, k) }) e

pub is_one : (f : Form) → version f ≡ version_byte Version.One → f ≡ One
unfolding version
is_one One h = refl
is_one (Two l) h = absurd (omega arith)

pub is-two : (f : Form) → version f ≡ version_byte Version.Two → f ≡ Two (line f)
unfolding version line
is-two One h = absurd (omega arith)
is-two (Two l) h = refl

-- ---- as the code judges
module _ (v : Version) (i : List ℕ) where
  pub judge_empty : length i < 1 → Judgement v i (Err (fault NoPack 0))
  judge_empty h = let e : length i ≡ 0 = omega arith in refuses (empty e)

  pub judge_other : 1 ≤ length i → (get_or i 0 0 ≡ version_byte v → ⊥) → Judgement v i (Err (fault UnknownVersion 0))
  judge_other h g = let l : 0 < length i = omega arith in refuses (unknown l g)

  module _ (h : get_or i 0 0 ≡ version_byte v) where
    pub judge_none : counted (line_size v) i ≡ None → Judgement v i (Err (fault NoPack 0))
    judge_none e = refuses (Unread.no_pack h (no_count v i h e))

    pub judge_pack : Bytes i → (n : ℕ) → counted (line_size v) i ≡ Some n → Judgement v i (unpacked_as (form_in v i) n)
    judge_pack b n e = let r = a_count v i n b h e in finds (form_version v i) (record { nodes = r.nodes; is = r.is; count = r.count })

  -- there always is a judgement
  module _ (b : Bytes i) where
    by_count : get_or i 0 0 ≡ version_byte v → (c : Option ℕ) → counted (line_size v) i ≡ c → (j : UnpackAnswer) × Judgement v i j
    by_count h None e = (_, judge_none h e)
    by_count h (Some n) e = (_, judge_pack h b n e)

    by_byte : 1 ≤ length i → (t : Bool) → eqb (get_or i 0 0) (version_byte v) ≡ t → (j : UnpackAnswer) × Judgement v i j
    by_byte l true e = by_count (eqb-true (get_or i 0 0) (version_byte v) e) (counted (line_size v) i) refl
    by_byte l false e = (_, judge_other l (eqb-false (get_or i 0 0) (version_byte v) e))

    by_length : (t : Bool) → leb 1 (length i) ≡ t → (j : UnpackAnswer) × Judgement v i j
    by_length true e = by_byte (leb-true 1 (length i) e) (eqb (get_or i 0 0) (version_byte v)) refl
    by_length false e = (_, judge_empty (leb-false 1 (length i) e))

    pub a_judgement : (j : UnpackAnswer) × Judgement v i j
    a_judgement = by_length (leb 1 (length i)) refl

  -- what a judgement says, by its answer
  pub judged_unread : {j : UnpackAnswer} → Judgement v i j → (w : Fault) → j ≡ Err w → Unread (Only (version_byte v)) i w
  judged_unread (refuses {w = u} x) w e = let q : u ≡ w = cc in subst (Unread (Only (version_byte v)) i) q x
  judged_unread (finds x p) w e = let z : ◌≡◌ {A = ℕ} 0 1 = cc in absurd (omega arith)

  pub record Found (u : Unpacked) : Type 0 where
    pub versioned : version u.form ≡ version_byte v
    pub pack : SomePack i u

  pub judged-found : {j : UnpackAnswer} → Judgement v i j → (u : Unpacked) → j ≡ Ok u → Found u
  judged-found (refuses x) u e = let z : ◌≡◌ {A = ℕ} 0 1 = cc in absurd (omega arith)
  judged-found (finds {p = q} x k) u e = let a : q ≡ u = cc in subst Found a (record { versioned = x; pack = k })

-- ---- either version
versioned_byte : (v : Version) → Versioned (version_byte v)
unfolding version
versioned_byte Version.One = record { form = One; same = refl }
versioned_byte Version.Two = record { form = Two 0; same = refl }

-- a byte that is not the one to judge by is that of no form
pub no_form : (i : List ℕ) → (get_or i 0 0 ≡ version_byte (version_in i) → ⊥) → Versioned (get_or i 0 0) → ⊥
unfolding version_in version
no_form i g k = go (eqb (get_or i 0 0) 2) refl k.form k.same
  where
    go : (t : Bool) → eqb (get_or i 0 0) 2 ≡ t → (f : Form) → get_or i 0 0 ≡ version f → ⊥
    go true e f h = g (rw e (eqb-true (get_or i 0 0) 2 e))
    go false e One h = g (rw e h)
    go false e (Two l) h = eqb-false (get_or i 0 0) 2 e h

pub either_unread : (i : List ℕ) (w : Fault) → Unread (Only (version_byte (version_in i))) i w → Unread Versioned i w
either_unread i w (empty h) = empty h
either_unread i w (unknown h g) = unknown h (no_form i g)
either_unread i w (Unread.no_pack h g) = Unread.no_pack (subst Versioned (sym h) (versioned_byte (version_in i))) g

-- ---- what each call makes of it
module _ (i d : List ℕ) where
  pub old_refused : {w : Fault} → Unread (Only (version_byte Version.One)) i w → UnpackOutcome i d (Err (fault NoPack 0)) d
  unfolding version
  old_refused u = UnpackOutcome.no_pack (λ ns p. pack_read One i ns p u refl)

  pub either_refused : {w : Fault} → Unread (Only (version_byte (version_in i))) i w → EitherOutcome i d (Err w) d
  either_refused {w} u = EitherOutcome.unread (either_unread i w u)

  module _ (u : Unpacked) where
    pub old_listed : Found Version.One i u → {r : UnpackAnswer} {x : List ℕ} → PackListed i u.form d r x → UnpackOutcome i d r x
    old_listed p {r} {x} l =
        let e = is_one u.form p.versioned in
        let ns = p.pack.nodes in
        UnpackOutcome.listed (subst (λ (z : Form). IsPack z i ns) e p.pack.is) (subst (λ (z : Form). Listed z ns d r x) e (l.left ns p.pack.is))

    module _ (v : Version) (p : Found v i u) where
      pub either_listed : {r : UnpackAnswer} {x : List ℕ} → PackListed i u.form d r x → EitherOutcome i d r x
      either_listed l = EitherOutcome.listed p.pack.is (l.left p.pack.nodes p.pack.is)

      pub move_written : {g : Form} {r : PackAnswer} {x : List ℕ} → PackMoved i u.form g d r x → MoveOutcome (version_byte v) g i d r x
      move_written l = MoveOutcome.written p.versioned p.pack.is (l.left p.pack.nodes p.pack.is)
