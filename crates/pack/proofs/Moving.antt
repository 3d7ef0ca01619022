-- The moves between the forms: there and back, and what the reader of form 1 alone makes of form 2. Assumes nothing.
use Prim.Native.Nat.{ℕ, ◌+◌, ◌≤◌}
use mathlib.Core.Path.{◌≡◌, refl, ◌∙◌, ap, subst}
use mathlib.Core.List.{List}
use native.Mathlib.Omega.{arith}
use lib.ListN.{length, take}
use lib.Seq.{sets}
use Rattle.lexer.specs.Refusal.{number_of, fault}
use Rattle.lexer.specs.declared.refusal.Refusal.TheVariants.{TooLong, NoPack}
use Rattle.pack.specs.Node.{Node, most}
use Rattle.pack.specs.Image.{version, line_bytes, line, body, image, IsPack}
use Rattle.pack.specs.Calls.{Written, packed, UnpackOutcome, empty, unknown}
use Rattle.pack.specs.Calls as C
use Rattle.pack.specs.Moves.{MoveOutcome, MoveUp, MoveDown}
use Rattle.pack.specs.declared.format.Form.{Form}
use Rattle.pack.specs.declared.format.Form.TheVariants.{One, Two}
use Rattle.pack.specs.Answers.{PackAnswer, UnpackAnswer}
use Rattle.std.specs.declared.result.Result.TheVariants.{Ok, Err}
use Rattle.pack.proofs.Images.{image-length, body-length, pack_length, pack_form, pack_one}
use Rattle.pack.proofs.Packs.{front}
use Rattle.pack.proofs.Judging.{pack_read, is_one, is-two}
use Rattle.pack.proofs.Trips.{Both, written_so}

-- what stands behind the line is the same in both forms
same_rest : (f g : Form) (ns : List Node) → length (body g ns) + length (line_bytes f) ≡ length (body f ns) + length (line_bytes g)
same_rest f g ns = omega (arith, body-length f ns, body-length g ns)

-- no image is of both forms
pub never_both : (i : List ℕ) (l : ℕ) (ns ms : List Node) → IsPack One i ns → IsPack (Two l) i ms → ⊥
never_both i l ns ms p q = let e = pack_form One (Two l) i ns ms p q in let z : ◌≡◌ {A = ℕ} 0 1 = cc in omega arith

-- the reader of form 1 alone refuses form 2, and shows nothing of it
pub old_refuses : (l : ℕ) (i d : List ℕ) (ns : List Node) (r : UnpackAnswer) (x : List ℕ) → IsPack (Two l) i ns → UnpackOutcome i d r x
    → (r ≡ Err (fault NoPack 0)) × (x ≡ d)
old_refuses l i d ns r x p (UnpackOutcome.no_pack g) = (refl, refl)
old_refuses l i d ns r x p (UnpackOutcome.listed {ns = ms} q h) = absurd (never_both i l ms ns q p)

module _ (v : ℕ) (g : Form) (i d : List ℕ) where
  -- a move of a pack, where the other form has one, gives that
  pub moved_so : (f : Form) (ns : List Node) → version f ≡ v → IsPack f i ns → (j : List ℕ) → IsPack g j ns → length j ≤ length d → (r : PackAnswer) (x : List ℕ) → MoveOutcome v g i d r x → Both j d r x
  moved_so f ns e p j q l r x (MoveOutcome.unread u) = absurd (pack_read f i ns p u e)
  moved_so f ns e p j q l r x (MoveOutcome.written {f = f'} {ns = ms} e' p' w) = written_so g j ns ms q (pack_one f' f i ms ns p' p) d l r x w

  -- what was moved: a pack of the form g with the same nodes
  pub record Carried (n : ℕ) (x : List ℕ) : Type 0 where
    pub form : Form
    pub nodes : List Node
    pub versioned : version form ≡ v
    pub from : IsPack form i nodes
    pub to : IsPack g (take n x) nodes

  pub carried : line g ≤ most → (r : PackAnswer) (x : List ℕ) (n : ℕ) → MoveOutcome v g i d r x → r ≡ Ok n → Carried n x
  carried s r x n (MoveOutcome.unread u) e = let z : ◌≡◌ {A = ℕ} 0 1 = cc in absurd (omega arith)
  carried s r x n (MoveOutcome.written {f = f} {ns = ns} h p w) e =
      record {
        form = f;
        nodes = ns;
        versioned = h;
        from = p;
        to = front g ns d x n (subst (λ (z : PackAnswer). Written g ns d z x) e w) p.acceptable s;
      }

-- from 1 to 2 and back is the same bytes
pub up-and_down : (i d e : List ℕ) (r q : PackAnswer) (x y : List ℕ) (n : ℕ) → MoveUp i d r x → r ≡ Ok n → MoveDown (take n x) e q y → length i ≤ length e → Both i e q y
unfolding line version
up-and_down i d e r q x y n a h b l =
    let c = carried 1 (Two 0) i d (omega arith) r x n a h in
    let k : IsPack One i c.nodes = subst (λ (f : Form). IsPack f i c.nodes) (is_one c.form c.versioned) c.from in
    moved_so 2 One (take n x) e (Two 0) c.nodes refl c.to i k l q y b

-- from 2 to 1 and back differs at most in the line, which is then 0
pub record LineLost (i e : List ℕ) (q : PackAnswer) (y : List ℕ) : Type 0 where
  pub lost : ℕ
  pub nodes : List Node
  pub was : i ≡ image (Two lost) nodes
  pub answer : q ≡ Ok (length i)
  pub slice : y ≡ sets e 0 (image (Two 0) nodes)

pub down-and_up : (i d e : List ℕ) (r q : PackAnswer) (x y : List ℕ) (n : ℕ) → MoveDown i d r x → r ≡ Ok n → MoveUp (take n x) e q y → length i ≤ length e → LineLost i e q y
unfolding line version line_bytes
down-and_up i d e r q x y n a h b l =
    let c = carried 2 One i d (omega arith) r x n a h in
    let o = line c.form in
    let k : IsPack (Two o) i c.nodes = subst (λ (f : Form). IsPack f i c.nodes) (is-two c.form c.versioned) c.from in
    let w : length (body (Two 0) c.nodes) ≡ length (body (Two o) c.nodes) = omega (arith, same_rest (Two 0) (Two o) c.nodes) in
    let z : length (image (Two 0) c.nodes) ≡ length i = omega (arith, w, image-length (Two 0) c.nodes, pack_length (Two o) i c.nodes k) in
    let j : IsPack (Two 0) (image (Two 0) c.nodes) c.nodes =
    record { acceptable = k.acceptable; line-fits = omega arith; fits = omega (arith, w, k.fits); same = refl } in
    let m = moved_so 1 (Two 0) (take n x) e One c.nodes refl c.to (image (Two 0) c.nodes) j (omega (arith, z)) q y b in
    record { lost = o; nodes = c.nodes; was = k.same; answer = m.answer ∙ ap Ok z; slice = m.slice }

-- 13 is for the move up alone: two bytes fewer always fit
abbrev number : PackAnswer → ℕ
number (Ok n) = 0
number (Err w) = number_of w.refusal

written-fits : (f : Form) (ns : List Node) (i d : List ℕ) (r : PackAnswer) (x : List ℕ) → IsPack f i ns → Written One ns d r x → r ≡ Err (fault TooLong 0) → ⊥
unfolding line_bytes
written-fits f ns i d r x p (Written.too_long l) e = omega (arith, same_rest f One ns, p.fits)
written-fits f ns i d r x p (Written.no_room l m) e = let z = ap number e in omega arith
written-fits f ns i d r x p (packed l m) e = let z = ap number e in omega arith

pub down_fits : (i d : List ℕ) (r : PackAnswer) (x : List ℕ) → MoveDown i d r x → r ≡ Err (fault TooLong 0) → ⊥
down_fits i d r x (MoveOutcome.unread (empty h)) e = let z = ap number e in omega arith
down_fits i d r x (MoveOutcome.unread (unknown h g)) e = let z = ap number e in omega arith
down_fits i d r x (MoveOutcome.unread (C.Unread.no_pack h g)) e = let z = ap number e in omega arith
down_fits i d r x (MoveOutcome.written {f = f} {ns = ns} v p w) e = written-fits f ns i d r x p w e
