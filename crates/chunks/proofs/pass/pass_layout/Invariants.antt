-- `chunks::pass::pass_layout` meets its contract. The invariant: passing from the start comes to what passing from here comes to. Assumes nothing.
use Prim.Native.Nat.{ℕ, zero, suc, ◌+◌, ◌-◌, ◌<◌, ◌≤◌}
use mathlib.Core.Path.{◌≡◌, refl, sym, subst, ◌∙◌, ap}
use mathlib.Core.Bool.{true, false}
use mathlib.Core.List.{List, ◌∷◌}
use native.Mathlib.Omega.{arith}
use borrow.Author.Tests.{ne_eqb}
use lib.ListN.{length, take, drop, get_or, length-drop}
use lib.Seq.{take_all}
use Rattle.lexer.specs.Chars.{is, class_of, foreign_byte, space, newline, star}
use Rattle.lexer.specs.Cursor.{longest, step, along, Valid, Movable}
use Rattle.lexer.specs.Stretch.{in_stretch, stretch_end}
use Rattle.lexer.specs.declared.refusal.Fault.{Fault}
use Rattle.lexer.specs.declared.cursor.Cursor.{Cursor}
use Rattle.lexer.proofs.Cursors.{step-valid}
use Rattle.lexer.proofs.Steps.{drop_at, drop_end}
use Rattle.lexer.proofs.Stretches.{stretch_carry, stretch_ahead, stretch_inside, in-stretch, stretch_known}
use Rattle.chunks.specs.Layouts.{Turned, on, wait_of, turn, ahead, plain_end}
use Rattle.chunks.specs.Reader.{stopped, carried, pass, placed, Passable}
use Rattle.chunks.specs.declared.layout.Mode.{Mode}
use Rattle.chunks.specs.declared.layout.Mode.TheVariants.{Blank, Line, Inside}
use Rattle.chunks.specs.declared.layout.Why.{Why}
use Rattle.chunks.specs.declared.layout.Why.TheVariants.{Waits}
use Rattle.chunks.specs.declared.layout.Turn.{Turn}
use Rattle.std.specs.declared.result.Result.TheVariants.{Ok, Err}
use Rattle.chunks.proofs.pass.pass_layout.Given as goal

-- one turn of the definition
module _ (m : Mode) (left : ℕ) (c : Cursor) (s : List ℕ) (at : ℕ) (h : at < length s) where
  pub passes : (m' : Mode) (j : ℕ) → ahead left m c.offset (drop at s) ≡ on m' j → pass m left c (drop at s) ≡ pass m' j (step c (get_or s at 0)) (drop (at + 1) s)
  unfolding pass carried
  passes m' j e =
      let d = drop_at s at h in
      let f : ahead left m c.offset (get_or s at 0 ∷ drop (at + 1) s) ≡ on m' j = ap (ahead left m c.offset) (sym d) ∙ e in
      rw (d, f)

  pub stands : (y : Why) → ahead left m c.offset (drop at s) ≡ Err y → pass m left c (drop at s) ≡ stopped m c (drop at s) y
  unfolding pass carried
  stands y e =
      let d = drop_at s at h in
      let f : ahead left m c.offset (get_or s at 0 ∷ drop (at + 1) s) ≡ Err y = ap (ahead left m c.offset) (sym d) ∙ e in
      rw (d, f)

pub none_left : (m : Mode) (left : ℕ) (c : Cursor) (s : List ℕ) (at : ℕ) → length s ≤ at → (w : Fault) → w ≡ wait_of m c.offset → pass m left c (drop at s) ≡ stopped m c (drop at s) (Waits w)
unfolding pass
none_left m left c s at h w e = cc (drop_end s at h)

pub record Going (s : List ℕ) (m₀ : Mode) (c₀ : Cursor) (m : Mode) (left : ℕ) (c : Cursor) (at : ℕ) : Type 0 where
  pub same : pass m₀ 0 c₀ s ≡ pass m left c (drop at s)
  pub inside : at ≤ length s
  pub there : c.offset ≡ c₀.offset + at
  pub able : Passable (length s - at) c

pub begun : (s : List ℕ) (m : Mode) (c : Cursor) → Passable (length s) c → Going s m c m 0 c 0
begun s m c p = record { same = refl; inside = omega arith; there = omega arith; able = record { short = (let k = p.short in omega arith); line = p.line; column = p.column } }

-- one byte further on
pub next_going : (s : List ℕ) (m₀ : Mode) (c₀ : Cursor) (m : Mode) (left : ℕ) (c : Cursor) (at : ℕ) → Going s m₀ c₀ m left c at → at < length s
    → (m' : Mode) (j : ℕ) → ahead left m c.offset (drop at s) ≡ on m' j → (d : Cursor) → d ≡ step c (get_or s at 0) → Going s m₀ c₀ m' j d (at + 1)
next_going s m₀ c₀ m left c at g h m' j e d k =
    record { same = next; inside = omega arith; there = ap (λ (x : Cursor). x.offset) k ∙ (let o = g.there in omega arith); able = further }
  where
    next : pass m₀ 0 c₀ s ≡ pass m' j d (drop (at + 1) s)
    next = g.same ∙ passes m left c s at h m' j e ∙ ap (λ (x : Cursor). pass m' j x (drop (at + 1) s)) (sym k)

    valid : Valid longest c
    valid = record { short = omega arith; offset = (let o = g.able.short in omega arith); line = g.able.line; column = g.able.column }

    stepped : Valid longest (step c (get_or s at 0))
    stepped = step-valid longest c valid (get_or s at 0) (let o = g.able.short in omega arith)

    further : Passable (length s - (at + 1)) d
    further = rw k (record { short = (let o = g.able.short in omega arith); line = stepped.line; column = stepped.column })

-- ---- bytes that are passed in a run

-- no byte of a run is a newline, and each leaves the mode as it is
pub run_byte : (a p : ℕ) (x : ℕ) → space ≤ a → in_stretch a 126 p 0 x ≡ true → (is foreign_byte x ≡ false) × (x ≡ newline → ⊥)
run_byte a p x h t = let i = in-stretch a 126 p 0 x t in stretch_known x (let k = i.from in omega arith) i.to

pub along-none : (c : Cursor) (n : ℕ) → n ≡ 0 → along c n ≡ c
along-none c n e =
    let o : c.offset + n ≡ c.offset = omega arith in
    let k : c.column + n ≡ c.column = omega arith in
    ap (λ (x : ℕ). record { offset = x; line = c.line; column = c.column + n }) o ∙ ap (λ (x : ℕ). record { offset = c.offset; line = c.line; column = x }) k

pub along_one : (c : Cursor) (n x : ℕ) → (x ≡ newline → ⊥) → along c (n + 1) ≡ step (along c n) x
along_one c n x f =
    let o : c.offset + (n + 1) ≡ c.offset + n + 1 = omega arith in
    let k : c.column + (n + 1) ≡ c.column + n + 1 = omega arith in
    rw (ne_eqb x newline f) (ap (λ (y : ℕ). record { offset = y; line = c.line; column = c.column + (n + 1) }) o ∙ ap (λ (y : ℕ). record { offset = c.offset + n + 1; line = c.line; column = y }) k)

-- a stretch whose bytes leave the mode as it is
module _ (s : List ℕ) (m₀ : Mode) (c₀ : Cursor) (m : Mode) (c : Cursor) (at : ℕ) (g : Going s m₀ c₀ m 0 c at) where
  pub run_going : (a b p : ℕ) → ((x off : ℕ) (r : List ℕ) → in_stretch a b p 0 x ≡ true → (turn m off (x ∷ r) ≡ on m 0) × (x ≡ newline → ⊥)) → Going s m₀ c₀ m 0 (along c (stretch_end a b p 0 s at - at)) (stretch_end a b p 0 s at)
  unfolding ahead
  run_going a b p plain = (stretch_carry a b p 0 s (λ (i : ℕ). (at ≤ i) × Going s m₀ c₀ m 0 (along c (i - at)) i) one at (omega arith, subst (λ (x : Cursor). Going s m₀ c₀ m 0 x at) (sym (along-none c (at - at) (omega arith))) g)).1
    where
      one : (i : ℕ) → i < length s → in_stretch a b p 0 (get_or s i 0) ≡ true → (at ≤ i) × Going s m₀ c₀ m 0 (along c (i - at)) i → (at ≤ i + 1) × Going s m₀ c₀ m 0 (along c (i + 1 - at)) (i + 1)
      one i h t q =
          let y = plain (get_or s i 0) (along c (i - at)).offset (drop (i + 1) s) t in
          let n : i + 1 - at ≡ i - at + 1 = omega (arith, q.0) in
          (omega (arith, q.0), next_going s m₀ c₀ m 0 (along c (i - at)) i q.1 h m 0 (ap (turn m (along c (i - at)).offset) (drop_at s i h) ∙ y.0) (along c (i + 1 - at)) (ap (along c) n ∙ along_one c (i - at) (get_or s i 0) y.1))

-- what each mode passes so
pub blank_byte : (x off : ℕ) (r : List ℕ) → in_stretch space space 0 0 x ≡ true → (turn Blank off (x ∷ r) ≡ on Blank 0) × (x ≡ newline → ⊥)
unfolding turn class_of
blank_byte x off r t =
    let i = in-stretch space space 0 0 x t in
    let e : x ≡ space = (let k = i.from in let n = i.to in omega arith) in
    (ap (λ (y : ℕ). turn Blank off (y ∷ r)) e, λ n. omega arith)

pub line_byte : (x off : ℕ) (r : List ℕ) → in_stretch space 126 0 0 x ≡ true → (turn Line off (x ∷ r) ≡ on Line 0) × (x ≡ newline → ⊥)
unfolding turn
line_byte x off r t = let p = run_byte space 0 x (omega arith) t in (rw (p.0, ne_eqb x newline p.1), p.1)

pub inside_byte : (o x off : ℕ) (r : List ℕ) → in_stretch space 126 star 0 x ≡ true → (turn (Inside o) off (x ∷ r) ≡ on (Inside o) 0) × (x ≡ newline → ⊥)
unfolding turn
inside_byte o x off r t = let p = run_byte space star x (omega arith) t in (rw (p.0, ne_eqb x star (in-stretch space 126 star 0 x t).no_p), p.1)

pub plain_going : (s : List ℕ) (m₀ : Mode) (c₀ : Cursor) (m : Mode) (j : ℕ) (c : Cursor) (at : ℕ) → Going s m₀ c₀ m j c at → Going s m₀ c₀ m j (along c (plain_end j m s at - at)) (plain_end j m s at)
unfolding plain_end
plain_going s m₀ c₀ m (suc j) c at g = subst (λ (x : Cursor). Going s m₀ c₀ m (suc j) x at) (sym (along-none c (at - at) (omega arith))) g
plain_going s m₀ c₀ Blank zero c at g = run_going s m₀ c₀ Blank c at g space space 0 blank_byte
plain_going s m₀ c₀ Line zero c at g = run_going s m₀ c₀ Line c at g space 126 0 line_byte
plain_going s m₀ c₀ (Inside o) zero c at g = run_going s m₀ c₀ (Inside o) c at g space 126 star (inside_byte o)

pub plain_ahead : (s : List ℕ) (at j : ℕ) (m : Mode) → at ≤ plain_end j m s at
unfolding plain_end
plain_ahead s at (suc j) m = omega arith
plain_ahead s at zero Blank = stretch_ahead space space 0 0 s at
plain_ahead s at zero Line = stretch_ahead space 126 0 0 s at
plain_ahead s at zero (Inside o) = stretch_ahead space 126 star 0 s at

pub plain_inside : (s : List ℕ) (at j : ℕ) (m : Mode) → at ≤ length s → plain_end j m s at ≤ length s
unfolding plain_end
plain_inside s at (suc j) m h = h
plain_inside s at zero Blank h = stretch_inside space space 0 0 s at h
plain_inside s at zero Line h = stretch_inside space 126 0 0 s at h
plain_inside s at zero (Inside o) h = stretch_inside space 126 star 0 s at h

module _ (s : List ℕ) (m₀ : Mode) (c₀ : Cursor) (m : Mode) (left : ℕ) (c : Cursor) (at : ℕ) (g : Going s m₀ c₀ m left c at) where
  -- what it comes to, by what comes of the bytes from here on
  pub passed : (y : Why) → pass m left c (drop at s) ≡ stopped m c (drop at s) y → placed c₀ s (record { mode = m; cursor = c; why = y }) ≡ pass m₀ 0 c₀ s
  passed y f =
      let o : c.offset - c₀.offset ≡ at = (let k = g.there in omega arith) in
      ap (λ (k : ℕ). stopped m c (drop k s) y) o ∙ sym (g.same ∙ f)

  module _ (h : at < length s) where
    pub here : c.offset ≤ longest
    here = let k = g.able.short in omega arith

    pub able : Movable c
    able = record { offset = (let k = g.able.short in omega arith); line = g.able.line; column = g.able.column }

    module _ (r : Turned) (z : r ≡ ahead left m c.offset (take (length s - at) (drop at s))) where
      e : r ≡ ahead left m c.offset (drop at s)
      e = let k = length-drop at s in z ∙ ap (ahead left m c.offset) (take_all (length s - at) (drop at s) (omega arith))

      pub onward : (t : Turn) → r ≡ Ok t → (d : Cursor) → d ≡ step c (get_or s at 0) → Going s m₀ c₀ t.mode t.more d (at + 1)
      onward t f d k = next_going s m₀ c₀ m left c at g h t.mode t.more (sym e ∙ f) d k

      -- the bytes behind it that are passed in a run
      module _ (t : Turn) (f : r ≡ Ok t) (d : Cursor) (k : d ≡ step c (get_or s at 0)) (end : ℕ) (q : end ≡ plain_end t.more t.mode s (at + 1)) where
        pub run-ahead : at + 1 ≤ end
        run-ahead = rw q (plain_ahead s (at + 1) t.more t.mode)

        pub run_inside : end ≤ length s
        run_inside = rw q (plain_inside s (at + 1) t.more t.mode (omega arith))

        pub run_able : Passable (end - (at + 1)) d
        run_able =
            let p = (onward t f d k).able in
            let i = run-ahead in
            let n = run_inside in
            record { short = (let o = p.short in omega arith); line = p.line; column = p.column }

        pub run-on : (d' : Cursor) → d' ≡ along d (end - (at + 1)) → Going s m₀ c₀ t.mode t.more d' end
        run-on d' y = rw (y, q) (plain_going s m₀ c₀ t.mode t.more d (at + 1) (onward t f d k))

        pub run_less : length s - end < length s - at
        run_less = let i = run-ahead in let n = run_inside in omega arith

      pub stops : (y : Why) → r ≡ Err y → placed c₀ s (record { mode = m; cursor = c; why = y }) ≡ pass m₀ 0 c₀ s
      stops y f = passed y (stands m left c s at h y (sym e ∙ f))

  pub ended : length s ≤ at → (w : Fault) → w ≡ wait_of m c.offset → placed c₀ s (record { mode = m; cursor = c; why = Waits w }) ≡ pass m₀ 0 c₀ s
  ended h w e = passed (Waits w) (none_left m left c s at h w e)

abbrev pub invariant-loop-at : goal.invariant-loop-at
invariant-loop-at l = Going l.hand l.initial.m l.initial.c l.m l.left l.c l.at

abbrev pub decreases-loop-at : goal.decreases-loop-at
decreases-loop-at l = length l.hand - l.at
