-- `lexer::layout::comment_text` meets its contract. The invariant of the outer loop: the comment from the start ends where it ends from here; of
-- the inner one, which stands behind a star: where it ends from that star. Assumes nothing.
use Prim.Native.Nat.{ℕ, ◌+◌, ◌-◌, ◌<◌, ◌≤◌}
use mathlib.Core.Path.{◌≡◌, sym, ◌∙◌, ap}
use mathlib.Core.Bool.{true, false}
use mathlib.Core.List.{List, [], ◌∷◌}
use native.Mathlib.Omega.{arith}
use borrow.Author.Tests.{ne_eqb}
use lib.ListN.{length, drop, get_or}
use Rattle.lexer.specs.Chars.{is, class_of, foreign_byte, space, star, slash}
use Rattle.lexer.specs.Cursor.{step, along, Valid, Movable, Along}
use Rattle.lexer.specs.Layout.{begins_with, past, unclosed, comment_text, moved, Inside}
use Rattle.lexer.specs.Look.{peek}
use Rattle.lexer.specs.Refusal.{fault}
use Rattle.lexer.specs.Stretch.{stretch_end}
use Rattle.lexer.specs.declared.refusal.Refusal.TheVariants.{UnclosedComment, ForeignByte}
use Rattle.lexer.specs.declared.chars.Peek.{Peek}
use Rattle.lexer.specs.declared.chars.Peek.TheVariants.{Byte, Foreign, End}
use Rattle.lexer.specs.declared.cursor.Cursor.{Cursor}
use Rattle.std.specs.declared.result.Result.TheVariants.{Ok, Err}
use Rattle.lexer.specs.Cursor.{Scan}
use Rattle.lexer.proofs.Cursors.{movable, step-valid, move_here, move_step}
use Rattle.lexer.proofs.Looks.{Seen, peek_end, peek_byte, peek_foreign}
use Rattle.lexer.proofs.Scans.{Between, wider, past_ends, past-along, moved-step}
use Rattle.lexer.proofs.Steps.{drop_end}
use Rattle.lexer.proofs.Stretches.{InStretch, Passed, can_pass, passed}
use Rattle.lexer.proofs.layout.comment_text.Given as goal

abbrev pub mark : List ℕ
mark = star ∷ slash ∷ []

-- where the comment whose slash is at o ends, from an offset on
abbrev pub close : List ℕ → ℕ → ℕ → Scan
close s o at = past mark (unclosed o) at (drop at s)

pub ends : (s : List ℕ) (o at : ℕ) → at ≤ length s → Between (at + 2) (length s) (close s o at)
ends s o at h = past_ends mark (unclosed o) 2 (omega arith) (λ (n : ℕ). tt) s at h

-- a turn that finds no mark goes on
pub past-none : (s : List ℕ) (o at b : ℕ) → Seen s at b → begins_with mark (b ∷ drop (at + 1) s) ≡ false → close s o at ≡ close s o (at + 1)
unfolding past
past-none s o at b l t = cc

-- a foreign byte is no slash
pub no_slash : (y : ℕ) → is foreign_byte y ≡ true → y ≡ slash → ⊥
unfolding class_of
no_slash y g n = let z : ◌≡◌ {A = ℕ} 0 1 = cc in omega arith

pub record Outer (s : List ℕ) (o : ℕ) (c₀ c : Cursor) : Type 0 where
  pub same : moved s c₀ (comment_text s o) ≡ moved s c (close s o c.offset)
  pub valid : Valid (length s) c

-- behind the star at k
pub record Inner (s : List ℕ) (o : ℕ) (c₀ c : Cursor) : Type 0 where
  pub k : ℕ
  pub behind : k + 1 ≡ c.offset
  pub seen : Seen s k star
  pub same : moved s c₀ (close s o (c₀.offset - 1)) ≡ moved s c (close s o k)
  pub valid : Valid (length s) c
  pub onward : c₀.offset ≤ c.offset

pub started : (s : List ℕ) (o : ℕ) (c : Cursor) → Inside (length s) o c → Outer s o c c
started s o c w = record { same = ap (λ (n : ℕ). moved s c (close s o n)) (sym w.behind); valid = w.valid }

-- no plain byte but a star begins the mark
pub apart : (x : ℕ) (ys : List ℕ) → InStretch space 126 star 0 x → begins_with mark (x ∷ ys) ≡ false
apart x ys w = cc (ne_eqb x star w.no_p)

-- the ways out of the outer loop's turn, over plain values: the plain bytes from the cursor on end at e
module _ (s : List ℕ) (o : ℕ) (c₀ c : Cursor) (i : Outer s o c₀ c) (e : ℕ) (g : e ≡ stretch_end space 126 star 0 s c.offset) where
  pub can_skip_along : Along c e
  can_skip_along = can_pass space 126 star 0 (omega arith) (omega arith) s c i.valid e g

  -- c' is the cursor there, r what stands there
  module _ (c' : Cursor) (a : c' ≡ along c (e - c.offset)) (r : Peek) (h : r ≡ peek s e) where
    pub way : Passed s c e c'
    way = passed space 126 star 0 (omega arith) (omega arith) s c i.valid e g c' a

    pub same : moved s c₀ (comment_text s o) ≡ moved s c' (close s o c'.offset)
    same =
        i.same
        ∙ past-along mark (unclosed o) s star 0 apart c e g c' way (wider (e + 2) (length s) _ _ (close s o e) (omega arith) (omega arith) (ends s o e way.inside))

    pub there : r ≡ peek s c'.offset
    there = h ∙ ap (peek s) (sym way.offset)

    pub ended : r ≡ End → Err (fault UnclosedComment o) ≡ moved s c₀ (comment_text s o)
    unfolding past moved
    ended f = let l : length s ≤ c'.offset = peek_end s c'.offset (sym there ∙ f) in cc (same, drop_end s c'.offset l)

    pub foreign : r ≡ Foreign → Err (fault ForeignByte e) ≡ moved s c₀ (comment_text s o)
    unfolding past moved
    foreign f = let l = peek_foreign s c'.offset (sym there ∙ f) in cc (same, way.offset)

    module _ (b : ℕ) (f : r ≡ Byte b) where
      pub seen : Seen s c'.offset b
      seen = peek_byte s c'.offset b (sym there ∙ f)

      pub can_skip : Movable c'
      can_skip = movable (length s) c' way.valid seen.inside

      module _ (d : Cursor) (q : d ≡ step c' b) where
        pub other : (b ≡ star → ⊥) → Outer s o c₀ d
        other n =
            let l = seen in
            let t = ne_eqb b star n in
            let k = past-none s o c'.offset b l (cc) in
            let m = moved-step s c' l.inside (close s o (c'.offset + 1))
            (wider (c'.offset + 1 + 2) (length s) _ _ (close s o (c'.offset + 1)) (omega arith) (omega arith) (ends s o (c'.offset + 1) (omega (arith, l.inside)))) in
            rw q (record { same = cc (same); valid = step-valid (length s) c' way.valid b l.inside })

        pub less : length s - d.offset < length s - c.offset
        less = let l = seen in rw q (omega (arith, l.inside, way.ahead, way.offset))

        module _ (n : b ≡ star) where
          pub starred : Inner s o d d
          starred =
              let l = seen in
              let a : d.offset ≡ c'.offset + 1 = ap (λ (x : Cursor). x.offset) q in
              let m : d.offset - 1 ≡ c'.offset = omega arith in
              record {
                k = c'.offset;
                behind = sym a;
                seen = rw n at l;
                same = ap (λ (j : ℕ). moved s d (close s o j)) m;
                valid = rw q (step-valid (length s) c' way.valid b l.inside);
                onward = omega arith;
              }

          -- the comment from the start is the comment from that star
          pub linked : moved s c₀ (comment_text s o) ≡ moved s d (close s o (d.offset - 1))
          linked =
              let l = seen in
              let a : d.offset ≡ c'.offset + 1 = ap (λ (x : Cursor). x.offset) q in
              let m : c'.offset ≡ d.offset - 1 = omega arith in
              let w = moved-step s c' l.inside (close s o c'.offset)
              (wider (c'.offset + 2) (length s) _ _ (close s o c'.offset) (omega arith) (omega arith) (ends s o c'.offset (omega (arith, l.inside)))) in
              cc (same, ap (λ (j : ℕ). moved s d (close s o j)) m)

-- the ways out of the inner loop's turn: d is the cursor where it began, behind a star
module _ (s : List ℕ) (o : ℕ) (d c : Cursor) (j : Inner s o d c) (r : Peek) (e : r ≡ peek s c.offset) where
  pub next_there : r ≡ peek s (j.k + 1)
  next_there = e ∙ ap (peek s) (sym j.behind)

  module _ (b : ℕ) (f : r ≡ Byte b) where
    pub seen-behind : Seen s (j.k + 1) b
    seen-behind = peek_byte s (j.k + 1) b (sym next_there ∙ f)

    pub inside : c.offset < length s
    inside = rw j.behind at seen-behind.inside

    pub here : get_or s c.offset 0 ≡ b
    here = ap (λ (n : ℕ). get_or s n 0) (sym j.behind) ∙ seen-behind.it

    pub can_skip_behind : Movable c
    can_skip_behind = movable (length s) c j.valid inside

    module _ (c' : Cursor) (q : c' ≡ step c b) where
      pub less_behind : length s - c'.offset < length s - c.offset
      less_behind = let l = inside in rw q (omega arith)

      -- the outer loop's measure falls too: its cursor, c₁, stood before the star or k plain bytes further back
      pub less_outer : (c₁ c₂ : Cursor) (k b₁ : ℕ) → c₂ ≡ along c₁ k → d ≡ step c₂ b₁ → length s - c'.offset < length s - c₁.offset
      less_outer c₁ c₂ k b₁ v w =
          let l = inside in
          let a : c₂.offset ≡ c₁.offset + k = ap (λ (x : Cursor). x.offset) v in
          let m : d.offset ≡ c₂.offset + 1 = ap (λ (x : Cursor). x.offset) w in
          rw q (omega (arith, j.onward))

      module _ (n : b ≡ slash → ⊥) where
        pub valid-behind : Valid (length s) c'
        valid-behind = rw q (step-valid (length s) c j.valid b inside)

        -- no mark at that star: the comment ends where it ends from here
        pub same-behind : moved s d (close s o (d.offset - 1)) ≡ moved s c' (close s o (j.k + 1))
        same-behind =
            let l = seen-behind in
            let t = ne_eqb b slash n in
            let u = past-none s o j.k star j.seen (cc) in
            let w = moved-step s c inside (close s o (j.k + 1))
            (wider (j.k + 1 + 2) (length s) _ _ (close s o (j.k + 1)) (omega (arith, j.behind)) (omega arith) (ends s o (j.k + 1) (omega (arith, l.inside)))) in
            j.same ∙ ap (moved s c) u ∙ w ∙ ap (λ (x : Cursor). moved s x (close s o (j.k + 1))) (rw here (sym q))

        pub stars : b ≡ star → Inner s o d c'
        stars t =
            let l = seen-behind in
            let a : c'.offset ≡ c.offset + 1 = ap (λ (x : Cursor). x.offset) q in
            record {
              k = j.k + 1;
              behind = omega (arith, j.behind);
              seen = rw t at l;
              same = same-behind;
              valid = valid-behind;
              onward = omega (arith, j.onward);
            }

  -- as the comment from the start, at c₀
  module _ (c₀ : Cursor) (m : moved s c₀ (comment_text s o) ≡ moved s d (close s o (d.offset - 1))) where
    pub ended-behind : r ≡ End → Err (fault UnclosedComment o) ≡ moved s c₀ (comment_text s o)
    unfolding past moved
    ended-behind f =
        let l : length s ≤ j.k + 1 = peek_end s (j.k + 1) (sym next_there ∙ f) in
        let x = j.seen in
        cc (drop_end s (j.k + 1) l)

    pub foreign_behind : r ≡ Foreign → Err (fault ForeignByte c.offset) ≡ moved s c₀ (comment_text s o)
    unfolding past moved
    foreign_behind f =
        let l = peek_foreign s (j.k + 1) (sym next_there ∙ f) in
        let x = j.seen in
        let t = ne_eqb (get_or s (j.k + 1) 0) slash (no_slash (get_or s (j.k + 1) 0) l.unknown) in
        cc

    module _ (b : ℕ) (f : r ≡ Byte b) (c' : Cursor) (q : c' ≡ step c b) where
      pub closed : b ≡ slash → Ok c' ≡ moved s c₀ (comment_text s o)
      unfolding past moved
      closed n =
          let l = seen-behind b f in
          let x = j.seen in
          let a : j.k + 2 ≡ c.offset + 1 = omega (arith, j.behind) in
          let p = move_step s c (c.offset + 1) (omega arith) (omega (arith, inside b f)) in
          let g = here b f in
          cc (move_here s (step c b))

      pub other_behind : (b ≡ slash → ⊥) → (b ≡ star → ⊥) → Outer s o c₀ c'
      other_behind n t =
          let l = seen-behind b f in
          let a : c'.offset ≡ c.offset + 1 = ap (λ (x : Cursor). x.offset) q in
          let y : j.k + 1 + 1 ≡ c'.offset = omega (arith, j.behind) in
          let u = ne_eqb b star t in
          let v = past-none s o (j.k + 1) b l (cc) in
          record {
            same = m ∙ same-behind b f c' q n ∙ ap (moved s c') v ∙ ap (λ (n : ℕ). moved s c' (close s o n)) y;
            valid = valid-behind b f c' q n;
          }

abbrev pub invariant-loop-d : goal.invariant-loop-d
invariant-loop-d l = Inner l.text l.slash l.initial.c l.c

abbrev pub decreases-loop-d : goal.decreases-loop-d
decreases-loop-d l = length l.text - l.c.offset

abbrev pub invariant-comment : goal.invariant-comment
invariant-comment l = Outer l.text l.slash l.initial.c l.c

abbrev pub decreases-comment : goal.decreases-comment
decreases-comment l = length l.text - l.c.offset
