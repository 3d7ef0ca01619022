-- `lexer::layout::single_line_comment` meets its contract. The invariant: the comment from the start ends where it ends from here.
-- Assumes nothing.
use Prim.Native.Nat.{ℕ, ◌+◌, ◌-◌, ◌<◌, ◌≤◌}
use mathlib.Core.Path.{◌≡◌, sym, ◌∙◌, ap}
use mathlib.Core.Bool.{false}
use mathlib.Core.List.{List, [], ◌∷◌}
use native.Mathlib.Nat.{add-zero}
use native.Mathlib.Omega.{arith}
use borrow.Author.Tests.{ne_eqb}
use lib.ListN.{length}
use Rattle.lexer.specs.Chars.{newline, space}
use Rattle.lexer.specs.Cursor.{step, along, Valid, Movable, Along}
use Rattle.lexer.specs.Layout.{begins_with, past, single_line_comment, moved}
use Rattle.lexer.specs.Look.{peek}
use Rattle.lexer.specs.Refusal.{fault}
use Rattle.lexer.specs.Stretch.{stretch_end}
use Rattle.lexer.specs.declared.refusal.Refusal.TheVariants.{ForeignByte}
use Rattle.lexer.specs.declared.chars.Peek.{Peek}
use Rattle.lexer.specs.declared.chars.Peek.TheVariants.{Byte, Foreign, End}
use Rattle.lexer.specs.declared.cursor.Cursor.{Cursor}
use Rattle.lexer.specs.Cursor.{Moved}
use Rattle.std.specs.declared.result.Result.TheVariants.{Ok, Err}
use Rattle.lexer.proofs.Cursors.{movable, step-valid, move_here, move_step}
use Rattle.lexer.proofs.Looks.{Seen, peek_end, peek_byte, peek_foreign}
use Rattle.lexer.proofs.Scans.{Between, past_ends, past-along, moved-step}
use Rattle.lexer.proofs.Steps.{drop_end}
use Rattle.lexer.proofs.Stretches.{InStretch, Passed, stretch_known, can_pass, passed}
use Rattle.lexer.proofs.layout.single_line_comment.Given as goal

-- the comment from a cursor on
abbrev pub from : List ℕ → Cursor → Moved
from s c = moved s c (single_line_comment s c.offset)

pub record Inv (s : List ℕ) (c₀ c : Cursor) : Type 0 where
  pub same : from s c₀ ≡ from s c
  pub valid : Valid (length s) c

pub ends : (s : List ℕ) (at : ℕ) → at ≤ length s → Between at (length s) (single_line_comment s at)
ends s at h = rw (add-zero at) at (past_ends (newline ∷ []) Ok 0 (omega arith) (λ (n : ℕ). omega arith) s at h)

-- no plain byte is a newline
pub apart : (x : ℕ) (ys : List ℕ) → InStretch space 126 0 0 x → begins_with (newline ∷ []) (x ∷ ys) ≡ false
apart x ys w = cc (ne_eqb x newline (stretch_known x w.from w.to).1)

-- the ways out of a turn, over plain values: the plain bytes from the cursor on end at e
module _ (s : List ℕ) (c₀ c : Cursor) (i : Inv s c₀ c) (e : ℕ) (g : e ≡ stretch_end space 126 0 0 s c.offset) where
  pub can_skip_along : Along c e
  can_skip_along = can_pass space 126 0 0 (omega arith) (omega arith) s c i.valid e g

  -- c' is the cursor there, r what stands there
  module _ (c' : Cursor) (o : c' ≡ along c (e - c.offset)) (r : Peek) (h : r ≡ peek s e) where
    pub way : Passed s c e c'
    way = passed space 126 0 0 (omega arith) (omega arith) s c i.valid e g c' o

    pub same : from s c₀ ≡ from s c'
    same = i.same ∙ past-along (newline ∷ []) Ok s 0 0 apart c e g c' way (ends s e way.inside)

    pub there : r ≡ peek s c'.offset
    there = h ∙ ap (peek s) (sym way.offset)

    pub ended : r ≡ End → Ok c' ≡ from s c₀
    unfolding past moved
    ended f =
        let l : length s ≤ c'.offset = peek_end s c'.offset (sym there ∙ f) in
        cc (same, drop_end s c'.offset l, move_here s c')

    pub foreign : r ≡ Foreign → Err (fault ForeignByte e) ≡ from s c₀
    unfolding past moved
    foreign f = let l = peek_foreign s c'.offset (sym there ∙ f) in cc (same, way.offset)

    module _ (b : ℕ) (f : r ≡ Byte b) where
      pub seen : Seen s c'.offset b
      seen = peek_byte s c'.offset b (sym there ∙ f)

      pub can_skip : Movable c'
      can_skip = movable (length s) c' way.valid seen.inside

      module _ (d : Cursor) (q : d ≡ step c' b) where
        pub closed : b ≡ newline → Ok d ≡ from s c₀
        unfolding past moved
        closed n =
            let l = seen in
            cc (same, move_step s c' (c'.offset + 1) (omega arith) (omega (arith, l.inside)), move_here s (step c' b))

        pub more : (b ≡ newline → ⊥) → Inv s c₀ d
        unfolding past
        more n =
            let l = seen in
            let k : single_line_comment s c'.offset ≡ single_line_comment s (c'.offset + 1) = cc (ne_eqb b newline n) in
            let m = moved-step s c' l.inside (single_line_comment s (c'.offset + 1)) (ends s (c'.offset + 1) (omega (arith, l.inside))) in
            rw q (record { same = cc (same); valid = step-valid (length s) c' way.valid b l.inside })

        pub less : (b ≡ newline → ⊥) → length s - d.offset < length s - c.offset
        less n = let l = seen in rw q (omega (arith, l.inside, way.ahead, way.offset))

abbrev pub invariant-loop-b : goal.invariant-loop-b
invariant-loop-b l = Inv l.text l.initial.c l.c

abbrev pub decreases-loop-b : goal.decreases-loop-b
decreases-loop-b l = length l.text - l.c.offset
