-- `lexer::layout::consume_layout` meets its contract. Assumes nothing.
use Prim.Native.Nat.{ℕ, ◌+◌, ◌<◌}
use mathlib.Core.Path.{◌≡◌, refl, sym, ◌∙◌, ap}
use mathlib.Core.Bool.{Bool, true, false, ◌&&◌, ◌||◌}
use mathlib.Core.List.{List}
use native.Mathlib.Omega.{arith}
use borrow.Author.Rules.{rules}
use borrow.Author.Tests.{eq-eqb, ne_eqb}
use lib.Dec.{T, ltb, eqb}
use lib.ListN.{length}
use Rattle.lexer.specs.Chars.{class_of, is, within, layout_char, open_paren, point, percent, slash}
use Rattle.lexer.specs.Cursor.{step, Valid, Movable}
use Rattle.lexer.specs.Layout.{single_line_comment, slashed, layout_text_of, layout_text, moved, stepped, layout_to, Slash}
use Rattle.lexer.specs.Look.{lookahead}
use Rattle.lexer.specs.declared.refusal.Fault.{Fault}
use Rattle.lexer.specs.Look.{Look}
use Rattle.std.specs.declared.result.Result.TheVariants.{Ok, Err}
use Rattle.lexer.specs.declared.cursor.Cursor.{Cursor}
use Rattle.lexer.specs.Layout.{Layout}
use Rattle.std.specs.declared.option.Option.TheVariants.{Some, None}
use Rattle.lexer.proofs.HandedOn.{handed_on}
use Rattle.lexer.proofs.Cursors.{movable, step-valid, move_here, move_step}
use Rattle.lexer.proofs.Layouts.{line_ends, stepped-ahead}
use Rattle.lexer.proofs.Looks.{Seen, look_byte}
use Rattle.lexer.proofs.Scans.{moved-step}
use Rattle.lexer.proofs.Table.{agree, agreed}
use Rattle.lexer.proofs.layout.consume_layout.Goals as goal

-- what the code lets past at once
abbrev early : ℕ → Bool
early x = ltb slash x || within open_paren point x

-- the ways out, over plain values: r is what stands at the cursor
module _ (s : List ℕ) (c : Cursor) (r : Look) (e : r ≡ lookahead s c.offset) where
  refused : (f : Fault) → r ≡ Err f → Err f ≡ stepped s c (layout_text s c.offset)
  unfolding layout_text_of stepped
  refused f q = cc

  module _ (b : ℕ) (q : r ≡ Ok b) where
    seen : Seen s c.offset b
    seen = look_byte s c.offset b (sym e ∙ q)

    module _ (v : Valid (length s) c) where
      can_skip : Movable c
      can_skip = movable (length s) c v seen.inside

      in-comment : (d : Cursor) → d ≡ step c b → Valid (length s) d
      in-comment d m = rw m (step-valid (length s) c v b seen.inside)

      at-slash : b ≡ slash → Slash s c
      at-slash n = record { valid = v; slash_there = sym e ∙ q ∙ ap Ok n }

    module _ (h : b < 256) (u : Bool) (i : u ≡ early b) (j : u ≡ true) where
      -- what no early byte is, b is not: one test over all bytes, which antt computes
      never : (q : ℕ → Bool) → T (agree (λ x. early x && q x) (λ x. false) 256) → q b ≡ false
      never q t = let k : q b ≡ (early b && q b) = cc in k ∙ agreed (λ x. early x && q x) (λ x. false) 256 t b h

      absent : Ok None ≡ stepped s c (layout_text s c.offset)
      unfolding layout_text_of stepped class_of
      absent = cc (never (is layout_char) tt, never (λ x. eqb x percent) tt, never (λ x. eqb x slash) tt, eq-eqb c.offset c.offset refl)

    module _ (t : Bool) (g : t ≡ is layout_char b) where
      blank : (d : Cursor) → t ≡ true → d ≡ step c b → Ok (Some d) ≡ stepped s c (layout_text s c.offset)
      unfolding layout_text_of stepped
      blank d n m =
          let l = seen in
          cc (ne_eqb (c.offset + 1) c.offset (λ h. omega arith), move_step s c (c.offset + 1) (omega arith) (omega (arith, l.inside)), move_here s (step c b))

      module _ (n : t ≡ false) where
        line-ahead : b ≡ percent → layout_to (moved s (step c b) (single_line_comment s (step c b).offset)) ≡ stepped s c (layout_text s c.offset)
        unfolding layout_text_of
        line-ahead p =
            let l = seen in
            let w = line_ends s (c.offset + 1) (omega (arith, l.inside)) in
            let j = ap (λ (x : ℕ). moved s (step c x) (single_line_comment s (c.offset + 1))) l.it in
            cc (moved-step s c l.inside (single_line_comment s (c.offset + 1)) w, stepped-ahead s c (length s) (single_line_comment s (c.offset + 1)) w)

        line : (d e : Cursor) → b ≡ percent → d ≡ step c b → Ok e ≡ moved s d (single_line_comment s d.offset) → Ok (Some e) ≡ stepped s c (layout_text s c.offset)
        line d e p k f = let i = line-ahead p in cc (ap (λ (x : Cursor). moved s x (single_line_comment s x.offset)) k)

        strange : (d : Cursor) (w : Fault) → b ≡ percent → d ≡ step c b → Err w ≡ moved s d (single_line_comment s d.offset) → Err w ≡ stepped s c (layout_text s c.offset)
        strange d w p k f = let i = line-ahead p in cc (ap (λ (x : Cursor). moved s x (single_line_comment s x.offset)) k)

        comment : (z : Layout) → b ≡ slash → z ≡ stepped s c (slashed s c.offset (lookahead s (c.offset + 1))) → z ≡ stepped s c (layout_text s c.offset)
        unfolding layout_text_of
        comment z p f = cc

        none : (b ≡ percent → ⊥) → (b ≡ slash → ⊥) → Ok None ≡ stepped s c (layout_text s c.offset)
        unfolding layout_text_of stepped
        none o p = cc (ne_eqb b percent o, ne_eqb b slash p, eq-eqb c.offset c.offset refl)

ruleset ways = (handed_on, refused, can_skip, in-comment, at-slash, absent, blank, line, strange, comment, none, rules)

pub returns-in_err-b : goal.returns-in_err-b
returns-in_err-b c = search (ways, c.in_err-b.was)

pub skip_char-requires : goal.skip_char-requires
skip_char-requires c = search ways

pub skip_char-requires-then-b-eq37 : goal.skip_char-requires-then-b-eq37
skip_char-requires-then-b-eq37 c = search ways

pub single_line_comment-requires : goal.single_line_comment-requires
single_line_comment-requires c = search (ways, c.in_ok-b.was)

pub returns-in_err-single_line_comment : goal.returns-in_err-single_line_comment
returns-in_err-single_line_comment c = search (ways, c.in_err-single_line_comment.was)

pub returns-then-begins_no_layout : goal.returns-then-begins_no_layout
returns-then-begins_no_layout c = search ways

pub returns-then-is_layout : goal.returns-then-is_layout
returns-then-is_layout c = search (ways, c.in_ok-b.was)

pub returns-in_ok-single_line_comment : goal.returns-in_ok-single_line_comment
returns-in_ok-single_line_comment c = search (ways, c.in_ok-single_line_comment.was)

pub returns-then-b-eq47 : goal.returns-then-b-eq47
returns-then-b-eq47 c = search ways

pub returns-else-b-eq47 : goal.returns-else-b-eq47
returns-else-b-eq47 c = search ways
