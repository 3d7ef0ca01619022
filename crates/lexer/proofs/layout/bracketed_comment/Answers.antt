-- `lexer::layout::bracketed_comment` meets its contract. Assumes nothing.
use Prim.Native.Nat.{ℕ, ◌+◌, ◌-◌, ◌^◌, ◌<◌}
use mathlib.Core.Path.{◌≡◌, sym, ◌∙◌, ap}
use mathlib.Core.List.{List}
use native.Mathlib.Omega.{arith}
use borrow.Author.Rules.{rules}
use lib.ListN.{length}
use mir.Syntax.{w64}
use mir.Val.{Fits}
use Rattle.lexer.specs.Chars.{slash, star}
use Rattle.lexer.specs.Cursor.{move_to, along, Along}
use Rattle.lexer.specs.Layout.{comment_text, comment_opened, bracketed_comment, moved, Opening, Inside}
use Rattle.lexer.specs.Look.{lookahead}
use Rattle.lexer.specs.declared.refusal.Fault.{Fault}
use Rattle.lexer.specs.Look.{Look}
use Rattle.std.specs.declared.result.Result.TheVariants.{Ok, Err}
use Rattle.lexer.specs.declared.cursor.Cursor.{Cursor}
use Rattle.lexer.specs.Cursor.{Moved}
use Rattle.lexer.proofs.HandedOn.{handed_on}
use Rattle.lexer.proofs.Cursors.{NoNewline, plain_one, plain_both, can_move_along, move_along, move_offset, move_valid}
use Rattle.lexer.proofs.Layouts.{bracketed_ends}
use Rattle.lexer.proofs.Looks.{look_byte}
use Rattle.lexer.proofs.Scans.{moved-by}
use Rattle.lexer.proofs.layout.bracketed_comment.Goals as goal

module _ (s : List ℕ) (c : Cursor) (w : Opening s c) where
  mark-fits : length s < 2 ^ 64 → Fits w64 (c.offset + 2)
  mark-fits h = let l = (look_byte s (c.offset + 1) star w.star_there).inside in record { fits = omega (arith, w.valid.short) }

  -- the opening mark holds no newline
  plain : NoNewline s c.offset (c.offset + 2)
  plain =
      let a = (look_byte s c.offset slash w.slash_there).it in
      let b = (look_byte s (c.offset + 1) star w.star_there).it in
      let m : c.offset + 1 + 1 ≡ c.offset + 2 = omega arith in
      plain_both s c.offset (c.offset + 1) (c.offset + 2)
      (plain_one s c.offset (λ n. omega arith))
      (rw m at (plain_one s (c.offset + 1) (λ n. omega arith)))

  module _ (r : Look) (e : r ≡ lookahead s (c.offset + 2)) where
    refused : (f : Fault) → r ≡ Err f → Err f ≡ moved s c (bracketed_comment s c.offset)
    unfolding comment_opened moved
    refused f q = cc

    module _ (x : ℕ) (q : r ≡ Ok x) where
      inside : c.offset + 2 < length s
      inside = (look_byte s (c.offset + 2) x (sym e ∙ q)).inside

      can_skip : Along c (c.offset + 2)
      can_skip = can_move_along (length s) c w.valid (c.offset + 2) (omega arith) (let l = inside in omega arith)

      module _ (d : Cursor) (m : d ≡ along c (c.offset + 2 - c.offset)) where
        there : d ≡ move_to s c (c.offset + 2)
        there = m ∙ move_along s c (c.offset + 2) (omega arith) (let l = inside in omega arith) plain

        behind-mark : Inside (length s) c.offset d
        behind-mark =
            let l = inside in
            record {
              valid = rw there (move_valid s c (c.offset + 2) (omega arith) (omega arith) w.valid);
              behind = ap (λ (y : Cursor). y.offset) there ∙ move_offset s c (c.offset + 2) (omega arith) (omega arith);
            }

        read : (z : Moved) → z ≡ moved s d (comment_text s c.offset) → z ≡ moved s c (bracketed_comment s c.offset)
        unfolding comment_opened
        read z f =
            let p = moved-by s c (c.offset + 2) (bracketed_comment s c.offset) (omega arith) (bracketed_ends s c.offset) in
            let t : bracketed_comment s c.offset ≡ comment_text s c.offset = cc in
            let g = ap (λ (y : Cursor). moved s y (comment_text s c.offset)) there in
            cc

ruleset ways = (handed_on, mark-fits, refused, can_skip, behind-mark, read, rules)

pub returns-in_err-lookahead_char : goal.returns-in_err-lookahead_char
returns-in_err-lookahead_char c = search (ways, c.in_err-lookahead_char.was)

pub skip_along-requires : goal.skip_along-requires
skip_along-requires c = search ways

pub comment_text-requires : goal.comment_text-requires
comment_text-requires c = search (ways, c.in_ok-lookahead_char.was)

pub returns : goal.returns
returns c = search ways
