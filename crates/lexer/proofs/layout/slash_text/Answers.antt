-- `lexer::layout::slash_text` meets its contract. Assumes nothing.
use Prim.Native.Nat.{ℕ, ◌+◌, ◌^◌, ◌<◌}
use mathlib.Core.Path.{◌≡◌, refl, sym, ◌∙◌, ap}
use mathlib.Core.List.{List}
use native.Mathlib.Omega.{arith}
use borrow.Author.Rules.{rules}
use borrow.Author.Tests.{eq-eqb, ne_eqb}
use lib.ListN.{length}
use mir.Syntax.{w64}
use mir.Val.{Fits}
use Rattle.lexer.specs.Chars.{slash, star}
use Rattle.lexer.specs.Layout.{bracketed_comment, slashed, moved, stepped, layout_to, Opening, Slash}
use Rattle.lexer.specs.Look.{lookahead}
use Rattle.lexer.specs.declared.refusal.Fault.{Fault}
use Rattle.lexer.specs.Look.{Look}
use Rattle.std.specs.declared.result.Result.TheVariants.{Ok, Err}
use Rattle.lexer.specs.declared.cursor.Cursor.{Cursor}
use Rattle.lexer.specs.Layout.{Layout}
use Rattle.std.specs.declared.option.Option.TheVariants.{Some, None}
use Rattle.lexer.specs.Cursor.{Scan}
use Rattle.lexer.proofs.HandedOn.{handed_on}
use Rattle.lexer.proofs.Layouts.{bracketed_ends, stepped-ahead}
use Rattle.lexer.proofs.Looks.{look_byte}
use Rattle.lexer.proofs.Scans.{wider}
use Rattle.lexer.proofs.layout.slash_text.Goals as goal

-- what the slash comes to
abbrev From : List ℕ → Cursor → Layout
From s c = stepped s c (slashed s c.offset (lookahead s (c.offset + 1)))

module _ (s : List ℕ) (c : Cursor) (w : Slash s c) where
  next_fits : length s < 2 ^ 64 → Fits w64 (c.offset + 1)
  next_fits h = let l = (look_byte s c.offset slash w.slash_there).inside in record { fits = omega arith }

  module _ (r : Look) (e : r ≡ lookahead s (c.offset + 1)) where
    refused : (f : Fault) → r ≡ Err f → Err f ≡ From s c
    unfolding slashed stepped
    refused f q = cc

    module _ (b : ℕ) (q : r ≡ Ok b) where
      opening : b ≡ star → Opening s c
      opening n = record { valid = w.valid; slash_there = w.slash_there; star_there = sym e ∙ q ∙ ap Ok n }

      ahead : (m : Scan) → m ≡ bracketed_comment s c.offset → layout_to (moved s c m) ≡ stepped s c m
      ahead m f =
          let l = wider (c.offset + 2) (length s) (c.offset + 1) (length s) (bracketed_comment s c.offset) (omega arith) (omega arith) (bracketed_ends s c.offset) in
          cc (stepped-ahead s c (length s) (bracketed_comment s c.offset) l)

      comment : (d : Cursor) → b ≡ star → Ok d ≡ moved s c (bracketed_comment s c.offset) → Ok (Some d) ≡ From s c
      unfolding slashed
      comment d n f = cc (ahead (bracketed_comment s c.offset) refl)

      unclosed : (f : Fault) → b ≡ star → Err f ≡ moved s c (bracketed_comment s c.offset) → Err f ≡ From s c
      unfolding slashed
      unclosed f n g = cc (ahead (bracketed_comment s c.offset) refl)

      none : (b ≡ star → ⊥) → Ok None ≡ From s c
      unfolding slashed stepped
      none n = cc (ne_eqb b star n, eq-eqb c.offset c.offset refl)

ruleset ways = (next_fits, refused, opening, comment, unclosed, none, handed_on, rules)

pub returns-in_err-lookahead_char : goal.returns-in_err-lookahead_char
returns-in_err-lookahead_char c = search (ways, c.in_err-lookahead_char.was)

pub returns-in_err-bracketed_comment : goal.returns-in_err-bracketed_comment
returns-in_err-bracketed_comment c = search (ways, c.in_err-bracketed_comment.was)

pub returns-in_ok-bracketed_comment : goal.returns-in_ok-bracketed_comment
returns-in_ok-bracketed_comment c = search (ways, c.in_ok-bracketed_comment.was)

pub returns-else-branch-eq42 : goal.returns-else-branch-eq42
returns-else-branch-eq42 c = search ways
