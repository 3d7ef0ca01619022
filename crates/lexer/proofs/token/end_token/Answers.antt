-- `lexer::token::end_token` meets its contract. Assumes nothing.
use Prim.Native.Nat.{ℕ, ◌+◌, ◌^◌, ◌<◌}
use mathlib.Core.Path.{◌≡◌, sym, ◌∙◌}
use mathlib.Core.Bool.{Bool, true, false}
use mathlib.Core.List.{List}
use native.Mathlib.Omega.{arith}
use borrow.Author.Rules.{rules}
use borrow.Author.Tests.{ne_eqb}
use lib.ListN.{length}
use mir.Syntax.{w64}
use mir.Val.{Fits}
use Rattle.lexer.specs.Chars.{class_of, is, layout_char, newline, percent}
use Rattle.lexer.specs.Look.{peek}
use Rattle.lexer.specs.Name.{graphic_token, name_token, PlainToken, whole_token}
use Rattle.lexer.specs.Refusal.{fault}
use Rattle.lexer.specs.Token.{point_to, end_token}
use Rattle.lexer.specs.declared.refusal.Refusal.TheVariants.{ForeignByte}
use Rattle.lexer.specs.declared.chars.Peek.{Peek}
use Rattle.lexer.specs.declared.kind.Kind.TheVariants.{End}
use Rattle.lexer.specs.declared.kind.Value.TheVariants.{Nothing}
use Rattle.lexer.proofs.HandedOn.{handed_on}
use Rattle.lexer.proofs.Looks.{peek_byte}
use Rattle.lexer.proofs.token.end_token.Goals as goal
use Rattle.std.specs.declared.result.Result.TheVariants.{Err}

module _ (s : List ℕ) (at : ℕ) (r : Peek) (e : r ≡ peek s (at + 1)) where
  ended : (p : PlainToken) → r ≡ Peek.End → p ≡ whole_token End Nothing (at + 1) → p ≡ end_token s at
  unfolding point_to
  ended p f g = cc

  foreign : r ≡ Peek.Foreign → Err (fault ForeignByte (at + 1)) ≡ end_token s at
  unfolding point_to
  foreign f = cc

  module _ (b : ℕ) (f : r ≡ Peek.Byte b) where
    two_fit : length s < 2 ^ 64 → Fits w64 (at + 2)
    two_fit h = let l = (peek_byte s (at + 1) b (sym e ∙ f)).inside in record { fits = omega arith }

    with_newline : (p : PlainToken) → b ≡ newline → p ≡ whole_token End Nothing (at + 2) → p ≡ end_token s at
    unfolding point_to
    with_newline p g h = cc

    module _ (g : b ≡ newline → ⊥) (t : Bool) (q : t ≡ is layout_char b) where
      before_layout : (p : PlainToken) → t ≡ true → p ≡ whole_token End Nothing (at + 1) → p ≡ end_token s at
      unfolding point_to
      before_layout p h i = cc (ne_eqb b newline g)

      module _ (h : t ≡ false) where
        before_comment : (p : PlainToken) → b ≡ percent → p ≡ whole_token End Nothing (at + 1) → p ≡ end_token s at
        unfolding point_to
        before_comment p i j = cc (ne_eqb b newline g)

        -- the point is a graphic character
        a-name : (p : PlainToken) → (b ≡ percent → ⊥) → p ≡ graphic_token s at → p ≡ end_token s at
        unfolding point_to name_token class_of
        a-name p i j = cc (ne_eqb b newline g, ne_eqb b percent i)

ruleset ways = (handed_on, ended, foreign, two_fit, with_newline, before_layout, before_comment, a-name, rules)

pub returns-in-End : goal.returns-in-End
returns-in-End c = search ways

pub returns-in-Foreign : goal.returns-in-Foreign
returns-in-Foreign c = search ways

pub returns-then-b-eq10 : goal.returns-then-b-eq10
returns-then-b-eq10 c = search ways

pub returns-then-is_layout : goal.returns-then-is_layout
returns-then-is_layout c = search ways

pub returns-then-b-eq37 : goal.returns-then-b-eq37
returns-then-b-eq37 c = search ways

pub returns-else-b-eq37 : goal.returns-else-b-eq37
returns-else-b-eq37 c = search ways
