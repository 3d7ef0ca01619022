-- `lexer::classes::is_graphic` meets its contract: one test over all bytes, which antt computes. Assumes nothing.
use Prim.Native.Nat.{ℕ, ◌<◌}
use mathlib.Core.Path.{◌≡◌}
use mathlib.Core.Bool.{Bool, true, false, cond, not}
use borrow.Author.Rules.{rules}
use lib.Dec.{eqb}
use Rattle.lexer.specs.Chars.{class_of, is, within, graphic_token_char, star, slash, comma, semicolon, percent, backslash, close_bracket}
use Rattle.lexer.proofs.Table.{agreed}
use Rattle.lexer.proofs.classes.is_graphic.Goals as goal

-- what the code tests: * to / but the comma, : to @ but the semicolon, # to & but the percent sign, \ to ^ but the bracket, and the tilde
abbrev tested : ℕ → Bool
tested x =
    cond (within star slash x) (not (eqb x comma))
    (cond (within 58 64 x) (not (eqb x semicolon))
    (cond (within 35 38 x) (not (eqb x percent))
    (cond (within backslash 94 x) (not (eqb x close_bracket))
    (eqb x 126))))

abbrev due : ℕ → Bool
due x = is graphic_token_char x

module _ (b : ℕ) (h : b < 256) where
  rule : tested b ≡ due b
  unfolding class_of
  rule = agreed tested due 256 tt b h

  module _ (r : Bool) (e : r ≡ within star slash b) where
    first : r ≡ true → not (eqb b comma) ≡ due b
    first f = cc rule

    module _ (f : r ≡ false) (s : Bool) (g : s ≡ within 58 64 b) where
      second : s ≡ true → not (eqb b semicolon) ≡ due b
      second k = cc rule

      module _ (k : s ≡ false) (t : Bool) (l : t ≡ within 35 38 b) where
        third : t ≡ true → not (eqb b percent) ≡ due b
        third m = cc rule

        module _ (m : t ≡ false) (u : Bool) (n : u ≡ within backslash 94 b) where
          fourth : u ≡ true → not (eqb b close_bracket) ≡ due b
          fourth o = cc rule

          tilde : u ≡ false → eqb b 126 ≡ due b
          tilde o = cc rule

ruleset ways = (first, second, third, fourth, tilde, rules)

pub returns-then-between : goal.returns-then-between
returns-then-between c = search ways

pub returns-then-between-2 : goal.returns-then-between-2
returns-then-between-2 c = search ways

pub returns-then-between-3 : goal.returns-then-between-3
returns-then-between-3 c = search ways

pub returns-then-between-4 : goal.returns-then-between-4
returns-then-between-4 c = search ways

pub returns : goal.returns
returns c = search ways
