-- `lexer::token::is_mark` meets its contract: one test over all bytes, which antt computes. Assumes nothing.
use Prim.Native.Nat.{ℕ, ◌<◌}
use mathlib.Core.Path.{◌≡◌}
use mathlib.Core.Bool.{Bool, true, false, cond, not}
use borrow.Author.Rules.{rules}
use borrow.Author.Tests.{ne_eqb}
use lib.Dec.{eqb}
use Rattle.lexer.specs.Chars.{within, open_paren, close_paren, comma, open_bracket, close_bracket, backslash, open_brace, close_brace, bar}
use Rattle.lexer.specs.Token.{mark, is_mark}
use Rattle.lexer.proofs.Table.{agreed}
use Rattle.lexer.proofs.token.is_mark.Goals as goal

-- what the code tests
abbrev tested : ℕ → Bool
tested x =
    cond (within open_paren close_paren x) true
    (cond (eqb x comma) true
    (cond (within open_bracket close_bracket x) (not (eqb x backslash))
    (cond (within open_brace close_brace x) (not (eqb x bar))
    false)))

abbrev due : ℕ → Bool
due x = is_mark (mark false x)

module _ (b : ℕ) (h : b < 256) (r : Bool) (e : r ≡ within open_paren close_paren b) where
  rule : tested b ≡ due b
  unfolding mark
  rule = agreed tested due 256 tt b h

  round : r ≡ true → true ≡ due b
  round f = cc rule

  module _ (f : r ≡ false) where
    a_comma : b ≡ comma → true ≡ due b
    a_comma n = cc rule

    module _ (n : b ≡ comma → ⊥) (s : Bool) (g : s ≡ within open_bracket close_bracket b) where
      square : s ≡ true → not (eqb b backslash) ≡ due b
      square k = cc (rule, ne_eqb b comma n)

      module _ (k : s ≡ false) (t : Bool) (l : t ≡ within open_brace close_brace b) where
        curly : t ≡ true → not (eqb b bar) ≡ due b
        curly m = cc (rule, ne_eqb b comma n)

        none : t ≡ false → false ≡ due b
        none m = cc (rule, ne_eqb b comma n)

ruleset ways = (round, a_comma, square, curly, none, rules)

pub returns-then-between : goal.returns-then-between
returns-then-between c = search ways

pub returns-then-b-eq44 : goal.returns-then-b-eq44
returns-then-b-eq44 c = search ways

pub returns-then-between-2 : goal.returns-then-between-2
returns-then-between-2 c = search ways

pub returns-then-between-3 : goal.returns-then-between-3
returns-then-between-3 c = search ways

pub returns : goal.returns
returns c = search ways
