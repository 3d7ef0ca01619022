-- `lexer::classes::is_alphabetic` meets its contract: one test over all bytes, which antt computes. Assumes nothing.
use Prim.Native.Nat.{ℕ, ◌<◌, ◌≤◌}
use mathlib.Core.Path.{◌≡◌}
use mathlib.Core.Bool.{Bool, true, false, cond}
use borrow.Author.Rules.{rules}
use borrow.Author.Tests.{lt-ltb, le-ltb, ne_eqb}
use lib.Dec.{leb, ltb, eqb}
use Rattle.lexer.specs.Chars.{class_of, within, small_letter, underscore_char, small_z, capital_a, capital_z, underscore, back_quote}
use Rattle.lexer.proofs.Table.{agreed}
use Rattle.lexer.proofs.classes.is_alphabetic.Goals as goal

-- what the code tests
abbrev tested : ℕ → Bool
tested x = cond (ltb x capital_a) false (cond (eqb x back_quote) false (cond (within underscore small_z x) true (leb x capital_z)))

abbrev due : ℕ → Bool
due x = within small_letter underscore_char (class_of x)

module _ (b : ℕ) (h : b < 256) where
  rule : tested b ≡ due b
  unfolding class_of
  rule = agreed tested due 256 tt b h

  below : b < capital_a → false ≡ due b
  below l = cc (rule, lt-ltb b capital_a l)

  module _ (l : capital_a ≤ b) where
    back : b ≡ back_quote → false ≡ due b
    back e = cc rule

    module _ (n : b ≡ back_quote → ⊥) (r : Bool) (e : r ≡ within underscore small_z b) where
      small : r ≡ true → true ≡ due b
      small f = cc (rule, le-ltb b capital_a l, ne_eqb b back_quote n)

      capital : r ≡ false → leb b capital_z ≡ due b
      capital f = cc (rule, le-ltb b capital_a l, ne_eqb b back_quote n)

ruleset ways = (below, back, small, capital, rules)

pub returns-then-b-lt65 : goal.returns-then-b-lt65
returns-then-b-lt65 c = search ways

pub returns-then-b-eq96 : goal.returns-then-b-eq96
returns-then-b-eq96 c = search ways

pub returns-then-between : goal.returns-then-between
returns-then-between c = search ways

pub returns : goal.returns
returns c = search ways
