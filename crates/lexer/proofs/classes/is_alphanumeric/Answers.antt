-- `lexer::classes::is_alphanumeric` meets its contract: one test over all bytes, which antt computes. Assumes nothing.
use Prim.Native.Nat.{ℕ, ◌<◌}
use mathlib.Core.Path.{◌≡◌}
use mathlib.Core.Bool.{Bool, true, false, cond}
use borrow.Author.Rules.{rules}
use borrow.Author.Tests.{ne_eqb}
use lib.Dec.{eqb}
use Rattle.lexer.specs.Chars.{class_of, is, within, small_letter, decimal_digit, small_z, capital_a, capital_z, underscore, back_quote}
use Rattle.lexer.proofs.Table.{agreed}
use Rattle.lexer.proofs.classes.is_alphanumeric.Goals as goal

-- what the code tests
abbrev tested : ℕ → Bool
tested x = cond (eqb x back_quote) false (cond (within underscore small_z x) true (cond (is decimal_digit x) true (within capital_a capital_z x)))

abbrev due : ℕ → Bool
due x = within small_letter decimal_digit (class_of x)

module _ (b : ℕ) (h : b < 256) where
  rule : tested b ≡ due b
  unfolding class_of
  rule = agreed tested due 256 tt b h

  back : b ≡ back_quote → false ≡ due b
  back e = cc rule

  module _ (n : b ≡ back_quote → ⊥) (r : Bool) (e : r ≡ within underscore small_z b) where
    small : r ≡ true → true ≡ due b
    small f = cc (rule, ne_eqb b back_quote n)

    module _ (f : r ≡ false) (s : Bool) (g : s ≡ is decimal_digit b) where
      digit : s ≡ true → true ≡ due b
      digit k = cc (rule, ne_eqb b back_quote n)

      capital : (t : Bool) → s ≡ false → t ≡ within capital_a capital_z b → t ≡ due b
      capital t k l = cc (rule, ne_eqb b back_quote n)

ruleset ways = (back, small, digit, capital, rules)

pub returns-then-b-eq96 : goal.returns-then-b-eq96
returns-then-b-eq96 c = search ways

pub returns-then-between : goal.returns-then-between
returns-then-between c = search ways

pub returns : goal.returns
returns c = search ways
