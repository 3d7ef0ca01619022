-- `lexer::classes::is_quote` meets its contract: one test over all bytes, which antt computes. Assumes nothing.
use Prim.Native.Nat.{ℕ, ◌<◌, ◌≤◌}
use mathlib.Core.Path.{◌≡◌}
use mathlib.Core.Bool.{Bool, true, cond}
use borrow.Author.Rules.{rules}
use borrow.Author.Tests.{lt-ltb, le-ltb, ne_eqb}
use lib.Dec.{ltb, eqb}
use Rattle.lexer.specs.Chars.{class_of, is, quote_char, double_quote, single_quote, back_quote}
use Rattle.lexer.proofs.Table.{agreed}
use Rattle.lexer.proofs.classes.is_quote.Goals as goal

-- what the code tests
abbrev tested : ℕ → Bool
tested x = cond (ltb single_quote x) (eqb x back_quote) (cond (eqb x double_quote) true (eqb x single_quote))

module _ (b : ℕ) (h : b < 256) where
  rule : tested b ≡ is quote_char b
  unfolding class_of
  rule = agreed tested (is quote_char) 256 tt b h

  above : single_quote < b → eqb b back_quote ≡ is quote_char b
  above l = cc (rule, lt-ltb single_quote b l)

  module _ (l : b ≤ single_quote) where
    double : b ≡ double_quote → true ≡ is quote_char b
    double e = cc rule

    single : (b ≡ double_quote → ⊥) → eqb b single_quote ≡ is quote_char b
    single n = cc (rule, le-ltb single_quote b l, ne_eqb b double_quote n)

ruleset ways = (above, double, single, rules)

pub returns-then-b-gt39 : goal.returns-then-b-gt39
returns-then-b-gt39 c = search ways

pub returns-then-b-eq34 : goal.returns-then-b-eq34
returns-then-b-eq34 c = search ways

pub returns : goal.returns
returns c = search ways
