-- `lexer::token::quoted_found` meets its contract. Assumes nothing.
use Prim.Native.Nat.{ℕ, ◌+◌, ◌<◌}
use mathlib.Core.Path.{◌≡◌, refl, sym}
use mathlib.Core.Bool.{Bool, true, false, cond, true≢false, ◌||◌}
use mathlib.Core.List.{List}
use borrow.Author.Rules.{rules}
use borrow.Author.Tests.{eqb-true, ne_eqb}
use lib.Dec.{eqb}
use Rattle.lexer.specs.Chars.{class_of, is, quote_char, single_quote, double_quote, back_quote}
use Rattle.lexer.specs.Quoted.{decode}
use Rattle.lexer.specs.Refusal.{fault}
use Rattle.lexer.specs.Token.{quoted_to, quoted_lexeme, found, Begins, Quotes, FoundToken}
use Rattle.lexer.specs.declared.refusal.Refusal.TheVariants.{NoToken}
use Rattle.lexer.specs.declared.cursor.Cursor.{Cursor}
use Rattle.lexer.specs.declared.kind.Kind.{Kind}
use Rattle.lexer.specs.declared.kind.Kind.TheVariants.{Name, String}
use Rattle.lexer.proofs.HandedOn.{handed_on}
use Rattle.lexer.proofs.Table.{agreed}
use Rattle.lexer.proofs.token.quoted_found.Goals as goal
use Rattle.std.specs.declared.result.Result.TheVariants.{Err}

-- the quotes: one test over all bytes, which antt computes
quotes : (b : ℕ) → b < 256 → is quote_char b ≡ (eqb b back_quote || (eqb b single_quote || eqb b double_quote))
unfolding class_of
quotes b h = agreed (is quote_char) (λ x. eqb x back_quote || (eqb x single_quote || eqb x double_quote)) 256 tt b h

module _ (s : List ℕ) (c : Cursor) (b : ℕ) (w : Quotes s c b) where
  abbrev due : FoundToken
  due = found s c (quoted_lexeme s c.offset b)

  abbrev read : Kind → FoundToken
  read k = found s c (quoted_to k c.offset (decode b c.offset s (c.offset + 1)))

  begins : Begins s c b
  begins = w.begins

  -- p and q say whether the quote is a single or a double one
  by_quote : (p q : Bool) → eqb b single_quote ≡ p → eqb b double_quote ≡ q → (p || q) ≡ true → read (cond p Name String) ≡ due
  unfolding quoted_lexeme
  by_quote true q e f g = cc (eqb-true b single_quote e)
  by_quote false true e f g = cc (eqb-true b double_quote f)
  by_quote false false e f g = absurd (true≢false (sym g))

  module _ (r : FoundToken) where
    none : b ≡ back_quote → r ≡ Err (fault NoToken c.offset) → r ≡ due
    unfolding quoted_lexeme found
    none f h = cc

    quoted : (k : Kind) → b < 256 → (b ≡ back_quote → ⊥) → k ≡ cond (eqb b single_quote) Name String → r ≡ read k → r ≡ due
    quoted k l n g h =
        let o : (eqb b single_quote || eqb b double_quote) ≡ true = cc (quotes b l, ne_eqb b back_quote n, w.quote) in
        let i = by_quote (eqb b single_quote) (eqb b double_quote) refl refl o in
        cc (g, h, i)

ruleset ways = (handed_on, begins, none, quoted, rules)

pub returns-then-b-eq96 : goal.returns-then-b-eq96
returns-then-b-eq96 c = search ways

pub returns-else-b-eq96 : goal.returns-else-b-eq96
returns-else-b-eq96 c = search ways
