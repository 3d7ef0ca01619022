-- `lexer::quoted::quoted_item` meets its contract. Assumes nothing.
use Prim.Native.Nat.{ℕ, ◌+◌}
use mathlib.Core.Path.{◌≡◌}
use mathlib.Core.List.{List}
use borrow.Author.Rules.{rules}
use borrow.Author.Tests.{eq-eqb, ne_eqb}
use Rattle.lexer.specs.Chars.{tab, newline, carriage_return, backslash}
use Rattle.lexer.specs.Look.{lookahead}
use Rattle.lexer.specs.Quoted.{escape, quote_to, item_to, quoted_item, QuotedItem}
use Rattle.lexer.specs.Refusal.{fault}
use Rattle.lexer.specs.Look.{Look}
use Rattle.std.specs.declared.result.Result.TheVariants.{Ok, Err}
use Rattle.lexer.specs.declared.quoted.Item.TheVariants.{Char}
use Rattle.lexer.specs.declared.refusal.Fault.{Fault}
use Rattle.lexer.specs.declared.refusal.Refusal.TheVariants.{BadQuoted}
use Rattle.lexer.proofs.HandedOn.{handed_on}
use Rattle.lexer.proofs.Looks.{look_fits}
use Rattle.lexer.proofs.quoted.quoted_item.Goals as goal

module _ (s : List ℕ) (at q token : ℕ) (r : Look) (e : r ≡ lookahead s at) where
  refuse : (w : Fault) → r ≡ Err w → Err w ≡ quoted_item q token s at
  unfolding item_to
  refuse w f = cc

  module _ (b : ℕ) (f : r ≡ Ok b) where
    module _ (i : QuotedItem) (j : i ≡ Err (fault BadQuoted token)) where
      line : b ≡ newline → i ≡ quoted_item q token s at
      unfolding item_to
      line g = cc

      tabbed : b ≡ tab → i ≡ quoted_item q token s at
      unfolding item_to
      tabbed g = cc

      returned : b ≡ carriage_return → i ≡ quoted_item q token s at
      unfolding item_to
      returned g = cc

    module _ (g : b ≡ newline → ⊥) (h : b ≡ tab → ⊥) (o : b ≡ carriage_return → ⊥) where
      quote : (i : QuotedItem) → b ≡ q → i ≡ quote_to q (at + 1) (lookahead s (at + 1)) → i ≡ quoted_item q token s at
      unfolding item_to
      quote i k j = cc (ne_eqb b newline g, ne_eqb b tab h, ne_eqb b carriage_return o, eq-eqb b q k)

      module _ (k : b ≡ q → ⊥) where
        escaped : (i : QuotedItem) → b ≡ backslash → i ≡ escape token s (at + 1) → i ≡ quoted_item q token s at
        unfolding item_to
        escaped i l j = cc (ne_eqb b q k)

        plain : (b ≡ backslash → ⊥) → Ok (Char b (at + 1)) ≡ quoted_item q token s at
        unfolding item_to
        plain l = cc (ne_eqb b newline g, ne_eqb b tab h, ne_eqb b carriage_return o, ne_eqb b q k, ne_eqb b backslash l)

ruleset ways = (handed_on, refuse, line, tabbed, returned, quote, escaped, plain, look_fits, rules)

pub returns-in_err-b : goal.returns-in_err-b
returns-in_err-b c = search (ways, c.in_err-b.was)

pub returns-then-b-eq10 : goal.returns-then-b-eq10
returns-then-b-eq10 c = search ways

pub returns-then-b-eq9 : goal.returns-then-b-eq9
returns-then-b-eq9 c = search ways

pub returns-then-b-eq13 : goal.returns-then-b-eq13
returns-then-b-eq13 c = search ways

pub overflow_add-at : goal.overflow_add-at
overflow_add-at c = search ways

pub returns-then-b-quote : goal.returns-then-b-quote
returns-then-b-quote c = search ways

pub overflow_add-at-then-b-eq92 : goal.overflow_add-at-then-b-eq92
overflow_add-at-then-b-eq92 c = search ways

pub returns-then-b-eq92 : goal.returns-then-b-eq92
returns-then-b-eq92 c = search ways

pub overflow_add-result : goal.overflow_add-result
overflow_add-result c = search ways

pub returns : goal.returns
returns c = search ways
