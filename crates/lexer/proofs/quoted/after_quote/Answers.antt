-- `lexer::quoted::after_quote` meets its contract. Assumes nothing.
use Prim.Native.Nat.{ℕ, ◌+◌}
use mathlib.Core.Path.{◌≡◌}
use mathlib.Core.List.{List}
use borrow.Author.Rules.{rules}
use borrow.Author.Tests.{eq-eqb, ne_eqb}
use Rattle.lexer.specs.Look.{lookahead}
use Rattle.lexer.specs.Quoted.{quote_to}
use Rattle.lexer.specs.Look.{Look}
use Rattle.std.specs.declared.result.Result.TheVariants.{Ok, Err}
use Rattle.lexer.specs.declared.refusal.Fault.{Fault}
use Rattle.lexer.specs.declared.quoted.Item.TheVariants.{Char, Close}
use Rattle.lexer.proofs.HandedOn.{handed_on}
use Rattle.lexer.proofs.Looks.{look_fits}
use Rattle.lexer.proofs.quoted.after_quote.Goals as goal

module _ (s : List ℕ) (at q : ℕ) (r : Look) (e : r ≡ lookahead s at) where
  refuse : (w : Fault) → r ≡ Err w → Err w ≡ quote_to q at (lookahead s at)
  unfolding quote_to
  refuse w f = cc

  module _ (b : ℕ) (f : r ≡ Ok b) where
    doubled : b ≡ q → Ok (Char q (at + 1)) ≡ quote_to q at (lookahead s at)
    unfolding quote_to
    doubled g = cc (eq-eqb b q g)

    close : (b ≡ q → ⊥) → Ok (Close at) ≡ quote_to q at (lookahead s at)
    unfolding quote_to
    close g = cc (ne_eqb b q g)

ruleset ways = (handed_on, refuse, doubled, close, look_fits, rules)

pub returns-in_err-lookahead_char : goal.returns-in_err-lookahead_char
returns-in_err-lookahead_char c = search (ways, c.in_err-lookahead_char.was)

pub overflow_add-result : goal.overflow_add-result
overflow_add-result c = search ways

pub returns-then-branch-quote : goal.returns-then-branch-quote
returns-then-branch-quote c = search ways

pub returns : goal.returns
returns c = search ways
