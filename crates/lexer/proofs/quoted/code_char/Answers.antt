-- `lexer::quoted::code_char` meets its contract. Assumes nothing.
use Prim.Native.Nat.{ℕ, ◌<◌, ◌≤◌}
use mathlib.Core.Path.{◌≡◌}
use borrow.Author.Rules.{rules}
use borrow.Author.Tests.{ne_eqb, le-leb, lt-leb}
use Rattle.lexer.specs.Quoted.{coded}
use Rattle.lexer.specs.declared.quoted.Item.TheVariants.{Char, Beyond}
use Rattle.lexer.proofs.quoted.code_char.Goals as goal
use Rattle.std.specs.declared.result.Result.TheVariants.{Ok}

module _ (n next : ℕ) where
  nul : n ≡ 0 → Ok (Beyond next) ≡ coded n next
  unfolding coded
  nul f = cc

  module _ (f : n ≡ 0 → ⊥) where
    large : 127 < n → Ok (Beyond next) ≡ coded n next
    unfolding coded
    large g = cc (ne_eqb n 0 f, lt-leb n 127 g)

    char : n ≤ 127 → Ok (Char n next) ≡ coded n next
    unfolding coded
    char g = cc (ne_eqb n 0 f, le-leb n 127 g)

ruleset ways = (nul, large, char, rules)

pub returns-then-code-eq0 : goal.returns-then-code-eq0
returns-then-code-eq0 c = search ways

pub returns-then-code-gt-LARGEST_CODE : goal.returns-then-code-gt-LARGEST_CODE
returns-then-code-gt-LARGEST_CODE c = search ways

pub returns : goal.returns
returns c = search ways
