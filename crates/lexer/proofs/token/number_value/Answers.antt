-- `lexer::token::number_value` meets its contract. Assumes nothing.
use Prim.Native.Nat.{ℕ, ◌<◌, ◌≤◌}
use mathlib.Core.Path.{◌≡◌}
use mathlib.Core.Bool.{Bool}
use borrow.Author.Rules.{rules}
use borrow.Author.Tests.{lt-ltb, le-ltb}
use lib.Ieee.{Float}
use Rattle.lexer.specs.Digits.{beyond}
use Rattle.lexer.specs.Float.{float_value}
use Rattle.lexer.specs.Refusal.{fault}
use Rattle.lexer.specs.Token.{floated, valued}
use Rattle.lexer.specs.declared.refusal.Refusal.TheVariants.{OutOfLimit}
use Rattle.lexer.specs.Float.{Floated}
use Rattle.std.specs.declared.option.Option.TheVariants.{Some, None}
use Rattle.lexer.specs.declared.kind.Kind.{Kind}
use Rattle.lexer.specs.declared.kind.Value.{Value}
use Rattle.lexer.specs.declared.number.Numeral.{Numeral}
use Rattle.lexer.proofs.HandedOn.{handed_on}
use Rattle.lexer.proofs.token.number_value.Goals as goal
use Rattle.lexer.specs.Name.{PlainToken}
use Rattle.lexer.specs.Name.{whole_token}
use Rattle.std.specs.declared.result.Result.TheVariants.{Err}

module _ (at end : ℕ) (n : Numeral) where
  module _ (i : ℕ) (e : n ≡ Numeral.Integer i) where
    integer : i < beyond → whole_token Kind.Number (Value.Integer i) end ≡ valued at end n
    unfolding valued
    integer h = cc (lt-ltb i beyond h)

    too_large : (p : PlainToken) → beyond ≤ i → p ≡ Err (fault OutOfLimit at) → p ≡ valued at end n
    unfolding valued
    too_large p h f = cc (le-ltb i beyond h)

  module _ (m : ℕ) (sign : Bool) (x f : ℕ) (e : n ≡ Numeral.Float m sign x f) (r : Floated) (q : r ≡ float_value m sign x f) where
    float : (v : Float) → r ≡ Some v → whole_token Kind.Number (Value.Float v) end ≡ valued at end n
    unfolding valued floated
    float v g = cc

    too_far : (p : PlainToken) → r ≡ None → p ≡ Err (fault OutOfLimit at) → p ≡ valued at end n
    unfolding valued floated
    too_far p g h = cc

ruleset ways = (handed_on, integer, too_large, float, too_far, rules)

pub returns-then-n-lt-BEYOND : goal.returns-then-n-lt-BEYOND
returns-then-n-lt-BEYOND c = search ways

pub returns-else-n-lt-BEYOND : goal.returns-else-n-lt-BEYOND
returns-else-n-lt-BEYOND c = search ways

pub returns-in-Some : goal.returns-in-Some
returns-in-Some c = search ways

pub returns-in-None : goal.returns-in-None
returns-in-None c = search ways
