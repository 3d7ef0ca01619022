-- An integer that was read is within the limit. A law of the definitions alone, for the crates above. Assumes nothing.
use Prim.Native.Nat.{ℕ, ◌≤◌}
use mathlib.Core.Path.{◌≡◌, subst}
use mathlib.Core.Bool.{Bool}
use mathlib.Core.List.{List}
use native.Mathlib.Omega.{arith}
use borrow.Author.Tests.{ltb-true}
use Rattle.lexer.specs.Digits.{largest_magnitude, beyond}
use Rattle.lexer.specs.Token.{plain_token, Text, lexeme, read_lexeme}
use Rattle.lexer.specs.declared.kind.Value.{Value}
use Rattle.lexer.specs.declared.kind.Value.TheVariants.{Integer, Float, Nothing}
use Rattle.lexer.specs.declared.token.Token.{Token}
use Rattle.lexer.specs.declared.token.Source.{Source}
use Rattle.lexer.proofs.EachToken.{Each, plain_each, read_each}

-- a value, if it is an integer, is at most that of the limit
abbrev Within : Value → Type 0
Within (Integer n) = n ≤ largest_magnitude
Within (Float x) = Unit {0}
Within Nothing = Unit {0}

module _ (origin : Source) (s : List ℕ) (from : ℕ) (t : Token) (e : ℕ) (x : Text) where
  -- a token that is not quoted, at `at`, where b stands
  plain_within : (at b : ℕ) (layout : Bool) → Each (λ k v e. Within v) (plain_token origin s at layout b)
  plain_within at b =
      plain_each (λ k v e. Within v) s at b
      (record {
        word = λ e f. (tt, tt);
        symbol = λ e f. tt;
        solo = tt;
        marked = λ layout k f. tt;
        separator = tt;
        bars = tt;
        end = λ e. tt;
        float = λ y e. tt;
        integer = λ n e f. let l = ltb-true n beyond f in omega arith;
      })
      origin

  pub within_limit : read_lexeme origin s from ≡ lexeme t e x → (n : ℕ) → t.value ≡ Integer n → n ≤ largest_magnitude
  within_limit h n f =
      subst Within f (rw h at (read_each (λ k v at e y. Within v) origin s (λ at l bs d g. tt) (λ at l bs d g. tt) (λ at b l q layout. plain_within at b layout) from))
