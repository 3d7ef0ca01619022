-- `lexer::token::unmarked_token` meets its contract. Assumes nothing.
use Prim.Native.Nat.{ℕ, ◌<◌}
use mathlib.Core.Path.{◌≡◌, refl, sym, ◌∙◌}
use mathlib.Core.Bool.{Bool, true, false, cond}
use mathlib.Core.List.{List}
use borrow.Author.Rules.{rules}
use borrow.Author.Tests.{eqb-true, ne_eqb}
use lib.ListN.{length}
use Rattle.lexer.specs.Chars.{class_of, is, within, small_letter, capital_letter, underscore_char, decimal_digit, solo_char, point, bar}
use Rattle.lexer.specs.Look.{lookahead}
use Rattle.lexer.specs.Name.{symbol_name, name_token, PlainToken}
use Rattle.lexer.specs.Number.{number_token}
use Rattle.lexer.specs.Token.{bar_token, end_token, solo_to, numbered, sourced, plain_token, AtDigit, Unmarked}
use Rattle.std.specs.declared.result.Result.TheVariants.{Ok}
use Rattle.lexer.specs.declared.token.Source.{Source}
use Rattle.lexer.proofs.HandedOn.{handed_on}
use Rattle.lexer.proofs.Looks.{look_byte}
use Rattle.lexer.proofs.Promises.{class_digit}
use Rattle.lexer.proofs.Sets.{apart}
use Rattle.lexer.proofs.token.unmarked_token.Goals as goal

either : (t : Bool) (p : PlainToken) → cond t p p ≡ p
either true p = refl
either false p = refl

-- the ways out, over plain values: the tests say of what class the first byte b is (d, whether it is a digit), p is what was read
module _ (s : List ℕ) (at b : ℕ) (w : Unmarked s at b) where
  there : lookahead s at ≡ Ok b
  there = w.at_byte.there

  inside : at < length s
  inside = (look_byte s at b there).inside

  module _ (d : Bool) (g : d ≡ is decimal_digit b) where
    at_digit : d ≡ true → AtDigit s at
    at_digit h = record { digit = b; at_digit = w.at_byte; decimal = class_digit b (eqb-true (class_of b) decimal_digit (sym g ∙ h)) }

    module _ (origin : Source) (p : PlainToken) where
      number : d ≡ true → p ≡ numbered at (sourced origin (number_token s at)) → p ≡ plain_token origin s at false b
      unfolding plain_token
      number h i = cc

      end-mark : b ≡ point → p ≡ end_token s at → p ≡ plain_token origin s at false b
      unfolding plain_token class_of
      end-mark i j = cc

      a_bar : b ≡ bar → p ≡ bar_token s at → p ≡ plain_token origin s at false b
      unfolding plain_token solo_to class_of
      a_bar j l = cc w.unmarked

      -- solo or not, it is read as a name: its class is none of the first three
      a-name : d ≡ false → (b ≡ point → ⊥) → (b ≡ bar → ⊥) → p ≡ symbol_name s at b → p ≡ plain_token origin s at false b
      unfolding plain_token solo_to name_token
      a-name h i j l =
          let no = apart (within small_letter underscore_char) (class_of b) in
          cc (
            w.unmarked,
            no small_letter w.no_letter,
            no capital_letter w.no_letter,
            no underscore_char w.no_letter,
            ne_eqb b point i,
            ne_eqb b bar j,
            either (is solo_char b) p,
          )

ruleset ways = (handed_on, there, inside, at_digit, number, end-mark, a_bar, a-name, rules)

pub whole_number-requires : goal.whole_number-requires
whole_number-requires c = search ways

pub end_token-requires : goal.end_token-requires
end_token-requires c = search ways

pub bar_token-requires : goal.bar_token-requires
bar_token-requires c = search ways

pub returns-then-is_digit : goal.returns-then-is_digit
returns-then-is_digit c = search ways

pub returns-then-b-eq46 : goal.returns-then-b-eq46
returns-then-b-eq46 c = search ways

pub returns-then-b-eq124 : goal.returns-then-b-eq124
returns-then-b-eq124 c = search ways

pub returns-else-b-eq124 : goal.returns-else-b-eq124
returns-else-b-eq124 c = search ways
