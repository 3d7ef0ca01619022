-- `lexer::token::whole_number` meets its contract. Assumes nothing.
use Prim.Native.Nat.{ℕ, ◌<◌}
use mathlib.Core.Path.{◌≡◌, ◌∙◌, ap}
use mathlib.Core.List.{List}
use borrow.Author.Rules.{rules}
use lib.ListN.{length}
use Rattle.lexer.specs.Number.{number_token, held_number, NumberRead}
use Rattle.lexer.specs.Refusal.{fault}
use Rattle.lexer.specs.Token.{valued, numbered, sourced, AtDigit}
use Rattle.lexer.specs.declared.refusal.Fault.{Fault}
use Rattle.lexer.specs.declared.refusal.Refusal.TheVariants.{EndOfText}
use Rattle.lexer.specs.declared.number.Numeral.{Numeral}
use Rattle.lexer.specs.declared.number.NumberToken.{NumberToken}
use Rattle.lexer.specs.declared.token.Source.{Source}
use Rattle.lexer.proofs.HandedOn.{handed_on}
use Rattle.lexer.proofs.Looks.{look_byte}
use Rattle.lexer.proofs.Values.{number-value}
use Rattle.lexer.proofs.token.whole_number.Goals as goal
use Rattle.lexer.specs.Name.{PlainToken}
use Rattle.std.specs.declared.result.Result.TheVariants.{Ok, Err}

module _ (s : List ℕ) (at : ℕ) (d : AtDigit s at) where
  inside : at < length s
  inside = (look_byte s at d.digit d.at_digit.there).inside

  module _ (origin : Source) (n r : NumberRead) (e : n ≡ held_number (number_token s at)) (q : r ≡ sourced origin n) where
    due : numbered at r ≡ numbered at (sourced origin (number_token s at))
    due = ap (numbered at) q ∙ number-value origin s at n d e

    refused : (w : Fault) → r ≡ Err w → Err w ≡ numbered at (sourced origin (number_token s at))
    unfolding numbered
    refused w f = cc due

    module _ (m : Numeral) (end : ℕ) where
      whole : (p : PlainToken) → r ≡ Ok (NumberToken.Whole m end) → p ≡ valued at end m → p ≡ numbered at (sourced origin (number_token s at))
      unfolding numbered
      whole p f g = cc due

      cut_off : r ≡ Ok (NumberToken.Partial m end) → Err (fault EndOfText end) ≡ numbered at (sourced origin (number_token s at))
      unfolding numbered
      cut_off f = cc due

ruleset ways = (handed_on, inside, refused, whole, cut_off, rules)

pub number_token-requires : goal.number_token-requires
number_token-requires c = search ways

pub returns-in_err-numeral : goal.returns-in_err-numeral
returns-in_err-numeral c = search (ways, c.in_err-numeral.was)

pub returns-in-Whole : goal.returns-in-Whole
returns-in-Whole c = search ways

pub returns-in-Partial : goal.returns-in-Partial
returns-in-Partial c = search ways
