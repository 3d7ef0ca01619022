-- `lexer::number::character_code_constant` meets its contract. Assumes nothing.
use Prim.Native.Nat.{ℕ, ◌+◌, min}
use mathlib.Core.Path.{◌≡◌}
use mathlib.Core.List.{List}
use borrow.Author.Rules.{rules}
use Rattle.lexer.specs.Chars.{single_quote}
use Rattle.lexer.specs.Digits.{beyond}
use Rattle.lexer.specs.Number.{character_code, character_code_constant, held_numeral, held_number}
use Rattle.lexer.specs.Quoted.{quoted_item}
use Rattle.lexer.specs.Refusal.{fault}
use Rattle.lexer.specs.declared.refusal.Fault.{Fault}
use Rattle.lexer.specs.declared.refusal.Refusal.TheVariants.{SetAside}
use Rattle.lexer.specs.declared.quoted.Item.{Item}
use Rattle.lexer.specs.declared.number.Numeral.TheVariants.{Integer}
use Rattle.lexer.specs.declared.number.NumberToken.TheVariants.{Whole}
use Rattle.lexer.proofs.HandedOn.{handed_on}
use Rattle.lexer.proofs.number.character_code_constant.Goals as goal
use Rattle.lexer.specs.declared.number.NumberToken.{NumberToken}
use Rattle.std.specs.declared.result.Result.TheVariants.{Ok, Err}

module _ (s : List ℕ) (at : ℕ) where
  refused : (w : Fault) → Err w ≡ quoted_item single_quote at s (at + 2) → Err w ≡ held_number (character_code_constant s at)
  unfolding character_code held_number
  refused w f = cc

  module _ (i : Item) (e : Ok i ≡ quoted_item single_quote at s (at + 2)) (next : ℕ) where
    continued : i ≡ Item.Skip next → Err (fault SetAside at) ≡ held_number (character_code_constant s at)
    unfolding character_code held_number
    continued f = cc

    module _ (t : NumberToken) where
      closed : i ≡ Item.Close next → t ≡ Whole (Integer 0) (at + 1) → Ok t ≡ held_number (character_code_constant s at)
      unfolding character_code held_number held_numeral
      closed f g = cc

      too_large : i ≡ Item.Beyond next → t ≡ Whole (Integer beyond) next → Ok t ≡ held_number (character_code_constant s at)
      unfolding character_code held_number held_numeral
      too_large f g = cc

      char : (b n : ℕ) → i ≡ Item.Char b next → n ≡ min b beyond → t ≡ Whole (Integer n) next → Ok t ≡ held_number (character_code_constant s at)
      unfolding character_code held_number held_numeral
      char b n f g h = cc

ruleset ways = (handed_on, refused, too_large, continued, closed, char, rules)

pub returns-in_err-code : goal.returns-in_err-code
returns-in_err-code c = search (ways, c.in_err-code.ensures)

pub returns-in-Char : goal.returns-in-Char
returns-in-Char c = search (ways, c.in_ok-code.ensures)

pub returns-in-Beyond : goal.returns-in-Beyond
returns-in-Beyond c = search (ways, c.in_ok-code.ensures)

pub returns-in-Skip : goal.returns-in-Skip
returns-in-Skip c = search (ways, c.in_ok-code.ensures)

pub returns-in-Close : goal.returns-in-Close
returns-in-Close c = search (ways, c.in_ok-code.ensures)
