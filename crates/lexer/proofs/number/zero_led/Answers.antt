-- `lexer::number::zero_led` meets its contract. Assumes nothing.
use Prim.Native.Nat.{ℕ, ◌+◌}
use mathlib.Core.Path.{◌≡◌}
use mathlib.Core.List.{List}
use borrow.Author.Rules.{rules}
use borrow.Author.Tests.{ne_eqb}
use Rattle.lexer.specs.Chars.{single_quote, small_b, small_o, small_x}
use Rattle.lexer.specs.Number.{radix_constant, character_code_constant, zero_to, held_numeral, held_number, NumberRead}
use Rattle.lexer.specs.declared.number.Numeral.TheVariants.{Integer}
use Rattle.lexer.specs.declared.number.NumberToken.TheVariants.{Whole}
use Rattle.lexer.proofs.HandedOn.{handed_on}
use Rattle.lexer.proofs.number.zero_led.Goals as goal
use Rattle.std.specs.declared.result.Result.TheVariants.{Ok}

module _ (s : List ℕ) (at b : ℕ) (t : NumberRead) where
  hexadecimal : b ≡ small_x → t ≡ held_number (radix_constant 16 s at) → t ≡ held_number (zero_to s at b)
  unfolding zero_to
  hexadecimal f e = cc

  octal : b ≡ small_o → t ≡ held_number (radix_constant 8 s at) → t ≡ held_number (zero_to s at b)
  unfolding zero_to
  octal f e = cc

  binary : b ≡ small_b → t ≡ held_number (radix_constant 2 s at) → t ≡ held_number (zero_to s at b)
  unfolding zero_to
  binary f e = cc

  character : b ≡ single_quote → t ≡ held_number (character_code_constant s at) → t ≡ held_number (zero_to s at b)
  unfolding zero_to
  character f e = cc

  none : (b ≡ small_x → ⊥) → (b ≡ small_o → ⊥) → (b ≡ small_b → ⊥) → (b ≡ single_quote → ⊥) → t ≡ Ok (Whole (Integer 0) (at + 1)) → t ≡ held_number (zero_to s at b)
  unfolding zero_to held_number held_numeral
  none f g h i e = cc (ne_eqb b small_x f, ne_eqb b small_o g, ne_eqb b small_b h, ne_eqb b single_quote i)

ruleset ways = (handed_on, hexadecimal, octal, binary, character, none, rules)

pub returns-in-120 : goal.returns-in-120
returns-in-120 c = search ways

pub returns-in-111 : goal.returns-in-111
returns-in-111 c = search ways

pub returns-in-98 : goal.returns-in-98
returns-in-98 c = search ways

pub returns-in-39 : goal.returns-in-39
returns-in-39 c = search ways

pub returns-in_default : goal.returns-in_default
returns-in_default c = search ways
