-- `lexer::number::end_of` meets its contract. Assumes nothing.
use Prim.Native.Nat.{ℕ}
use mathlib.Core.Path.{◌≡◌}
use borrow.Author.Rules.{rules}
use Rattle.lexer.specs.Number.{number_end, NumberRead}
use Rattle.lexer.specs.declared.refusal.Fault.{Fault}
use Rattle.lexer.specs.declared.number.Numeral.{Numeral}
use Rattle.lexer.specs.declared.number.NumberToken.TheVariants.{Whole, Partial}
use Rattle.lexer.proofs.HandedOn.{handed_on}
use Rattle.lexer.proofs.number.end_of.Goals as goal
use Rattle.std.specs.declared.result.Result.TheVariants.{Ok, Err}

module _ (r : NumberRead) where
  whole : (n : Numeral) (e : ℕ) → r ≡ Ok (Whole n e) → e ≡ number_end r
  unfolding number_end
  whole n e f = cc

  partial : (n : Numeral) (e : ℕ) → r ≡ Ok (Partial n e) → e ≡ number_end r
  unfolding number_end
  partial n e f = cc

  refused : (w : Fault) → r ≡ Err w → 0 ≡ number_end r
  unfolding number_end
  refused w f = cc

ruleset ways = (handed_on, whole, partial, refused, rules)

pub returns-in-Ok-Whole : goal.returns-in-Ok-Whole
returns-in-Ok-Whole c = search ways

pub returns-in-Ok-Partial : goal.returns-in-Ok-Partial
returns-in-Ok-Partial c = search ways

pub returns-in-Err : goal.returns-in-Err
returns-in-Err c = search ways
