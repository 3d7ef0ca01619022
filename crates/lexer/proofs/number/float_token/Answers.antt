-- `lexer::number::float_token` meets its contract. Assumes nothing.
use Prim.Native.Nat.{ℕ}
use mathlib.Core.Path.{◌≡◌}
use mathlib.Core.Bool.{Bool, false}
use borrow.Author.Rules.{rules}
use Rattle.lexer.specs.Number.{float, ExponentRead}
use Rattle.lexer.specs.declared.refusal.Fault.{Fault}
use Rattle.lexer.specs.declared.number.Exponent.{Exponent}
use Rattle.lexer.specs.declared.number.Numeral.TheVariants.{Float}
use Rattle.lexer.specs.declared.number.NumberToken.TheVariants.{Whole, Partial}
use Rattle.lexer.proofs.HandedOn.{handed_on}
use Rattle.lexer.proofs.number.float_token.Goals as goal
use Rattle.std.specs.declared.result.Result.TheVariants.{Ok, Err}

module _ (m f e : ℕ) (x : ExponentRead) where
  absent : x ≡ (Ok Exponent.Absent) → Ok (Whole (Float m false 0 f) e) ≡ float m f e x
  unfolding float
  absent h = cc

  ended : x ≡ (Ok Exponent.Ended) → Ok (Partial (Float m false 0 f) e) ≡ float m f e x
  unfolding float
  ended h = cc

  module _ (sign : Bool) (v end : ℕ) where
    whole : x ≡ Ok (Exponent.Whole sign v end) → Ok (Whole (Float m sign v f) end) ≡ float m f e x
    unfolding float
    whole h = cc

    partial : x ≡ Ok (Exponent.Partial sign v end) → Ok (Partial (Float m sign v f) end) ≡ float m f e x
    unfolding float
    partial h = cc

  refused : (w : Fault) → x ≡ Err w → Err w ≡ float m f e x
  unfolding float
  refused w h = cc

ruleset ways = (handed_on, absent, ended, whole, partial, refused, rules)

pub returns-in_err-exponent : goal.returns-in_err-exponent
returns-in_err-exponent c = search (ways, c.in_err-exponent.was)

pub returns-in-Absent : goal.returns-in-Absent
returns-in-Absent c = search ways

pub returns-in-Ended : goal.returns-in-Ended
returns-in-Ended c = search ways

pub returns-in-Whole : goal.returns-in-Whole
returns-in-Whole c = search ways

pub returns-in-Partial : goal.returns-in-Partial
returns-in-Partial c = search ways
