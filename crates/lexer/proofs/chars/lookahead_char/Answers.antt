-- `lexer::chars::lookahead_char` meets its contract. Assumes nothing.
use Prim.Native.Nat.{ℕ}
use mathlib.Core.Path.{◌≡◌}
use mathlib.Core.List.{List}
use borrow.Author.Rules.{rules}
use Rattle.lexer.specs.Refusal.{fault}
use Rattle.lexer.specs.Look.{peek, needed, lookahead}
use Rattle.lexer.specs.declared.refusal.Refusal.TheVariants.{EndOfText, ForeignByte}
use Rattle.lexer.specs.declared.chars.Peek.{Peek}
use Rattle.std.specs.declared.result.Result.TheVariants.{Ok, Err}
use Rattle.lexer.proofs.chars.lookahead_char.Goals as goal

module _ (s : List ℕ) (at : ℕ) (r : Peek) (e : r ≡ peek s at) where
  byte : (b : ℕ) → r ≡ Peek.Byte b → Ok b ≡ lookahead s at
  unfolding needed
  byte b f = cc

  foreign : r ≡ Peek.Foreign → Err (fault ForeignByte at) ≡ lookahead s at
  unfolding needed
  foreign f = cc

  ended : r ≡ Peek.End → Err (fault EndOfText at) ≡ lookahead s at
  unfolding needed
  ended f = cc

ruleset ways = (byte, foreign, ended, rules)

pub returns-in-Byte : goal.returns-in-Byte
returns-in-Byte c = search ways

pub returns-in-Foreign : goal.returns-in-Foreign
returns-in-Foreign c = search ways

pub returns-in-End : goal.returns-in-End
returns-in-End c = search ways
