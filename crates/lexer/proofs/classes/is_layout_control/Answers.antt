-- `lexer::classes::is_layout_control` meets its contract: one test over all bytes, which antt computes. Assumes nothing.
use Prim.Native.Nat.{ℕ, ◌<◌}
use mathlib.Core.Path.{◌≡◌}
use mathlib.Core.Bool.{Bool, true, false, cond, ◌&&◌}
use borrow.Author.Rules.{rules}
use lib.Dec.{ltb, eqb}
use Rattle.lexer.specs.Chars.{class_of, is, within, layout_char, tab, newline, carriage_return, space}
use Rattle.lexer.proofs.Table.{agreed}
use Rattle.lexer.proofs.classes.is_layout_control.Goals as goal

-- what the code tests
abbrev tested : ℕ → Bool
tested x = cond (within tab newline x) true (eqb x carriage_return)

abbrev due : ℕ → Bool
due x = ltb x space && is layout_char x

module _ (b : ℕ) (h : b < 256) (r : Bool) (e : r ≡ within tab newline b) where
  rule : tested b ≡ due b
  unfolding class_of
  rule = agreed tested due 256 tt b h

  first : r ≡ true → true ≡ due b
  first f = cc rule

  last : r ≡ false → eqb b carriage_return ≡ due b
  last f = cc rule

ruleset ways = (first, last, rules)

pub returns-then-between : goal.returns-then-between
returns-then-between c = search ways

pub returns : goal.returns
returns c = search ways
