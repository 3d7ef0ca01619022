-- `lexer::classes::is_foreign` meets its contract: one test over all bytes, which antt computes. Assumes nothing.
use Prim.Native.Nat.{ℕ, ◌<◌}
use mathlib.Core.Path.{◌≡◌}
use mathlib.Core.Bool.{Bool, true, false, cond, not, ◌&&◌}
use borrow.Author.Rules.{rules}
use lib.Dec.{ltb}
use Rattle.lexer.specs.Chars.{class_of, is, within, layout_char, space, foreign_byte}
use Rattle.lexer.proofs.Table.{agreed}
use Rattle.lexer.proofs.classes.is_foreign.Goals as goal

-- the last printable byte
abbrev tilde : ℕ
tilde = 126

-- what the code tests
abbrev tested : ℕ → Bool
tested x = cond (within space tilde x) false (not (ltb x space && is layout_char x))

module _ (b : ℕ) (h : b < 256) (r : Bool) (e : r ≡ within space tilde b) where
  rule : tested b ≡ is foreign_byte b
  unfolding class_of
  rule = agreed tested (is foreign_byte) 256 tt b h

  printable : r ≡ true → false ≡ is foreign_byte b
  printable f = cc rule

  control : (s : Bool) → r ≡ false → s ≡ (ltb b space && is layout_char b) → not s ≡ is foreign_byte b
  control s f g = cc rule

ruleset ways = (printable, control, rules)

pub returns-then-between : goal.returns-then-between
returns-then-between c = search ways

pub returns : goal.returns
returns c = search ways
