-- `lexer::classes::is_layout` meets its contract: one test over all bytes, which antt computes. Assumes nothing.
use Prim.Native.Nat.{ℕ, ◌<◌}
use mathlib.Core.Path.{◌≡◌}
use mathlib.Core.Bool.{Bool, true, cond, ◌&&◌}
use borrow.Author.Rules.{rules}
use borrow.Author.Tests.{ne_eqb}
use lib.Dec.{ltb, eqb}
use Rattle.lexer.specs.Chars.{class_of, is, layout_char, space}
use Rattle.lexer.proofs.Table.{agreed}
use Rattle.lexer.proofs.classes.is_layout.Goals as goal

-- what the code tests
abbrev tested : ℕ → Bool
tested x = cond (eqb x space) true (ltb x space && is layout_char x)

module _ (b : ℕ) (h : b < 256) where
  rule : tested b ≡ is layout_char b
  unfolding class_of
  rule = agreed tested (is layout_char) 256 tt b h

  a_space : b ≡ space → true ≡ is layout_char b
  a_space e = cc rule

  control : (r : Bool) → (b ≡ space → ⊥) → r ≡ (ltb b space && is layout_char b) → r ≡ is layout_char b
  control r n e = cc (rule, ne_eqb b space n)

ruleset ways = (a_space, control, rules)

pub returns-then-b-eq32 : goal.returns-then-b-eq32
returns-then-b-eq32 c = search ways

pub returns : goal.returns
returns c = search ways
