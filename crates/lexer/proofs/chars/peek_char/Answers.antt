-- `lexer::chars::peek_char` meets its contract. Assumes nothing.
use Prim.Native.Nat.{ℕ, ◌<◌, ◌≤◌}
use mathlib.Core.Path.{◌≡◌}
use mathlib.Core.Bool.{Bool, true, false}
use mathlib.Core.List.{List}
use borrow.Author.Rules.{rules}
use lib.ListN.{length, get_or}
use Rattle.lexer.specs.Chars.{is, foreign_byte}
use Rattle.lexer.specs.Look.{front, peek}
use Rattle.lexer.specs.declared.chars.Peek.TheVariants.{Byte, Foreign, End}
use Rattle.lexer.proofs.Steps.{drop_at, drop_end}
use Rattle.lexer.proofs.chars.peek_char.Goals as goal

module _ (s : List ℕ) (at : ℕ) where
  ended : length s ≤ at → End ≡ peek s at
  unfolding front
  ended h = cc (drop_end s at h)

  module _ (t : Bool) (h : at < length s) (e : t ≡ is foreign_byte (get_or s at 0)) where
    foreign : t ≡ true → Foreign ≡ peek s at
    unfolding front
    foreign f = cc (drop_at s at h)

    byte : t ≡ false → Byte (get_or s at 0) ≡ peek s at
    unfolding front
    byte f = cc (drop_at s at h)

ruleset ways = (ended, foreign, byte, rules)

pub returns-then-text-at : goal.returns-then-text-at
returns-then-text-at c = search ways

pub returns-then-is_foreign : goal.returns-then-is_foreign
returns-then-is_foreign c = search ways

pub returns : goal.returns
returns c = search ways
