-- `lexer::digits::digit` meets its contract. Assumes nothing.
use Prim.Native.Nat.{ℕ, ◌+◌, ◌-◌, ◌<◌, ◌≤◌}
use mathlib.Core.Path.{◌≡◌, refl}
use mathlib.Core.Bool.{Bool, true, false, ◌&&◌}
use native.Mathlib.Omega.{arith}
use borrow.Author.Rules.{rules}
use borrow.Author.Tests.{le-leb, lt-leb}
use lib.Dec.{leb}
use Rattle.lexer.specs.Chars.{within, digit_zero, digit_nine, small_a, small_f, capital_a, capital_f}
use Rattle.lexer.specs.Digits.{digit_of}
use Rattle.lexer.proofs.digits.digit.Goals as goal

module _ (a z x : ℕ) where
  below : x < a → within a z x ≡ false
  below h = cc (lt-leb a x h)

  above : z < x → within a z x ≡ false
  above h = go (leb a x)
    where
      go : (t : Bool) → t && leb x z ≡ false
      go true = lt-leb x z h
      go false = refl

  inside : a ≤ x → x ≤ z → within a z x ≡ true
  inside h k = cc (le-leb a x h, le-leb x z k)

module _ (b : ℕ) where
  before_zero : b < digit_zero → 16 ≡ digit_of b
  unfolding digit_of
  before_zero h = cc (below digit_zero digit_nine b h, below small_a small_f b (omega arith), below capital_a capital_f b (omega arith))

  decimal : digit_zero ≤ b → b ≤ digit_nine → b - digit_zero ≡ digit_of b
  unfolding digit_of
  decimal h k = cc (inside digit_zero digit_nine b h k)

  module _ (h : digit_nine < b) where
    before_capital : b < capital_a → 16 ≡ digit_of b
    unfolding digit_of
    before_capital k = cc (above digit_zero digit_nine b h, below small_a small_f b (omega arith), below capital_a capital_f b k)

    capital : capital_a ≤ b → b ≤ capital_f → b - capital_a + 10 ≡ digit_of b
    unfolding digit_of
    capital k l = cc (above digit_zero digit_nine b h, below small_a small_f b (omega arith), inside capital_a capital_f b k l)

  module _ (h : capital_f < b) where
    before_small : b < small_a → 16 ≡ digit_of b
    unfolding digit_of
    before_small k = cc (above digit_zero digit_nine b (omega arith), below small_a small_f b k, above capital_a capital_f b h)

    small : small_a ≤ b → b ≤ small_f → b - small_a + 10 ≡ digit_of b
    unfolding digit_of
    small k l = cc (above digit_zero digit_nine b (omega arith), inside small_a small_f b k l)

    past_small : small_f < b → 16 ≡ digit_of b
    unfolding digit_of
    past_small k = cc (above digit_zero digit_nine b (omega arith), above small_a small_f b k, above capital_a capital_f b h)

ruleset ways = (before_zero, decimal, before_capital, capital, before_small, small, past_small, rules)

pub returns-then-b-lt48 : goal.returns-then-b-lt48
returns-then-b-lt48 c = search ways

pub returns-then-b-le57 : goal.returns-then-b-le57
returns-then-b-le57 c = search ways

pub returns-then-b-lt65 : goal.returns-then-b-lt65
returns-then-b-lt65 c = search ways

pub returns-then-b-le70 : goal.returns-then-b-le70
returns-then-b-le70 c = search ways

pub returns-then-b-lt97 : goal.returns-then-b-lt97
returns-then-b-lt97 c = search ways

pub returns-then-b-le102 : goal.returns-then-b-le102
returns-then-b-le102 c = search ways

pub returns : goal.returns
returns c = search ways
