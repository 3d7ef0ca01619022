-- Digits in a base, once for all bases: ISO 6.4.4 and 6.5.2. Definitions only.
use Rattle.std.specs.Prelude.{ℕ, ◌+◌, ◌-◌, ◌*◌, ◌<◌, ◌≤◌, min, Bool, cond, List, [], ◌∷◌, ltb, drop}
use Rattle.lexer.specs.Chars.{within, digit_zero, digit_nine, small_a, small_f, capital_a, capital_f}
use Rattle.lexer.specs.declared.digits.Digits.{Digits}

-- 6.5.2: what a hexadecimal digit, in either case, stands for; 16 where the byte is none
unfoldable pub digit_of : ℕ → ℕ
digit_of x =
    cond (within digit_zero digit_nine x) (x - digit_zero)
    (cond (within small_a small_f x) (x - small_a + 10)
    (cond (within capital_a capital_f x) (x - capital_a + 10)
    16))

-- x is a digit of the base
abbrev pub is_digit : ℕ → ℕ → Bool
is_digit base x = ltb (digit_of x) base

-- the digits of the base from `at` on, where the list is left of the text, read on from v: what they stand for, and where they end
unfoldable pub digits : ℕ → ℕ → ℕ → List ℕ → Digits
digits base v at [] = record { value = v; end = at }
digits base v at (x ∷ xs) = cond (is_digit base x) (digits base (v * base + digit_of x) (at + 1) xs) (record { value = v; end = at })

abbrev pub digits_at : ℕ → ℕ → List ℕ → ℕ → Digits
digits_at base v s at = digits base v at (drop at s)

-- 02, request 4: "an integer token's magnitude may reach 9,223,372,036,854,775,808", that of the lowest integer
abbrev pub largest_magnitude : ℕ
largest_magnitude = 9223372036854775808

-- one more: the code counts no further
abbrev pub beyond : ℕ
beyond = largest_magnitude + 1

-- what the code holds of the digits that it read
abbrev pub held : Digits → Digits
held d = record { value = min d.value beyond; end = d.end }

-- what the code asks of a base and of what was read before
pub record Based (base v : ℕ) : Type 0 where
  pub some : 0 < base
  pub few : base ≤ 16
  pub small : v ≤ beyond
