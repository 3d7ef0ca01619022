-- `lexer::digits::read_digits` meets its contract. The invariant: what is held from the start is what is held from here.
-- Assumes nothing.
use Prim.Native.Nat.{ℕ, ◌+◌, ◌*◌, ◌<◌, ◌≤◌, min, max}
use native.Mathlib.Decide.{dec_le}
use mathlib.Core.Path.{◌≡◌, refl}
use mathlib.Core.List.{List}
use native.Mathlib.Nat.{min-eq_left}
use native.Mathlib.Omega.{arith}
use borrow.Author.Tests.{lt-ltb, le-ltb}
use lib.ListN.{length, get_or}
use Rattle.lexer.specs.Digits.{digit_of, digits, digits_at, beyond, held, Based}
use Rattle.lexer.proofs.Bases.{held-from}
use Rattle.lexer.proofs.Steps.{drop_at, drop_end}
use Rattle.lexer.proofs.digits.read_digits.Given as goal

pub record Read (s : List ℕ) (base value from v at : ℕ) : Type 0 where
  pub same : held (digits_at base value s from) ≡ held (digits_at base v s at)
  pub small : v ≤ beyond
  pub ahead : from ≤ at
  -- none is read where they start beyond the last byte
  pub idle : length s < from → v ≡ value

module _ (s : List ℕ) (base value from : ℕ) (b : Based base value) where
  pub start : Read s base value from value from
  start = record { same = refl; small = b.small; ahead = omega arith; idle = λ l. refl }

  module _ (v at : ℕ) (i : Read s base value from v at) where
    pub based : Based base v
    based = record { some = b.some; few = b.few; small = i.small }

    -- behind the last byte; at once, where they start beyond it
    pub ended : (e : ℕ) → length s ≤ at → (from ≤ length s → at ≤ length s) → e ≡ max from (length s) → record { value = v; end = e } ≡ held (digits_at base value s from)
    unfolding digits
    ended e h k m = go (dec_le from (length s))
      where
        go : Dec (from ≤ length s) → record { value = v; end = e } ≡ held (digits_at base value s from)
        go (yes l) = let n : e ≡ at = omega (arith, k l) in cc (i.same, drop_end s at h, min-eq_left i.small)
        go (no l) = let n : e ≡ from = omega arith in cc (i.idle (omega arith), drop_end s from (omega arith), min-eq_left b.small)

    module _ (d : ℕ) (h : at < length s) (e : d ≡ digit_of (get_or s at 0)) where
      pub stopped : base ≤ d → record { value = v; end = at } ≡ held (digits_at base value s from)
      unfolding digits
      stopped g = cc (i.same, drop_at s at h, le-ltb d base g, min-eq_left i.small)

      module _ (g : d < base) where
        pub one_digit : d ≤ 16
        one_digit = omega (arith, b.few)

        pub more : (w : ℕ) → w ≡ min (v * base + d) beyond → Read s base value from w (at + 1)
        unfolding digits
        more w f =
            let k : held (digits_at base v s at) ≡ held (digits_at base (v * base + d) s (at + 1)) = cc (drop_at s at h, lt-ltb d base g) in
            record { same = cc (i.same, k, held-from base (v * base + d) (at + 1) _ b.some); small = omega arith; ahead = omega (arith, i.ahead); idle = λ l. absurd (omega (arith, i.ahead)) }

abbrev pub invariant-loop-at : goal.invariant-loop-at
invariant-loop-at l = Read l.text l.base l.value l.from l.v l.at
