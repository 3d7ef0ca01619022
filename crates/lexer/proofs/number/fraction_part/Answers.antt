-- `lexer::number::fraction_part` meets its contract. Assumes nothing.
use Prim.Native.Nat.{ℕ, ◌+◌, ◌-◌, ◌≤◌, min}
use mathlib.Core.Path.{◌≡◌, ap}
use mathlib.Core.List.{List}
use native.Mathlib.Omega.{arith}
use borrow.Author.Rules.{rules}
use lib.ListN.{drop}
use Rattle.lexer.specs.Digits.{beyond, held}
use Rattle.lexer.specs.Number.{float, exponent, fraction, fraction_digits, held_exponent, held_number, ExponentRead, NumberRead}
use Rattle.lexer.specs.declared.digits.Digits.{Digits}
use Rattle.lexer.proofs.HandedOn.{handed_on}
use Rattle.lexer.proofs.Bases.{digits_bounds}
use Rattle.lexer.proofs.Numbers.{held-float}
use Rattle.lexer.proofs.number.fraction_part.Goals as goal

module _ (s : List ℕ) (d r : Digits) (e : r ≡ held (fraction_digits s d)) where
  same_end : r.end ≡ (fraction_digits s d).end
  same_end = ap (λ (x : Digits). x.end) e

  behind : d.end + 1 ≤ r.end
  behind = let q = same_end in omega (arith, (digits_bounds 10 d.value (d.end + 1) (drop (d.end + 1) s)).0)

  made : (x : ExponentRead) (t : NumberRead) → x ≡ held_exponent (exponent s r.end) → t ≡ float r.value (r.end - (d.end + 1)) r.end x → t ≡ held_number (fraction s d)
  made x t f g =
      let v : r.value ≡ min (fraction_digits s d).value beyond = ap (λ (y : Digits). y.value) e in
      cc (same_end, held-float (fraction_digits s d).value ((fraction_digits s d).end - (d.end + 1)) (fraction_digits s d).end (exponent s (fraction_digits s d).end))

ruleset ways = (handed_on, behind, made, rules)

pub overflow_sub-end : goal.overflow_sub-end
overflow_sub-end c = search ways

pub returns : goal.returns
returns c = search ways
