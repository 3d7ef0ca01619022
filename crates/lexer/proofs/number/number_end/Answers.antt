-- `lexer::number::number_end` meets its contract. Assumes nothing.
use Prim.Native.Nat.{ℕ, ◌≤◌}
use mathlib.Core.Path.{◌≡◌, refl, ◌∙◌, ap}
use mathlib.Core.List.{List}
use borrow.Author.Rules.{rules}
use lib.ListN.{length}
use Rattle.lexer.specs.Digits.{digits}
use Rattle.lexer.specs.Look.{front}
use Rattle.lexer.specs.Number.{integer_to, number_token, number_end, held_number, NumberRead}
use Rattle.lexer.specs.declared.number.NumberToken.TheVariants.{Whole, Partial}
use Rattle.lexer.proofs.Steps.{drop_end}
use Rattle.lexer.proofs.number.number_end.Goals as goal
use Rattle.std.specs.declared.result.Result.TheVariants.{Ok, Err}

-- what is held of a number ends where it does
held_end : (t : NumberRead) → number_end (held_number t) ≡ number_end t
unfolding number_end held_number
held_end (Ok (Whole n e)) = refl
held_end (Ok (Partial n e)) = refl
held_end (Err w) = refl

module _ (s : List ℕ) (at : ℕ) where
  none : length s ≤ at → at ≡ number_end (number_token s at)
  unfolding digits front integer_to number_end
  none h = cc (drop_end s at h)

  ends : (r : NumberRead) (e : ℕ) → r ≡ held_number (number_token s at) → e ≡ number_end r → e ≡ number_end (number_token s at)
  ends r e f g = g ∙ ap number_end f ∙ held_end (number_token s at)

ruleset ways = (none, ends, rules)

pub returns-then-text-at : goal.returns-then-text-at
returns-then-text-at c = search ways

pub returns : goal.returns
returns c = search ways
