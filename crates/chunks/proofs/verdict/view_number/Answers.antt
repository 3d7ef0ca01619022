-- `chunks::verdict::view_number` meets its contract. Assumes nothing.
use Prim.Native.Nat.{ℕ, ◌-◌, ◌<◌, ◌≤◌}
use mathlib.Core.Path.{◌≡◌, ◌∙◌, ap}
use mathlib.Core.Bool.{Bool, cond}
use mathlib.Core.List.{List}
use borrow.Author.Rules.{rules}
use lib.ListN.{length}
use Rattle.lexer.specs.Number.{number_token, number_end}
use Rattle.chunks.specs.Answers.{hand_of, EndsUnknown}
use Rattle.chunks.specs.Verdict.{view}
use Rattle.chunks.specs.Whole.{cut_at}
use Rattle.chunks.proofs.Views.{cut_there, view_many, view_text}
use Rattle.chunks.proofs.verdict.view_number.Goals as goal

abbrev Told : List ℕ → ℕ → Bool → ℕ
Told s places ended = number_end (number_token (view places ended (hand_of s)) 0)

module _ (s : List ℕ) (l : EndsUnknown s) (n : ℕ) (e : n ≡ length s - 1) (places : ℕ) (ended : Bool) (r : ℕ) where
  many : places ≤ n → r ≡ number_end (number_token (cut_at places s) 0) → r ≡ Told s places ended
  many h f = f ∙ ap (λ (u : List ℕ). number_end (number_token u 0)) (view_many s l n e places ended h)

  whole : n < places → (t : List ℕ) → t ≡ cond ended (hand_of s) s → r ≡ number_end (number_token t 0) → r ≡ Told s places ended
  whole h t g f = f ∙ ap (λ (u : List ℕ). number_end (number_token u 0)) (g ∙ view_text s l n e places ended h)

ruleset ways = (cut_there, many, whole, rules)

pub returns-then-places-count : goal.returns-then-places-count
returns-then-places-count c = search ways

pub returns : goal.returns
returns c = search ways
