-- `chunks::verdict::view_token` meets its contract. Assumes nothing.
use Prim.Native.Nat.{ℕ, ◌-◌, ◌<◌, ◌≤◌}
use mathlib.Core.Path.{◌≡◌, ◌∙◌, ap}
use mathlib.Core.Bool.{Bool, cond}
use mathlib.Core.List.{List}
use borrow.Author.Rules.{rules}
use lib.ListN.{length}
use Rattle.lexer.specs.Cursor.{start_cursor}
use Rattle.lexer.specs.Token.{token_here, Answer}
use Rattle.chunks.specs.Answers.{hand_of, EndsUnknown}
use Rattle.chunks.specs.Verdict.{view}
use Rattle.chunks.specs.Whole.{cut_at}
use Rattle.chunks.proofs.Views.{cut_there, view_many, view_text}
use Rattle.chunks.proofs.verdict.view_token.Goals as goal

abbrev Told : Bool → List ℕ → ℕ → Bool → Answer
Told layout s places ended = token_here layout (view places ended (hand_of s)) start_cursor

module _ (s : List ℕ) (l : EndsUnknown s) (n : ℕ) (e : n ≡ length s - 1) (places : ℕ) (ended layout : Bool) (r : Answer) where
  many : places ≤ n → r ≡ token_here layout (cut_at places s) start_cursor → r ≡ Told layout s places ended
  many h f = f ∙ ap (λ (u : List ℕ). token_here layout u start_cursor) (view_many s l n e places ended h)

  whole : n < places → (t : List ℕ) → t ≡ cond ended (hand_of s) s → r ≡ token_here layout t start_cursor → r ≡ Told layout s places ended
  whole h t g f = f ∙ ap (λ (u : List ℕ). token_here layout u start_cursor) (g ∙ view_text s l n e places ended h)

ruleset ways = (cut_there, many, whole, rules)

pub returns-then-places-count : goal.returns-then-places-count
returns-then-places-count c = search ways

pub returns : goal.returns
returns c = search ways
