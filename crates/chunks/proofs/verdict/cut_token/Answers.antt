-- `chunks::verdict::cut_token` meets its contract. Assumes nothing.
use Prim.Native.Nat.{ℕ, ◌+◌, ◌-◌}
use mathlib.Core.Path.{◌≡◌, ◌∙◌, ap}
use mathlib.Core.Bool.{Bool}
use mathlib.Core.List.{List}
use borrow.Author.Rules.{rules}
use lib.ListN.{length, take, drop}
use Rattle.lexer.specs.Cursor.{start_cursor}
use Rattle.lexer.specs.Token.{token_here, Answer}
use Rattle.chunks.specs.Answers.{filled, Cut}
use Rattle.chunks.specs.Whole.{cut_at}
use Rattle.chunks.proofs.Copies.{copied, room}
use Rattle.chunks.proofs.verdict.cut_token.Goals as goal

reads : (s : List ℕ) (n : ℕ) (bytes : List ℕ) (e : ℕ) (layout : Bool) (r : Answer) → Cut (length s) n → bytes ≡ filled n s → e ≡ n + 1 → r ≡ token_here layout (take (e - 0) (drop 0 bytes)) start_cursor → r ≡ token_here layout (cut_at n s) start_cursor
reads s n bytes e layout r c f g h = h ∙ ap (λ (u : List ℕ). token_here layout u start_cursor) (copied s n bytes e c f g)

ruleset ways = (reads, room, rules)

pub returns : goal.returns
returns c = search ways
