-- `chunks::verdict::is_late` meets its contract. Assumes nothing.
use Prim.Native.Nat.{ℕ, ◌-◌, ◌<◌, ◌≤◌}
use mathlib.Core.Path.{◌≡◌, sym, ◌∙◌, ap}
use mathlib.Core.Bool.{Bool, true, false}
use mathlib.Core.List.{List}
use borrow.Author.Rules.{rules}
use borrow.Author.Tests.{lt-ltb, le-ltb}
use lib.ListN.{length}
use Rattle.lexer.specs.Cursor.{start_cursor}
use Rattle.lexer.specs.Token.{token_here, Answer}
use Rattle.chunks.specs.Answers.{hand_of, EndsUnknown, answer_came, answer_own, late_of}
use Rattle.chunks.specs.Whole.{longest_token, cut_at}
use Rattle.chunks.proofs.Views.{hand-count, hand_many, hand-cut, cut-1024}
use Rattle.chunks.proofs.verdict.is_late.Goals as goal

module _ (s : List ℕ) (p : EndsUnknown s) (layout : Bool) (a : Answer) (t : Bool) (e : t ≡ answer_own a) where
  other : t ≡ false → false ≡ late_of layout (hand_of s) a
  other f = cc

  module _ (f : t ≡ true) (n : ℕ) (g : n ≡ length s - 1) where
    few : n < longest_token → false ≡ late_of layout (hand_of s) a
    few h = let k = lt-ltb (length (hand_of s)) longest_token (hand-count s p n g longest_token h) in cc

    many : longest_token ≤ n → (b : Answer) → b ≡ token_here layout (cut_at longest_token s) start_cursor → (r : Bool) → r ≡ answer_came longest_token b → r ≡ late_of layout (hand_of s) a
    many h b q r o =
        let c : cut_at longest_token s ≡ cut_at longest_token (hand_of s) = hand-cut s p n g longest_token h in
        let k = le-ltb (length (hand_of s)) longest_token (hand_many s p n g longest_token h) in
        let d : b ≡ token_here layout (cut_at longest_token (hand_of s)) start_cursor = q ∙ ap (λ (u : List ℕ). token_here layout u start_cursor) c in
        let m : r ≡ answer_came longest_token (token_here layout (cut_at longest_token (hand_of s)) start_cursor) = o ∙ ap (answer_came longest_token) d in
        m ∙ sym (rw (sym e ∙ f, k))

ruleset ways = (cut-1024, other, few, many, rules)

pub returns-then-own_byte : goal.returns-then-own_byte
returns-then-own_byte c = search ways
