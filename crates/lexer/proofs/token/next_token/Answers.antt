-- `lexer::token::next_token` meets its contract. Assumes nothing.
use Prim.Native.Nat.{ℕ}
use mathlib.Core.Path.{◌≡◌}
use mathlib.Core.Bool.{Bool, true, false}
use mathlib.Core.List.{List}
use borrow.Author.Rules.{rules}
use lib.ListN.{length}
use Rattle.lexer.specs.Cursor.{valid}
use Rattle.lexer.specs.Token.{read_lexeme, answered, not_valid, next_token, Answer}
use Rattle.lexer.specs.declared.refusal.Fault.{Fault}
use Rattle.lexer.specs.declared.cursor.Cursor.{Cursor}
use Rattle.lexer.specs.declared.token.Source.{Source}
use Rattle.lexer.proofs.HandedOn.{handed_on}
use Rattle.lexer.proofs.Cursors.{tested-valid}
use Rattle.lexer.proofs.token.next_token.Goals as goal
use Rattle.lexer.specs.Refusal.{refuse}

module _ (s : List ℕ) (c : Cursor) (origin : Source) (t : Bool) (e : t ≡ valid (length s) c) where
  read : (r : Answer) → t ≡ true → r ≡ answered s c (read_lexeme origin s c.offset) → r ≡ next_token origin s c
  read r f g = cc

  refused : (w : Fault) → t ≡ false → w ≡ not_valid → refuse w c ≡ next_token origin s c
  refused w f g = cc

ruleset ways = (handed_on, tested-valid, read, refused, rules)

pub answer_at-requires : goal.answer_at-requires
answer_at-requires c = search ways
