-- `lexer::token::token_here` meets its contract. Assumes nothing.
use Prim.Native.Nat.{ℕ}
use mathlib.Core.Path.{◌≡◌}
use mathlib.Core.Bool.{Bool, true, false}
use mathlib.Core.List.{List}
use borrow.Author.Rules.{rules}
use lib.ListN.{length}
use Rattle.lexer.specs.Cursor.{valid}
use Rattle.lexer.specs.Look.{lookahead}
use Rattle.lexer.specs.Token.{lexeme_to, answered, not_valid, token_here, Answer}
use Rattle.lexer.specs.declared.refusal.Fault.{Fault}
use Rattle.lexer.specs.declared.cursor.Cursor.{Cursor}
use Rattle.lexer.specs.declared.token.Source.TheVariants.{File}
use Rattle.lexer.proofs.HandedOn.{handed_on}
use Rattle.lexer.proofs.Cursors.{tested-valid}
use Rattle.lexer.proofs.token.token_here.Goals as goal
use Rattle.lexer.specs.Refusal.{refuse}

module _ (s : List ℕ) (c : Cursor) (layout t : Bool) (e : t ≡ valid (length s) c) where
  read : (r : Answer) → t ≡ true → r ≡ answered s c (lexeme_to File s c.offset layout (lookahead s c.offset)) → r ≡ token_here layout s c
  read r f g = cc

  refused : (w : Fault) → t ≡ false → w ≡ not_valid → refuse w c ≡ token_here layout s c
  refused w f g = cc

ruleset ways = (handed_on, tested-valid, read, refused, rules)

pub answer_here-requires : goal.answer_here-requires
answer_here-requires c = search ways
