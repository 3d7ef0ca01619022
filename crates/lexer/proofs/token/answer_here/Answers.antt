-- `lexer::token::answer_here` meets its contract. Assumes nothing.
use Prim.Native.Nat.{ℕ}
use mathlib.Core.Path.{◌≡◌, refl, sym, ◌∙◌, ap}
use mathlib.Core.Bool.{Bool}
use mathlib.Core.List.{List}
use borrow.Author.Rules.{rules}
use Rattle.lexer.specs.Look.{lookahead}
use Rattle.lexer.specs.Token.{Lexeme, lexeme, refused, lexeme_to, answered, found, FoundToken, token_read, Answer}
use Rattle.lexer.specs.declared.refusal.Fault.{Fault}
use Rattle.lexer.specs.declared.cursor.Cursor.{Cursor}
use Rattle.lexer.specs.declared.token.Source.TheVariants.{File}
use Rattle.lexer.proofs.HandedOn.{handed_on}
use Rattle.lexer.proofs.token.answer_here.Goals as goal
use Rattle.std.specs.declared.result.Result.TheVariants.{Ok, Err}
use Rattle.lexer.specs.declared.token.Found.{Found}
use Rattle.lexer.specs.Refusal.{refuse}

-- what the call answers, by what was found
abbrev told : Cursor → FoundToken → Answer
told c (Ok p) = token_read p.token (record { offset = p.offset; line = p.line; column = p.column })
told c (Err w) = refuse w c

module _ (s : List ℕ) (c : Cursor) where
  -- a cursor is what its fields make
  told-found : (x : Lexeme) → told c (found s c x) ≡ answered s c x
  unfolding answered found
  told-found (lexeme t e y) = refl
  told-found (refused w) = refl

  module _ (layout : Bool) (r : FoundToken) (f : r ≡ found s c (lexeme_to File s c.offset layout (lookahead s c.offset))) where
    answers : (z : FoundToken) → r ≡ z → told c z ≡ answered s c (lexeme_to File s c.offset layout (lookahead s c.offset))
    answers z g = ap (told c) (sym g ∙ f) ∙ told-found (lexeme_to File s c.offset layout (lookahead s c.offset))

    no-token : (w : Fault) → r ≡ Err w → refuse w c ≡ answered s c (lexeme_to File s c.offset layout (lookahead s c.offset))
    no-token w g = answers (Err w) g

    read : (p : Found) → r ≡ Ok p → token_read p.token (record { offset = p.offset; line = p.line; column = p.column }) ≡ answered s c (lexeme_to File s c.offset layout (lookahead s c.offset))
    read p g = answers (Ok p) g

ruleset ways = (handed_on, no-token, read, rules)

pub returns-in-Err : goal.returns-in-Err
returns-in-Err c = search ways

pub returns-in-Ok : goal.returns-in-Ok
returns-in-Ok c = search ways
