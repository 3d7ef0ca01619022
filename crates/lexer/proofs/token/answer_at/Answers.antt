-- `lexer::token::answer_at` meets its contract. Assumes nothing.
use Prim.Native.Nat.{ℕ}
use mathlib.Core.Path.{◌≡◌, refl, sym, ◌∙◌, ap}
use mathlib.Core.List.{List}
use borrow.Author.Rules.{rules}
use Rattle.lexer.specs.Token.{Lexeme, lexeme, refused, behind_layout, token_since, lexeme_since, read_lexeme, answered, found, FoundToken, token_read, Answer}
use Rattle.lexer.specs.declared.refusal.Fault.{Fault}
use Rattle.lexer.specs.declared.cursor.Cursor.{Cursor}
use Rattle.lexer.specs.declared.token.Token.{Token}
use Rattle.lexer.specs.declared.token.Source.{Source}
use Rattle.lexer.proofs.HandedOn.{handed_on}
use Rattle.lexer.proofs.token.answer_at.Goals as goal
use Rattle.std.specs.declared.result.Result.TheVariants.{Ok, Err}
use Rattle.lexer.specs.declared.token.Found.{Found}
use Rattle.lexer.specs.Refusal.{refuse}

-- what the call answers, by what was found
abbrev told : Cursor → FoundToken → Answer
told c (Ok p) = token_read (token_since c.offset p.token) (record { offset = p.offset; line = p.line; column = p.column })
told c (Err w) = refuse w c

module _ (s : List ℕ) (c : Cursor) where
  -- a cursor is what its fields make
  told-found : (x : Lexeme) → told c (found s c x) ≡ answered s c (lexeme_since c.offset x)
  unfolding answered found lexeme_since
  told-found (lexeme t e y) = refl
  told-found (refused w) = refl

  module _ (origin : Source) (r : FoundToken) (f : r ≡ found s c (behind_layout origin s c.offset)) where
    answers : (z : FoundToken) → r ≡ z → told c z ≡ answered s c (read_lexeme origin s c.offset)
    answers z g = ap (told c) (sym g ∙ f) ∙ told-found (behind_layout origin s c.offset)

    no-token : (w : Fault) → r ≡ Err w → refuse w c ≡ answered s c (read_lexeme origin s c.offset)
    no-token w g = answers (Err w) g

    read : (p : Found) (u : Token) → r ≡ Ok p → u ≡ token_since c.offset p.token → token_read u (record { offset = p.offset; line = p.line; column = p.column }) ≡ answered s c (read_lexeme origin s c.offset)
    read p u g h = ap (λ (x : Token). token_read x (record { offset = p.offset; line = p.line; column = p.column })) h ∙ answers (Ok p) g

ruleset ways = (handed_on, no-token, read, rules)

pub returns-in-Err : goal.returns-in-Err
returns-in-Err c = search ways

pub returns-in-Ok : goal.returns-in-Ok
returns-in-Ok c = search ways
