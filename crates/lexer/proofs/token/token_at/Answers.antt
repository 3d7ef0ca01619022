-- `lexer::token::token_at` meets its contract. Assumes nothing.
use Prim.Native.Nat.{ℕ}
use mathlib.Core.Path.{◌≡◌, sym, ◌∙◌}
use mathlib.Core.Bool.{Bool, true, false}
use mathlib.Core.List.{List}
use borrow.Author.Rules.{rules}
use lib.ListN.{length}
use Rattle.lexer.specs.Chars.{is, quote_char}
use Rattle.lexer.specs.Cursor.{Valid}
use Rattle.lexer.specs.Look.{lookahead}
use Rattle.lexer.specs.Token.{plain_token, plain_lexeme, quoted_lexeme, lexeme_to, found, Begins, Quotes, FoundToken}
use Rattle.lexer.specs.declared.refusal.Fault.{Fault}
use Rattle.lexer.specs.Look.{Look}
use Rattle.std.specs.declared.result.Result.TheVariants.{Ok, Err}
use Rattle.lexer.specs.declared.cursor.Cursor.{Cursor}
use Rattle.lexer.specs.declared.token.Source.{Source}
use Rattle.lexer.proofs.HandedOn.{handed_on}
use Rattle.lexer.proofs.token.token_at.Goals as goal

-- what stands at the cursor
abbrev There : Source → List ℕ → Cursor → Bool → FoundToken
There origin s c t = found s c (lexeme_to origin s c.offset t (lookahead s c.offset))

module _ (s : List ℕ) (c : Cursor) (r : Look) (e : r ≡ lookahead s c.offset) where
  refused : (origin : Source) (t : Bool) (w : Fault) → r ≡ Err w → Err w ≡ There origin s c t
  unfolding lexeme_to found
  refused origin t w f = cc

  module _ (b : ℕ) (f : r ≡ Ok b) where
    begins : Valid (length s) c → Begins s c b
    begins v = record { valid = v; there = sym e ∙ f }

    quotes : (q : Bool) → q ≡ is quote_char b → q ≡ true → Valid (length s) c → Quotes s c b
    quotes q g h v = record { begins = begins v; quote = sym g ∙ h }

    module _ (origin : Source) (t q : Bool) (g : q ≡ is quote_char b) (z : FoundToken) where
      quoted : q ≡ true → z ≡ found s c (quoted_lexeme s c.offset b) → z ≡ There origin s c t
      unfolding lexeme_to
      quoted h i = cc

      not_quoted : q ≡ false → z ≡ found s c (plain_lexeme c.offset (plain_token origin s c.offset t b)) → z ≡ There origin s c t
      unfolding lexeme_to
      not_quoted h i = cc

ruleset ways = (handed_on, refused, begins, quotes, quoted, not_quoted, rules)

pub returns-in_err-b : goal.returns-in_err-b
returns-in_err-b c = search (ways, c.in_err-b.was)

pub returns-then-is_quote : goal.returns-then-is_quote
returns-then-is_quote c = search ways

pub returns-else-is_quote : goal.returns-else-is_quote
returns-else-is_quote c = search ways
