-- `lexer::token::plain_found` meets its contract. Assumes nothing.
use Prim.Native.Nat.{ℕ}
use mathlib.Core.Path.{◌≡◌}
use mathlib.Core.Bool.{Bool}
use mathlib.Core.List.{List}
use borrow.Author.Rules.{rules}
use Rattle.lexer.specs.Cursor.{move_to}
use Rattle.lexer.specs.Token.{plain_token, text_of, kept, token, plain_lexeme, spelled_to, found, At, Begins, Passing}
use Rattle.lexer.specs.declared.refusal.Fault.{Fault}
use Rattle.lexer.specs.declared.cursor.Cursor.{Cursor}
use Rattle.lexer.specs.declared.token.Spelling.{Spelling}
use Rattle.lexer.specs.declared.token.Source.{Source}
use Rattle.lexer.proofs.HandedOn.{handed_on}
use Rattle.lexer.proofs.Looks.{look_byte}
use Rattle.lexer.proofs.Promises.{plain_token_ends}
use Rattle.lexer.proofs.token.plain_found.Goals as goal
use Rattle.lexer.specs.Name.{PlainToken}
use Rattle.lexer.specs.declared.kind.Plain.{Plain}
use Rattle.lexer.specs.declared.token.Found.{Found}
use Rattle.std.specs.declared.result.Result.TheVariants.{Ok, Err}

module _ (s : List ℕ) (c : Cursor) (b : ℕ) where
  at_byte : Begins s c b → At s c.offset b
  at_byte w = record { there = w.there; short = w.valid.short }

  module _ (t : Bool) (origin : Source) (p : PlainToken) (e : p ≡ plain_token origin s c.offset t b) where
    refused : (w : Fault) → p ≡ Err w → Err w ≡ found s c (plain_lexeme c.offset (plain_token origin s c.offset t b))
    unfolding plain_lexeme found
    refused w f = cc

    module _ (q : Plain) (f : p ≡ Ok q) where
      passing : Begins s c b → Passing s c q.end
      passing w =
          let l = plain_token_ends s c.offset b (look_byte s c.offset b w.there) origin t p q.kind q.value q.end e f in
          record { valid = w.valid; ahead = l.ahead; inside = l.inside; plain = l.plain }

      whole : (x : Spelling) (d : Cursor) (r : Found) → x ≡ kept (text_of q.kind) → d ≡ move_to s c q.end → Ok r ≡ spelled_to (token q.kind q.value c.offset) x d
          → Ok r ≡ found s c (plain_lexeme c.offset (plain_token origin s c.offset t b))
      unfolding plain_lexeme found
      whole x d r g h i = cc

ruleset ways = (handed_on, at_byte, refused, passing, whole, rules)

pub returns-in_err-kind : goal.returns-in_err-kind
returns-in_err-kind c = search (ways, c.in_err-kind.was)

pub past_token-requires : goal.past_token-requires
past_token-requires c = search (ways, c.in_ok-kind.was)

pub returns : goal.returns
returns c = search (ways, c.in_ok-kind.was)
