-- Only the Comma begins with a comma, and it does. A law of the definitions alone, for the crates above. Assumes nothing.
use Prim.Native.Nat.{ℕ}
use mathlib.Core.Path.{◌≡◌, refl}
use mathlib.Core.Bool.{Bool, true, false}
use mathlib.Core.List.{List}
use lib.Dec.{eqb}
use lib.ListN.{get_or}
use borrow.Author.Tests.{eqb-true}
use Rattle.lexer.specs.Chars.{class_of, open_paren, close_paren, comma, open_bracket, close_bracket, open_brace, close_brace}
use Rattle.lexer.specs.Name.{name_token, PlainToken}
use Rattle.lexer.specs.Token.{mark, solo_to, plain_token, Text, lexeme, is_comma, read_lexeme}
use Rattle.lexer.specs.Token.{Mark}
use Rattle.std.specs.declared.option.Option.TheVariants.{Some, None}
use Rattle.lexer.specs.declared.token.Token.{Token}
use Rattle.lexer.specs.declared.token.Source.{Source}
use Rattle.lexer.proofs.EachToken.{Each, plain_each, read_each}
use Rattle.lexer.proofs.Spans.{by_test}

-- a token, if it is one, of the kind's answer v
abbrev Says : Bool → PlainToken → Type 0
Says v = Each (λ k u e. is_comma k ≡ v)

-- a mark, if it is one, is not the Comma
abbrev Says-mark : Mark → Type 0
Says-mark (Some k) = is_comma k ≡ false
Says-mark None = Unit {0}

mark_says : (layout : Bool) (x : ℕ) → eqb x comma ≡ false → Says-mark (mark layout x)
unfolding mark is_comma
mark_says layout x h =
    by_test Says-mark (eqb x open_paren) _ _ (λ _. by_test Says-mark layout _ _ (λ _. refl) (λ _. refl))
    (λ _. by_test Says-mark (eqb x close_paren) _ _ (λ _. refl)
    (λ _. by_test Says-mark (eqb x open_bracket) _ _ (λ _. refl)
    (λ _. by_test Says-mark (eqb x close_bracket) _ _ (λ _. refl)
    (λ _. by_test Says-mark (eqb x open_brace) _ _ (λ _. refl)
    (λ _. by_test Says-mark (eqb x close_brace) _ _ (λ _. refl)
    (λ _. by_test Says-mark (eqb x comma) _ _ (λ t. cc) (λ _. tt)))))))

-- a token that is not quoted, by whether a comma stands at its front
says : (origin : Source) (s : List ℕ) (at : ℕ) (layout : Bool) (x : ℕ) (v : Bool) → eqb x comma ≡ v → Says v (plain_token origin s at layout x)
unfolding plain_token name_token solo_to mark class_of is_comma
says origin s at layout x true h = rw (eqb-true x comma h) refl
says origin s at layout x false h =
    plain_each (λ k u e. is_comma k ≡ false) s at x
    (record {
      word = λ e f. (refl, refl);
      symbol = λ e f. refl;
      solo = refl;
      marked = λ b k f. rw f at (mark_says b x h);
      separator = refl;
      bars = refl;
      end = λ e. refl;
      float = λ y e. refl;
      integer = λ n e l. refl;
    })
    origin layout

module _ (origin : Source) (s : List ℕ) (from : ℕ) (t : Token) (e : ℕ) (x : Text) where
  -- a token that was read is the Comma exactly if a comma stands where it starts
  pub commas : read_lexeme origin s from ≡ lexeme t e x → is_comma t.kind ≡ eqb (get_or s t.start 0) comma
  unfolding is_comma
  commas h =
      rw h at (read_each (λ k v at d y. is_comma k ≡ eqb (get_or s at 0) comma) origin s (λ at l bs d f. rw l.it) (λ at l bs d f. rw l.it)
      (λ at b l n layout. rw l.it (says origin s at layout b (eqb b comma) refl)) from)
