-- `lexer::text::text_at` meets its contract. Assumes nothing.
use Prim.Native.Nat.{ℕ}
use mathlib.Core.Path.{◌≡◌, sym, ◌∙◌, ap}
use mathlib.Core.List.{List}
use borrow.Author.Rules.{rules}
use lib.ListN.{length}
use Rattle.lexer.specs.Cursor.{Valid}
use Rattle.lexer.specs.Text.{leaves, text_told, token_text, Reads}
use Rattle.lexer.specs.Token.{Lexeme, lexeme, refused, behind_layout, token_since, lexeme_since, spelled_to, found, FoundToken, found_whole}
use Rattle.lexer.specs.declared.cursor.Cursor.{Cursor}
use Rattle.lexer.specs.declared.refusal.Fault.{Fault}
use Rattle.lexer.specs.declared.token.Token.{Token}
use Rattle.lexer.specs.declared.token.Spelling.{Spelling}
use Rattle.lexer.specs.declared.token.Found.{Found}
use Rattle.lexer.specs.declared.token.Source.TheVariants.{File}
use Rattle.lexer.proofs.Parts.{found_parts}
use Rattle.lexer.proofs.HandedOn.{handed_on}
use Rattle.lexer.proofs.Texts.{behind}
use Rattle.lexer.proofs.text.text_at.Goals as goal
use Rattle.std.specs.declared.result.Result.TheVariants.{Ok, Err}
use Rattle.lexer.specs.declared.token.Found.{Found}
use Rattle.lexer.specs.Token.{kept}
use Rattle.lexer.specs.Cursor.{move_to}
use Rattle.lexer.specs.Refusal.{refuse}

module _ (s : List ℕ) (c : Cursor) where
  told : (d : List ℕ) (l : Lexeme) (w : Fault) → found s c l ≡ Err w → leaves (refuse w c) d ≡ text_told s c d (lexeme_since c.offset l)
  unfolding found text_told lexeme_since
  told d (lexeme t e x) w f = cc
  told d (refused v) w f = cc

  -- what is found, with the layout before it
  since : (l : Lexeme) (t : Token) (x : Spelling) (next : Cursor) → found s c l ≡ spelled_to t x next → found s c (lexeme_since c.offset l) ≡ spelled_to (token_since c.offset t) x next
  unfolding found lexeme_since
  since (lexeme u e y) t x next f =
      let q : move_to s c e ≡ next = ap behind f in
      let p = found_parts f in
      ap (λ (k : Token). found_whole (move_to s c e).offset (token_since c.offset k) (move_to s c e).line (kept y) (move_to s c e).column) p.0
      ∙ ap (λ (k : Spelling). spelled_to (token_since c.offset t) k (move_to s c e)) p.1
      ∙ ap (spelled_to (token_since c.offset t) x) q
  since (refused v) t x next f = cc

  -- the ways out: r is what was found
  module _ (r : FoundToken) (f : r ≡ found s c (behind_layout File s c.offset)) where
    no-token : (d : List ℕ) (w : Fault) → r ≡ Err w → leaves (refuse w c) d ≡ token_text s c d
    no-token d w h = told d (behind_layout File s c.offset) w (sym f ∙ h)

    reads : (p : Found) (u : Token) → Valid (length s) c → r ≡ Ok p → u ≡ token_since c.offset p.token
        → Reads s c u p.spelling (record { offset = p.offset; line = p.line; column = p.column })
    reads p u v h g =
        let next : Cursor = record { offset = p.offset; line = p.line; column = p.column } in
        record { valid = v; read = since (behind_layout File s c.offset) p.token p.spelling next (sym f ∙ h) ∙ ap (λ (y : Token). spelled_to y p.spelling next) (sym g) }

ruleset ways = (handed_on, no-token, reads, rules)

pub token_text-requires : goal.token_text-requires
token_text-requires c = search ways

pub returns-in-Err : goal.returns-in-Err
returns-in-Err c = search ways
