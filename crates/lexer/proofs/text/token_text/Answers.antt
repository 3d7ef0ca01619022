-- `lexer::text::token_text` meets its contract. Assumes nothing.
use Prim.Native.Nat.{ℕ}
use mathlib.Core.Path.{◌≡◌}
use mathlib.Core.List.{List}
use borrow.Author.Rules.{rules}
use Rattle.lexer.specs.Refusal.{fault, refuse}
use Rattle.lexer.specs.Text.{leaves, text_told, token_text, Reads, text_read}
use Rattle.lexer.specs.declared.cursor.Cursor.{Cursor}
use Rattle.lexer.specs.declared.refusal.Refusal.TheVariants.{NoText}
use Rattle.lexer.specs.declared.text.Part.{Part}
use Rattle.lexer.specs.declared.token.Token.{Token}
use Rattle.lexer.specs.declared.token.Spelling.{Spelling}
use Rattle.lexer.proofs.HandedOn.{handed_on}
use Rattle.lexer.proofs.Texts.{kept_of, source_moved, source_read}
use Rattle.lexer.proofs.text.token_text.Goals as goal

module _ (s : List ℕ) (c : Cursor) (t : Token) (x : Spelling) (next : Cursor) (r : Reads s c t x next) where
  decodes : (n : ℕ) → x ≡ Spelling.Decoded n → Reads s c t (Spelling.Decoded n) next
  decodes n g = rw g at r

  module _ (d : List ℕ) where
    absent : x ≡ Spelling.Absent → leaves (refuse (fault NoText t.start) c) d ≡ token_text s c d
    unfolding text_told
    absent g = let k = kept_of s c t next Spelling.Absent (rw g at r) in cc (k.reads, k.spelt)

    own : x ≡ Spelling.Source → leaves (text_read t next (Part.Source t.start next.offset)) d ≡ token_text s c d
    unfolding text_told
    own g = cc (source_read s c t next (rw g at r), source_moved s c t next (rw g at r))

ruleset ways = (handed_on, decodes, absent, own, rules)

pub returns-in-Absent : goal.returns-in-Absent
returns-in-Absent c = search ways

pub returns-in-Source : goal.returns-in-Source
returns-in-Source c = search ways
