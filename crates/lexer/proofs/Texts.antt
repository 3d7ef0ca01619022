-- What the text call knows of a token that was read. Assumes nothing.
use mathlib.Core.Path.{◌≡◌, refl, sym, ◌∙◌, ap}
use mathlib.Core.List.{List}
use Prim.Native.Nat.{ℕ, ◌+◌, ◌<◌}
use native.Mathlib.Omega.{arith}
use lib.ListN.{length, get_or}
use Rattle.lexer.specs.Chars.{single_quote, double_quote}
use Rattle.lexer.specs.Cursor.{start_cursor, move_to}
use Rattle.lexer.specs.Quoted.{Quoted, decode}
use Rattle.lexer.specs.Text.{Reads}
use Rattle.lexer.specs.Token.{plain_token, Text, source, decoded, none, Lexeme, lexeme, refused, text_of, read_lexeme, kept, spelled_to, found, FoundToken}
use Rattle.lexer.specs.declared.cursor.Cursor.{Cursor}
use Rattle.lexer.specs.declared.kind.Kind.{Kind}
use Rattle.lexer.specs.declared.kind.Kind.TheVariants.{Name, Variable, String, Number, Open, OpenCT, Close, OpenList, CloseList, OpenCurly, CloseCurly, HeadTailSeparator, DoubleBar, Comma, End}
use Rattle.lexer.specs.declared.token.Token.{Token}
use Rattle.lexer.specs.declared.token.Spelling.{Spelling}
use Rattle.lexer.specs.declared.token.Source.{Source}
use Rattle.lexer.specs.declared.token.Source.TheVariants.{File}
use Rattle.lexer.proofs.Parts.{found_parts}
use Rattle.lexer.proofs.Cursors.{move_offset}
use Rattle.lexer.proofs.EachToken.{Each, OfQuoted, read_each}
use Rattle.lexer.proofs.Promises.{lexeme_ends}
use Rattle.lexer.specs.Name.{PlainToken}
use Rattle.std.specs.declared.result.Result.TheVariants.{Ok, Err}

-- ---- a token whose text is decoded begins with the quote by which it is decoded

-- the token starts within the text, and what follows its first byte is decoded to bs
pub record QuotedAt (s : List ℕ) (at e : ℕ) (bs : List ℕ) : Type 0 where
  pub inside : at < length s
  pub reads : decode (get_or s at 0) at s (at + 1) ≡ Quoted.whole bs e

-- a token, by where it starts and ends and by its text
abbrev Decodes : List ℕ → ℕ → ℕ → Text → Type 0
Decodes s at e (decoded bs) = QuotedAt s at e bs
Decodes s at e source = Unit {0}
Decodes s at e none = Unit {0}

module _ (s : List ℕ) where
  -- a token that is not quoted has its own text or none
  kind_decodes : (k : Kind) (at e : ℕ) → Decodes s at e (text_of k)
  kind_decodes Name at e = tt
  kind_decodes Variable at e = tt
  kind_decodes String at e = tt
  kind_decodes Number at e = tt
  kind_decodes Open at e = tt
  kind_decodes OpenCT at e = tt
  kind_decodes Close at e = tt
  kind_decodes OpenList at e = tt
  kind_decodes CloseList at e = tt
  kind_decodes OpenCurly at e = tt
  kind_decodes CloseCurly at e = tt
  kind_decodes HeadTailSeparator at e = tt
  kind_decodes DoubleBar at e = tt
  kind_decodes Comma at e = tt
  kind_decodes End at e = tt

  plain_decodes : (at : ℕ) (p : PlainToken) → Each (λ k v e. Decodes s at e (text_of k)) p
  plain_decodes at (Ok p) = kind_decodes p.kind at p.end
  plain_decodes at (Err w) = tt

  -- a quote, and what follows it
  decodes_quote : (k : Kind) (q : ℕ) → OfQuoted (λ k v at e x. Decodes s at e x) s k q
  decodes_quote k q at l bs e f = record { inside = l.inside; reads = rw l.it f }

  pub decoded_at : (origin : Source) (from : ℕ) (t : Token) (e : ℕ) (bs : List ℕ) → read_lexeme origin s from ≡ lexeme t e (decoded bs) → QuotedAt s t.start e bs
  decoded_at origin from t e bs f =
      rw f at (read_each (λ k v at e x. Decodes s at e x) origin s (decodes_quote Name single_quote) (decodes_quote String double_quote)
      (λ at x l n layout. plain_decodes at (plain_token origin s at layout x)) from)

-- ---- what is kept of a token that was read

-- a text of n decoded bytes
pub record Bytes (x : Text) (n : ℕ) : Type 0 where
  pub bytes : List ℕ
  pub it : x ≡ decoded bytes
  pub count : length bytes ≡ n

-- the text that a spelling was kept of
abbrev pub Spelt : Text → Spelling → Type 0
Spelt x Spelling.Source = x ≡ source
Spelt x (Spelling.Decoded n) = Bytes x n
Spelt x Spelling.Absent = x ≡ none

spelt_kept : (x : Text) → Spelt x (kept x)
spelt_kept source = refl
spelt_kept (decoded bs) = record { bytes = bs; it = refl; count = refl }
spelt_kept none = refl

-- the cursor behind what was found, if it is a token
abbrev pub behind : FoundToken → Cursor
behind (Ok p) = record { offset = p.offset; line = p.line; column = p.column }
behind (Err w) = start_cursor

-- where the token ends, and its text
pub record Kept (s : List ℕ) (c : Cursor) (t : Token) (spelling : Spelling) (next : Cursor) : Type 0 where
  pub end : ℕ
  pub text : Text
  pub reads : read_lexeme File s c.offset ≡ lexeme t end text
  pub spelt : Spelt text spelling
  pub moved : next ≡ move_to s c end

-- a quoted token that stands for n bytes
pub record Decoded (s : List ℕ) (c : Cursor) (t : Token) (n : ℕ) (next : Cursor) : Type 0 where
  pub end : ℕ
  pub bytes : List ℕ
  pub reads : read_lexeme File s c.offset ≡ lexeme t end (decoded bytes)
  pub count : length bytes ≡ n
  pub moved : next ≡ move_to s c end
  pub quoted : QuotedAt s t.start end bytes

module _ (s : List ℕ) (c : Cursor) (t : Token) (next : Cursor) where
  pub kept_of : (x : Spelling) → Reads s c t x next → Kept s c t x next
  unfolding found
  kept_of x r = go (read_lexeme File s c.offset) refl r.read
    where
      go : (l : Lexeme) → read_lexeme File s c.offset ≡ l → found s c l ≡ spelled_to t x next → Kept s c t x next
      go (lexeme u e y) g h = let p = found_parts h in let k : kept y ≡ x = p.1 in record { end = e; text = y; reads = cc (p.0); spelt = rw k at (spelt_kept y); moved = ap behind (sym h) }
      go (refused w) g h = let z : ◌≡◌ {A = ℕ} 0 1 = cc in absurd (omega arith)

  -- its own bytes run to where the next cursor stands
  module _ (r : Reads s c t Spelling.Source next) where
    it : Kept s c t Spelling.Source next
    it = kept_of Spelling.Source r

    ends : next.offset ≡ it.end
    ends =
        let b = lexeme_ends File s c.offset t it.end it.text r.valid.offset it.reads in
        ap (λ (d : Cursor). d.offset) it.moved ∙ move_offset s c it.end (omega arith) b.inside

    pub source_read : read_lexeme File s c.offset ≡ lexeme t next.offset source
    source_read = cc (it.reads, it.spelt, ends)

    pub source_moved : next ≡ move_to s c next.offset
    source_moved = it.moved ∙ ap (move_to s c) (sym ends)

  pub decoded_read : (n : ℕ) → Reads s c t (Spelling.Decoded n) next → Decoded s c t n next
  decoded_read n r =
      let k = kept_of (Spelling.Decoded n) r in
      let f : read_lexeme File s c.offset ≡ lexeme t k.end (decoded k.spelt.bytes) = k.reads ∙ ap (lexeme t k.end) k.spelt.it in
      record {
        end = k.end;
        bytes = k.spelt.bytes;
        reads = f;
        count = k.spelt.count;
        moved = k.moved;
        quoted = decoded_at s File c.offset t k.end k.spelt.bytes f;
      }
