-- `lexer::text::decoded_text` meets its contract. Assumes nothing.
use Prim.Native.Nat.{ℕ, ◌+◌, ◌^◌, ◌<◌, ◌≤◌}
use mathlib.Core.Path.{◌≡◌}
use mathlib.Core.List.{List}
use native.Mathlib.Omega.{arith}
use mir.Syntax.{w64}
use mir.Val.{Fits}
use borrow.Author.Rules.{rules}
use borrow.Author.Tests.{le-leb, lt-leb}
use lib.ListN.{length, get_or}
use lib.Seq.{sets}
use Rattle.lexer.specs.Quoted.{decode, bytes_of, Writes}
use Rattle.lexer.specs.Refusal.{fault, refuse}
use Rattle.lexer.specs.Text.{leaves, text_told, token_text, Reads, text_read}
use Rattle.lexer.specs.declared.cursor.Cursor.{Cursor}
use Rattle.lexer.specs.declared.refusal.Refusal.TheVariants.{NoRoom}
use Rattle.lexer.specs.declared.text.Part.{Part}
use Rattle.lexer.specs.declared.token.Token.{Token}
use Rattle.lexer.specs.declared.token.Spelling.{Spelling}
use Rattle.lexer.proofs.HandedOn.{handed_on}
use Rattle.lexer.proofs.Texts.{Decoded, decoded_read}
use Rattle.lexer.proofs.text.decoded_text.Goals as goal

module _ (s : List ℕ) (c : Cursor) (t : Token) (n : ℕ) (next : Cursor) (r : Reads s c t (Spelling.Decoded n) next) where
  it : Decoded s c t n next
  it = decoded_read s c t next n r

  inside : t.start < length s
  inside = it.quoted.inside

  fits : length s < 2 ^ 64 → Fits w64 (t.start + 1)
  fits h = let i = inside in record { fits = omega arith }

  writes : (room : ℕ) → n ≤ room → Writes (get_or s t.start 0) t.start s (t.start + 1) n room
  writes room h = record { end = it.end; bytes = it.bytes; reads = it.quoted.reads; count = it.count; fits = h }

  module _ (d : List ℕ) where
    no-room : length d < n → leaves (refuse (fault NoRoom t.start) c) d ≡ token_text s c d
    unfolding text_told
    no-room h = cc (it.reads, lt-leb (length it.bytes) (length d) (omega (arith, it.count)))

    written : (d' : List ℕ) → n ≤ length d → d' ≡ sets d 0 (bytes_of (decode (get_or s t.start 0) t.start s (t.start + 1)))
        → leaves (text_read t next (Part.Scratch 0 n)) d' ≡ token_text s c d
    unfolding text_told bytes_of
    written d' h f = cc (it.reads, it.count, it.moved, it.quoted.reads, le-leb (length it.bytes) (length d) (omega (arith, it.count)))

ruleset ways = (handed_on, inside, fits, writes, no-room, written, rules)

pub returns-then-scratch-n : goal.returns-then-scratch-n
returns-then-scratch-n c = search ways

pub overflow_add-start : goal.overflow_add-start
overflow_add-start c = search ways

pub bounds-text-start : goal.bounds-text-start
bounds-text-start c = search ways

pub write_quoted-requires : goal.write_quoted-requires
write_quoted-requires c = search ways

pub returns : goal.returns
returns c = search ways
