-- `lexer::text::quoted_bytes` meets its contract. Assumes nothing.
use Prim.Native.Nat.{ℕ, ◌+◌, ◌^◌, ◌<◌, ◌≤◌}
use mathlib.Core.Path.{◌≡◌, refl, sym, ◌∙◌}
use mathlib.Core.List.{List}
use native.Mathlib.Omega.{arith}
use mir.Syntax.{w64}
use mir.Val.{Fits}
use borrow.Author.Rules.{rules}
use borrow.Author.Tests.{le-leb, lt-leb}
use lib.ListN.{length}
use lib.Seq.{sets}
use Rattle.lexer.specs.Cursor.{Valid}
use Rattle.lexer.specs.Quoted.{Quoted, decode, measured, bytes_of, Writes, MeasureRead}
use Rattle.lexer.specs.Refusal.{fault}
use Rattle.lexer.specs.Text.{counts, counted_text, Begins}
use Rattle.lexer.specs.declared.cursor.Cursor.{Cursor}
use Rattle.lexer.specs.declared.refusal.Fault.{Fault}
use Rattle.lexer.specs.declared.refusal.Refusal.TheVariants.{NoRoom}
use Rattle.lexer.proofs.Parts.{measure_parts}
use Rattle.lexer.proofs.HandedOn.{handed_on}
use Rattle.lexer.proofs.text.quoted_bytes.Goals as goal
use Rattle.lexer.specs.declared.quoted.Measure.{Measure}
use Rattle.std.specs.declared.result.Result.TheVariants.{Ok, Err}

-- behind the token's first byte
abbrev behind : ℕ → Cursor
behind at = record { offset = at + 1; line = 0; column = 0 }

module _ (s : List ℕ) (at : ℕ) (b : Begins s at) where
  can_measure : Valid (length s) (behind at)
  can_measure = record { short = b.short; offset = omega (arith, b.inside); line = omega arith; column = omega arith }

  fits : length s < 2 ^ 64 → Fits w64 (at + 1)
  fits h = let i = b.inside in record { fits = omega arith }

-- a token that was read whole, by its room
module _ (s : List ℕ) (at q n : ℕ) (k : Writes q at s (at + 1) n n) (d : List ℕ) where
  left_out : length d < n → counts (Err (fault NoRoom at)) d ≡ counted_text at d (decode q at s (at + 1))
  unfolding counted_text
  left_out h = cc (k.reads, lt-leb (length k.bytes) (length d) (omega (arith, k.count)))

  put_in : (d' : List ℕ) → n ≤ length d → d' ≡ sets d 0 (bytes_of (decode q at s (at + 1))) → counts (Ok n) d' ≡ counted_text at d (decode q at s (at + 1))
  unfolding counted_text bytes_of
  put_in d' h p = cc (k.reads, k.count, le-leb (length k.bytes) (length d) (omega (arith, k.count)))

-- the ways out, by what was measured
module _ (s : List ℕ) (at q : ℕ) (r : MeasureRead) (f : r ≡ measured s (behind at) (decode q at s (at + 1))) where
  not_whole : (w : Fault) (d : List ℕ) → r ≡ Err w → counts (Err w) d ≡ counted_text at d (decode q at s (at + 1))
  unfolding counted_text measured
  not_whole w d m = go (decode q at s (at + 1)) f
    where
      go : (x : Quoted) → r ≡ measured s (behind at) x → counts (Err w) d ≡ counted_text at d x
      go (Quoted.whole bs e) p = cc
      go (Quoted.refused v) p = cc

  module _ (p : Measure) (m : r ≡ Ok p) where
    -- the token was read whole, so its bytes are there to be written
    it : Writes q at s (at + 1) p.length p.length
    unfolding measured
    it = go (decode q at s (at + 1)) refl f
      where
        go : (x : Quoted) → decode q at s (at + 1) ≡ x → r ≡ measured s (behind at) x → Writes q at s (at + 1) p.length p.length
        go (Quoted.whole bs e) g h = record { end = e; bytes = bs; reads = g; count = sym (measure_parts (sym m ∙ h)).0; fits = omega arith }
        go (Quoted.refused w) g h = let z : ◌≡◌ {A = ℕ} 0 1 = cc in absurd (omega arith)

    writes : (room : ℕ) → p.length ≤ room → Writes q at s (at + 1) p.length room
    writes room k = record { end = it.end; bytes = it.bytes; reads = it.reads; count = it.count; fits = k }

    module _ (d : List ℕ) where
      no-room : (w : Fault) → length d < p.length → w ≡ fault NoRoom at → counts (Err w) d ≡ counted_text at d (decode q at s (at + 1))
      no-room w h g = rw g (left_out s at q p.length it d h)

      written : (d' : List ℕ) → p.length ≤ length d → d' ≡ sets d 0 (bytes_of (decode q at s (at + 1))) → counts (Ok p.length) d' ≡ counted_text at d (decode q at s (at + 1))
      written = put_in s at q p.length it d

ruleset ways = (handed_on, can_measure, fits, not_whole, writes, no-room, written, rules)

pub returns-in_err-length : goal.returns-in_err-length
returns-in_err-length c = search (ways, c.in_err-length.was)

pub returns-then-scratch-length : goal.returns-then-scratch-length
returns-then-scratch-length c = search (ways, c.in_ok-length.was)

pub write_quoted-requires : goal.write_quoted-requires
write_quoted-requires c = search (ways, c.in_ok-length.was)

pub returns : goal.returns
returns c = search (ways, c.in_ok-length.was)
