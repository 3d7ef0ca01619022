-- `chunks::delivery::is_sound` meets its contract. Assumes nothing.
use Prim.Native.Nat.{ℕ, ◌<◌}
use mathlib.Core.Path.{◌≡◌, refl}
use mathlib.Core.Bool.{Bool, true, false, ◌&&◌}
use native.Mathlib.Omega.{arith}
use borrow.Author.Rules.{rules}
use borrow.Author.Tests.{leb-true, lt-leb}
use lib.Dec.{leb, ltb}
use Rattle.lexer.specs.Cursor.{longest, valid}
use Rattle.lexer.specs.declared.cursor.Cursor.{Cursor}
use Rattle.chunks.specs.Feed.{delivered, window_size, sound}
use Rattle.chunks.specs.declared.delivery.Reader.{Reader}
use Rattle.chunks.proofs.delivery.is_sound.Goals as goal

-- a cursor past the longest text is valid in none
past_all : (n : ℕ) (c : Cursor) → longest < c.offset → valid n c ≡ false
unfolding valid
past_all n c h = go (leb n longest) refl
  where
    go : (t : Bool) → leb n longest ≡ t → t && leb c.offset n && leb c.line c.offset && leb c.column c.offset ≡ false
    go false e = refl
    go true e = let k = leb-true n longest e in cc (lt-leb c.offset n (omega arith))

too_far : (r : Reader) → longest < r.cursor.offset → false ≡ sound r
too_far r h = rw (past_all (delivered r) r.cursor h) (go (leb r.from r.to) (ltb r.to window_size) (leb r.layout r.cursor.offset))
  where
    go : (a b c : Bool) → false ≡ a && b && c && false
    go true true true = refl
    go true true false = refl
    go true false c = refl
    go false b c = refl

ruleset ways = (too_far, rules)

pub returns-then-cursor-gt-LONGEST : goal.returns-then-cursor-gt-LONGEST
returns-then-cursor-gt-LONGEST c = search ways
