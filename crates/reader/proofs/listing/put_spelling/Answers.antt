-- `reader::listing::put_spelling` meets its contract. Assumes nothing.
use Prim.Native.Nat.{ℕ, ◌<◌}
use mathlib.Core.Path.{◌≡◌}
use mathlib.Core.List.{List}
use native.Mathlib.Omega.{arith}
use borrow.Author.Rules.{rules}
use lib.ListN.{length, get_or}
use Rattle.lexer.specs.Chars.{comma}
use Rattle.lexer.specs.Cursor.{part}
use Rattle.reader.specs.Listing.{quoted_comma, spelling, put, put_before, Room, SpanRoom}
use Rattle.reader.proofs.Puts.{spelling-comma, spelling-part, room_as}
use Rattle.reader.proofs.listing.put_spelling.Goals as goal

module _ (s : List ℕ) (from to at room : ℕ) (h : SpanRoom s from to (spelling s from to) at room) where
  read : from < length s
  read = omega (arith, h.span.ordered, h.span.inside)

  comma_room : get_or s from 0 ≡ comma → Room quoted_comma at room
  comma_room e = room_as (spelling-comma s from to e) h.place

  part_room : (get_or s from 0 ≡ comma → ⊥) → SpanRoom s from to (part from to s) at room
  part_room e = record { span = h.span; place = room_as (spelling-part s from to e) h.place }

module _ (s : List ℕ) (from to at : ℕ) (d : List ℕ) (r : ℕ) (d' : List ℕ) where
  as-comma : get_or s from 0 ≡ comma → put r d' ≡ put_before quoted_comma at d → put r d' ≡ put_before (spelling s from to) at d
  as-comma e f = cc (spelling-comma s from to e)

  as-part : (get_or s from 0 ≡ comma → ⊥) → put r d' ≡ put_before (part from to s) at d → put r d' ≡ put_before (spelling s from to) at d
  as-part e f = cc (spelling-part s from to e)

ruleset ways = (read, comma_room, part_room, as-comma, as-part, rules)

pub returns-then-text-from-eq44 : goal.returns-then-text-from-eq44
returns-then-text-from-eq44 c = search ways

pub returns : goal.returns
returns c = search ways

pub put_comma-requires : goal.put_comma-requires
put_comma-requires c = search ways

pub put_part-requires : goal.put_part-requires
put_part-requires c = search ways
