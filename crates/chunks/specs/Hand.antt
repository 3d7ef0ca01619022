-- What the code tells of the bytes at hand, and what it asks. Definitions only.
use Rattle.std.specs.Prelude.{ℕ, ◌+◌, ◌-◌, ◌<◌, ◌≤◌, List, length, Some, None, Result, Ok, Err}
use Rattle.lexer.specs.Cursor.{longest}
use Rattle.lexer.specs.Token.{token_since}
use Rattle.lexer.specs.declared.refusal.Fault.{Fault}
use Rattle.lexer.specs.declared.cursor.Cursor.{Cursor}
use Rattle.lexer.specs.declared.token.Token.{Token}
use Rattle.chunks.specs.Given.{Given, read_to}
use Rattle.chunks.specs.Reader.{Gives, handed, more, never, moved_by, Sums, Passable}
use Rattle.chunks.specs.Shift.{shift_fault, shift_token}
use Rattle.chunks.specs.Whole.{longest_token}
use Rattle.chunks.specs.declared.hand.Next.{Next}
use Rattle.chunks.specs.declared.layout.Mode.{Mode}
use Rattle.chunks.specs.declared.pass.Place.{Place}

-- without the bytes that are left, which the cursor tells
unfoldable pub to_next : Gives → Result Next Fault
to_next (handed t c u) = Ok (Next.Token (read_to t c))
to_next (more m c from u) = Ok (Next.More m c from)
to_next (never w) = Err w

-- by what is judged of the token at the cursor c, where the layout before it began at `from`
unfoldable pub next_by : Mode → Cursor → ℕ → Given → Result Next Fault
next_by m c from (Ok (Some r)) = Ok (Next.Token (read_to (token_since from (shift_token c.offset r.token)) (moved_by c r.next)))
next_by m c from (Ok None) = Ok (Next.More m c from)
next_by m c from (Err w) = Err (shift_fault c.offset w)

-- ---- what the code asks

-- that the sums of offsets are no more than a text has, and one
pub record TokenFits (c : Cursor) (t : Token) (d : Cursor) : Type 0 where
  pub sums : Sums c d
  pub start : c.offset + t.start ≤ longest

abbrev pub Fits : Cursor → Given → Type 0
Fits c (Ok (Some r)) = TokenFits c r.token r.next
Fits c (Ok None) = Unit {0}
Fits c (Err w) = c.offset + w.offset ≤ longest + 1

-- bytes at hand from the cursor on
pub record Held (s : List ℕ) (c : Cursor) : Type 0 where
  pub few : length s ≤ longest
  pub able : Passable (length s - 1) c

-- the same, with fewer bytes than a token may have
pub record Brief (s : List ℕ) (c : Cursor) : Type 0 where
  pub held : Held s c
  pub brief : length s < longest_token

-- a token starts there: at the place's cursor, which is further on than `from`
pub record Starting (s : List ℕ) (p : Place) (from : ℕ) : Type 0 where
  pub ahead : from ≤ p.cursor.offset
  pub inside : p.cursor.offset - from + 1 < length s
  pub few : length s ≤ longest
  pub able : Passable (length s - 1 - (p.cursor.offset - from)) p.cursor
