-- Cursors, and how a text moves them: 01, "Bytes, cursor, domain". Definitions only.
use Rattle.std.specs.Prelude.{ℕ, ◌+◌, ◌-◌, ◌<◌, ◌≤◌, Bool, cond, ◌&&◌, List, [], ◌∷◌, leb, eqb, take, drop, Result}
use Rattle.lexer.specs.Chars.{newline}
use Rattle.lexer.specs.declared.cursor.Cursor.{Cursor}
use Rattle.lexer.specs.declared.refusal.Fault.{Fault}

-- where a scan stops, as an offset; or why it is refused
abbrev pub Scan : Type 0
Scan = Result ℕ Fault

-- the same, as a cursor
abbrev pub Moved : Type 0
Moved = Result Cursor Fault

-- 01: a text has at most 65,535 bytes
abbrev pub longest : ℕ
longest = 65535

-- 01: "Start is 0, 0, 0"
abbrev pub start_cursor : Cursor
start_cursor = record { offset = 0; line = 0; column = 0 }

-- 01: a newline adds a line and sets the column to 0; another character adds a column
abbrev pub step : Cursor → ℕ → Cursor
step c x =
    record {
      offset = c.offset + 1;
      line = cond (eqb x newline) (c.line + 1) c.line;
      column = cond (eqb x newline) 0 (c.column + 1);
    }

-- past the bytes of a list, one after the other
unfoldable pub walk : Cursor → List ℕ → Cursor
walk c [] = c
walk c (x ∷ xs) = walk (step c x) xs

-- the bytes of a text from one offset to another
abbrev pub part : ℕ → ℕ → List ℕ → List ℕ
part a e s = take (e - a) (drop a s)

-- the cursor c of the text s, moved on to the offset e
unfoldable pub move_to : List ℕ → Cursor → ℕ → Cursor
move_to s c e = walk c (part c.offset e s)

-- 01: a cursor is valid if its offset is at most the text's length, n, and neither line nor column exceeds the offset; and n is no more than the longest
unfoldable pub valid : ℕ → Cursor → Bool
valid n c = leb n longest && leb c.offset n && leb c.line c.offset && leb c.column c.offset

-- the same as facts: what the private functions ask of a cursor
pub record Valid (n : ℕ) (c : Cursor) : Type 0 where
  pub short : n ≤ longest
  pub offset : c.offset ≤ n
  pub line : c.line ≤ c.offset
  pub column : c.column ≤ c.offset

-- a cursor that can move over one more character
pub record Movable (c : Cursor) : Type 0 where
  pub offset : c.offset < longest
  pub line : c.line ≤ c.offset
  pub column : c.column ≤ c.offset

-- past k characters, none of them a newline
abbrev pub along : Cursor → ℕ → Cursor
along c k = record { offset = c.offset + k; line = c.line; column = c.column + k }

-- a cursor that can move along to e
pub record Along (c : Cursor) (e : ℕ) : Type 0 where
  pub before : c.offset ≤ e
  pub short : e ≤ longest
  pub line : c.line ≤ c.offset
  pub column : c.column ≤ c.offset
