-- Why a run of clause calls ends. Definitions only.
use Rattle.std.specs.Prelude.{ℕ, ◌-◌, ◌<◌, ◌≡◌, List, length, Ok}
use Rattle.lexer.specs.declared.cursor.Cursor.{Cursor}
use Rattle.reader.specs.declared.clause.ClauseRead.{ClauseRead}
use Rattle.reader.specs.Clause.{ClauseAnswer}

-- if a clause was read from c in s, then less lies behind the new cursor
abbrev pub Nearer : List ℕ → Cursor → ClauseAnswer → Type 0
Nearer s c a = (r : ClauseRead) → a ≡ Ok r → length s - r.next.offset < length s - c.offset
