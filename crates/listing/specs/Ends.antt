-- Where a listing ends. 01: "standard input to one line a clause", "It ends with `refused N at OFFSET`." Definitions only.
use Rattle.std.specs.Prelude.{ℕ, List, Ok, Err}
use Rattle.lexer.specs.declared.cursor.Cursor.{Cursor}
use Rattle.lexer.specs.declared.refusal.Fault.{Fault}
use Rattle.reader.specs.LineCall.{LineOutcome, line_to}
use Rattle.lexer.specs.Refusal.{refused_at}
use Rattle.reader.specs.Clause.{}

-- from the cursor c on the line call reads the clauses of the text s, each behind the one before, up to one that it refuses for w
pub data Ends (s : List ℕ) : Cursor → Fault → Type 0 where
  -- the clause at c is refused whatever the slice for its line, so not for want of room
  refused : {c : Cursor} {w : Fault} → ((d : List ℕ) → LineOutcome s c d (Err (refused_at w c)) d) → Ends s c w
  -- it is read, and the next begins at e
  after : {c e : Cursor} {w : Fault} {n : ℕ} {d x : List ℕ} → LineOutcome s c d (Ok (line_to n e)) x → Ends s e w → Ends s c w
