-- What the private functions of the clause call promise. Definitions only.
use Rattle.std.specs.Prelude.{ℕ, zero, suc, ◌+◌, ◌*◌, ◌<◌, ◌≤◌, ◌≡◌, Bool, true, false, cond, List, [], ◌∷◌, leb, length, get_or, Ok, Err}
use Rattle.std.specs.Prelude as std
use Rattle.std.proofs.Math.Option.{Option, none, some}
use Rattle.std.proofs.lemmas.List.Edits.{sets}
use Rattle.lexer.specs.Chars.{single_quote}
use Rattle.lexer.specs.Cursor.{longest, valid, move_to}
use Rattle.lexer.specs.Quoted.{Quoted, decode, bytes_of}
use Rattle.lexer.specs.Refusal.{fault, refused_at}
use Rattle.lexer.specs.Token.{Lexeme, lexeme, refused, read_lexeme, next_token, not_valid, token_read}
use Rattle.lexer.specs.declared.token.Source.TheVariants.{File}
use Rattle.lexer.specs.declared.cursor.Cursor.{Cursor}
use Rattle.lexer.specs.declared.refusal.Fault.{Fault}
use Rattle.lexer.specs.declared.refusal.Refusal.TheVariants.{NoRoom, TooManyTokens, NoReading}
use Rattle.lexer.specs.declared.token.Token as lexer
use Rattle.reader.specs.Token.{Name, Token, no_token, terminal_as, terminals}
use Rattle.reader.specs.Ops.{operators}
use Rattle.reader.specs.Tree.{packed}
use Rattle.reader.specs.Machine as M
use Rattle.reader.specs.Machine.{Out, State, want, pend, begun, have, dead, done, see, run, start, is_dead, laid}
use Rattle.reader.specs.Weight.{weight}
use Rattle.reader.specs.Clause.{most_tokens, Gathered, whole, stopped, too_many, token_in, is_end, clause_tokens, first_offset, read_to, ClauseAnswer}
use Rattle.reader.specs.Layout.{state_of}
use Rattle.reader.specs.declared.machine.Mode.{Mode}
use Rattle.reader.specs.declared.machine.Mode.TheVariants.{Want, Pend, Begun, Have, Dead, Done}
use Rattle.reader.specs.declared.clause.ClauseRead.{ClauseRead}
use Rattle.reader.specs.declared.clause.Taken.{Taken}
use Rattle.reader.specs.declared.clause.Failure.{Failure}

-- ---- one token

-- the clause's token that was read at an offset (what stands for a refusal is never asked for)
unfoldable pub token_of : List ℕ → Lexeme → Token
token_of s (lexeme t e x) = token_in s t e x
token_of s (refused w) = no_token

abbrev pub token_from : List ℕ → Cursor → Token
token_from s c = token_of s (read_lexeme File s c.offset)

-- what the machine sees of it
abbrev pub seen : Token → M.Sight
seen t = see operators (terminal_as t.kind t)

abbrev pub sight_from : List ℕ → Cursor → M.Sight
sight_from s c = seen (token_from s c)

-- a token that the token call read at c, with the cursor d behind it
pub record ReadFrom (s : List ℕ) (c : Cursor) (t : lexer.Token) (d : Cursor) : Type 0 where
  pub reads : next_token File s c ≡ token_read t d

-- and that is a name
pub record NameFrom (s : List ℕ) (c : Cursor) (t : lexer.Token) (d : Cursor) : Type 0 where
  pub reads : next_token File s c ≡ token_read t d
  pub name : t.kind ≡ Name

-- the bytes of the quoted token at an offset (what stands for a refusal is never asked for)
abbrev pub quoted_bytes : List ℕ → ℕ → List ℕ
quoted_bytes s at = bytes_of (decode (get_or s at 0) at s (at + 1))

-- a quoted name at an offset
pub record QuotedAt (s : List ℕ) (at : ℕ) : Type 0 where
  pub inside : at < length s
  pub quote : get_or s at 0 ≡ single_quote
  pub short : length s ≤ longest
  pub bytes : List ℕ
  pub end : ℕ
  pub decodes : decode (get_or s at 0) at s (at + 1) ≡ Quoted.whole bytes end

-- ---- the machine over the tokens of a clause

-- behind the end mark, with where the last token starts that the machine took alive, and the machine there; or a token's refusal; or behind so many tokens
-- without a mark
pub data Result : Type 0 where
  finished : ℕ → State → Cursor → Result
  halted : Fault → Result
  paused : ℕ → State → Cursor → Result

-- where the last token starts that the machine took alive, when it has taken one at z that starts at `at`
abbrev pub latest : State → ℕ → ℕ → ℕ
latest z a at = cond (is_dead z) a at

-- whether it is dead, by what the code keeps of it
abbrev pub dead_mode : Mode → Bool
dead_mode (Want p) = false
dead_mode (Pend p q) = false
dead_mode (Begun p h i) = false
dead_mode (Have p) = false
dead_mode Dead = true
dead_mode (Done n) = false

-- the machine at z takes the token i, which was read from c, and goes on where it is no end mark
unfoldable pub run_on : List ℕ → Cursor → ℕ → ℕ → State → Lexeme → (ℕ → State → Cursor → Result) → Result
run_on s c i a z (refused w) next = halted w
run_on s c i a z (lexeme t e x) next =
    cond (is_end t.kind) (finished (latest z a t.start) (M.step packed z i (seen (token_in s t e x))) (move_to s c e))
    (next (latest z a t.start) (M.step packed z i (seen (token_in s t e x))) (move_to s c e))

-- n tokens at most, from the token i on
unfoldable pub clause_run : ℕ → ℕ → ℕ → State → List ℕ → Cursor → Result
clause_run zero i a z s c = paused a z c
clause_run (suc n) i a z s c = run_on s c i a z (read_lexeme File s c.offset) (λ b y d. clause_run n (i + 1) b y s d)

-- ---- what the code keeps of it

-- the machine behind the tokens that were taken, or why one is refused
abbrev pub Machined : Type 0
Machined = std.Result Taken Fault

-- by whether an end mark is the last
unfoldable pub taken_as : Bool → ℕ → State → Cursor → Result
taken_as true a z d = finished a z d
taken_as false a z d = paused a z d

unfoldable pub result_of : Machined → List ℕ → List ℕ → Result
result_of (Ok t) st ns = taken_as t.whole t.latest (state_of t.mode st ns) t.next
result_of (Err w) st ns = halted w

-- ---- what the code asks

-- the tokens from i on are to be taken, up to an index; the machine takes i + 1 words at most, and there is one for each of them
pub record Taking (s : List ℕ) (c : Cursor) (i to : ℕ) (m : Mode) (st ns : List ℕ) : Type 0 where
  pub valid_cursor : valid (length s) c ≡ true
  pub ahead : i ≤ to
  pub few : to ≤ most_tokens
  pub frames : to < length st
  pub nodes : to < length ns
  pub words : weight (state_of m st ns) ≤ i + 1

-- so many tokens are taken in short arrays first
abbrev pub few_tokens : ℕ
few_tokens = 64

pub record Beginning (s : List ℕ) (c : Cursor) (to : ℕ) (st ns : List ℕ) : Type 0 where
  pub valid_cursor : valid (length s) c ≡ true
  pub few : to ≤ most_tokens
  pub frames : to < length st
  pub nodes : to < length ns

-- the machine behind the first tokens, in short slices
pub record Longer (s : List ℕ) (m : Mode) (d : Cursor) (st ns : List ℕ) : Type 0 where
  pub valid-next : valid (length s) d ≡ true
  pub frames : length st ≡ few_tokens + 1
  pub nodes : length ns ≡ few_tokens + 1
  pub words : weight (state_of m st ns) ≤ few_tokens + 1

-- and long ones beside them
pub record GoingOn (s : List ℕ) (d : Cursor) (m : Mode) (st ns fs os : List ℕ) : Type 0 where
  pub longer : Longer s m d st ns
  pub frames : most_tokens < length fs
  pub nodes : most_tokens < length os

-- ---- the whole call

-- what was read, or why not
abbrev pub Verdict : Type 0
Verdict = std.Result ClauseRead Failure

-- what a clause comes to, and what is left in the tree slice
pub data Came : Type 0 where
  came : Verdict → List ℕ → Came

-- the nodes of a machine that is done
unfoldable pub nodes_of : State → Option Out
nodes_of (want fs out) = none
nodes_of (pend i e m r x fs out) = none
nodes_of (begun h i fs out) = none
nodes_of (have fs out) = none
nodes_of dead = none
nodes_of (done out) = some out

-- the machine behind the tokens of a clause
abbrev pub machine_after : List Token → State
machine_after ts = run packed operators start (terminals 0 ts)

-- where the last token starts that a machine at z takes alive, of the tokens from i on; of a clause that is refused, the first token that cannot stand
unfoldable pub latest_from : State → ℕ → ℕ → List Token → ℕ
latest_from z i a [] = a
latest_from z i a (t ∷ ts) = latest_from (M.step packed z i (seen t)) (i + 1) (latest z a t.start) ts

module _ (d : List ℕ) where
  -- the nodes are written, or there is no room for them
  unfoldable pub written : Cursor → Out → Came
  written e out = cond (leb (2 * length out) (length d)) (came (Ok (read_to (length out) e)) (sets d 0 (laid out))) (came (Err (Failure.AtFirst NoRoom)) d)

  -- by the nodes of a machine behind the end mark, which took the token at `at` alive last
  unfoldable pub by_nodes : ℕ → Cursor → Option Out → Came
  by_nodes at e none = came (Err (Failure.At (fault NoReading at))) d
  by_nodes at e (some out) = written e out

  unfoldable pub by_tokens : Gathered → Came
  by_tokens (stopped w) = came (Err (Failure.At w)) d
  by_tokens too_many = came (Err (Failure.AtFirst TooManyTokens)) d
  by_tokens (whole ts e) = by_nodes (latest_from start 0 0 ts) e (nodes_of (machine_after ts))

  -- the same of the run over the tokens
  unfoldable pub by_result : Result → Came
  by_result (halted w) = came (Err (Failure.At w)) d
  by_result (paused a z e) = came (Err (Failure.AtFirst TooManyTokens)) d
  by_result (finished a z e) = by_nodes a e (nodes_of z)

-- an answer, and what is left in the tree slice
pub data Left : Type 0 where
  leaves : ClauseAnswer → List ℕ → Left

module _ (s : List ℕ) (c : Cursor) where
  -- the answer: the caller's cursor comes back, and a refusal at the first token has its offset
  unfoldable pub answered : Verdict → ClauseAnswer
  answered (Ok r) = Ok r
  answered (Err (Failure.At w)) = Err (refused_at w c)
  answered (Err (Failure.AtFirst r)) = Err (refused_at (fault r (first_offset s c)) c)

  unfoldable pub left_by : Came → Left
  left_by (came v d) = leaves (answered v) d

  unfoldable pub clause_by : List ℕ → Left
  clause_by d = cond (valid (length s) c) (left_by (by_tokens d (clause_tokens s c))) (leaves (Err (refused_at not_valid c)) d)

-- ---- what these functions ask

pub record Finished (n : ℕ) (ns : List ℕ) : Type 0 where
  pub nodes : n ≤ length ns
  pub words : length ns ≤ most_tokens + 1

pub record Finishing (m : Mode) (st ns : List ℕ) : Type 0 where
  pub words : length ns ≤ most_tokens + 1
  pub weight-left : weight (state_of m st ns) ≤ length ns
