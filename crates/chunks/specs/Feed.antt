-- One feeding: the order of its tests, the bytes that it takes, and what the reader and the window are behind it. Definitions only.
use Rattle.std.specs.Prelude.{ℕ, ◌+◌, ◌-◌, ◌<◌, ◌≤◌, min, Bool, true, false, cond, ◌&&◌, List, [], ◌∷◌, ◌++◌, leb, ltb, length, take, drop, set, ◌≡◌, Some, None, Result, Ok, Err}
use Rattle.std.proofs.Math.Seq.{paste}
use Rattle.lexer.specs.Cursor.{longest, start_cursor, part, valid, Valid}
use Rattle.lexer.specs.Token.{not_valid}
use Rattle.lexer.specs.declared.refusal.Fault.{Fault}
use Rattle.chunks.specs.Given.{token_given}
use Rattle.chunks.specs.Reader.{Gives, handed, more, never, reading, Passable}
use Rattle.chunks.specs.Shift.{unknown}
use Rattle.chunks.specs.Whole.{longest_token}
use Rattle.lexer.specs.declared.cursor.Cursor.{Cursor}
use Rattle.chunks.specs.declared.hand.Next.{Next}
use Rattle.chunks.specs.declared.layout.Mode.TheVariants.{Blank}
use Rattle.chunks.specs.declared.delivery.Reader.{Reader}
use Rattle.chunks.specs.declared.delivery.Phase.{Phase}
use Rattle.chunks.specs.declared.delivery.Fed.{Fed}

-- ---- a reader and its window

-- the bytes at hand: delivered, not yet read
abbrev pub at_hand : Reader → ℕ
at_hand r = r.to - r.from

abbrev pub hand_in : Reader → List ℕ → List ℕ
hand_in r w = part r.from r.to w

-- the bytes of all chunks so far
abbrev pub delivered : Reader → ℕ
delivered r = r.cursor.offset + at_hand r

abbrev pub window_size : ℕ
window_size = 2057

-- so many bytes at hand are enough for every token, and for the two that a number may put back
abbrev pub most_at_hand : ℕ
most_at_hand = longest_token + 3

-- a reader that is not made up: the bytes at hand are in the window, with room for one behind them, layout began at the cursor or before it, and the cursor
-- is valid in what was delivered
abbrev pub sound : Reader → Bool
sound r = leb r.from r.to && ltb r.to window_size && leb r.layout r.cursor.offset && valid (delivered r) r.cursor

abbrev pub begun : Reader
begun = record { mode = Blank; cursor = start_cursor; layout = 0; from = 0; to = 0; phase = Phase.Open }

-- ---- the sender says that the text has ended
unfoldable pub ended_phase : Phase → Phase
ended_phase Phase.Open = Phase.Ended
ended_phase Phase.Ended = Phase.Ended
ended_phase (Phase.Refused w) = Phase.Refused w

abbrev pub in_phase : Reader → Phase → Reader
in_phase r p = record { mode = r.mode; cursor = r.cursor; layout = r.layout; from = r.from; to = r.to; phase = p }

abbrev pub finishing : Reader → Reader
finishing r = in_phase r (ended_phase r.phase)

-- ---- a feeding

-- a chunk of n bytes may come: all chunks have 65,535 bytes at most, and none comes behind the end
abbrev pub admitted : Bool → Reader → ℕ → Bool
admitted ended r n = sound r && leb (delivered r + n) (cond ended (delivered r) longest)

-- so many bytes are taken: until 1,022 are at hand, with which what comes next can be read at once; where as many were there already, until 1,027
abbrev pub full_hand : ℕ
full_hand = longest_token - 2

abbrev pub takes : ℕ → ℕ → ℕ
takes h n = min n (cond (ltb h full_hand) (full_hand - h) (most_at_hand - h))

-- the bytes at hand, which begin at `from`, are moved to the window's front where half of it is free
abbrev pub place_of : ℕ → ℕ
place_of from = cond (ltb from (most_at_hand + 1)) from 0

abbrev pub place : Reader → ℕ
place r = place_of r.from

-- they end there, with those that are taken
abbrev pub end_of_hand : Reader → ℕ → ℕ
end_of_hand r k = place r + at_hand r + k

-- the window, when h bytes at hand are moved from one place to another and k bytes of the chunk stand behind them, with the unknown byte behind those
abbrev pub filled_with : List ℕ → ℕ → ℕ → ℕ → List ℕ → ℕ → List ℕ
filled_with w from to h chunk k = set (paste (paste w to (drop from w) h) (to + h) chunk k) (to + h + k) unknown

-- what a call leaves: its answer, and the window
pub data Leaves : Type 0 where
  leaves : Fed → List ℕ → Leaves

-- refused: the reader keeps it
abbrev pub refusing : Reader → ℕ → Fault → Fed
refusing r k w = record { reader = in_phase r (Phase.Refused w); taken = k; given = Err w }

-- by what the bytes at hand, which end at `to`, give; layout begins anew behind a token
unfoldable pub gave : Reader → ℕ → ℕ → Gives → Fed
gave r to k (handed t c u) = record { reader = record { mode = Blank; cursor = c; layout = c.offset; from = to - length u; to = to; phase = r.phase }; taken = k; given = token_given t c }
gave r to k (more m c l u) = record { reader = record { mode = m; cursor = c; layout = l; from = to - length u; to = to; phase = r.phase }; taken = k; given = Ok None }
gave r to k (never w) = refusing r k w

-- k bytes of the chunk are taken, and the bytes at hand are read
abbrev pub took : Bool → Reader → List ℕ → List ℕ → ℕ → Leaves
took ended r w chunk k = leaves (gave r (end_of_hand r k) k (reading ended r.mode r.cursor r.layout (hand_in r w ++ take k chunk))) (filled_with w r.from (place r) (at_hand r) chunk k)

abbrev pub offered : Bool → Reader → List ℕ → List ℕ → Leaves
offered ended r w chunk = cond (admitted ended r (length chunk)) (took ended r w chunk (takes (at_hand r) (length chunk))) (leaves (refusing r 0 not_valid) w)

unfoldable pub by_phase : Phase → Reader → List ℕ → List ℕ → Leaves
by_phase Phase.Open r w chunk = offered false r w chunk
by_phase Phase.Ended r w chunk = offered true r w chunk
by_phase (Phase.Refused v) r w chunk = leaves (record { reader = r; taken = 0; given = Err v }) w

abbrev pub feeding : Reader → List ℕ → List ℕ → Leaves
feeding r w chunk = by_phase r.phase r w chunk

-- ---- what the code tells, and what it asks
unfoldable pub stage_of : Phase → Result Bool Fault
stage_of Phase.Open = Ok false
stage_of Phase.Ended = Ok true
stage_of (Phase.Refused w) = Err w

-- without the bytes that are left: `sum` bytes were delivered, and the cursor tells how many of them are read
unfoldable pub fed_by : Reader → ℕ → ℕ → ℕ → Result Next Fault → Fed
fed_by r to sum k (Ok (Next.Token t)) = record { reader = record { mode = Blank; cursor = t.next; layout = t.next.offset; from = to - (sum - t.next.offset); to = to; phase = r.phase }; taken = k; given = Ok (Some t) }
fed_by r to sum k (Ok (Next.More m c l)) = record { reader = record { mode = m; cursor = c; layout = l; from = to - (sum - c.offset); to = to; phase = r.phase }; taken = k; given = Ok None }
fed_by r to sum k (Err w) = refusing r k w

-- what is left at hand is a part of the window
pub record Left (to sum : ℕ) (c : Cursor) : Type 0 where
  pub read : c.offset ≤ sum
  pub rest : sum - c.offset ≤ to

abbrev pub Behind : ℕ → ℕ → Result Next Fault → Type 0
Behind to sum (Ok (Next.Token t)) = Left to sum t.next
Behind to sum (Ok (Next.More m c l)) = Left to sum c
Behind to sum (Err w) = Unit {0}

-- a window, and the places that bytes are moved between
pub record Moves (w : List ℕ) (from to place : ℕ) : Type 0 where
  pub size : length w ≡ window_size
  pub some : from ≤ to
  pub inside : to < window_size
  pub front : place ≤ from

-- a window, and the place that k of the n bytes of a chunk are put to
pub record Fills (w : List ℕ) (n at k : ℕ) : Type 0 where
  pub size : length w ≡ window_size
  pub there : k ≤ n
  pub room : at + k < window_size

-- both
pub record TakesIn (w : List ℕ) (from to place n k : ℕ) : Type 0 where
  pub moves : Moves w from to place
  pub there : k ≤ n
  pub room : place + (to - from) + k < window_size

-- a window, a reader that is sound, and a chunk of n bytes that may come
pub record Admitted (w : List ℕ) (r : Reader) (n : ℕ) : Type 0 where
  pub size : length w ≡ window_size
  pub some : r.from ≤ r.to
  pub inside : r.to < window_size
  pub valid : Valid (delivered r) r.cursor
  pub short : delivered r + n ≤ longest

-- a window that holds the bytes at hand from `place` to `to`, and the unknown byte behind them
pub record Windowed (w : List ℕ) (r : Reader) (place to : ℕ) : Type 0 where
  pub last : part place (to + 1) w ≡ part place to w ++ unknown ∷ []
  pub some : place ≤ to
  pub inside : to < window_size
  pub size : length w ≡ window_size
  pub able : Passable (to - place) r.cursor
