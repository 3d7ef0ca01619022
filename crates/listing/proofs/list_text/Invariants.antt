-- `list_text` meets its contract. The invariant: what ends the listing from here ends it from the start. The measure is what lies behind the cursor.
-- Assumes nothing.
use Prim.Native.Nat.{ℕ, ◌+◌, ◌-◌, ◌<◌, ◌≤◌}
use mathlib.Core.Path.{◌≡◌, refl, sym, ◌∙◌, subst}
use mathlib.Core.List.{List, ◌++◌}
use native.Mathlib.Omega.{arith}
use lib.ListN.{length, take, drop}
use lib.Seq.{length-take-le, length_front}
use Rattle.lexer.specs.Cursor.{start_cursor}
use Rattle.lexer.specs.declared.cursor.Cursor.{Cursor}
use Rattle.lexer.specs.declared.refusal.Fault.{Fault}
use Rattle.reader.specs.LineCall.{longest_line, LineOutcome, line_to, LineAnswer}
use Rattle.reader.specs.Clause.{}
use Rattle.reader.proofs.Theorems.{next-line_cursor, line-inside, line_refused}
use Rattle.listing.specs.Ends.{Ends, refused, after}
use Rattle.listing.proofs.list_text.Given as goal
use Rattle.lexer.specs.Refusal.{refused_at}
use Rattle.std.specs.Prelude.{Ok, Err}

module _ (s : List ℕ) (c : Cursor) (d : List ℕ) (r : LineAnswer) (d' : List ℕ) (o : LineOutcome s c d r d') (n : ℕ) (e : Cursor) (h : r ≡ Ok (line_to n e)) where
  pub nearer : length s - e.offset < length s - c.offset
  nearer = let p = next-line_cursor s c d (rw h at o) in omega (arith, p.1, p.2)

-- the line's room, and one byte for the newline
pub record Placed (line₀ line : List ℕ) (room : ℕ) : Type 0 where
  pub same : length line ≡ length line₀
  pub last : room + 1 ≡ length line
  pub enough : longest_line ≤ room

pub record Behind (s : List ℕ) (c : Cursor) : Type 0 where
  pub back : (w : Fault) → Ends s c w → Ends s start_cursor w

pub record Inv (s line₀ line : List ℕ) (room : ℕ) (c : Cursor) : Type 0 where
  pub placed : Placed line₀ line room
  pub behind : Behind s c

pub begin : (s line : List ℕ) → longest_line < length line → Inv s line line (length line - 1) start_cursor
begin s line h = record { placed = record { same = refl; last = omega arith; enough = omega arith }; behind = record { back = λ w z. z } }

module _ (line₀ line : List ℕ) (room : ℕ) (v : Placed line₀ line room) where
  pub under : room ≤ length line
  under = omega (arith, v.last)

  pub lent : length (take room line) ≡ room
  lent = length-take-le room line under

  pub kept : length line ≡ length line₀
  kept = v.same

  -- the line was put in front of the newline's place
  pub fits : (s : List ℕ) (c : Cursor) (r : LineAnswer) (d' : List ℕ) (n : ℕ) (e : Cursor) → LineOutcome s c (take room line) r d' → r ≡ Ok (line_to n e)
      → length d' ≡ length (take room line) → n < length (d' ++ drop room line)
  fits s c r d' n e o h k = omega (arith, line-inside s c (take room line) (rw h at o), lent, v.last, length_front line d' room k)

  pub placed_again : (line' : List ℕ) → length line' ≡ length line → Placed line₀ line' room
  placed_again line' e = record { same = e ∙ v.same; last = v.last ∙ sym e; enough = v.enough }

  -- the refusal is not for room
  pub ended : (s : List ℕ) (c : Cursor) (r : LineAnswer) (d' : List ℕ) (w : Fault) (k : Cursor) → Behind s c → LineOutcome s c (take room line) r d'
      → r ≡ Err (refused_at w k) → Ends s start_cursor w
  ended s c r d' w k b o h = b.back w (refused (λ d. line_refused s c (take room line) (omega (arith, lent, v.enough)) w k d r d' o h))

-- one clause further
pub read_on : (s : List ℕ) (c : Cursor) (d : List ℕ) (r : LineAnswer) (d' : List ℕ) (n : ℕ) (e : Cursor) → Behind s c → LineOutcome s c d r d' → r ≡ Ok (line_to n e) → Behind s e
read_on s c d r d' n e b o h = record { back = λ w z. b.back w (after (subst (λ (x : LineAnswer). LineOutcome s c d x d') h o) z) }

abbrev pub invariant-loop-refused : goal.invariant-loop-refused
invariant-loop-refused l = Inv l.text l.initial.line l.line l.room l.cursor

abbrev pub decreases-loop-refused : goal.decreases-loop-refused
decreases-loop-refused l = length l.text - l.cursor.offset
