-- Of the line of a clause one outcome is permitted, and there is one. Assumes nothing.
use Prim.Native.Nat.{ℕ}
use mathlib.Core.Path.{◌≡◌, refl, ap, subst}
use mathlib.Core.Bool.{Bool, true, false, cond}
use mathlib.Core.Logic.{◌⊎◌, inl, inr}
use mathlib.Core.List.{List}
use borrow.Author.Tests.{le-leb, lt-leb, leb-true, leb-false}
use lib.Dec.{leb}
use lib.ListN.{length}
use lib.Seq.{sets}
use Rattle.lexer.specs.Cursor.{valid}
use Rattle.lexer.specs.Refusal.{fault, refused_at}
use Rattle.lexer.specs.Token.{not_valid}
use Rattle.lexer.specs.declared.cursor.Cursor.{Cursor}
use Rattle.lexer.specs.declared.refusal.Refusal.TheVariants.{NoRoom, TooManyTokens, NoReading}
use Rattle.reader.specs.Token.{Token, terminals}
use Rattle.reader.specs.Ops.{operators}
use Rattle.reader.specs.Tree.{Tree}
use Rattle.reader.specs.Grammar.{Reads}
use Rattle.reader.specs.Clause.{Gathered, whole, stopped, too_many, clause_tokens, first_offset}
use Rattle.reader.specs.Listing.{line}
use Rattle.reader.specs.Machine.{start}
use Rattle.reader.specs.Gather.{latest_from}
use Rattle.reader.specs.LineCall.{LineOutcome, invalid, token, no_mark, no_reading, no_room, read, line_to, LineAnswer}
use Rattle.reader.proofs.Answer.{one_tree, reads?}
use Rattle.reader.proofs.Table.{fair, operators-admitted}
use Rattle.reader.proofs.Viable.{one-fault}
use Rattle.reader.proofs.Faults.{first_fault}
use Rattle.std.specs.Prelude.{Ok, Err}

-- an answer, and what is left in the slice
data Left : Type 0 where
  leaves : LineAnswer → List ℕ → Left

abbrev Reading : List Token → Type 0
Reading ts = ((t : Tree) × Reads operators ts t) ⊎ ((t : Tree) → Reads operators ts t → ⊥)

reading : (ts : List Token) → Reading ts
reading ts = reads? operators (fair operators operators-admitted) (terminals 0 ts)

module _ (s : List ℕ) (c : Cursor) (d : List ℕ) where
  -- the outcome, computed
  by_line : Cursor → List ℕ → Left
  by_line e bs = cond (leb (length bs) (length d)) (leaves (Ok (line_to (length bs) e)) (sets d 0 bs)) (leaves (Err (refused_at (fault NoRoom (first_offset s c)) c)) d)

  by_reading : (ts : List Token) → Cursor → Reading ts → Left
  by_reading ts e (inl p) = by_line e (line s ts p.0)
  by_reading ts e (inr n) = leaves (Err (refused_at (fault NoReading (latest_from start 0 0 ts)) c)) d

  by_tokens : Gathered → Left
  by_tokens (stopped w) = leaves (Err (refused_at w c)) d
  by_tokens too_many = leaves (Err (refused_at (fault TooManyTokens (first_offset s c)) c)) d
  by_tokens (whole ts e) = by_reading ts e (reading ts)

  line_by : Left
  line_by = cond (valid (length s) c) (by_tokens (clause_tokens s c)) (leaves (Err (refused_at not_valid c)) d)

  abbrev Allowed : Left → Type 0
  Allowed (leaves r d') = LineOutcome s c d r d'

  module _ (v : valid (length s) c ≡ true) where
    module _ (ts : List Token) (e : Cursor) (g : clause_tokens s c ≡ whole ts e) where
      allowed_reading : (x : Reading ts) → Allowed (by_reading ts e x)
      unfolding by_reading by_line
      allowed_reading (inl p) = go (leb (length (line s ts p.0)) (length d)) refl
        where
          go : (b : Bool) → leb (length (line s ts p.0)) (length d) ≡ b
              → Allowed (cond b (leaves (Ok (line_to (length (line s ts p.0)) e)) (sets d 0 (line s ts p.0))) (leaves (Err (refused_at (fault NoRoom (first_offset s c)) c)) d))
          go true l = read v g p.1 (leb-true (length (line s ts p.0)) (length d) l)
          go false l = no_room v g p.1 (leb-false (length (line s ts p.0)) (length d) l)
      allowed_reading (inr n) = let f = first_fault s c ts e g n in subst (λ (k : ℕ). LineOutcome s c d (Err (refused_at (fault NoReading k) c)) d) f.2 (no_reading v g n f.1)

      -- a reading is the reading
      by-reading : (t : Tree) → Reads operators ts t → (x : Reading ts) → by_reading ts e x ≡ by_line e (line s ts t)
      unfolding by_reading
      by-reading t r (inl p) = ap (λ (u : Tree). by_line e (line s ts u)) (one_tree operators (fair operators operators-admitted) p.1 r)
      by-reading t r (inr n) = absurd (n t r)

      by_none : ((t : Tree) → Reads operators ts t → ⊥) → (x : Reading ts) → by_reading ts e x ≡ leaves (Err (refused_at (fault NoReading (latest_from start 0 0 ts)) c)) d
      unfolding by_reading
      by_none n (inl p) = absurd (n p.0 p.1)
      by_none n (inr m) = refl

      by_whole : line_by ≡ by_reading ts e (reading ts)
      unfolding line_by by_tokens
      by_whole = cc

    allowed_tokens : (x : Gathered) → clause_tokens s c ≡ x → Allowed (by_tokens x)
    unfolding by_tokens
    allowed_tokens (stopped w) g = token v g
    allowed_tokens too_many g = no_mark v g
    allowed_tokens (whole ts e) g = allowed_reading ts e g (reading ts)

  allowed_one : Allowed line_by
  unfolding line_by
  allowed_one = go (valid (length s) c) refl
    where
      go : (b : Bool) → valid (length s) c ≡ b → Allowed (cond b (by_tokens (clause_tokens s c)) (leaves (Err (refused_at not_valid c)) d))
      go true v = allowed_tokens v (clause_tokens s c) refl
      go false v = invalid v

  one_of : (x : Left) → Allowed x → (r : LineAnswer) × (d' : List ℕ) × LineOutcome s c d r d'
  one_of (leaves r d') o = (r, d', o)

  -- there is one
  pub some-line : (r : LineAnswer) × (d' : List ℕ) × LineOutcome s c d r d'
  some-line = one_of line_by allowed_one

  only : {r : LineAnswer} {d' : List ℕ} → LineOutcome s c d r d' → leaves r d' ≡ line_by
  unfolding line_by by_tokens by_line
  only (invalid v) = cc
  only (token v g) = cc
  only (no_mark v g) = cc
  only (no_reading {ts} {e} {f} v g n h) =
      let k = first_fault s c ts e g n in
      let w : f ≡ k.0 = one-fault operators ts f k.0 h k.1 in
      cc (by_whole v ts e g, by_none v ts e g n (reading ts), k.2)
  only (no_room {ts} {e} {t} v g r l) = cc (by_whole v ts e g, by-reading v ts e g t r (reading ts), lt-leb (length (line s ts t)) (length d) l)
  only (read {ts} {e} {t} v g r l) = cc (by_whole v ts e g, by-reading v ts e g t r (reading ts), le-leb (length (line s ts t)) (length d) l)

  -- two permitted outcomes coincide
  pub one_line : {r r' : LineAnswer} {x x' : List ℕ} → LineOutcome s c d r x → LineOutcome s c d r' x' → (r ≡ r') × (x ≡ x')
  one_line a b = let p = only a in let q = only b in (cc, cc)
