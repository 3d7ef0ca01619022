-- What holds of this crate: a reader that is put down is read back as it was, numbers that no reader has are refused by 8, and whatever a feeding is given,
-- one number returned and one content of all that is lent are permitted. Assumes nothing.
use Prim.Native.Nat.{ℕ, ◌<◌}
use mathlib.Core.Path.{◌≡◌, refl, sym, ◌∙◌}
use mathlib.Core.Bool.{true, false}
use mathlib.Core.List.{List, [], ◌∷◌}
use lib.Dec.{ltb}
use lib.ListN.{set}
use borrow.Author.Tests.{ltb-true}
use Rattle.lexer.specs.Refusal.{number_of}
use Rattle.lexer.specs.declared.refusal.Refusal.{Refusal}
use Rattle.lexer.specs.declared.refusal.Refusal.TheVariants.{EndOfText, UnclosedComment, NoToken, BadQuoted, ForeignByte, SetAside, OutOfLimit, NotValid, NoRoom, TooManyTokens, NoReading, NoText, TooLong, NoPack, TokenTooLong, UnknownVersion}
use Rattle.chunks.specs.Feed.{Leaves, leaves, feeding, by_phase}
use Rattle.chunks.specs.declared.layout.Mode.{Mode}
use Rattle.chunks.specs.declared.layout.Mode.TheVariants.{Blank, Line, Inside}
use Rattle.chunks.specs.declared.delivery.Fed.{Fed}
use Rattle.chunks.specs.declared.delivery.Phase.{Phase}
use Rattle.chunks.specs.declared.delivery.Reader.{Reader}
use Rattle.fields.specs.Fields.{Outcome, leaves as returned}
use Rattle.ffi_chunks.specs.State.{mode_number, slash_of, phase_number, refusal_of_phase, refused_at, fields_of, known_mode, known_refusal, known_phase, mode_of, refusal_of, phase_of, known, meant, reader_of, more_number, given_leaves, left, feeding_leaves}

-- ---- back and forth, number by number
record Named (x : Refusal) : Type 0 where
  some : known_refusal (number_of x) ≡ true
  same : refusal_of (number_of x) ≡ x
  below : ltb (number_of x) more_number ≡ true

named : (x : Refusal) → Named x
unfolding known_refusal refusal_of
named EndOfText = record { some = refl; same = refl; below = refl }
named UnclosedComment = record { some = refl; same = refl; below = refl }
named NoToken = record { some = refl; same = refl; below = refl }
named BadQuoted = record { some = refl; same = refl; below = refl }
named ForeignByte = record { some = refl; same = refl; below = refl }
named SetAside = record { some = refl; same = refl; below = refl }
named OutOfLimit = record { some = refl; same = refl; below = refl }
named NotValid = record { some = refl; same = refl; below = refl }
named NoRoom = record { some = refl; same = refl; below = refl }
named TooManyTokens = record { some = refl; same = refl; below = refl }
named NoReading = record { some = refl; same = refl; below = refl }
named NoText = record { some = refl; same = refl; below = refl }
named TooLong = record { some = refl; same = refl; below = refl }
named NoPack = record { some = refl; same = refl; below = refl }
named TokenTooLong = record { some = refl; same = refl; below = refl }
named UnknownVersion = record { some = refl; same = refl; below = refl }

record ModeBack (m : Mode) : Type 0 where
  some : known_mode (mode_number m) (slash_of m) ≡ true
  same : mode_of (mode_number m) (slash_of m) ≡ m

mode_back : (m : Mode) → ModeBack m
unfolding known_mode mode_of
mode_back Blank = record { some = refl; same = refl }
mode_back Line = record { some = refl; same = refl }
mode_back (Inside s) = record { some = refl; same = refl }

record PhaseBack (p : Phase) : Type 0 where
  some : known_phase (phase_number p) (refusal_of_phase p) (refused_at p) ≡ true
  same : phase_of (phase_number p) (refusal_of_phase p) (refused_at p) ≡ p

phase_back : (p : Phase) → PhaseBack p
unfolding known_phase phase_of
phase_back Phase.Open = record { some = refl; same = refl }
phase_back Phase.Ended = record { some = refl; same = refl }
phase_back (Phase.Refused w) = record { some = (named w.refusal).some; same = rw (named w.refusal).same }

-- ---- a reader that is put down is read back as it was
known-back : (r : Reader) (k : ℕ) → known (fields_of r k) ≡ true
unfolding known
known-back r k = cc ((mode_back r.mode).some, (phase_back r.phase).some)

with-parts : Reader → Mode → Phase → Reader
with-parts r m p = record { mode = m; cursor = r.cursor; layout = r.layout; from = r.from; to = r.to; phase = p }

put_together : (r : Reader) (m : Mode) (p : Phase) → m ≡ r.mode → p ≡ r.phase → with-parts r m p ≡ with-parts r r.mode r.phase
put_together r m p e f = cc

meant-back : (r : Reader) (k : ℕ) → meant (fields_of r k) ≡ r
unfolding with-parts
meant-back r k = put_together r _ _ (mode_back r.mode).same (phase_back r.phase).same

as-meant : (d : List ℕ) → known d ≡ true → reader_of d ≡ meant d
unfolding reader_of
as-meant d h = rw h

pub reader_back : (r : Reader) (k : ℕ) → reader_of (fields_of r k) ≡ r
reader_back r k = as-meant (fields_of r k) (known-back r k) ∙ meant-back r k

-- so it goes from call to call: the numbers that a feeding leaves are those of the reader that it gives
pub reader_kept : (x : Fed) (w d n v : List ℕ) (o : Outcome) → left o n v ≡ feeding_leaves (leaves x w) d → reader_of n ≡ x.reader
unfolding feeding_leaves
reader_kept x w d n v o e =
    let same : n ≡ fields_of x.reader x.taken = cc in
    rw same (reader_back x.reader x.taken)

-- ---- what is returned where nothing is certain yet is the number of no refusal
pub refusal_below_more : (x : Refusal) → number_of x < more_number
refusal_below_more x = ltb-true (number_of x) more_number (named x).below

-- ---- numbers that no reader has: 8 at 0, the window stays, and the reader that is left repeats it
pub made_up-refused : (f w chunk d : List ℕ) → known f ≡ false → feeding_leaves (feeding (reader_of f) w chunk) d ≡ left (returned 8 (set d 3 0)) (0 ∷ 0 ∷ 0 ∷ 0 ∷ 0 ∷ 0 ∷ 1 ∷ 0 ∷ 2 ∷ 8 ∷ 0 ∷ 0 ∷ []) w
unfolding reader_of by_phase feeding_leaves given_leaves
made_up-refused f w chunk d h = rw h

-- ---- one number that is returned, and one content of the token, of the reader's numbers and of the window
pub feeding_coincides : (x : Leaves) (d e e' n n' w w' : List ℕ) (r r' : ℕ) → left (returned r e) n w ≡ feeding_leaves x d → left (returned r' e') n' w' ≡ feeding_leaves x d → (r ≡ r') × (e ≡ e') × (n ≡ n') × (w ≡ w')
feeding_coincides x d e e' n n' w w' r r' p q =
    let same = p ∙ sym q in
    (cc, cc, cc, cc)
