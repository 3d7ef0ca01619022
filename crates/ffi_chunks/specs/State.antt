-- The C interface of the reader that is fed chunks: a reader as the twelve numbers of `struct thrinvage_reader`, what these numbers mean, and what a
-- feeding leaves. Definitions only.
use Rattle.std.specs.Prelude.{ℕ, Bool, true, cond, ◌&&◌, List, [], ◌∷◌, eqb, ltb, get_or, Some, None, Ok, Err}
use Rattle.lexer.specs.Cursor.{start_cursor}
use Rattle.lexer.specs.Refusal.{number_of, fault}
use Rattle.lexer.specs.declared.refusal.Refusal.{Refusal}
use Rattle.lexer.specs.declared.refusal.Refusal.TheVariants.{EndOfText, UnclosedComment, NoToken, BadQuoted, ForeignByte, SetAside, OutOfLimit, NotValid, NoRoom, TooManyTokens, NoReading, NoText, TooLong, NoPack, TokenTooLong, UnknownVersion}
use Rattle.chunks.specs.Feed.{Leaves, leaves}
use Rattle.chunks.specs.declared.layout.Mode.{Mode}
use Rattle.chunks.specs.declared.layout.Mode.TheVariants.{Blank, Line, Inside}
use Rattle.chunks.specs.declared.delivery.Reader.{Reader}
use Rattle.chunks.specs.declared.delivery.Phase.{Phase}
use Rattle.chunks.specs.Given.{Given}
use Rattle.fields.specs.Fields.{Outcome, leaves as returned, refused_fields, answer_leaves, cursor_at}
use Rattle.std.specs.declared.result.Result.TheVariants.{Ok}

-- ---- a reader's numbers

abbrev pub mode_number : Mode → ℕ
mode_number Blank = 0
mode_number Line = 1
mode_number (Inside s) = 2

abbrev pub slash_of : Mode → ℕ
slash_of Blank = 0
slash_of Line = 0
slash_of (Inside s) = s

abbrev pub phase_number : Phase → ℕ
phase_number Phase.Open = 0
phase_number Phase.Ended = 1
phase_number (Phase.Refused w) = 2

abbrev pub refusal_of_phase : Phase → ℕ
refusal_of_phase Phase.Open = 0
refusal_of_phase Phase.Ended = 0
refusal_of_phase (Phase.Refused w) = number_of w.refusal

abbrev pub refused_at : Phase → ℕ
refused_at Phase.Open = 0
refused_at Phase.Ended = 0
refused_at (Phase.Refused w) = w.offset

-- struct thrinvage_reader, field by field: k bytes of the last chunk were taken
abbrev pub fields_of : Reader → ℕ → List ℕ
fields_of r k =
    mode_number r.mode ∷ slash_of r.mode ∷
    r.cursor.offset ∷ r.cursor.line ∷ r.cursor.column ∷
    r.layout ∷ r.from ∷ r.to ∷
    phase_number r.phase ∷ refusal_of_phase r.phase ∷ refused_at r.phase ∷
    k ∷ []

-- ---- and back

-- numbers that a reader can have: the slash stands in mode 2 alone, the refusal and its offset in phase 2 alone
unfoldable pub known_mode : ℕ → ℕ → Bool
known_mode mode slash = cond (eqb mode 2) true (ltb mode 2 && eqb slash 0)

unfoldable pub known_refusal : ℕ → Bool
known_refusal n = cond (eqb n 18) true (ltb 0 n && ltb n 16)

unfoldable pub known_phase : ℕ → ℕ → ℕ → Bool
known_phase phase refusal at = cond (eqb phase 2) (known_refusal refusal) (ltb phase 2 && eqb refusal 0 && eqb at 0)

-- what they mean
unfoldable pub mode_of : ℕ → ℕ → Mode
mode_of mode slash = cond (eqb mode 0) Blank (cond (eqb mode 1) Line (Inside slash))

unfoldable pub refusal_of : ℕ → Refusal
refusal_of n =
    cond (eqb n 1) EndOfText
    (cond (eqb n 2) UnclosedComment
    (cond (eqb n 3) NoToken
    (cond (eqb n 4) BadQuoted
    (cond (eqb n 5) ForeignByte
    (cond (eqb n 6) SetAside
    (cond (eqb n 7) OutOfLimit
    (cond (eqb n 8) NotValid
    (cond (eqb n 9) NoRoom
    (cond (eqb n 10) TooManyTokens
    (cond (eqb n 11) NoReading
    (cond (eqb n 12) NoText
    (cond (eqb n 13) TooLong
    (cond (eqb n 14) NoPack
    (cond (eqb n 15) TokenTooLong
    UnknownVersion))))))))))))))

unfoldable pub phase_of : ℕ → ℕ → ℕ → Phase
phase_of phase refusal at = cond (eqb phase 0) Phase.Open (cond (eqb phase 1) Phase.Ended (Phase.Refused (fault (refusal_of refusal) at)))

abbrev pub field : List ℕ → ℕ → ℕ
field d i = get_or d i 0

unfoldable pub known : List ℕ → Bool
known d = known_mode (field d 0) (field d 1) && known_phase (field d 8) (field d 9) (field d 10)

abbrev pub meant : List ℕ → Reader
meant d =
    record {
      mode = mode_of (field d 0) (field d 1);
      cursor = cursor_at (field d 2) (field d 3) (field d 4);
      layout = field d 5;
      from = field d 6;
      to = field d 7;
      phase = phase_of (field d 8) (field d 9) (field d 10);
    }

-- in place of numbers that no reader has: a reader that is not sound, so that it is refused by 8
abbrev pub made_up : Reader
made_up = record { mode = Blank; cursor = start_cursor; layout = 0; from = 1; to = 0; phase = Phase.Open }

-- the twelfth number is not read
unfoldable pub reader_of : List ℕ → Reader
reader_of d = cond (known d) (meant d) made_up

-- ---- what a feeding leaves

-- the number that is returned where nothing is certain yet
abbrev pub more_number : ℕ
more_number = 256

-- the number that is returned, and the token's fields
unfoldable pub given_leaves : Given → List ℕ → Outcome
given_leaves (Ok (Some r)) d = answer_leaves (Ok r) d
given_leaves (Ok None) d = returned more_number d
given_leaves (Err w) d = refused_fields w d

-- what is returned with the token's fields, the reader's numbers, and the window
pub data Feeding : Type 0 where
  left : Outcome → List ℕ → List ℕ → Feeding

unfoldable pub feeding_leaves : Leaves → List ℕ → Feeding
feeding_leaves (leaves f w) d = left (given_leaves f.given d) (fields_of f.reader f.taken) w
