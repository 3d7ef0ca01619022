-- What holds of this crate, in a reader's order: statements, each with the proof that it cites. The calls' contracts, in `src/`, say that each call answers
-- as its definition in `specs/` does; this page says what the definitions come to. Assumes nothing.
use mathlib.Core.Path.{◌≡◌, sym, ◌∙◌, ap}
use mathlib.Core.Logic.{◌⊎◌}
use mathlib.Core.Bool.{Bool, true, false, true≢false}
use mathlib.Core.List.{List, [], ◌∷◌, map}
use Prim.Native.Nat.{ℕ, ◌+◌, ◌-◌, ◌<◌, ◌≤◌}
use lib.Dec.{eqb}
use lib.Ieee.{Float}
use lib.ListN.{length, get_or}
use denote.Ref.{Bor}
use Rattle.lexer.specs.Chars.{is, decimal_digit, foreign_byte, carriage_return, single_quote, comma}
use Rattle.lexer.specs.Cursor.{longest, start_cursor, walk, part, move_to, valid, Valid}
use Rattle.lexer.specs.Digits.{largest_magnitude}
use Rattle.lexer.specs.Float.{Limits, Scale, scale, over, under, float_value}
use Rattle.lexer.specs.Layout.{comment_text, layout_end, moved}
use Rattle.lexer.specs.LayoutCall.{next_layout, LayoutAnswer}
use Rattle.lexer.specs.Look.{peek, lookahead}
use Rattle.lexer.specs.Nearest.{Nearest}
use Rattle.lexer.specs.Number.{number_token}
use Rattle.lexer.specs.Quoted.{escape, quoted_item, Quoted, decode}
use Rattle.lexer.specs.Refusal.{number_of, fault, refuse}
use Rattle.lexer.specs.Text.{leaves, next_token_text, seen, shown, counts, counted_text, quoted_text, TextAnswer, QuotedAnswer, text_read}
use Rattle.lexer.specs.Token.{end_token, valued, numbered, Text, source, decoded, lexeme, refused, is_comma, plain_lexeme, lexeme_since, read_lexeme, answered, next_token, token_read, Answer}
use Rattle.lexer.specs.declared.refusal.Fault.{Fault}
use Rattle.lexer.specs.declared.refusal.Refusal.{Refusal}
use Rattle.lexer.specs.declared.refusal.Refusal.TheVariants.{EndOfText, UnclosedComment, BadQuoted, ForeignByte}
use Rattle.std.specs.declared.result.Result.TheVariants.{Ok, Err}
use Rattle.lexer.specs.declared.chars.Peek.{Peek}
use Rattle.lexer.specs.declared.cursor.Cursor.{Cursor}
use Rattle.std.specs.declared.option.Option.TheVariants.{Some}
use Rattle.lexer.specs.declared.kind.Kind.TheVariants.{Name, End}
use Rattle.lexer.specs.declared.kind.Value.TheVariants.{Integer, Nothing}
use Rattle.lexer.specs.declared.layout_call.LayoutKind.{LayoutKind}
use Rattle.lexer.specs.declared.number.Numeral.{Numeral}
use Rattle.lexer.specs.declared.number.NumberToken.{NumberToken}
use Rattle.lexer.specs.declared.text.Part.{Part}
use Rattle.lexer.specs.declared.token.Token.{Token}
use Rattle.lexer.specs.declared.token.Source.{Source}
use Rattle.lexer.specs.declared.token.Source.TheVariants.{File, Field}
use Rattle.lexer.proofs.Calls.{start_passes, Promised, read_promises, refused-here}
use Rattle.lexer.proofs.Commas.{commas}
use Rattle.lexer.proofs.Cursors as Cursors
use Rattle.lexer.proofs.Faults.{Placed, refusal_placed, placed-inside}
use Rattle.lexer.proofs.FirstMark.{Clear, First, first_mark, mark_first, clear_end, clear_foreign}
use Rattle.lexer.proofs.Integers.{within_limit}
pub use Rattle.lexer.proofs.LayoutCalls.{Is, BlanksTo, LineTo, BracketedTo, LayoutPromised, LayoutAbsent, LayoutRefused, LaidOut, LaidBefore}
use Rattle.lexer.proofs.LayoutCalls.{layout_says, laid_out, laid_before}
use Rattle.lexer.proofs.Promises.{LexemeEnds, lexeme_ends}
use Rattle.lexer.proofs.Refusals.{all, numbers, number_once}
use Rattle.lexer.proofs.OwnBytes.{own-bytes}
pub use Rattle.lexer.proofs.Returns.{blank, blanked}
use Rattle.lexer.proofs.Returns.{or_four, lexeme_same, answer-alike, move_same, mark_before, raw_return, escaped_return, no_return}
pub use Rattle.lexer.proofs.Sources.{stops, StartsWith}
use Rattle.lexer.proofs.Sources.{starts_once, sources_alike, source_reaches}
use Rattle.lexer.proofs.Specimens as Specimens
use Rattle.lexer.proofs.Specimens.{table, specimens, layouts}
pub use Rattle.lexer.proofs.Spellings.{NameText, quoted, unquoted}
use Rattle.lexer.proofs.Spellings.{name_text}
use Rattle.lexer.proofs.Parts as Parts
use Rattle.lexer.proofs.Steps as Steps
use Rattle.lexer.proofs.TextCalls.{Told, text-told, nothing_left, quote_decodes}
use Rattle.lexer.proofs.Texts.{decoded_at}
use Rattle.lexer.proofs.float.Values.{Exact, value_says, says_value, scale_exact}
use Rattle.lexer.specs.Name.{whole_token}
use Rattle.lexer.specs.declared.layout_call.LayoutRead.{LayoutRead}

-- ---- 01: "two permitted outcomes coincide"

-- of a call whose contract is `answer ≡ definition`
pub coincide : {A : Type 0} (definition a b : A) → a ≡ definition → b ≡ definition → a ≡ b
coincide definition a b p q = p ∙ sym q

module _ (s : List ℕ) (c : Cursor) where
  -- the token call, of a file and of a field
  pub token_coincides : (origin : Source) (a b : Answer) → a ≡ next_token origin s c → b ≡ next_token origin s c → a ≡ b
  token_coincides origin = coincide (next_token origin s c)

  -- the layout call
  pub layout_coincides : (a b : LayoutAnswer) → a ≡ next_layout s c → b ≡ next_layout s c → a ≡ b
  layout_coincides = coincide (next_layout s c)

  -- the text call: its answer, and what it leaves in the scratch d
  pub text_coincides : (d : List ℕ) (a b : TextAnswer) (x y : List ℕ) → leaves a x ≡ next_token_text s c d → leaves b y ≡ next_token_text s c d → (a ≡ b) × (x ≡ y)
  text_coincides d a b x y p q = let e = coincide (next_token_text s c d) (leaves a x) (leaves b y) p q in (cc, cc)

-- the quoted-text call: its answer, and what it leaves in the scratch d
pub quoted_coincides : (s : List ℕ) (at : ℕ) (d : List ℕ) (a b : QuotedAnswer) (x y : List ℕ) → counts a x ≡ quoted_text s at d → counts b y ≡ quoted_text s at d → (a ≡ b) × (x ≡ y)
quoted_coincides s at d a b x y p q = let e = coincide (quoted_text s at d) (counts a x) (counts b y) p q in (cc, cc)

-- the show call: where the part lies, and its bytes
pub show_coincides : (s d : Bor (List ℕ)) (p : Part) (a b : Bor (List ℕ)) → seen a ≡ shown s d p → seen b ≡ shown s d p → (a.ref_ptr ≡ b.ref_ptr) × (a.now ≡ b.now)
show_coincides s d p a b f g = let e = coincide (shown s d p) (seen a) (seen b) f g in (ap (λ x. x.0) e, ap (λ x. x.1) e)

-- a refusal's number
pub refusal_coincides : (r : Refusal) (a b : ℕ) → a ≡ number_of r → b ≡ number_of r → a ≡ b
refusal_coincides r = coincide (number_of r)

-- the test of a cursor
pub valid_coincides : (n : ℕ) (c : Cursor) (a b : Bool) → a ≡ valid n c → b ≡ valid n c → a ≡ b
valid_coincides n c = coincide (valid n c)

-- the start is a valid cursor of every text that is not too long
pub start-valid : (n : ℕ) → n ≤ longest → valid n start_cursor ≡ true
start-valid = start_passes

-- ---- answers that are equal have equal parts
pub read_parts : {t u : Token} {c d : Cursor} → token_read t c ≡ token_read u d → (t ≡ u) × (c ≡ d)
read_parts = Parts.read_parts

pub refuse_parts : {T : Type 0} {w v : Fault} {c d : Cursor} → refuse {T = T} w c ≡ refuse {T = T} v d → (w ≡ v) × (c ≡ d)
refuse_parts = Parts.refuse_parts

-- ---- what an answer promises whoever reads on from it
module _ (s : List ℕ) (c : Cursor) where
  -- the text is not too long and the cursor is valid; the token starts at or after the cursor and ends behind its start, within the text, where the new
  -- cursor stands, which is valid and further on
  pub token_promises : (origin : Source) (t : Token) (next : Cursor) → next_token origin s c ≡ token_read t next → Promised s c t next
  token_promises origin = read_promises origin s c

  -- 02, request 8: "from a valid cursor that offset is the cursor's"
  pub token-layout : (origin : Source) (t : Token) (next : Cursor) → next_token origin s c ≡ token_read t next → t.layout ≡ c.offset
  token-layout origin t next f = (token_promises origin t next f).layout

  -- line and column behind a token are those of the bytes walked over from the cursor
  pub token_walks : (origin : Source) (t : Token) (next : Cursor) → next_token origin s c ≡ token_read t next → next ≡ walk c (part c.offset next.offset s)
  token_walks origin t next f = (token_promises origin t next f).walked

  -- the text call reads what the token call reads in a file, the show call hands its text back, and no more of the scratch than that is written
  pub text_promises : (d : List ℕ) (t : Token) (next : Cursor) (p : Part) (x : List ℕ) → next_token_text s c d ≡ leaves (text_read t next p) x → Told s c d t next p x
  text_promises = text-told s c

  -- 01: "a refusal returns the caller's cursor"; it leaves the scratch as it was
  pub token-refused : (origin : Source) (w : Fault) (back : Cursor) → next_token origin s c ≡ refuse w back → back ≡ c
  token-refused origin = refused-here origin s c

  pub text-refused : (d : List ℕ) (w : Fault) (back : Cursor) (x : List ℕ) → next_token_text s c d ≡ leaves (refuse w back) x → (back ≡ c) × (x ≡ d)
  text-refused = nothing_left s c

-- ---- 02, request 7: "one call, told whether the text is a file or a field"
module _ (s : List ℕ) (c : Cursor) where
  -- where no digit starts, the two sources answer alike
  pub field_elsewhere : ((at x : ℕ) → StartsWith s c at x → is decimal_digit x ≡ false) → next_token Field s c ≡ next_token File s c
  field_elsewhere h = sources_alike s c (λ at x l d. absurd (true≢false (sym d ∙ h at x l)))

  module _ (at x : ℕ) (l : StartsWith s c at x) where
    -- where one starts, too, if the number does not reach the end of the text: it is whole, or refused
    pub field_digit : stops (number_token s at) ≡ true → next_token Field s c ≡ next_token File s c
    field_digit h = sources_alike s c (λ at' y k d. rw (starts_once s c at' y at x k l) h)

    -- if it does, a file is refused there, and a field has the number
    module _ (d : is decimal_digit x ≡ true) (n : Numeral) (e : ℕ) (f : number_token s at ≡ Ok (NumberToken.Partial n e)) (v : valid (length s) c ≡ true) where
      pub file_ends : next_token File s c ≡ refuse (fault EndOfText e) c
      unfolding numbered plain_lexeme lexeme_since answered
      file_ends = cc (v, source_reaches s c File at x l d n e f)

      pub field_ends : next_token Field s c ≡ answered s c (lexeme_since c.offset (plain_lexeme at (valued at e n)))
      unfolding numbered
      field_ends = cc (v, source_reaches s c Field at x l d n e f)

-- ---- 02, request 8: an editor "colours layout and comments too and must not work them out for itself"
module _ (s : List ℕ) (c : Cursor) where
  -- a layout text that the layout call gives is, to its last byte, what 6.4.1 calls so (`Is`); it begins at the cursor and is not empty, the new cursor stands
  -- behind it and is valid, and from there layout goes on to where it goes from here
  pub layout_promises : (k : LayoutKind) (a : ℕ) (next : Cursor) → next_layout s c ≡ Ok (LayoutRead.Text k a next) → LayoutPromised s c k a next
  layout_promises k a next f = rw f at (layout_says s c)

  -- where it gives none, layout ends at the cursor
  pub layout_absent : (back : Cursor) → next_layout s c ≡ Ok (LayoutRead.Absent back) → LayoutAbsent s c back
  layout_absent back f = rw f at (layout_says s c)

  -- where it is refused, so is the token call, by the same number at the same offset, and the caller's cursor comes back
  pub layout-refused : (w : Fault) (back : Cursor) → next_layout s c ≡ refuse w back → LayoutRefused s c w back
  layout-refused w back f = rw f at (layout_says s c)

  -- text after text it comes from every valid cursor to where 6.4.1's sequence of layout texts ends, or to its refusal
  pub layout-laid_out : valid (length s) c ≡ true → LaidOut s c (moved s c (layout_end s c.offset))
  layout-laid_out = laid_out s c

  -- before a token: from the cursor, which is where the layout before it began (`token-layout`), to where the token starts
  pub token-laid_out : (origin : Source) (t : Token) (next : Cursor) → next_token origin s c ≡ token_read t next → LaidBefore s c t
  token-laid_out = laid_before s c

-- ---- what the clause reader relies on, besides `token_promises`

-- what was read from an offset on, in a file or a field: the token t, which ends at e
module _ (origin : Source) (s : List ℕ) (from : ℕ) (t : Token) (e : ℕ) where
  -- it starts at or after the offset, and ends behind its start, within the text
  pub lexeme_bounds : (x : Text) → from ≤ length s → read_lexeme origin s from ≡ lexeme t e x → LexemeEnds s from t e
  lexeme_bounds = lexeme_ends origin s from t e

  -- it is the Comma exactly if a comma stands where it starts
  pub comma_starts : (x : Text) → read_lexeme origin s from ≡ lexeme t e x → is_comma t.kind ≡ eqb (get_or s t.start 0) comma
  comma_starts = commas origin s from t e

  -- 02, request 4: its value, where it is an integer, is at most the magnitude of the lowest integer
  pub integer_within : (x : Text) → read_lexeme origin s from ≡ lexeme t e x → (n : ℕ) → t.value ≡ Integer n → n ≤ largest_magnitude
  integer_within = within_limit origin s from t e

  -- a name is quoted, and its text decoded, exactly if a single quote stands where it starts; the text of another name is its own bytes
  pub name_spelt : (x : Text) → read_lexeme origin s from ≡ lexeme t e x → t.kind ≡ Name → NameText (get_or s t.start 0) x
  name_spelt = name_text s origin from t e

  -- a decoded text is what the quoted item behind the token's first byte, its quote, stands for
  pub decoded_spelt : (bs : List ℕ) → read_lexeme origin s from ≡ lexeme t e (decoded bs) → decode (get_or s t.start 0) t.start s (t.start + 1) ≡ Quoted.whole bs e
  decoded_spelt bs f = (decoded_at s origin from t e bs f).reads

-- where a single quote stands, the quoted-text call decodes the item behind it
pub quoted_decoded : (s : List ℕ) (at : ℕ) → length s ≤ longest → at < length s → get_or s at 0 ≡ single_quote → (d : List ℕ) → quoted_text s at d ≡ counted_text at d (decode single_quote at s (at + 1))
quoted_decoded = quote_decodes

-- what the test of a cursor tells
pub is-valid : (n : ℕ) (c : Cursor) → valid n c ≡ true → Valid n c
is-valid = Cursors.is-valid

-- a cursor that is moved on within the text stands where it was moved to
pub move_offset : (s : List ℕ) (c : Cursor) (e : ℕ) → c.offset ≤ e → e ≤ length s → (move_to s c e).offset ≡ e
move_offset = Cursors.move_offset

-- a part of a text: its first byte and the rest, or nothing
pub part_at : (s : List ℕ) (at to : ℕ) → at < to → to ≤ length s → part at to s ≡ get_or s at 0 ∷ part (at + 1) to s
part_at = Steps.part_at

pub part_none : (s : List ℕ) (at : ℕ) → part at at s ≡ []
part_none = Steps.part_none

-- ---- 01: "the comment ends at the first star that a slash follows; comments do not nest"
module _ (s : List ℕ) (o : ℕ) where
  -- the comment whose slash is at o ends at e: then the first such star behind its opening mark is at e - 2
  pub comment_ends_first : (e : ℕ) → comment_text s o ≡ Ok e → First s (o + 2) (e - 2)
  comment_ends_first = first_mark s o

  -- and the other way round
  pub first_ends_comment : (i : ℕ) → First s (o + 2) i → comment_text s o ≡ Ok (i + 2)
  first_ends_comment = mark_first s o

  -- without such a star it is refusal 2, with a foreign byte before it refusal 5
  pub comment_unclosed : o + 2 ≤ length s → Clear s (o + 2) (length s) → comment_text s o ≡ Err (fault UnclosedComment o)
  comment_unclosed = clear_end s o

  pub comment_foreign : (i : ℕ) → o + 2 ≤ i → i < length s → Clear s (o + 2) i → is foreign_byte (get_or s i 0) ≡ true → comment_text s o ≡ Err (fault ForeignByte i)
  comment_foreign = clear_foreign s o

-- ---- 02, request 1: "byte 13 becomes layout"

-- in a file and in a field a carriage return is as a blank, but in a quoted item it is refusal 4
module _ (origin : Source) (s : List ℕ) where
  -- with a blank for each carriage return the answer is the same, token, value, span, line and column or refusal, unless it is refusal 4
  pub returns_are_blanks : (c : Cursor) → (next_token origin (blanked s) c ≡ next_token origin s c) ⊎ ((o : ℕ) × (next_token origin s c ≡ refuse (fault BadQuoted o) c))
  returns_are_blanks = answer-alike s origin

  -- and so is what is read from an offset on, with its text
  pub returns_read_alike : (from : ℕ) → (read_lexeme origin (blanked s) from ≡ read_lexeme origin s from) ⊎ ((o : ℕ) × (read_lexeme origin s from ≡ refused (fault BadQuoted o)))
  returns_read_alike from = or_four (lexeme_same s origin from)

  -- a text that is the token's own bytes has no carriage return among them
  pub return_in_no_name : (from : ℕ) (t : Token) (e : ℕ) → read_lexeme origin s from ≡ lexeme t e source → part t.start e (blanked s) ≡ part t.start e s
  return_in_no_name = own-bytes s origin

-- a cursor moves over a carriage return as over a blank
pub returns_move_alike : (s : List ℕ) (c : Cursor) (e : ℕ) → move_to (blanked s) c e ≡ move_to s c e
returns_move_alike = move_same

module _ (s : List ℕ) (at : ℕ) where
  -- "a dot before it is an end mark that leaves it unread": the dot at `at`
  pub return_left : peek s (at + 1) ≡ Peek.Byte carriage_return → end_token s at ≡ whole_token End Nothing (at + 1)
  return_left = mark_before s at

  -- "inside a quoted item it gets 4, and after a backslash it is no line continuation"
  pub return_in_quoted : (q token : ℕ) → lookahead s at ≡ Ok carriage_return → quoted_item q token s at ≡ Err (fault BadQuoted token)
  return_in_quoted q token e = raw_return s at token e q

  pub return_continues_nothing : (token : ℕ) → lookahead s at ≡ Ok carriage_return → escape token s at ≡ Err (fault BadQuoted token)
  return_continues_nothing = escaped_return s at

  -- "5 is no longer given for 13"
  pub return_not_5 : (c : Cursor) → Placed s c (fault ForeignByte at) → get_or s at 0 ≡ carriage_return → ⊥
  return_not_5 c = no_return s at (get_or s at 0)

-- ---- 01: "the value is the one double nearest to m times ten to the e, ties to even"

-- a float token with the digits m, f of them its fraction, and the exponent x, or -x after a minus
module _ (m : ℕ) (minus : Bool) (x f : ℕ) where
  abbrev e : Scale
  e = scale minus x f

  -- it has the value v just where m and e are within the limits and v is nearest; no operation on floats is named in `Nearest`
  pub float-is_nearest : (v : Float) → float_value m minus x f ≡ Some v → Limits m e × Nearest v (over m e) (under e)
  float-is_nearest = value_says m e

  pub nearest-is_float : (v : Float) → Limits m e → Nearest v (over m e) (under e) → float_value m minus x f ≡ Some v
  nearest-is_float = says_value m e

  -- over / under is m times ten to the x, or by it after a minus, by ten to the f
  pub float_exact : Exact m x f minus e
  float_exact = scale_exact m x f minus

-- ---- the table of refusals: the numbers 1 to 15 and 18, each once
pub refusals_in_order : map number_of all ≡ 1 ∷ 2 ∷ 3 ∷ 4 ∷ 5 ∷ 6 ∷ 7 ∷ 8 ∷ 9 ∷ 10 ∷ 11 ∷ 12 ∷ 13 ∷ 14 ∷ 15 ∷ 18 ∷ []
refusals_in_order = numbers

pub refusals_apart : (r q : Refusal) → number_of r ≡ number_of q → r ≡ q
refusals_apart = number_once

-- its column "offset": where the token call points, by the refusal
module _ (s : List ℕ) (c : Cursor) where
  pub token_faults : (origin : Source) (w : Fault) (back : Cursor) → next_token origin s c ≡ refuse w back → Placed s c w
  token_faults = refusal_placed s c

  -- that is at most the text's length
  pub fault-inside : (w : Fault) → Placed s c w → w.offset ≤ length s
  fault-inside = placed-inside s c

-- ---- 01: the starred specimens "are proved as a single table"
pub token_specimens : map (λ (r : Answer × Answer). r.0) table ≡ map (λ (r : Answer × Answer). r.1) table
token_specimens = specimens

-- and some of the layout call, March's comment among them
pub layout_specimens : map (λ (r : LayoutAnswer × LayoutAnswer). r.0) layouts ≡ map (λ (r : LayoutAnswer × LayoutAnswer). r.1) layouts
layout_specimens = Specimens.layout_specimens
