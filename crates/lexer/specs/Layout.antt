-- Layout text: ISO 6.4.1. Each rule takes the text and an offset, and says where it ends or why it is refused. Definitions only.
use Rattle.std.specs.Prelude.{ℕ, ◌+◌, ◌≡◌, Bool, true, false, cond, ◌&&◌, List, [], ◌∷◌, eqb, length, drop, Result, Option}
use Rattle.lexer.specs.Chars.{is, layout_char, foreign_byte, newline, percent, star, slash}
use Rattle.lexer.specs.Refusal.{fault}
use Rattle.lexer.specs.Look.{lookahead}
use Rattle.lexer.specs.Cursor.{move_to, Valid}
use Rattle.lexer.specs.Items.{Turn, stop, on, same, items}
use Rattle.lexer.specs.declared.refusal.Refusal.TheVariants.{EndOfText, UnclosedComment, ForeignByte}
use Rattle.lexer.specs.Look.{Look}
use Rattle.std.specs.declared.result.Result.TheVariants.{Ok, Err}
use Rattle.lexer.specs.declared.cursor.Cursor.{Cursor}
use Rattle.lexer.specs.Cursor.{Moved}
use Rattle.lexer.specs.Cursor.{Scan}
use Rattle.lexer.specs.declared.refusal.Fault.{Fault}
use Rattle.std.specs.declared.option.Option.TheVariants.{Some, None}

-- the first list stands at the front of the second
abbrev pub begins_with : List ℕ → List ℕ → Bool
begins_with [] ys = true
begins_with (x ∷ xs) [] = false
begins_with (x ∷ xs) (y ∷ ys) = eqb y x && begins_with xs ys

-- behind the first mark from `at` on, where the last list is left of the text; a foreign byte before it is refusal 5; `none` where there is no mark
unfoldable pub past : List ℕ → (ℕ → Scan) → ℕ → List ℕ → Scan
past mark none at [] = none at
past mark none at (x ∷ xs) =
    cond (is foreign_byte x) (Err (fault ForeignByte at))
    (cond (begins_with mark (x ∷ xs)) (Ok (at + length mark)) (past mark none (at + 1) xs))

-- 6.4.1: a single line comment, whose text starts at `at`, ends behind its newline. -- departs: or with the text
abbrev pub single_line_comment : List ℕ → ℕ → Scan
single_line_comment s at = past (newline ∷ []) Ok at (drop at s)

-- 01, refusal 2: the comment whose slash is at o is unclosed
abbrev pub unclosed : ℕ → ℕ → Scan
unclosed o at = Err (fault UnclosedComment o)

-- 01: after `/*` the comment ends behind the first star that a slash follows
abbrev pub comment_text : List ℕ → ℕ → Scan
comment_text s o = past (star ∷ slash ∷ []) (unclosed o) (o + 2) (drop (o + 2) s)

-- its text needs a character
unfoldable pub comment_opened : List ℕ → ℕ → Look → Scan
comment_opened s o (Err w) = Err w
comment_opened s o (Ok x) = comment_text s o

-- 6.4.1: a bracketed comment, whose slash is at o
abbrev pub bracketed_comment : List ℕ → ℕ → Scan
bracketed_comment s o = comment_opened s o (lookahead s (o + 2))

-- a slash that a star follows opens a comment; another is no layout
unfoldable pub slashed : List ℕ → ℕ → Look → Scan
slashed s at (Err w) = Err w
slashed s at (Ok x) = cond (eqb x star) (bracketed_comment s at) (Ok at)

unfoldable pub layout_text_of : List ℕ → ℕ → Look → Scan
layout_text_of s at (Err w) = Err w
layout_text_of s at (Ok x) =
    cond (is layout_char x) (Ok (at + 1))
    (cond (eqb x percent) (single_line_comment s (at + 1))
    (cond (eqb x slash) (slashed s at (lookahead s (at + 1)))
    (Ok at)))

-- 6.4.1: a layout text at an offset, a layout character or a comment; where none stands there, it ends where it starts
abbrev pub layout_text : List ℕ → ℕ → Scan
layout_text s at = layout_text_of s at (lookahead s at)

-- an empty layout text ends the sequence, another leads on to the next
unfoldable pub layout_turn : ℕ → Scan → Turn Scan
layout_turn at (Ok e) = cond (eqb e at) (stop (Ok at)) (on e same)
layout_turn at (Err w) = stop (Err w)

abbrev pub layout_texts : List ℕ → ℕ → Turn Scan
layout_texts s at = layout_turn at (layout_text s at)

abbrev pub ended : ℕ → Scan
ended at = Err (fault EndOfText at)

-- 6.4.1: where the layout text sequence that starts at `at` ends
abbrev pub layout_end : List ℕ → ℕ → Scan
layout_end s at = items (layout_texts s) ended 0 at (drop at s)

-- ---- from a cursor, which moves along
unfoldable pub moved : List ℕ → Cursor → Scan → Moved
moved s c (Ok e) = Ok (move_to s c e)
moved s c (Err w) = Err w

-- what stands at a cursor: layout, up to the cursor behind it, or none; or why it is refused
abbrev pub Layout : Type 0
Layout = Result (Option Cursor) Fault

-- what stands at the cursor, by where it ends: a layout text that ends where it starts is none
unfoldable pub stepped : List ℕ → Cursor → Scan → Layout
stepped s c (Ok e) = cond (eqb e c.offset) (Ok None) (Ok (Some (move_to s c e)))
stepped s c (Err w) = Err w

-- the same of a comment, which ends behind where it starts
abbrev pub layout_to : Moved → Layout
layout_to (Ok c) = Ok (Some c)
layout_to (Err w) = Err w

-- what the private functions ask: a valid cursor at a slash that a star follows
pub record Opening (s : List ℕ) (c : Cursor) : Type 0 where
  pub valid : Valid (length s) c
  pub slash_there : lookahead s c.offset ≡ Ok slash
  pub star_there : lookahead s (c.offset + 1) ≡ Ok star

-- a valid cursor at a slash
pub record Slash (s : List ℕ) (c : Cursor) : Type 0 where
  pub valid : Valid (length s) c
  pub slash_there : lookahead s c.offset ≡ Ok slash

-- a valid cursor behind the opening mark whose slash is at o
pub record Inside (n o : ℕ) (c : Cursor) : Type 0 where
  pub valid : Valid n c
  pub behind : c.offset ≡ o + 2
