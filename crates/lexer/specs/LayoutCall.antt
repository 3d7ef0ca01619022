-- The layout call: 02, request 8, over 6.4.1's layout text. Definitions only.
use Rattle.std.specs.Prelude.{ℕ, ◌≡◌, cond, List, eqb, length, get_or, Result}
use Rattle.lexer.specs.Chars.{is, layout_char, percent}
use Rattle.lexer.specs.Cursor.{move_to, valid, Valid}
use Rattle.lexer.specs.Layout.{layout_text, stepped}
use Rattle.lexer.specs.Stretch.{run_of}
use Rattle.lexer.specs.Token.{not_valid}
use Rattle.lexer.specs.declared.cursor.Cursor.{Cursor}
use Rattle.lexer.specs.Cursor.{Scan}
use Rattle.std.specs.declared.result.Result.TheVariants.{Ok, Err}
use Rattle.std.specs.declared.option.Option.TheVariants.{Some}
use Rattle.lexer.specs.declared.layout_call.LayoutKind.{LayoutKind}
use Rattle.lexer.specs.declared.refusal.Refused.{Refused}
use Rattle.lexer.specs.declared.layout_call.LayoutKind.TheVariants.{Blanks, SingleLine, Bracketed}
use Rattle.lexer.specs.Refusal.{refuse}
use Rattle.lexer.specs.declared.layout_call.LayoutRead.{LayoutRead}

-- a layout text with its span, or none, with the caller's cursor; or a refusal
abbrev pub LayoutAnswer : Type 0
LayoutAnswer = Result LayoutRead Refused

-- 6.4.1: a layout text is a layout character, a single line comment or a bracketed comment: its first character x tells which
abbrev pub layout_kind : ℕ → LayoutKind
layout_kind x = cond (is layout_char x) Blanks (cond (eqb x percent) SingleLine Bracketed)

-- the layout text at `at` ends at e and begins with x; but layout characters are given in a run. -- departs: 6.4.1's layout text is one of them
abbrev pub given_end : List ℕ → ℕ → ℕ → ℕ → ℕ
given_end s at e x = cond (is layout_char x) (run_of (is layout_char) s at) e

abbrev pub given_layout : List ℕ → Cursor → ℕ → ℕ → LayoutAnswer
given_layout s c e x = Ok (LayoutRead.Text (layout_kind x) c.offset (move_to s c (given_end s c.offset e x)))

-- what stands at the cursor, by where its layout text ends: one that ends where it starts is none
unfoldable pub layout_given : List ℕ → Cursor → Scan → LayoutAnswer
layout_given s c (Ok e) = cond (eqb e c.offset) (Ok (LayoutRead.Absent c)) (given_layout s c e (get_or s c.offset 0))
layout_given s c (Err w) = refuse w c

-- the layout call, for an editor that "colours layout and comments too and must not work them out for itself": the layout text at the cursor with its
-- span, or none; 8 first, as for the token call
abbrev pub next_layout : List ℕ → Cursor → LayoutAnswer
next_layout s c = cond (valid (length s) c) (layout_given s c (layout_text s c.offset)) (refuse not_valid c)

-- ---- what the private functions ask: a valid cursor, and a layout text there that ends at another
pub record Given (s : List ℕ) (c next : Cursor) : Type 0 where
  pub valid : Valid (length s) c
  pub text : stepped s c (layout_text s c.offset) ≡ Ok (Some next)
