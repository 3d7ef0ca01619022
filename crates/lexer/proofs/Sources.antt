-- What a field reads otherwise than a file: a number that reaches the end of the text, and nothing else. Assumes nothing.
use Prim.Native.Nat.{ℕ}
use mathlib.Core.Path.{◌≡◌, refl, sym, ◌∙◌, ap}
use mathlib.Core.Bool.{Bool, true, false, cond, true≢false}
use mathlib.Core.List.{List}
use borrow.Author.Tests.{eqb-true}
use lib.Dec.{ltb}
use lib.ListN.{length}
use Rattle.lexer.specs.Chars.{class_of, is, decimal_digit}
use Rattle.lexer.specs.Cursor.{valid}
use Rattle.lexer.specs.Layout.{layout_end}
use Rattle.lexer.specs.Look.{lookahead}
use Rattle.lexer.specs.Number.{number_token, NumberRead}
use Rattle.lexer.specs.Token.{numbered, sourced, plain_token, Lexeme, plain_lexeme, lexeme_to, after_layout, behind_layout, lexeme_since, answered, not_valid, next_token}
use Rattle.lexer.specs.Look.{Look}
use Rattle.std.specs.declared.result.Result.TheVariants.{Ok, Err}
use Rattle.lexer.specs.declared.cursor.Cursor.{Cursor}
use Rattle.lexer.specs.Cursor.{Scan}
use Rattle.lexer.specs.declared.number.Numeral.{Numeral}
use Rattle.lexer.specs.declared.number.NumberToken.{NumberToken}
use Rattle.lexer.specs.declared.token.Source.{Source}
use Rattle.lexer.specs.declared.token.Source.TheVariants.{File, Field}
use Rattle.lexer.proofs.Numbers.{EndsOf}
use Rattle.lexer.specs.Name.{PlainToken}
use Rattle.lexer.specs.Refusal.{refuse}

-- what holds of a number holds of it in its source, if it holds of a whole one where it holds of the partial one
pub by_source : (P : NumberRead → Type 0) (origin : Source) (n : NumberRead) → ((m : Numeral) (e : ℕ) → P (Ok (NumberToken.Partial m e)) → P (Ok (NumberToken.Whole m e))) → P n → P (sourced origin n)
by_source P File n f p = p
by_source P Field (Ok (NumberToken.Whole m e)) f p = p
by_source P Field (Ok (NumberToken.Partial m e)) f p = f m e p
by_source P Field (Err w) f p = p

-- so where it ends
pub sourced_ends : (s : List ℕ) (at : ℕ) (origin : Source) (n : NumberRead) → EndsOf s at n → EndsOf s at (sourced origin n)
sourced_ends s at origin n = by_source (EndsOf s at) origin n (λ m e p. p.ends)

-- a number that stops before the end of the text, or is refused
abbrev pub stops : NumberRead → Bool
stops (Ok (NumberToken.Whole n e)) = true
stops (Ok (NumberToken.Partial n e)) = false
stops (Err w) = true

-- the layout at the cursor ends at `at`, where the byte x stands: there the token starts
pub record StartsWith (s : List ℕ) (c : Cursor) (at x : ℕ) : Type 0 where
  pub layout : layout_end s c.offset ≡ Ok at
  pub there : lookahead s at ≡ Ok x

pub starts_once : (s : List ℕ) (c : Cursor) (i x j y : ℕ) → StartsWith s c i x → StartsWith s c j y → i ≡ j
starts_once s c i x j y k l = let e : Ok i ≡ Ok j = sym k.layout ∙ l.layout in cc

-- ---- alike, unless a digit begins a number that does not stop
number-alike : (n : NumberRead) → stops n ≡ true → sourced Field n ≡ n
number-alike (Ok (NumberToken.Whole n e)) h = refl
number-alike (Ok (NumberToken.Partial n e)) h = absurd (true≢false (sym h))
number-alike (Err w) h = refl

module _ (s : List ℕ) (at : ℕ) where
  by_digit : (d : Bool) (p : PlainToken) → (d ≡ true → stops (number_token s at) ≡ true) → cond d (numbered at (sourced Field (number_token s at))) p ≡ cond d (numbered at (number_token s at)) p
  by_digit true p h = ap (numbered at) (number-alike (number_token s at) (h refl))
  by_digit false p h = refl

  by_look : (layout : Bool) (r : Look) → ((x : ℕ) → r ≡ Ok x → is decimal_digit x ≡ true → stops (number_token s at) ≡ true)
      → lexeme_to Field s at layout r ≡ lexeme_to File s at layout r
  unfolding lexeme_to plain_token
  by_look layout (Err w) h = refl
  by_look layout (Ok x) h = rw (by_digit (is decimal_digit x) _ (h x refl))

module _ (s : List ℕ) (c : Cursor) where
  after-alike : (r : Scan) → ((at x : ℕ) → r ≡ Ok at → lookahead s at ≡ Ok x → is decimal_digit x ≡ true → stops (number_token s at) ≡ true)
      → after_layout Field s c.offset r ≡ after_layout File s c.offset r
  unfolding after_layout
  after-alike (Err w) h = refl
  after-alike (Ok at) h = by_look s at (ltb c.offset at) (lookahead s at) (λ x. h at x refl)

  pub sources_alike : ((at x : ℕ) → StartsWith s c at x → is decimal_digit x ≡ true → stops (number_token s at) ≡ true) → next_token Field s c ≡ next_token File s c
  sources_alike h =
      ap (λ (x : Lexeme). cond (valid (length s) c) (answered s c (lexeme_since c.offset x)) (refuse not_valid c))
      (after-alike (layout_end s c.offset) (λ at x l t. h at x (record { layout = l; there = t })))

  -- ---- and where it does not stop
  pub source_reaches : (origin : Source) (at x : ℕ) → StartsWith s c at x → is decimal_digit x ≡ true → (n : Numeral) (e : ℕ) → number_token s at ≡ Ok (NumberToken.Partial n e)
      → behind_layout origin s c.offset ≡ plain_lexeme at (numbered at (sourced origin (Ok (NumberToken.Partial n e))))
  unfolding after_layout lexeme_to plain_token
  source_reaches origin at x l d n e f = cc (l.layout, l.there, f, eqb-true (class_of x) decimal_digit d)
