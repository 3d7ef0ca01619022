-- What holds by each rule that reads a token holds of every token that is read. Assumes nothing.
use Prim.Native.Nat.{ℕ, ◌+◌}
use mathlib.Core.Path.{◌≡◌, refl, subst}
use mathlib.Core.Bool.{Bool, true, false}
use mathlib.Core.List.{List}
use borrow.Author.Tests.{eqb-true}
use lib.Dec.{eqb, ltb}
use lib.Ieee.{Float}
use Rattle.lexer.specs.Chars.{is, small_letter, capital_letter, underscore_char, decimal_digit, graphic_token_char, layout_char, solo_char, quote_char, newline, single_quote, double_quote, percent, point, bar, cut, semicolon}
use Rattle.lexer.specs.Digits.{beyond}
use Rattle.lexer.specs.Float.{float_value}
use Rattle.lexer.specs.Layout.{layout_end}
use Rattle.lexer.specs.Look.{peek, lookahead}
use Rattle.lexer.specs.Name.{alphanumerics, graphics, run_token, name_token, PlainToken}
use Rattle.lexer.specs.Number.{number_token, NumberRead}
use Rattle.lexer.specs.Quoted.{Quoted, decode}
use Rattle.lexer.specs.Token.{mark, bar_to, point_to, solo_to, floated, valued, numbered, sourced, plain_token, Text, decoded, Lexeme, lexeme, refused, text_of, plain_lexeme, quoted_to, quoted_lexeme, lexeme_to, after_layout, behind_layout, lexeme_since, read_lexeme}
use Rattle.lexer.specs.Look.{Look}
use Rattle.std.specs.declared.result.Result.TheVariants.{Ok, Err}
use Rattle.lexer.specs.declared.chars.Peek.{Peek}
use Rattle.lexer.specs.Cursor.{Scan}
use Rattle.lexer.specs.Float.{Floated}
use Rattle.std.specs.declared.option.Option.TheVariants.{Some, None}
use Rattle.lexer.specs.declared.kind.Kind.{Kind}
use Rattle.lexer.specs.declared.kind.Kind.TheVariants.{Name, Variable, String, Number, HeadTailSeparator, DoubleBar, End}
use Rattle.lexer.specs.declared.kind.Value.{Value}
use Rattle.lexer.specs.declared.kind.Value.TheVariants.{Nothing}
use Rattle.lexer.specs.declared.number.Numeral.{Numeral}
use Rattle.lexer.specs.declared.number.NumberToken.{NumberToken}
use Rattle.lexer.specs.Token.{Mark}
use Rattle.lexer.specs.declared.token.Source.{Source}
use Rattle.lexer.proofs.Looks.{Seen, look_byte}
use Rattle.lexer.proofs.Spans.{by_test}

-- ---- a token that is not quoted

module _ (P : Kind → Value → ℕ → Type 0) where
  -- P holds of it, if it is one, by its kind, its value and its end
  abbrev pub Each : PlainToken → Type 0
  Each (Ok p) = P p.kind p.value p.end
  Each (Err w) = Unit {0}

  -- P holds by each rule that may read it at `at`, where x stands
  pub record Rules (s : List ℕ) (at x : ℕ) : Type 0 where
    pub word : (e : ℕ) → alphanumerics s (at + 1) ≡ Ok e → P Name Nothing e × P Variable Nothing e
    pub symbol : (e : ℕ) → graphics s (at + 1) ≡ Ok e → P Name Nothing e
    pub solo : P Name Nothing (at + 1)
    pub marked : (layout : Bool) (k : Kind) → mark layout x ≡ Some k → P k Nothing (at + 1)
    pub separator : P HeadTailSeparator Nothing (at + 1)
    pub bars : P DoubleBar Nothing (at + 2)
    pub end : (e : ℕ) → P End Nothing e
    pub float : (x : Float) (e : ℕ) → P Number (Value.Float x) e
    pub integer : (n e : ℕ) → ltb n beyond ≡ true → P Number (Value.Integer n) e

  module _ (s : List ℕ) (at x : ℕ) (r : Rules s at x) where
    -- names and variables
    run_each : (k : Kind) (q : Scan) → ((e : ℕ) → q ≡ Ok e → P k Nothing e) → Each (run_token k q)
    unfolding run_token
    run_each k (Ok e) h = h e refl
    run_each k (Err w) h = tt

    variable_each : Each (run_token Variable (alphanumerics s (at + 1)))
    variable_each = run_each Variable (alphanumerics s (at + 1)) (λ e f. (r.word e f).1)

    name_each : Each (name_token s at x)
    unfolding name_token
    name_each =
        by_test Each (is small_letter x) _ _ (λ _. run_each Name (alphanumerics s (at + 1)) (λ e f. (r.word e f).0))
        (λ _. by_test Each (is graphic_token_char x) _ _ (λ _. run_each Name (graphics s (at + 1)) r.symbol)
        (λ _. by_test Each (eqb x cut) _ _ (λ _. r.solo) (λ _. by_test Each (eqb x semicolon) _ _ (λ _. r.solo) (λ _. tt))))

    -- marks
    bar_each : (l : Look) → Each (bar_to at l)
    unfolding bar_to
    bar_each (Err w) = tt
    bar_each (Ok y) = by_test Each (eqb y bar) _ _ (λ _. r.bars) (λ _. r.separator)

    solo_each : (layout : Bool) (m : Mark) → mark layout x ≡ m → Each (solo_to s at x m)
    unfolding solo_to
    solo_each layout (Some k) f = r.marked layout k f
    solo_each layout None f = by_test Each (eqb x bar) _ _ (λ _. bar_each (lookahead s (at + 1))) (λ _. name_each)

    end_each : x ≡ point → (p : Peek) → Each (point_to s at p)
    unfolding point_to
    end_each f Peek.End = r.end (at + 1)
    end_each f Peek.Foreign = tt
    end_each f (Peek.Byte y) =
        by_test Each (eqb y newline) _ _ (λ _. r.end (at + 2))
        (λ _. by_test Each (is layout_char y) _ _ (λ _. r.end (at + 1))
        (λ _. by_test Each (eqb y percent) _ _ (λ _. r.end (at + 1)) (λ _. subst (λ (z : ℕ). Each (name_token s at z)) f name_each)))

    -- numbers
    float_each : (e : ℕ) (d : Floated) → Each (floated at e d)
    unfolding floated
    float_each e (Some d) = r.float d e
    float_each e None = tt

    value_each : (e : ℕ) (n : Numeral) → Each (valued at e n)
    unfolding valued
    value_each e (Numeral.Integer n) = by_test Each (ltb n beyond) _ _ (r.integer n e) (λ _. tt)
    value_each e (Numeral.Float m sign y d) = float_each e (float_value m sign y d)

    number_each : (n : NumberRead) → Each (numbered at n)
    unfolding numbered
    number_each (Ok (NumberToken.Whole n e)) = value_each e n
    number_each (Ok (NumberToken.Partial n e)) = tt
    number_each (Err w) = tt

    -- each of them
    pub plain_each : (origin : Source) (layout : Bool) → Each (plain_token origin s at layout x)
    unfolding plain_token
    plain_each origin layout =
        by_test Each (is decimal_digit x) _ _ (λ _. number_each (sourced origin (number_token s at)))
        (λ _. by_test Each (is solo_char x) _ _ (λ _. solo_each layout (mark layout x) refl)
        (λ _. by_test Each (is capital_letter x) _ _ (λ _. variable_each)
        (λ _. by_test Each (is underscore_char x) _ _ (λ _. variable_each)
        (λ _. by_test Each (eqb x point) _ _ (λ t. end_each (eqb-true x point t) (peek s (at + 1))) (λ _. name_each)))))

-- ---- any token: Q holds of what is read, by its kind, value, start and end, and its text

module _ (Q : Kind → Value → ℕ → ℕ → Text → Type 0) where
  abbrev pub OfRead : Lexeme → Type 0
  OfRead (lexeme t e x) = Q t.kind t.value t.start e x
  OfRead (refused w) = Unit {0}

  -- where the layout before it began does not matter
  of_since : (from : ℕ) (l : Lexeme) → OfRead l → OfRead (lexeme_since from l)
  unfolding lexeme_since
  of_since from (lexeme t e x) h = h
  of_since from (refused w) h = tt

  -- of a token that is not quoted, at `at`
  abbrev pub OfPlain : ℕ → PlainToken → Type 0
  OfPlain at = Each (λ k v e. Q k v at e (text_of k))

  of_plain : (at : ℕ) (p : PlainToken) → OfPlain at p → OfRead (plain_lexeme at p)
  unfolding plain_lexeme
  of_plain at (Ok p) h = h
  of_plain at (Err w) h = tt

  -- of a quoted token of the kind k, at a quote q, by what is decoded
  abbrev pub OfQuoted : List ℕ → Kind → ℕ → Type 0
  OfQuoted s k q = (at : ℕ) → Seen s at q → (bs : List ℕ) (e : ℕ) → decode q at s (at + 1) ≡ Quoted.whole bs e → Q k Nothing at e (decoded bs)

  -- of a quoted token and of another: so of any
  module _ (origin : Source) (s : List ℕ) (names : OfQuoted s Name single_quote) (strings : OfQuoted s String double_quote)
      (others : (at x : ℕ) → Seen s at x → is quote_char x ≡ false → (layout : Bool) → OfPlain at (plain_token origin s at layout x)) where
    quoted_each : (k : Kind) (q : ℕ) → OfQuoted s k q → (at x : ℕ) → Seen s at x → eqb x q ≡ true → (d : Quoted) → decode q at s (at + 1) ≡ d → OfRead (quoted_to k at d)
    unfolding quoted_to
    quoted_each k q h at x l t (Quoted.whole bs e) f = h at (rw (eqb-true x q t) at l) bs e f
    quoted_each k q h at x l t (Quoted.refused w) f = tt

    look_each : (at : ℕ) (layout : Bool) (r : Look) → lookahead s at ≡ r → OfRead (lexeme_to origin s at layout r)
    unfolding lexeme_to quoted_lexeme
    look_each at layout (Err w) f = tt
    look_each at layout (Ok x) f =
        let l = look_byte s at x f in
        by_test OfRead (is quote_char x) _ _
        (λ _. by_test OfRead (eqb x single_quote) _ _ (λ t. quoted_each Name single_quote names at x l t (decode single_quote at s (at + 1)) refl)
        (λ _. by_test OfRead (eqb x double_quote) _ _ (λ t. quoted_each String double_quote strings at x l t (decode double_quote at s (at + 1)) refl) (λ _. tt)))
        (λ n. of_plain at (plain_token origin s at layout x) (others at x l n layout))

    after_each : (from : ℕ) (r : Scan) → OfRead (after_layout origin s from r)
    unfolding after_layout
    after_each from (Err w) = tt
    after_each from (Ok at) = look_each at (ltb from at) (lookahead s at) refl

    pub read_each : (from : ℕ) → OfRead (read_lexeme origin s from)
    read_each from = of_since from (behind_layout origin s from) (after_each from (layout_end s from))
