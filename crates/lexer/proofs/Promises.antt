-- Where a token ends: behind its start, within the text; and the cursor behind it is valid. Assumes nothing.
use mathlib.Core.Path.{◌≡◌, refl, sym, ◌∙◌}
use mathlib.Core.Logic.{⊎_elim}
use mathlib.Core.Bool.{Bool, true, false}
use mathlib.Core.List.{List, [], ◌∷◌}
use Prim.Native.Nat.{ℕ, zero, suc, ◌+◌, ◌-◌, ◌<◌, ◌≤◌}
use native.Mathlib.Omega.{arith}
use borrow.Author.Tests.{eqb-true, leb-true, lt-ltb}
use lib.Dec.{eqb, leb, ltb}
use lib.ListN.{length, drop, get_or}
use Rattle.lexer.specs.Chars.{class_of, is, within, among, graphic_token_chars, layout_chars, solo_chars, small_letter, capital_letter, underscore_char, decimal_digit, graphic_token_char, layout_char, solo_char, quote_char, foreign_byte, small_a, small_z, capital_a, capital_z, digit_zero, digit_nine, underscore, newline, percent, single_quote, double_quote, back_quote, cut, semicolon, point, bar}
use Rattle.lexer.specs.Digits.{digit_of, is_digit, beyond}
use Rattle.lexer.specs.Float.{float_value}
use Rattle.lexer.specs.Layout.{layout_end}
use Rattle.lexer.specs.Look.{peek, lookahead}
use Rattle.lexer.specs.Name.{run_end, alphanumerics, graphics, run_token, name_token, PlainToken, whole_token}
use Rattle.lexer.specs.Number.{number_token, NumberRead}
use Rattle.lexer.specs.Quoted.{Quoted, decode}
use Rattle.lexer.specs.Token.{mark, bar_to, point_to, solo_to, floated, valued, numbered, sourced, plain_token, Text, Lexeme, lexeme, refused, plain_lexeme, quoted_to, quoted_lexeme, lexeme_to, after_layout, behind_layout, lexeme_since, read_lexeme}
use Rattle.lexer.specs.declared.chars.Peek.{Peek}
use Rattle.lexer.specs.Look.{Look}
use Rattle.std.specs.declared.result.Result.TheVariants.{Ok, Err}
use Rattle.lexer.specs.Cursor.{Scan}
use Rattle.lexer.specs.Float.{Floated}
use Rattle.std.specs.declared.option.Option.TheVariants.{Some, None}
use Rattle.lexer.specs.declared.kind.Kind.{Kind}
use Rattle.lexer.specs.declared.kind.Value.{Value}
use Rattle.lexer.specs.declared.number.Numeral.{Numeral}
use Rattle.lexer.specs.declared.number.NumberToken.{NumberToken}
use Rattle.lexer.specs.Token.{Mark}
use Rattle.lexer.specs.declared.token.Token.{Token}
use Rattle.lexer.specs.declared.token.Source.{Source}
use Rattle.lexer.proofs.Cursors.{NoNewline, both, plain_one, plain_both}
use Rattle.lexer.proofs.Layouts.{Before, layout_ends}
use Rattle.lexer.proofs.Looks.{Seen, inside_or_not, peek_byte, look_byte}
use Rattle.lexer.proofs.Numbers.{EndsOf, number_ends}
use Rattle.lexer.proofs.QuotedItems.{decode_ends}
use Rattle.lexer.proofs.Sources.{sourced_ends}
use Rattle.lexer.proofs.Spans.{by_test, not-newline, Plain as OneLine, plain_char, plain_step}
use Rattle.lexer.proofs.Steps.{drop_at, drop_end}

-- ---- classes
-- a newline is layout
pub no_newline : (x k : ℕ) → class_of x ≡ k → (k ≡ layout_char → ⊥) → x ≡ newline → ⊥
unfolding class_of
no_newline x k e f n = f (cc)

-- what is no digit is of another class
other_class : (x : ℕ) → within digit_zero digit_nine x ≡ false → class_of x ≡ decimal_digit → ⊥
unfolding class_of
other_class x f =
    by_test Other (within small_a small_z x) _ _ (λ _ h. omega arith)
    (λ _. by_test Other (within capital_a capital_z x) _ _ (λ _ h. omega arith)
    (λ _. by_test Other (eqb x underscore) _ _ (λ _ h. omega arith)
    (λ _. by_test Other (within digit_zero digit_nine x) _ _ (λ t h. let z : ◌≡◌ {A = ℕ} 0 1 = cc in omega arith)
    (λ _. by_test Other (among x graphic_token_chars) _ _ (λ _ h. omega arith)
    (λ _. by_test Other (among x layout_chars) _ _ (λ _ h. omega arith)
    (λ _. by_test Other (among x solo_chars) _ _ (λ _ h. omega arith)
    (λ _. by_test Other (among x (single_quote ∷ double_quote ∷ back_quote ∷ [])) _ _ (λ _ h. omega arith)
    (λ _ h. omega arith))))))))
  where
    Other : ℕ → Type 0
    Other k = k ≡ decimal_digit → ⊥

-- a byte of the digits' class is a decimal digit
pub class_digit : (x : ℕ) → class_of x ≡ decimal_digit → is_digit 10 x ≡ true
unfolding digit_of
class_digit x e = go (within digit_zero digit_nine x) refl
  where
    go : (t : Bool) → within digit_zero digit_nine x ≡ t → is_digit 10 x ≡ true
    go false f = absurd (other_class x f e)
    go true f =
        let h = leb-true digit_zero x (both (leb digit_zero x) _ f).0 in
        let k = leb-true x digit_nine (both (leb digit_zero x) _ f).1 in
        cc (f, lt-ltb (x - digit_zero) 10 (omega arith))

-- ---- tokens that are not quoted

-- the token at `at` ends at e; of its characters only the last can be a newline
pub record Ending (s : List ℕ) (at e : ℕ) : Type 0 where
  pub ahead : at < e
  pub inside : e ≤ length s
  pub plain : NoNewline s at (e - 1)

pub one_line : (s : List ℕ) (at e : ℕ) → OneLine s at e → Ending s at e
one_line s at e p = record { ahead = p.span.ahead; inside = p.span.inside; plain = λ i h k. p.plain i h (omega arith) }

abbrev pub PlainEnds : List ℕ → ℕ → PlainToken → Type 0
PlainEnds s at (Ok p) = Ending s at p.end
PlainEnds s at (Err w) = Unit {0}

-- a run, perhaps empty, of bytes that are no layout
abbrev pub Run : List ℕ → ℕ → Scan → Type 0
Run s at (Ok e) = (at ≤ e) × ((e ≤ length s) × NoNewline s at e)
Run s at (Err w) = Unit {0}

module _ (s : List ℕ) where
  longer : (at : ℕ) (r : Scan) → (get_or s at 0 ≡ newline → ⊥) → Run s (at + 1) r → Run s at r
  longer at (Err w) n p = tt
  longer at (Ok e) n p =
      (omega (arith, p.0), (p.1.0, plain_both s at (at + 1) e (plain_one s at n) p.1.1))

  module _ (lo hi : ℕ) (few : hi ≤ graphic_token_char) where
    turn : (at : ℕ) → at < length s → Run s (at + 1) (run_end lo hi (at + 1) (drop (at + 1) s)) → Run s at (run_end lo hi at (get_or s at 0 ∷ drop (at + 1) s))
    unfolding run_end
    turn at l p =
        by_test (Run s at) (within lo hi (class_of (get_or s at 0))) _ _
        (λ t. longer at (run_end lo hi (at + 1) (drop (at + 1) s)) (no_newline (get_or s at 0) _ refl (λ k. let m = leb-true _ hi (both (leb lo (class_of (get_or s at 0))) _ t).1 in omega arith)) p)
        (λ t. by_test (Run s at) (eqb (class_of (get_or s at 0)) foreign_byte) _ _ (λ _. tt) (λ _. (omega arith, (omega arith, λ i p q. absurd (omega arith)))))

    pub run : (n at : ℕ) → length s - at ≤ n → Run s at (run_end lo hi at (drop at s))
    unfolding run_end
    run zero at h = ⊎_elim (λ l. rw (drop_end s at l) tt) (λ l. absurd (omega arith)) (inside_or_not s at)
    run (suc n) at h = ⊎_elim (λ l. rw (drop_end s at l) tt) (λ l. rw (drop_at s at l) (turn at l (run n (at + 1) (omega arith)))) (inside_or_not s at)

  -- a character, and a run behind it
  run-token : (k : Kind) (at x : ℕ) (r : Scan) → Seen s at x → (x ≡ newline → ⊥) → Run s (at + 1) r → PlainEnds s at (run_token k r)
  unfolding run_token
  run-token k at x (Err w) l n p = tt
  run-token k at x (Ok e) l n p =
      one_line s at e
      (record {
        span = record { ahead = omega (arith, p.0); inside = p.1.0 };
        plain = plain_both s at (at + 1) e (plain_char s at x l n).plain p.1.1;
      })

  module _ (at x : ℕ) (l : Seen s at x) where
    of_class : (k : ℕ) → is k x ≡ true → (k ≡ layout_char → ⊥) → x ≡ newline → ⊥
    of_class k t f = no_newline x k (eqb-true (class_of x) k t) f

    -- one character
    single : (x ≡ newline → ⊥) → Ending s at (at + 1)
    single n = one_line s at (at + 1) (plain_char s at x l n)

    alphanumeric_ends : (k : Kind) → (x ≡ newline → ⊥) → PlainEnds s at (run_token k (alphanumerics s (at + 1)))
    alphanumeric_ends k n = run-token k at x (alphanumerics s (at + 1)) l n (run small_letter decimal_digit (omega arith) (length s - (at + 1)) (at + 1) (omega arith))

    name_ends : PlainEnds s at (name_token s at x)
    unfolding name_token
    name_ends =
        by_test (PlainEnds s at) (is small_letter x) _ _ (λ t. alphanumeric_ends Kind.Name (of_class small_letter t (λ k. omega arith)))
        (λ _. by_test (PlainEnds s at) (is graphic_token_char x) _ _
        (λ t. run-token Kind.Name at x (graphics s (at + 1)) l (of_class graphic_token_char t (λ k. omega arith)) (run graphic_token_char graphic_token_char (omega arith) (length s - (at + 1)) (at + 1) (omega arith)))
        (λ _. by_test (PlainEnds s at) (eqb x cut) _ _ (λ t. single (not-newline x cut t refl))
        (λ _. by_test (PlainEnds s at) (eqb x semicolon) _ _ (λ t. single (not-newline x semicolon t refl)) (λ _. tt))))

    module _ (n : x ≡ newline → ⊥) where
      bar_ends : (r : Look) → lookahead s (at + 1) ≡ r → PlainEnds s at (bar_to at r)
      unfolding bar_to
      bar_ends (Err w) e = tt
      bar_ends (Ok y) e =
          let k = look_byte s (at + 1) y e in
          let m : at + 1 + 1 ≡ at + 2 = omega arith in
          by_test (PlainEnds s at) (eqb y bar) _ _
          (λ t. one_line s at (at + 2) (rw m at (plain_step s at (at + 1) (plain_char s at x l n) y k (not-newline y bar t refl))))
          (λ _. single n)

      solo_ends : (m : Mark) → PlainEnds s at (solo_to s at x m)
      unfolding solo_to
      solo_ends (Some k) = single n
      solo_ends None = by_test (PlainEnds s at) (eqb x bar) _ _ (λ _. bar_ends (lookahead s (at + 1)) refl) (λ _. name_ends)

    end_ends : x ≡ point → (r : Peek) → peek s (at + 1) ≡ r → PlainEnds s at (point_to s at r)
    unfolding point_to
    end_ends n Peek.End e = single (λ g. omega arith)
    end_ends n Peek.Foreign e = tt
    end_ends n (Peek.Byte y) e =
        let k = peek_byte s (at + 1) y e in
        let m : at + 2 - 1 ≡ at + 1 = omega arith in
        let q = single (λ g. omega arith) in
        by_test (PlainEnds s at) (eqb y newline) _ _
        (λ _. record { ahead = omega arith; inside = omega (arith, k.inside); plain = rw m (plain_char s at x l (λ g. omega arith)).plain })
        (λ _. by_test (PlainEnds s at) (is layout_char y) _ _ (λ _. q)
        (λ _. by_test (PlainEnds s at) (eqb y percent) _ _ (λ _. q) (λ _. rw n at name_ends)))

    floated_ends : (e : ℕ) (v : Floated) → Ending s at e → PlainEnds s at (floated at e v)
    unfolding floated
    floated_ends e (Some v) p = p
    floated_ends e None p = tt

    valued_ends : (e : ℕ) (n : Numeral) → Ending s at e → PlainEnds s at (valued at e n)
    unfolding valued
    valued_ends e (Numeral.Integer n) p = by_test (PlainEnds s at) (ltb n beyond) _ _ (λ _. p) (λ _. tt)
    valued_ends e (Numeral.Float m sign y f) p = floated_ends e (float_value m sign y f) p

    numbered_ends : (t : NumberRead) → EndsOf s at t → PlainEnds s at (numbered at t)
    unfolding numbered
    numbered_ends (Ok (NumberToken.Whole n e)) p = valued_ends e n (one_line s at e p.plain)
    numbered_ends (Ok (NumberToken.Partial n e)) p = tt
    numbered_ends (Err w) p = tt

    digit_ends : (origin : Source) → is decimal_digit x ≡ true → PlainEnds s at (numbered at (sourced origin (number_token s at)))
    digit_ends origin t = numbered_ends _ (sourced_ends s at origin (number_token s at) (number_ends s at x l (class_digit x (eqb-true (class_of x) decimal_digit t))))

    -- a token that is not quoted
    plain_ends : (origin : Source) (layout : Bool) → PlainEnds s at (plain_token origin s at layout x)
    unfolding plain_token
    plain_ends origin layout =
        by_test (PlainEnds s at) (is decimal_digit x) _ _ (digit_ends origin)
        (λ _. by_test (PlainEnds s at) (is solo_char x) _ _ (λ t. solo_ends (of_class solo_char t (λ k. omega arith)) (mark layout x))
        (λ _. by_test (PlainEnds s at) (is capital_letter x) _ _ (λ t. alphanumeric_ends Kind.Variable (of_class capital_letter t (λ k. omega arith)))
        (λ _. by_test (PlainEnds s at) (is underscore_char x) _ _ (λ t. alphanumeric_ends Kind.Variable (of_class underscore_char t (λ k. omega arith)))
        (λ _. by_test (PlainEnds s at) (eqb x point) _ _ (λ t. end_ends (eqb-true x point t) (peek s (at + 1)) refl) (λ _. name_ends)))))

    pub plain_token_ends : (origin : Source) (layout : Bool) (p : PlainToken) (k : Kind) (v : Value) (e : ℕ) → p ≡ plain_token origin s at layout x → p ≡ whole_token k v e → Ending s at e
    plain_token_ends origin layout p k v e f g = rw (sym f ∙ g) at (plain_ends origin layout)

-- ---- any token
pub record LexemeEnds (s : List ℕ) (from : ℕ) (t : Token) (e : ℕ) : Type 0 where
  pub behind : from ≤ t.start
  pub ahead : t.start < e
  pub inside : e ≤ length s

-- the token at `at` starts there
record StartsAt (s : List ℕ) (at : ℕ) (t : Token) (e : ℕ) : Type 0 where
  starts : t.start ≡ at
  ahead : at < e
  inside : e ≤ length s

abbrev There : List ℕ → ℕ → Lexeme → Type 0
There s at (lexeme t e x) = StartsAt s at t e
There s at (refused w) = Unit {0}

module _ (s : List ℕ) (at : ℕ) where
  of_plain : (p : PlainToken) → PlainEnds s at p → There s at (plain_lexeme at p)
  unfolding plain_lexeme
  of_plain (Ok q) p = record { starts = refl; ahead = p.ahead; inside = p.inside }
  of_plain (Err w) p = tt

  of_quoted : (k : Kind) (q : ℕ) (d : Quoted) → decode q at s (at + 1) ≡ d → There s at (quoted_to k at d)
  unfolding quoted_to
  of_quoted k q (Quoted.whole bs e) f =
      let p = decode_ends q at s (at + 1) bs e f in
      record { starts = refl; ahead = omega (arith, p.ahead); inside = p.inside }
  of_quoted k q (Quoted.refused w) f = tt

  of_look : (origin : Source) (layout : Bool) (r : Look) → lookahead s at ≡ r → There s at (lexeme_to origin s at layout r)
  unfolding lexeme_to quoted_lexeme
  of_look origin layout (Err w) e = tt
  of_look origin layout (Ok x) e =
      by_test (There s at) (is quote_char x) _ _
      (λ _. by_test (There s at) (eqb x single_quote) _ _ (λ _. of_quoted Kind.Name single_quote _ refl)
      (λ _. by_test (There s at) (eqb x double_quote) _ _ (λ _. of_quoted Kind.String double_quote _ refl) (λ _. tt)))
      (λ _. of_plain (plain_token origin s at layout x) (plain_ends s at x (look_byte s at x e) origin layout))

abbrev Ends : List ℕ → ℕ → Lexeme → Type 0
Ends s from (lexeme t e x) = LexemeEnds s from t e
Ends s from (refused w) = Unit {0}

-- read from an offset at or before it
there_ends : (s : List ℕ) (from at : ℕ) → from ≤ at → (l : Lexeme) → There s at l → Ends s from l
there_ends s from at h (lexeme t e x) p = record { behind = omega (arith, p.starts); ahead = omega (arith, p.starts, p.ahead); inside = p.inside }
there_ends s from at h (refused w) p = tt

-- a token at an offset
module _ (origin : Source) (layout : Bool) (s : List ℕ) (at : ℕ) (t : Token) (e : ℕ) (x : Text) (f : lexeme_to origin s at layout (lookahead s at) ≡ lexeme t e x) where
  pub token_there : LexemeEnds s at t e
  token_there = rw f at (there_ends s at at (omega arith) (lexeme_to origin s at layout (lookahead s at)) (of_look s at origin layout (lookahead s at) refl))

  pub token_starts : t.start ≡ at
  token_starts = let p : There s at (lexeme t e x) = rw f at (of_look s at origin layout (lookahead s at) refl) in p.starts

of-layout : (origin : Source) (s : List ℕ) (from : ℕ) (r : Scan) → Before from (length s) r → Ends s from (after_layout origin s from r)
unfolding after_layout
of-layout origin s from (Err w) b = tt
of-layout origin s from (Ok at) b = there_ends s from at b.0 (lexeme_to origin s at (ltb from at) (lookahead s at)) (of_look s at origin (ltb from at) (lookahead s at) refl)

-- wherever the layout before it began
of_since : (s : List ℕ) (from : ℕ) (l : Lexeme) → Ends s from l → Ends s from (lexeme_since from l)
unfolding lexeme_since
of_since s from (lexeme t e x) p = record { behind = p.behind; ahead = p.ahead; inside = p.inside }
of_since s from (refused w) p = tt

-- an accepted token starts at or after the cursor, ends after it starts, within the text
pub lexeme_ends : (origin : Source) (s : List ℕ) (from : ℕ) (t : Token) (e : ℕ) (x : Text) → from ≤ length s → read_lexeme origin s from ≡ lexeme t e x → LexemeEnds s from t e
lexeme_ends origin s from t e x h f = rw f at (of_since s from (behind_layout origin s from) (of-layout origin s from (layout_end s from) (layout_ends s from)))
