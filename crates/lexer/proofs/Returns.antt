-- What a carriage return is: it is read as a blank is, except that in a quoted item it is refusal 4. Assumes nothing.
use Prim.Native.Nat.{ℕ, zero, suc, ◌+◌, ◌-◌, ◌*◌}
use mathlib.Core.Path.{◌≡◌, refl, ap}
use mathlib.Core.Logic.{◌⊎◌, inl, inr}
use mathlib.Core.Bool.{Bool, true, false, cond, ◌&&◌}
use mathlib.Core.List.{List, [], ◌∷◌, map}
use native.Mathlib.Omega.{arith}
use borrow.Author.Tests.{eqb-true}
use lib.Dec.{eqb, ltb}
use lib.ListN.{length, take, drop, length-map}
use Rattle.lexer.specs.Chars.{class_of, is, graphic_token_char, small_letter, foreign_byte, decimal_digit, quote_char, newline, carriage_return, space, star, slash, single_quote, double_quote, point, underscore, small_x, small_o, small_b}
use Rattle.lexer.specs.Cursor.{step, walk, move_to, valid}
use Rattle.lexer.specs.Digits.{digit_of, digits, digits_at}
use Rattle.lexer.specs.Items.{Turn, after, items}
use Rattle.lexer.specs.Layout.{begins_with, past, unclosed, comment_opened, bracketed_comment, slashed, layout_text_of, layout_text, layout_texts, ended, layout_end}
use Rattle.lexer.specs.Look.{front, peek, needed, lookahead}
use Rattle.lexer.specs.Name.{run_end, name_token, whole_token}
use Rattle.lexer.specs.Number.{radix_closed, radix_to, radix_constant, character_code, zero_to, exponent_ends, exponent_digits, sign_to, letter_to, exponent_to, exponent, integer_to, number_token, NumberRead}
use Rattle.lexer.specs.Number as Number
use Rattle.lexer.specs.Quoted.{escape_of, closed, numeric_escape, escape_to, escape, quote_to, item_to, quoted_item, Quoted, with_char, out_of_limit, item_turn, quoted_turn, unended, decode, QuotedItem}
use Rattle.lexer.specs.Refusal.{fault, refuse}
use Rattle.lexer.specs.Token.{mark, bar_to, point_to, end_token, solo_to, numbered, sourced, plain_token, Lexeme, lexeme, refused, plain_lexeme, quoted_to, quoted_lexeme, lexeme_to, after_layout, behind_layout, lexeme_since, read_lexeme, answered, next_token}
use Rattle.lexer.specs.declared.refusal.Fault.{Fault}
use Rattle.lexer.specs.declared.refusal.Refusal.TheVariants.{BadQuoted}
use Rattle.lexer.specs.declared.chars.Peek.{Peek}
use Rattle.lexer.specs.Look.{Look}
use Rattle.std.specs.declared.result.Result.TheVariants.{Ok, Err}
use Rattle.lexer.specs.declared.cursor.Cursor.{Cursor}
use Rattle.lexer.specs.Cursor.{Scan}
use Rattle.lexer.specs.declared.digits.Digits.{Digits}
use Rattle.lexer.specs.declared.kind.Kind.TheVariants.{Name, String, End}
use Rattle.lexer.specs.declared.kind.Value.TheVariants.{Nothing}
use Rattle.lexer.specs.declared.number.Numeral.TheVariants.{Integer}
use Rattle.lexer.specs.declared.quoted.Item.{Item}
use Rattle.lexer.specs.Token.{Mark}
use Rattle.std.specs.declared.option.Option.TheVariants.{Some, None}
use Rattle.lexer.specs.declared.token.Source.{Source}
use Rattle.lexer.specs.declared.token.Source.TheVariants.{File, Field}
use Rattle.lexer.proofs.Looks.{Strange}
use Rattle.lexer.proofs.Spans.{by_test}

-- a blank for a carriage return
unfoldable pub blank : ℕ → ℕ
blank x = cond (eqb x carriage_return) space x

-- the text with a blank for each carriage return
abbrev pub blanked : List ℕ → List ℕ
blanked s = map blank s

-- ---- where it stands

module _ (s : List ℕ) (at : ℕ) where
  -- behind a dot at `at`
  pub mark_before : peek s (at + 1) ≡ Peek.Byte carriage_return → end_token s at ≡ whole_token End Nothing (at + 1)
  unfolding point_to class_of
  mark_before e = rw e

  -- in a quoted item of the token at `token`, raw and behind a backslash
  module _ (token : ℕ) (e : lookahead s at ≡ Ok carriage_return) where
    pub raw_return : (q : ℕ) → quoted_item q token s at ≡ Err (fault BadQuoted token)
    unfolding item_to
    raw_return q = rw e

    pub escaped_return : escape token s at ≡ Err (fault BadQuoted token)
    unfolding escape_to escape_of digit_of
    escaped_return = rw e

  -- where refusal 5 points
  pub no_return : (x : ℕ) → Strange s at x → x ≡ carriage_return → ⊥
  unfolding class_of
  no_return x f e = let u = f.unknown in let z : ◌≡◌ {A = ℕ} 0 1 = cc in omega arith

-- ---- what two texts come to

-- the same, or b and r, where the one text has a blank and the other a carriage return
data Stays {A : Type 0} (b r : A) : A → A → Type 0 where
  kept : {a : A} → Stays b r a a
  swapped : Stays b r b r

module _ {A B : Type 0} (f : A → B) {b r : A} where
  -- and so is what f makes of them
  stays_by : {x y : A} → Stays b r x y → Stays (f b) (f r) (f x) (f y)
  stays_by kept = kept
  stays_by swapped = swapped

  -- it is the same, if f does not tell b from r
  alike : f b ≡ f r → {x y : A} → Stays b r x y → f x ≡ f y
  alike h kept = refl
  alike h swapped = h

-- the same, or the second is refusal 4
pub data Unless {A : Type 0} (refuse : Fault → A) : A → A → Type 0 where
  same : {a : A} → Unless refuse a a
  four : {a : A} (o : ℕ) → Unless refuse a (refuse (fault BadQuoted o))

module _ {A : Type 0} {refuse : Fault → A} where
  since : {a b : A} → a ≡ b → Unless refuse a b
  since e = rw e same

  -- by one test of both
  either : {a b c d : A} (t : Bool) → Unless refuse a b → Unless refuse c d → Unless refuse (cond t a c) (cond t b d)
  either true p q = p
  either false p q = q

  -- a rule that passes a refusal on
  through : {B : Type 0} (f : A → B) {a b : A} → Unless refuse a b → Unless (λ w. f (refuse w)) (f a) (f b)
  through f same = same
  through f (four o) = four o

  pub or_four : {a b : A} → Unless refuse a b → (a ≡ b) ⊎ ((o : ℕ) × (b ≡ refuse (fault BadQuoted o)))
  or_four same = inl refl
  or_four (four o) = inr (o, refl)

-- ---- a byte: its class and its digit stay
byte_stays : (x : ℕ) → Stays space carriage_return (blank x) x
unfolding blank
byte_stays x =
    by_test (λ y. Stays space carriage_return y x) (eqb x carriage_return) space x (λ t. rw (eqb-true x carriage_return t) swapped) (λ _. kept)

class_same : (x : ℕ) → class_of (blank x) ≡ class_of x
unfolding class_of
class_same x = alike class_of refl (byte_stays x)

digit_same : (x : ℕ) → digit_of (blank x) ≡ digit_of x
unfolding digit_of
digit_same x = alike digit_of refl (byte_stays x)

-- ---- what is left of a text
pub drop-same : (at : ℕ) (s : List ℕ) → drop at (blanked s) ≡ blanked (drop at s)
drop-same zero s = refl
drop-same (suc n) [] = refl
drop-same (suc n) (x ∷ xs) = drop-same n xs

front_stays : (xs : List ℕ) → Stays (Peek.Byte space) (Peek.Byte carriage_return) (front (blanked xs)) (front xs)
unfolding front class_of
front_stays [] = kept
front_stays (x ∷ xs) = stays_by (λ y. cond (is foreign_byte y) Peek.Foreign (Peek.Byte y)) (byte_stays x)

digits_same : (base v at : ℕ) (xs : List ℕ) → digits base v at (blanked xs) ≡ digits base v at xs
unfolding digits
digits_same base v at [] = refl
digits_same base v at (x ∷ xs) = rw (digit_same x, digits_same base (v * base + digit_of x) (at + 1) xs)

run-same : (lo hi at : ℕ) (xs : List ℕ) → run_end lo hi at (blanked xs) ≡ run_end lo hi at xs
unfolding run_end
run-same lo hi at [] = refl
run-same lo hi at (x ∷ xs) = rw (class_same x, run-same lo hi (at + 1) xs)

-- a carriage return is no newline
walk_same : (n : ℕ) (xs : List ℕ) (c : Cursor) → walk c (take n (blanked xs)) ≡ walk c (take n xs)
unfolding walk
walk_same zero xs c = refl
walk_same (suc n) [] c = refl
walk_same (suc n) (x ∷ xs) c = rw (alike (step c) refl (byte_stays x)) (walk_same n xs (step c x))

-- a mark with neither byte in it
abbrev Neither : List ℕ → Type 0
Neither mark = map (eqb space) mark ≡ map (eqb carriage_return) mark

begins-same : (mark xs : List ℕ) → Neither mark → begins_with mark (blanked xs) ≡ begins_with mark xs
begins-same [] xs h = refl
begins-same (k ∷ ks) [] h = refl
begins-same (k ∷ ks) (x ∷ xs) h = cc (alike (λ y. eqb y k) (cc) (byte_stays x), begins-same ks xs (cc))

past_same : (mark : List ℕ) (none : ℕ → Scan) → Neither mark → (at : ℕ) (xs : List ℕ) → past mark none at (blanked xs) ≡ past mark none at xs
unfolding past
past_same mark none h at [] = refl
past_same mark none h at (x ∷ xs) = rw (class_same x, begins-same mark (x ∷ xs) h, past_same mark none h (at + 1) xs)

-- two scans, by their turns
module _ {R : Type 0} (P : R → R → Type 0) (turn turn' : ℕ → Turn R) (none : ℕ → R) (ends : (at : ℕ) → P (none at) (none at))
    (turns : (at : ℕ) (next next' : ℕ → R) → ((e : ℕ) → P (next e) (next' e)) → P (after (turn at) next) (after (turn' at) next')) where
  items-same : (k at : ℕ) (xs : List ℕ) → P (items turn none k at (blanked xs)) (items turn' none k at xs)
  unfolding items
  items-same k at [] = ends at
  items-same (suc k) at (x ∷ xs) = items-same k (at + 1) xs
  items-same zero at (x ∷ xs) = turns at _ _ (λ e. items-same (e - (at + 1)) (at + 1) xs)

-- ---- at an offset
module _ (s : List ℕ) where
  abbrev s' : List ℕ
  s' = blanked s

  digits-at : (base v at : ℕ) → digits_at base v s' at ≡ digits_at base v s at
  digits-at base v at = rw (drop-same at s) (digits_same base v at (drop at s))

  run_at : (lo hi at : ℕ) → run_end lo hi at (drop at s') ≡ run_end lo hi at (drop at s)
  run_at lo hi at = rw (drop-same at s) (run-same lo hi at (drop at s))

  past-at : (mark : List ℕ) (none : ℕ → Scan) → Neither mark → (at : ℕ) → past mark none at (drop at s') ≡ past mark none at (drop at s)
  past-at mark none h at = rw (drop-same at s) (past_same mark none h at (drop at s))

  peek_stays : (at : ℕ) → Stays (Peek.Byte space) (Peek.Byte carriage_return) (peek s' at) (peek s at)
  peek_stays at = rw (drop-same at s) (front_stays (drop at s))

  look_stays : (at : ℕ) → Stays (Ok space) (Ok carriage_return) (lookahead s' at) (lookahead s at)
  unfolding needed
  look_stays at = stays_by (needed at) (peek_stays at)

  -- a rule that goes by a peek, or by a look: what stays there, and at last what the two bytes come to
  module _ {A : Type 0} (P : A → A → Type 0) where
    by_peek : (rule : List ℕ → Peek → A) → P (rule s' Peek.End) (rule s Peek.End) → P (rule s' Peek.Foreign) (rule s Peek.Foreign)
        → ((x : ℕ) → P (rule s' (Peek.Byte x)) (rule s (Peek.Byte x))) → P (rule s' (Peek.Byte space)) (rule s (Peek.Byte carriage_return)) → (at : ℕ)
        → P (rule s' (peek s' at)) (rule s (peek s at))
    by_peek rule f g h e at = go (peek_stays at)
      where
        go : {p q : Peek} → Stays (Peek.Byte space) (Peek.Byte carriage_return) p q → P (rule s' p) (rule s q)
        go (kept {a = Peek.End}) = f
        go (kept {a = Peek.Foreign}) = g
        go (kept {a = Peek.Byte x}) = h x
        go swapped = e

    by_look : (rule : List ℕ → Look → A) → ((w : Fault) → P (rule s' (Err w)) (rule s (Err w)))
        → ((x : ℕ) → P (rule s' (Ok x)) (rule s (Ok x))) → P (rule s' (Ok space)) (rule s (Ok carriage_return)) → (at : ℕ)
        → P (rule s' (lookahead s' at)) (rule s (lookahead s at))
    unfolding needed
    by_look rule f h e at = by_peek (λ z p. rule z (needed at p)) (f _) (f _) h e at

  -- ---- layout
  comment_same : (o : ℕ) → bracketed_comment s' o ≡ bracketed_comment s o
  unfolding comment_opened
  comment_same o =
      let text = past-at (star ∷ slash ∷ []) (unclosed o) refl (o + 2) in
      by_look ◌≡◌ (λ z. comment_opened z o) (λ w. refl) (λ x. text) text (o + 2)

  slash-same : (at : ℕ) → slashed s' at (lookahead s' (at + 1)) ≡ slashed s at (lookahead s (at + 1))
  unfolding slashed
  slash-same at = by_look ◌≡◌ (λ z. slashed z at) (λ w. refl) (λ x. rw (comment_same at)) refl (at + 1)

  text_same : (at : ℕ) → layout_text s' at ≡ layout_text s at
  unfolding layout_text_of class_of
  text_same at =
      by_look ◌≡◌ (λ z. layout_text_of z at) (λ w. refl) (λ x. rw (past-at (newline ∷ []) Ok refl (at + 1), slash-same at)) refl at

  layout-same : (at : ℕ) → layout_end s' at ≡ layout_end s at
  layout-same at =
      rw (drop-same at s) (items-same ◌≡◌ (layout_texts s') (layout_texts s) ended (λ n. refl)
      (λ n next next' h. rw (text_same n) (ap (after (layout_texts s n)) (λ i e. h e i))) 0 at (drop at s))

  -- ---- quoted items, by the quote q
  module _ (q token : ℕ) (apart : eqb space q ≡ eqb carriage_return q) where
    numeric_same : (base at : ℕ) → numeric_escape base token s' at ≡ numeric_escape base token s at
    unfolding closed
    numeric_same base at = rw (digits-at base 0 at) (alike (closed token at (digits_at base 0 s at)) refl (look_stays (digits_at base 0 s at).end))

    escape-same : (at : ℕ) → escape token s' at ≡ escape token s at
    unfolding escape_to escape_of digit_of
    escape-same at = by_look ◌≡◌ (λ z. escape_to token z at) (λ w. refl) (λ x. rw (numeric_same 8 at, numeric_same 16 (at + 1))) refl at

    -- the one rule that tells the two apart
    item_same : (at : ℕ) → Unless Err (quoted_item q token s' at) (quoted_item q token s at)
    unfolding item_to quote_to
    item_same at =
        let quote = alike (quote_to q (at + 1)) (rw apart) (look_stays (at + 1)) in
        by_look (Unless Err) (λ z. item_to q token z at) (λ w. same) (λ x. since (rw (quote, escape-same (at + 1)))) (four token) at

    -- a refusal ends the token, another item is passed
    turn-same : {i j : QuotedItem} → Unless Err i j → (next next' : ℕ → Quoted) → ((e : ℕ) → Unless Quoted.refused (next e) (next' e))
        → Unless Quoted.refused (after (item_turn token i) next) (after (item_turn token j) next')
    unfolding after item_turn with_char out_of_limit
    turn-same (four o) next next' h = four o
    turn-same (same {a = Ok (Item.Char b e)}) next next' h = through (with_char b) (h e)
    turn-same (same {a = Ok (Item.Beyond e)}) next next' h = through (out_of_limit token) (h e)
    turn-same (same {a = Ok (Item.Skip e)}) next next' h = h e
    turn-same (same {a = Ok (Item.Close e)}) next next' h = same
    turn-same (same {a = Err w}) next next' h = same

    decode-same : (at : ℕ) → Unless Quoted.refused (decode q token s' at) (decode q token s at)
    decode-same at =
        rw (drop-same at s) (items-same (Unless Quoted.refused) (quoted_turn q token s') (quoted_turn q token s) unended (λ n. same)
        (λ n. turn-same (item_same n)) 0 at (drop at s))

  -- ---- numbers
  radix_same : (base at : ℕ) → radix_constant base s' at ≡ radix_constant base s at
  unfolding radix_to radix_closed digit_of
  radix_same base at = by_look ◌≡◌ (λ z. radix_to base z at) (λ w. refl) byte (byte space) (at + 2)
    where
      byte : (x : ℕ) → radix_to base s' at (Ok x) ≡ radix_to base s at (Ok x)
      byte x =
          let d = digits_at base 0 s (at + 2) in
          rw (digits-at base 0 (at + 2), alike (radix_closed (Integer d.value) d.end) refl (peek_stays d.end))

  exponent-digits : (sign : Bool) (at : ℕ) → exponent_digits s' sign at ≡ exponent_digits s sign at
  unfolding exponent_ends
  exponent-digits sign at = rw (digits-at 10 0 at) (alike (exponent_ends sign (digits_at 10 0 s at)) refl (peek_stays (digits_at 10 0 s at).end))

  sign_same : (sign : Bool) (at : ℕ) → sign_to s' sign at (peek s' at) ≡ sign_to s sign at (peek s at)
  unfolding sign_to digit_of
  sign_same sign at = by_peek ◌≡◌ (λ z. sign_to z sign at) refl refl (λ x. rw (exponent-digits sign at)) refl at

  letter_same : (at : ℕ) → letter_to s' at (peek s' at) ≡ letter_to s at (peek s at)
  unfolding letter_to sign_to digit_of
  letter_same at =
      by_peek ◌≡◌ (λ z. letter_to z at) refl refl (λ x. rw (sign_same false (at + 1), sign_same true (at + 1), exponent-digits false at)) refl at

  exponent_same : (at : ℕ) → exponent s' at ≡ exponent s at
  unfolding exponent_to
  exponent_same at = by_peek ◌≡◌ (λ z. exponent_to z at) refl refl (λ x. rw (letter_same (at + 1))) refl at

  point-same : (d : Digits) → Number.point_to s' d (peek s' (d.end + 1)) ≡ Number.point_to s d (peek s (d.end + 1))
  unfolding Number.point_to digit_of
  point-same d =
      let fraction = exponent_same (digits_at 10 d.value s (d.end + 1)).end in
      by_peek ◌≡◌ (λ z. Number.point_to z d) refl refl (λ x. rw (digits-at 10 d.value (d.end + 1), fraction)) refl (d.end + 1)

  -- ---- the token at `at`
  module _ (at : ℕ) where
    zero_same : (x : ℕ) → Unless Err (zero_to s' at x) (zero_to s at x)
    unfolding zero_to character_code
    zero_same x =
        either (eqb x small_x) (since (radix_same 16 at))
        (either (eqb x small_o) (since (radix_same 8 at))
        (either (eqb x small_b) (since (radix_same 2 at))
        (either (eqb x single_quote) (through (character_code at) (item_same single_quote at refl (at + 2))) same)))

    number_same : Unless Err (number_token s' at) (number_token s at)
    unfolding integer_to zero_to
    number_same =
        let d = digits_at 10 0 s at in
        rw (digits-at 10 0 at) (by_peek (Unless Err) (λ z. integer_to z at d) same same
        (λ x. either (eqb x underscore) same
        (either (eqb x point) (since (point-same d)) (either (eqb d.end (at + 1) && eqb d.value 0) (zero_same x) same))) same d.end)

    name_same : (x : ℕ) → name_token s' at x ≡ name_token s at x
    unfolding name_token
    name_same x = rw (run_at small_letter decimal_digit (at + 1), run_at graphic_token_char graphic_token_char (at + 1))

    end_same : end_token s' at ≡ end_token s at
    unfolding point_to class_of
    end_same = by_peek ◌≡◌ (λ z. point_to z at) refl refl (λ x. rw (name_same point)) refl (at + 1)

    solo_same : (x : ℕ) (m : Mark) → solo_to s' at x m ≡ solo_to s at x m
    unfolding solo_to bar_to
    solo_same x (Some k) = refl
    solo_same x None = rw (alike (bar_to at) refl (look_stays (at + 1)), name_same x)

    sourced-same : (origin : Source) {a b : NumberRead} → Unless Err a b → Unless Err (sourced origin a) (sourced origin b)
    sourced-same File p = p
    sourced-same Field p = through (sourced Field) p

    plain_same : (origin : Source) (layout : Bool) (x : ℕ) → Unless Err (plain_token origin s' at layout x) (plain_token origin s at layout x)
    unfolding plain_token numbered
    plain_same origin layout x =
        either (is decimal_digit x) (through (numbered at) (sourced-same origin number_same))
        (since (rw (solo_same x (mark layout x), run_at small_letter decimal_digit (at + 1), end_same, name_same x)))

    token-same : (origin : Source) (layout : Bool) → Unless refused (lexeme_to origin s' at layout (lookahead s' at)) (lexeme_to origin s at layout (lookahead s at))
    unfolding lexeme_to quoted_lexeme quoted_to plain_lexeme plain_token name_token class_of
    token-same origin layout =
        by_look (Unless refused) (λ z. lexeme_to origin z at layout) (λ w. same)
        (λ x. either (is quote_char x)
        (either (eqb x single_quote) (through (quoted_to Name at) (decode-same single_quote at refl (at + 1)))
        (either (eqb x double_quote) (through (quoted_to String at) (decode-same double_quote at refl (at + 1))) same))
        (through (plain_lexeme at) (plain_same origin layout x))) same at

  -- ---- a cursor that is moved on
  pub move_same : (c : Cursor) (e : ℕ) → move_to (blanked s) c e ≡ move_to s c e
  unfolding move_to
  move_same c e = rw (drop-same c.offset s) (walk_same (e - c.offset) (drop c.offset s) c)

  -- ---- what is read from an offset on, and what the call answers
  module _ (origin : Source) where
    after-layout : (from : ℕ) (r : Scan) → Unless refused (after_layout origin s' from r) (after_layout origin s from r)
    unfolding after_layout
    after-layout from (Err w) = same
    after-layout from (Ok at) = token-same at origin (ltb from at)

    behind-layout : (from : ℕ) → Unless refused (behind_layout origin s' from) (behind_layout origin s from)
    behind-layout from = rw (layout-same from) (after-layout from (layout_end s from))

    -- what is read
    pub lexeme_same : (from : ℕ) → Unless refused (read_lexeme origin s' from) (read_lexeme origin s from)
    unfolding lexeme_since
    lexeme_same from = through (lexeme_since from) (behind-layout from)

    module _ (c : Cursor) where
      answer-same : {a b : Lexeme} → Unless refused a b → Unless (λ w. refuse w c) (answered s' c a) (answered s c b)
      unfolding answered
      answer-same (four o) = four o
      answer-same (same {a = refused w}) = same
      answer-same (same {a = lexeme t e x}) = since (rw (move_same c e))

      -- what is answered
      pub answer-alike : (next_token origin (blanked s) c ≡ next_token origin s c) ⊎ ((o : ℕ) × (next_token origin s c ≡ refuse (fault BadQuoted o) c))
      answer-alike =
          or_four {refuse = λ w. refuse w c} (rw (length-map s blank) (either (valid (length s) c) (answer-same (lexeme_same c.offset)) same))
