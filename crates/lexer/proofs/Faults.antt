-- Where a refusal of the token call points: 01's table of refusals, its column "offset". Assumes nothing.
use mathlib.Core.Path.{◌≡◌, refl, sym, ◌∙◌, subst}
use mathlib.Core.Logic.{⊎_elim}
use mathlib.Core.Bool.{Bool, true, false, cond, ◌&&◌, ◌||◌}
use mathlib.Core.List.{List, [], ◌∷◌}
use Prim.Native.Nat.{ℕ, zero, suc, ◌+◌, ◌-◌, ◌<◌, ◌≤◌}
use native.Mathlib.Omega.{arith}
use borrow.Author.Tests.{eqb-true}
use lib.Dec.{eqb, leb, ltb}
use lib.ListN.{length, drop, get_or}
use Rattle.lexer.specs.Chars.{is, class_of, within, among, small_letter, capital_letter, underscore_char, decimal_digit, graphic_token_char, layout_char, solo_char, quote_char, foreign_byte, newline, percent, star, slash, single_quote, double_quote, cut, semicolon, backslash, point, bar, underscore, plus, minus, small_x, small_o, small_b, small_e, capital_e}
use Rattle.lexer.specs.Cursor.{valid}
use Rattle.lexer.specs.Digits.{is_digit, digits_at, beyond}
use Rattle.lexer.specs.Float.{float_value}
use Rattle.lexer.specs.Layout.{begins_with, past, single_line_comment, comment_opened, slashed, layout_text_of, layout_end}
use Rattle.lexer.specs.Look.{peek, needed, lookahead}
use Rattle.lexer.specs.Name.{run_end, alphanumerics, graphics, run_token, name_token, PlainToken}
use Rattle.lexer.specs.Number.{radix_closed, radix_to, radix_constant, character_code, zero_to, exponent_ends, sign_to, letter_to, exponent_to, exponent, float, fraction_digits, fraction, integer_to, number_token, ExponentRead, NumberRead}
use Rattle.lexer.specs.Number as Number
use Rattle.lexer.specs.Quoted.{escape_of, coded, closed, numeric_escape, escape_to, quote_to, unquotable, item_to, quoted_item, Quoted, with_char, out_of_limit, decode, QuotedItem}
use Rattle.lexer.specs.Refusal.{fault, refuse}
use Rattle.lexer.specs.Token.{mark, bar_to, point_to, solo_to, floated, valued, numbered, sourced, plain_token, Lexeme, lexeme, refused, plain_lexeme, quoted_to, quoted_lexeme, lexeme_to, after_layout, behind_layout, lexeme_since, read_lexeme, answered, not_valid, next_token}
use Rattle.lexer.specs.declared.refusal.Fault.{Fault}
use Rattle.lexer.specs.declared.refusal.Refusal.{Refusal}
use Rattle.lexer.specs.declared.refusal.Refusal.TheVariants.{EndOfText, UnclosedComment, NoToken, BadQuoted, ForeignByte, SetAside, OutOfLimit, NotValid, NoRoom, TooManyTokens, NoReading, NoText, TooLong, NoPack, TokenTooLong, UnknownVersion}
use Rattle.lexer.specs.declared.chars.Peek.{Peek}
use Rattle.lexer.specs.Look.{Look}
use Rattle.std.specs.declared.result.Result.TheVariants.{Ok, Err}
use Rattle.lexer.specs.declared.cursor.Cursor.{Cursor}
use Rattle.lexer.specs.Cursor.{Scan}
use Rattle.lexer.specs.declared.digits.Digits.{Digits}
use Rattle.lexer.specs.Float.{Floated}
use Rattle.std.specs.declared.option.Option.TheVariants.{Some, None}
use Rattle.lexer.specs.declared.kind.Kind.{Kind}
use Rattle.lexer.specs.declared.number.Exponent.{Exponent}
use Rattle.lexer.specs.declared.number.Numeral.{Numeral}
use Rattle.lexer.specs.declared.number.NumberToken.{NumberToken}
use Rattle.lexer.specs.declared.quoted.Item.{Item}
use Rattle.lexer.specs.Token.{Mark}
use Rattle.lexer.specs.declared.token.Source.{Source}
use Rattle.lexer.proofs.Parts.{refuse_parts}
use Rattle.lexer.proofs.Bases.{digits_end}
use Rattle.lexer.proofs.Cursors.{both, is-valid}
use Rattle.lexer.proofs.FirstMark.{Clear, Came, ends, foreign, unended, comment_came}
use Rattle.lexer.proofs.Layouts.{Before, layout_hold, layout_ends}
use Rattle.lexer.proofs.Looks.{Seen, Strange, inside_or_not, peek_end, peek_byte, peek_foreign, look_byte}
use Rattle.lexer.proofs.Numbers.{EndsOf, number_ends}
use Rattle.lexer.proofs.Promises.{class_digit}
use Rattle.lexer.proofs.QuotedItems.{decode_hold}
use Rattle.lexer.proofs.Sources.{by_source, sourced_ends}
use Rattle.lexer.proofs.Spans.{by_test}
use Rattle.lexer.proofs.Steps.{drop_at, drop_end}

-- ---- 01's table

-- a slash that a star follows, at o, then at least one character, and no star that a slash follows
pub record Unclosed (s : List ℕ) (o : ℕ) : Type 0 where
  pub slash_there : get_or s o 0 ≡ slash
  pub star_there : get_or s (o + 1) 0 ≡ star
  pub more : o + 2 < length s
  pub clear : Clear s (o + 2) (length s)

-- the token that is read from the cursor on starts at o, where layout ends
abbrev pub Starts : List ℕ → Cursor → ℕ → Type 0
Starts s c o = layout_end s c.offset ≡ Ok o

-- 01's offset of each refusal, on the text s from the cursor c; T says of an offset that the token starts there
abbrev pub PlacedAt : (ℕ → Type 0) → List ℕ → Cursor → ℕ → Refusal → Type 0
-- 1: "length"
PlacedAt T s c o EndOfText = o ≡ length s
-- 2: "its slash", the unclosed comment's
PlacedAt T s c o UnclosedComment = Unclosed s o
-- 3: "it", the character that no token starts with
PlacedAt T s c o NoToken = T o
-- 4: "token"
PlacedAt T s c o BadQuoted = T o
-- 5: "that byte", the foreign one
PlacedAt T s c o ForeignByte = Strange s o (get_or s o 0)
-- 6: "token"
PlacedAt T s c o SetAside = T o
-- 7: "token"
PlacedAt T s c o OutOfLimit = T o
-- 8: "0"; and the text is too long or the cursor is not valid
PlacedAt T s c o NotValid = (o ≡ 0) × (valid (length s) c ≡ false)
-- 9 and above: these are refusals of other calls
PlacedAt T s c o NoRoom = ⊥
PlacedAt T s c o TooManyTokens = ⊥
PlacedAt T s c o NoReading = ⊥
PlacedAt T s c o NoText = ⊥
PlacedAt T s c o TooLong = ⊥
PlacedAt T s c o NoPack = ⊥
PlacedAt T s c o TokenTooLong = ⊥
PlacedAt T s c o UnknownVersion = ⊥

-- a refusal points where the table says
abbrev pub Placed : List ℕ → Cursor → Fault → Type 0
Placed s c w = PlacedAt (Starts s c) s c w.offset w.refusal

-- what holds of the rest of a text, a byte at a time
by-bytes : (s : List ℕ) (P : ℕ → List ℕ → Type 0) → ((at : ℕ) → length s ≤ at → P at [])
    → ((at : ℕ) → at < length s → P (at + 1) (drop (at + 1) s) → P at (get_or s at 0 ∷ drop (at + 1) s))
    → (n at : ℕ) → length s - at ≤ n → P at (drop at s)
by-bytes s P none more zero at h = ⊎_elim (λ l. subst (P at) (sym (drop_end s at l)) (none at l)) (λ l. absurd (omega arith)) (inside_or_not s at)
by-bytes s P none more (suc n) at h =
    ⊎_elim (λ l. subst (P at) (sym (drop_end s at l)) (none at l))
    (λ l. subst (P at) (sym (drop_at s at l)) (more at l (by-bytes s P none more n (at + 1) (omega arith)))) (inside_or_not s at)

-- ---- a refusal of each rule is where the table puts it
module _ (s : List ℕ) (c : Cursor) (T : ℕ → Type 0) where
  abbrev Put : Fault → Type 0
  Put w = PlacedAt T s c w.offset w.refusal

  abbrev OfScan : Scan → Type 0
  OfScan (Ok e) = Unit {0}
  OfScan (Err w) = Put w

  abbrev OfItem : QuotedItem → Type 0
  OfItem (Ok (Item.Char b e)) = Unit {0}
  OfItem (Ok (Item.Beyond e)) = Unit {0}
  OfItem (Ok (Item.Skip e)) = Unit {0}
  OfItem (Ok (Item.Close e)) = Unit {0}
  OfItem (Err w) = Put w

  abbrev OfQuoted : Quoted → Type 0
  OfQuoted (Quoted.whole bs e) = Unit {0}
  OfQuoted (Quoted.refused w) = Put w

  abbrev OfExponent : ExponentRead → Type 0
  OfExponent (Ok Exponent.Absent) = Unit {0}
  OfExponent (Ok Exponent.Ended) = Unit {0}
  OfExponent (Ok (Exponent.Whole sign x e)) = Unit {0}
  OfExponent (Ok (Exponent.Partial sign x e)) = Unit {0}
  OfExponent (Err w) = Put w

  abbrev OfNumber : NumberRead → Type 0
  OfNumber (Ok (NumberToken.Whole n e)) = Unit {0}
  OfNumber (Ok (NumberToken.Partial n e)) = Unit {0}
  OfNumber (Err w) = Put w

  abbrev OfPlain : PlainToken → Type 0
  OfPlain (Ok p) = Unit {0}
  OfPlain (Err w) = Put w

  abbrev OfLexeme : Lexeme → Type 0
  OfLexeme (lexeme t e x) = Unit {0}
  OfLexeme (refused w) = Put w

  -- ---- a look, and a byte
  look_placed : (o : ℕ) → o ≤ length s → (w : Fault) → lookahead s o ≡ Err w → Put w
  unfolding needed
  look_placed o h w e = go (peek s o) refl e
    where
      go : (p : Peek) → peek s o ≡ p → needed o p ≡ Err w → Put w
      go Peek.End q f =
          let k = peek_end s o q in
          let l : o ≡ length s = omega arith in
          let g : fault EndOfText o ≡ w = cc in
          subst Put g l
      go Peek.Foreign q f = let g : fault ForeignByte o ≡ w = cc in subst Put g (peek_foreign s o q)
      go (Peek.Byte x) q f = let z : ◌≡◌ {A = ℕ} 0 1 = cc in absurd (omega arith)

  strange : (o : ℕ) → o < length s → is foreign_byte (get_or s o 0) ≡ true → Strange s o (get_or s o 0)
  strange o h f = record { inside = h; rest = drop_at s o h; unknown = f }

  -- ---- layout
  line-placed : (at : ℕ) → OfScan (single_line_comment s at)
  unfolding past
  line-placed at =
      by-bytes s (λ (n : ℕ) (xs : List ℕ). OfScan (past (newline ∷ []) Ok n xs)) (λ n l. tt)
      (λ n l p. by_test OfScan (is foreign_byte (get_or s n 0)) _ _ (strange n l)
      (λ _. by_test OfScan (begins_with (newline ∷ []) (get_or s n 0 ∷ drop (n + 1) s)) _ _ (λ _. tt) (λ _. p)))
      (length s - at) at (omega arith)

  module _ (o : ℕ) (first : get_or s o 0 ≡ slash) where
    came_placed : get_or s (o + 1) 0 ≡ star → o + 2 < length s → {r : Scan} → Came s o (o + 2) r → OfScan r
    came_placed second h (ends e) = tt
    came_placed second h (foreign i l f) = strange i l f
    came_placed second h (unended d) = record { slash_there = first; star_there = second; more = h; clear = d }

    comment_placed : get_or s (o + 1) 0 ≡ star → o + 1 < length s → (r : Look) → lookahead s (o + 2) ≡ r → OfScan (comment_opened s o r)
    unfolding comment_opened
    comment_placed second h (Err w) e = look_placed (o + 2) (omega arith) w e
    comment_placed second h (Ok x) e = came_placed second (look_byte s (o + 2) x e).inside (comment_came s o)

    slash-placed : o < length s → (r : Look) → lookahead s (o + 1) ≡ r → OfScan (slashed s o r)
    unfolding slashed
    slash-placed h (Err w) e = look_placed (o + 1) (omega arith) w e
    slash-placed h (Ok x) e =
        let l = look_byte s (o + 1) x e in
        by_test OfScan (eqb x star) _ _ (λ t. comment_placed (l.it ∙ eqb-true x star t) l.inside (lookahead s (o + 2)) refl) (λ _. tt)

  text-placed : (at : ℕ) → at ≤ length s → (r : Look) → lookahead s at ≡ r → OfScan (layout_text_of s at r)
  unfolding layout_text_of
  text-placed at h (Err w) e = look_placed at h w e
  text-placed at h (Ok x) e =
      let l = look_byte s at x e in
      by_test OfScan (is layout_char x) _ _ (λ _. tt)
      (λ _. by_test OfScan (eqb x percent) _ _ (λ _. line-placed (at + 1))
      (λ _. by_test OfScan (eqb x slash) _ _ (λ t. slash-placed at (l.it ∙ eqb-true x slash t) l.inside (lookahead s (at + 1)) refl) (λ _. tt)))

  layout-placed : (at : ℕ) → at ≤ length s → OfScan (layout_end s at)
  layout-placed at =
      layout_hold s (λ (n : ℕ) (r : Scan). n ≤ length s → OfScan r) (λ n e f h. tt)
      (λ n w f h. subst OfScan f (text-placed n h (lookahead s n) refl))
      (λ n e r h k p l. p k) at

  -- ---- a token, which starts at `at`
  module _ (at : ℕ) (h : T at) where
    -- quoted items
    code-placed : (n e : ℕ) → OfItem (coded n e)
    unfolding coded
    code-placed n e = by_test OfItem (eqb n 0) _ _ (λ _. tt) (λ _. by_test OfItem (leb n 127) _ _ (λ _. tt) (λ _. tt))

    closed-placed : (from : ℕ) (d : Digits) → d.end ≤ length s → (r : Look) → lookahead s d.end ≡ r → OfItem (closed at from d r)
    unfolding closed
    closed-placed from d k (Err w) e = look_placed d.end k w e
    closed-placed from d k (Ok x) e =
        by_test OfItem (eqb x backslash) _ _ (λ _. by_test OfItem (eqb d.end from) _ _ (λ _. h) (λ _. code-placed d.value (d.end + 1))) (λ _. h)

    numeric_placed : (base from : ℕ) → from ≤ length s → OfItem (numeric_escape base at s from)
    numeric_placed base from k = closed-placed from (digits_at base 0 s from) (digits_end base 0 s from k).1 (lookahead s (digits_at base 0 s from).end) refl

    escape-placed : (k : ℕ) → k ≤ length s → (r : Look) → lookahead s k ≡ r → OfItem (escape_to at s k r)
    unfolding escape_to
    escape-placed k l (Err w) e = look_placed k l w e
    escape-placed k l (Ok x) e =
        let m = (look_byte s k x e).inside in
        by_test OfItem (eqb x newline) _ _ (λ _. tt)
        (λ _. by_test OfItem (is_digit 8 x) _ _ (λ _. numeric_placed 8 k l)
        (λ _. by_test OfItem (eqb x small_x) _ _ (λ _. numeric_placed 16 (k + 1) (omega arith))
        (λ _. by_test OfItem (eqb (escape_of x) 0) _ _ (λ _. h) (λ _. tt))))

    quote_placed : (q k : ℕ) → k ≤ length s → (r : Look) → lookahead s k ≡ r → OfItem (quote_to q k r)
    unfolding quote_to
    quote_placed q k l (Err w) e = look_placed k l w e
    quote_placed q k l (Ok x) e = by_test OfItem (eqb x q) _ _ (λ _. tt) (λ _. tt)

    item_placed : (q k : ℕ) → k ≤ length s → (r : Look) → lookahead s k ≡ r → OfItem (item_to q at s k r)
    unfolding item_to
    item_placed q k l (Err w) e = look_placed k l w e
    item_placed q k l (Ok x) e =
        let m = (look_byte s k x e).inside in
        by_test OfItem (among x unquotable) _ _ (λ _. h)
        (λ _. by_test OfItem (eqb x q) _ _ (λ _. quote_placed q (k + 1) (omega arith) (lookahead s (k + 1)) refl)
        (λ _. by_test OfItem (eqb x backslash) _ _ (λ _. escape-placed (k + 1) (omega arith) (lookahead s (k + 1)) refl) (λ _. tt)))

    char_placed : (b : ℕ) (d : Quoted) → OfQuoted d → OfQuoted (with_char b d)
    unfolding with_char
    char_placed b (Quoted.whole bs e) p = tt
    char_placed b (Quoted.refused w) p = p

    limit_placed : (d : Quoted) → OfQuoted d → OfQuoted (out_of_limit at d)
    unfolding out_of_limit
    limit_placed (Quoted.whole bs e) p = h
    limit_placed (Quoted.refused w) p = p

    decode-placed : (q k : ℕ) → k ≤ length s → OfQuoted (decode q at s k)
    decode-placed q k =
        decode_hold q at s (λ (n : ℕ) (d : Quoted). n ≤ length s → OfQuoted d) (λ n e l m. tt)
        (λ n w f l. subst OfItem f (item_placed q n l (lookahead s n) refl))
        (λ n e b l d p m. char_placed b d (p l.inside))
        (λ n e l d p m. limit_placed d (p l.inside))
        (λ n e l d p m. p l.inside) k

    -- numbers
    exponent-digits : (sign : Bool) (d : Digits) (r : Peek) → peek s d.end ≡ r → OfExponent (exponent_ends sign d r)
    unfolding exponent_ends
    exponent-digits sign d Peek.End e = tt
    exponent-digits sign d Peek.Foreign e = peek_foreign s d.end e
    exponent-digits sign d (Peek.Byte x) e = tt

    exponent_sign : (sign : Bool) (k : ℕ) (r : Peek) → peek s k ≡ r → OfExponent (sign_to s sign k r)
    unfolding sign_to
    exponent_sign sign k Peek.End e = tt
    exponent_sign sign k Peek.Foreign e = peek_foreign s k e
    exponent_sign sign k (Peek.Byte x) e =
        by_test OfExponent (is_digit 10 x) _ _ (λ _. exponent-digits sign (digits_at 10 0 s k) (peek s (digits_at 10 0 s k).end) refl) (λ _. tt)

    exponent_letter : (k : ℕ) (r : Peek) → peek s k ≡ r → OfExponent (letter_to s k r)
    unfolding letter_to
    exponent_letter k Peek.End e = tt
    exponent_letter k Peek.Foreign e = peek_foreign s k e
    exponent_letter k (Peek.Byte x) e =
        by_test OfExponent (eqb x plus) _ _ (λ _. exponent_sign false (k + 1) (peek s (k + 1)) refl)
        (λ _. by_test OfExponent (eqb x minus) _ _ (λ _. exponent_sign true (k + 1) (peek s (k + 1)) refl) (λ _. exponent_sign false k (Peek.Byte x) e))

    exponent-placed : (k : ℕ) (r : Peek) → peek s k ≡ r → OfExponent (exponent_to s k r)
    unfolding exponent_to
    exponent-placed k Peek.End e = tt
    exponent-placed k Peek.Foreign e = peek_foreign s k e
    exponent-placed k (Peek.Byte x) e = by_test OfExponent (eqb x small_e || eqb x capital_e) _ _ (λ _. exponent_letter (k + 1) (peek s (k + 1)) refl) (λ _. tt)

    float-placed : (m f e : ℕ) (x : ExponentRead) → OfExponent x → OfNumber (float m f e x)
    unfolding float
    float-placed m f e (Ok Exponent.Absent) p = tt
    float-placed m f e (Ok Exponent.Ended) p = tt
    float-placed m f e (Ok (Exponent.Whole sign x end)) p = tt
    float-placed m f e (Ok (Exponent.Partial sign x end)) p = tt
    float-placed m f e (Err w) p = p

    fraction-placed : (d : Digits) → OfNumber (fraction s d)
    fraction-placed d =
        let e = (fraction_digits s d).end in
        float-placed _ _ e (exponent s e) (exponent-placed e (peek s e) refl)

    point-placed : (d : Digits) (r : Peek) → peek s (d.end + 1) ≡ r → OfNumber (Number.point_to s d r)
    unfolding Number.point_to
    point-placed d Peek.End e = tt
    point-placed d Peek.Foreign e = peek_foreign s (d.end + 1) e
    point-placed d (Peek.Byte x) e = by_test OfNumber (is_digit 10 x) _ _ (λ _. fraction-placed d) (λ _. tt)

    radix-closed : (n : Numeral) (e : ℕ) (r : Peek) → peek s e ≡ r → OfNumber (radix_closed n e r)
    unfolding radix_closed
    radix-closed n e Peek.End f = tt
    radix-closed n e Peek.Foreign f = peek_foreign s e f
    radix-closed n e (Peek.Byte x) f = tt

    -- behind the 0, a byte
    module _ (inside : at + 1 < length s) where
      radix-to : (base : ℕ) (r : Look) → lookahead s (at + 2) ≡ r → OfNumber (radix_to base s at r)
      unfolding radix_to
      radix-to base (Err w) e = look_placed (at + 2) (omega arith) w e
      radix-to base (Ok x) e =
          by_test OfNumber (is_digit base x) _ _ (λ _. radix-closed _ (digits_at base 0 s (at + 2)).end (peek s (digits_at base 0 s (at + 2)).end) refl) (λ _. tt)

      radix_placed : (base : ℕ) → OfNumber (radix_constant base s at)
      radix_placed base = radix-to base (lookahead s (at + 2)) refl

      character_placed : (i : QuotedItem) → OfItem i → OfNumber (character_code at i)
      unfolding character_code
      character_placed (Ok (Item.Char b e)) p = tt
      character_placed (Ok (Item.Beyond e)) p = tt
      character_placed (Ok (Item.Skip e)) p = h
      character_placed (Ok (Item.Close e)) p = tt
      character_placed (Err w) p = p

      zero-placed : (x : ℕ) → OfNumber (zero_to s at x)
      unfolding zero_to
      zero-placed x =
          by_test OfNumber (eqb x small_x) _ _ (λ _. radix_placed 16)
          (λ _. by_test OfNumber (eqb x small_o) _ _ (λ _. radix_placed 8)
          (λ _. by_test OfNumber (eqb x small_b) _ _ (λ _. radix_placed 2)
          (λ _. by_test OfNumber (eqb x single_quote) _ _
          (λ _. character_placed (quoted_item single_quote at s (at + 2)) (item_placed single_quote (at + 2) (omega arith) (lookahead s (at + 2)) refl)) (λ _. tt))))

    integer_placed : (d : Digits) (r : Peek) → peek s d.end ≡ r → OfNumber (integer_to s at d r)
    unfolding integer_to
    integer_placed d Peek.End e = tt
    integer_placed d Peek.Foreign e = peek_foreign s d.end e
    integer_placed d (Peek.Byte x) e =
        by_test OfNumber (eqb x underscore) _ _ (λ _. h)
        (λ _. by_test OfNumber (eqb x point) _ _ (λ _. point-placed d (peek s (d.end + 1)) refl)
        (λ _. by_test OfNumber (eqb d.end (at + 1) && eqb d.value 0) _ _
        (λ t. let q = eqb-true d.end (at + 1) (both _ _ t).0 in zero-placed (omega (arith, q, (peek_byte s d.end x e).inside)) x) (λ _. tt)))

    number-placed : OfNumber (number_token s at)
    number-placed = integer_placed (digits_at 10 0 s at) (peek s (digits_at 10 0 s at).end) refl

    floated-placed : (e : ℕ) (v : Floated) → OfPlain (floated at e v)
    unfolding floated
    floated-placed e (Some v) = tt
    floated-placed e None = h

    valued-placed : (e : ℕ) (n : Numeral) → OfPlain (valued at e n)
    unfolding valued
    valued-placed e (Numeral.Integer n) = by_test OfPlain (ltb n beyond) _ _ (λ _. tt) (λ _. h)
    valued-placed e (Numeral.Float m sign x f) = floated-placed e (float_value m sign x f)

    -- a number that reaches the end of the text ends there
    numbered-placed : (n : NumberRead) → EndsOf s at n → OfNumber n → OfPlain (numbered at n)
    unfolding numbered
    numbered-placed (Ok (NumberToken.Whole n e)) q p = valued-placed e n
    numbered-placed (Ok (NumberToken.Partial n e)) q p = q.last
    numbered-placed (Err w) q p = p

    -- names and variables
    run-placed : (lo hi k : ℕ) → k ≤ length s → OfScan (run_end lo hi k (drop k s))
    unfolding run_end
    run-placed lo hi k =
        by-bytes s (λ (n : ℕ) (xs : List ℕ). n ≤ length s → OfScan (run_end lo hi n xs)) (λ n l m. omega arith)
        (λ n l p m. by_test OfScan (within lo hi (class_of (get_or s n 0))) _ _ (λ _. p (omega arith))
        (λ _. by_test OfScan (eqb (class_of (get_or s n 0)) foreign_byte) _ _ (strange n l) (λ _. tt)))
        (length s - k) k (omega arith)

    run-token : (k : Kind) (r : Scan) → OfScan r → OfPlain (run_token k r)
    unfolding run_token
    run-token k (Ok e) p = tt
    run-token k (Err w) p = p

    module _ (x : ℕ) (l : Seen s at x) where
      next : at + 1 ≤ length s
      next = omega (arith, l.inside)

      alphanumeric_placed : (k : Kind) → OfPlain (run_token k (alphanumerics s (at + 1)))
      alphanumeric_placed k = run-token k (alphanumerics s (at + 1)) (run-placed small_letter decimal_digit (at + 1) next)

      name_placed : OfPlain (name_token s at x)
      unfolding name_token
      name_placed =
          by_test OfPlain (is small_letter x) _ _ (λ _. alphanumeric_placed Kind.Name)
          (λ _. by_test OfPlain (is graphic_token_char x) _ _
          (λ _. run-token Kind.Name (graphics s (at + 1)) (run-placed graphic_token_char graphic_token_char (at + 1) next))
          (λ _. by_test OfPlain (eqb x cut) _ _ (λ _. tt) (λ _. by_test OfPlain (eqb x semicolon) _ _ (λ _. tt) (λ _. h))))

      -- the other tokens
      bar-placed : (r : Look) → lookahead s (at + 1) ≡ r → OfPlain (bar_to at r)
      unfolding bar_to
      bar-placed (Err w) e = look_placed (at + 1) next w e
      bar-placed (Ok y) e = by_test OfPlain (eqb y bar) _ _ (λ _. tt) (λ _. tt)

      solo_placed : (m : Mark) → OfPlain (solo_to s at x m)
      unfolding solo_to
      solo_placed (Some k) = tt
      solo_placed None = by_test OfPlain (eqb x bar) _ _ (λ _. bar-placed (lookahead s (at + 1)) refl) (λ _. name_placed)

      end_placed : x ≡ point → (r : Peek) → peek s (at + 1) ≡ r → OfPlain (point_to s at r)
      unfolding point_to
      end_placed n Peek.End e = tt
      end_placed n Peek.Foreign e = peek_foreign s (at + 1) e
      end_placed n (Peek.Byte y) e =
          by_test OfPlain (eqb y newline) _ _ (λ _. tt)
          (λ _. by_test OfPlain (is layout_char y) _ _ (λ _. tt)
          (λ _. by_test OfPlain (eqb y percent) _ _ (λ _. tt) (λ _. subst (λ (z : ℕ). OfPlain (name_token s at z)) n name_placed)))

      digit_placed : (origin : Source) → is decimal_digit x ≡ true → OfPlain (numbered at (sourced origin (number_token s at)))
      digit_placed origin t =
          let e = number_ends s at x l (class_digit x (eqb-true (class_of x) decimal_digit t)) in
          numbered-placed _ (sourced_ends s at origin (number_token s at) e) (by_source OfNumber origin (number_token s at) (λ m k p. tt) number-placed)

      plain_placed : (origin : Source) (layout : Bool) → OfPlain (plain_token origin s at layout x)
      unfolding plain_token
      plain_placed origin layout =
          by_test OfPlain (is decimal_digit x) _ _ (digit_placed origin)
          (λ _. by_test OfPlain (is solo_char x) _ _ (λ _. solo_placed (mark layout x))
          (λ _. by_test OfPlain (is capital_letter x) _ _ (λ _. alphanumeric_placed Kind.Variable)
          (λ _. by_test OfPlain (is underscore_char x) _ _ (λ _. alphanumeric_placed Kind.Variable)
          (λ _. by_test OfPlain (eqb x point) _ _ (λ t. end_placed (eqb-true x point t) (peek s (at + 1)) refl) (λ _. name_placed)))))

    of_plain : (p : PlainToken) → OfPlain p → OfLexeme (plain_lexeme at p)
    unfolding plain_lexeme
    of_plain (Ok q) p = tt
    of_plain (Err w) p = p

    of_quoted : (k : Kind) (d : Quoted) → OfQuoted d → OfLexeme (quoted_to k at d)
    unfolding quoted_to
    of_quoted k (Quoted.whole bs e) p = tt
    of_quoted k (Quoted.refused w) p = p

    lexeme_placed : (origin : Source) (layout : Bool) (r : Look) → at < length s → lookahead s at ≡ r → OfLexeme (lexeme_to origin s at layout r)
    unfolding lexeme_to quoted_lexeme
    lexeme_placed origin layout (Err w) m e = look_placed at (omega arith) w e
    lexeme_placed origin layout (Ok x) m e =
        let quoted : (k : Kind) (q : ℕ) → OfLexeme (quoted_to k at (decode q at s (at + 1))) = λ k q. of_quoted k (decode q at s (at + 1)) (decode-placed q (at + 1) (omega arith)) in
        by_test OfLexeme (is quote_char x) _ _
        (λ _. by_test OfLexeme (eqb x single_quote) _ _ (λ _. quoted Kind.Name single_quote)
        (λ _. by_test OfLexeme (eqb x double_quote) _ _ (λ _. quoted Kind.String double_quote) (λ _. h)))
        (λ _. of_plain (plain_token origin s at layout x) (plain_placed x (look_byte s at x e) origin layout))

-- ---- the calls
module _ (s : List ℕ) (c : Cursor) where
  inside_of : (r : Scan) → layout_end s c.offset ≡ r → Before c.offset (length s) r
  inside_of r f = rw f at (layout_ends s c.offset)

  after-placed : (origin : Source) → c.offset ≤ length s → (r : Scan) → layout_end s c.offset ≡ r → OfLexeme s c (Starts s c) (after_layout origin s c.offset r)
  unfolding after_layout
  after-placed origin h (Err w) f = subst (OfScan s c (Starts s c)) f (layout-placed s c (Starts s c) c.offset h)
  after-placed origin h (Ok at) f = lexeme_placed s c (Starts s c) at f origin (ltb c.offset at) (lookahead s at) (inside_of (Ok at) f).1 refl

  -- wherever the layout before it began
  since_placed : (l : Lexeme) → OfLexeme s c (Starts s c) l → OfLexeme s c (Starts s c) (lexeme_since c.offset l)
  unfolding lexeme_since
  since_placed (lexeme t e x) p = tt
  since_placed (refused w) p = p

  answer-placed : (origin : Source) (w : Fault) (back : Cursor) (b : Bool) (l : Lexeme) → valid (length s) c ≡ b → read_lexeme origin s c.offset ≡ l
      → cond b (answered s c l) (refuse not_valid c) ≡ refuse w back → Placed s c w
  unfolding answered
  answer-placed origin w back true (lexeme t e x) v f g = let z : ◌≡◌ {A = ℕ} 0 1 = cc in absurd (omega arith)
  answer-placed origin w back true (refused u) v f g =
      let q = (refuse_parts g).0 in
      subst (Placed s c) q (subst (OfLexeme s c (Starts s c)) f (since_placed (behind_layout origin s c.offset) (after-placed origin (is-valid (length s) c v).offset (layout_end s c.offset) refl)))
  answer-placed origin w back false l v f g = let q = (refuse_parts g).0 in subst (Placed s c) q (refl, v)

  -- a refusal of the token call is where 01's table puts it
  pub refusal_placed : (origin : Source) (w : Fault) (back : Cursor) → next_token origin s c ≡ refuse w back → Placed s c w
  refusal_placed origin w back = answer-placed origin w back (valid (length s) c) (read_lexeme origin s c.offset) refl refl

  -- so it is no further than the end of the text
  starts_inside : (o : ℕ) → Starts s c o → o ≤ length s
  starts_inside o f = let b = inside_of (Ok o) f in omega (arith, b.1)

  placed-at_inside : (T : ℕ → Type 0) → ((o : ℕ) → T o → o ≤ length s) → (o : ℕ) (r : Refusal) → PlacedAt T s c o r → o ≤ length s
  placed-at_inside T q o EndOfText p = omega arith
  placed-at_inside T q o UnclosedComment p = omega (arith, p.more)
  placed-at_inside T q o NoToken p = q o p
  placed-at_inside T q o BadQuoted p = q o p
  placed-at_inside T q o ForeignByte p = omega (arith, p.inside)
  placed-at_inside T q o SetAside p = q o p
  placed-at_inside T q o OutOfLimit p = q o p
  placed-at_inside T q o NotValid p = let z = p.0 in omega arith
  placed-at_inside T q o NoRoom p = absurd p
  placed-at_inside T q o TooManyTokens p = absurd p
  placed-at_inside T q o NoReading p = absurd p
  placed-at_inside T q o NoText p = absurd p
  placed-at_inside T q o TooLong p = absurd p
  placed-at_inside T q o NoPack p = absurd p
  placed-at_inside T q o TokenTooLong p = absurd p
  placed-at_inside T q o UnknownVersion p = absurd p

  pub placed-inside : (w : Fault) → Placed s c w → w.offset ≤ length s
  placed-inside w = placed-at_inside (Starts s c) starts_inside w.offset w.refusal

  -- a refusal of the token at an offset, too
  pub token-refused_inside : (origin : Source) (layout : Bool) (at : ℕ) (w : Fault) → at < length s → lexeme_to origin s at layout (lookahead s at) ≡ refused w → w.offset ≤ length s
  token-refused_inside origin layout at w h f =
      placed-at_inside (λ o. o ≤ length s) (λ o q. q) w.offset w.refusal
      (subst (OfLexeme s c (λ o. o ≤ length s)) f (lexeme_placed s c (λ o. o ≤ length s) at (omega arith) origin layout (lookahead s at) h refl))
