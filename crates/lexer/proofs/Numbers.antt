-- Laws of numbers. Assumes nothing.
use mathlib.Core.Path.{◌≡◌, refl, sym, ◌∙◌, ap}
use mathlib.Core.Bool.{Bool, true, false, cond, ◌&&◌, ◌||◌}
use mathlib.Core.List.{List}
use Prim.Native.Nat.{ℕ, zero, suc, ◌+◌, ◌-◌, ◌≤◌, min}
use native.Mathlib.Omega.{arith}
use borrow.Author.Tests.{ne_eqb, eqb-true}
use lib.Dec.{eqb}
use lib.ListN.{length, drop}
use Rattle.lexer.specs.Chars.{newline, underscore, point, plus, minus, single_quote, small_x, small_o, small_b, small_e, capital_e}
use Rattle.lexer.specs.Digits.{is_digit, digits_at, beyond, held}
use Rattle.lexer.specs.Look.{peek, lookahead}
use Rattle.lexer.specs.Number.{radix_closed, radix_to, radix_constant, character_code, zero_to, exponent_ends, exponent_digits, sign_to, letter_to, exponent_to, exponent, float, fraction_digits, fraction, point_to, integer_to, number_token, held_exponent, held_numeral, held_number, ExponentRead, NumberRead}
use Rattle.lexer.specs.Quoted.{quoted_item, QuotedItem}
use Rattle.lexer.specs.declared.chars.Peek.{Peek}
use Rattle.lexer.specs.declared.chars.Peek.TheVariants.{Byte, Foreign, End}
use Rattle.lexer.specs.Look.{Look}
use Rattle.std.specs.declared.result.Result.TheVariants.{Ok, Err}
use Rattle.lexer.specs.declared.digits.Digits.{Digits}
use Rattle.lexer.specs.declared.quoted.Item.{Item}
use Rattle.lexer.specs.declared.number.Exponent.{Exponent}
use Rattle.lexer.specs.declared.number.Numeral.{Numeral}
use Rattle.lexer.specs.declared.number.Numeral.TheVariants.{Integer, Float}
use Rattle.lexer.specs.declared.number.NumberToken.TheVariants.{Whole, Partial}
use Rattle.lexer.proofs.Bases.{held-from, digits_end, digits-some, digits_plain}
use Rattle.lexer.proofs.Cursors.{both}
use Rattle.lexer.proofs.Looks.{Seen, peek_end, peek_byte}
use Rattle.lexer.proofs.QuotedItems.{char_ends, beyond_ends}
use Rattle.lexer.proofs.Spans.{by_test, not-newline, Plain, plain_char, plain_step, plain_on, plain_digits}

-- ---- what is held of a number depends only on what is held of its digits
held-twice : (n : ℕ) → min (min n beyond) beyond ≡ min n beyond
held-twice n = omega arith

held_none : (n : ℕ) → eqb (min n beyond) 0 ≡ eqb n 0
held_none zero = refl
held_none (suc n) = ne_eqb (min (suc n) beyond) 0 (λ h. omega arith) ∙ sym (ne_eqb (suc n) 0 (λ h. omega arith))

pub held-float : (m f e : ℕ) (x : ExponentRead) → held_number (float m f e x) ≡ float (min m beyond) f e (held_exponent x)
unfolding float held_number held_numeral held_exponent
held-float m f e (Ok Exponent.Absent) = refl
held-float m f e (Ok Exponent.Ended) = refl
held-float m f e (Ok (Exponent.Whole sign x end)) = refl
held-float m f e (Ok (Exponent.Partial sign x end)) = refl
held-float m f e (Err w) = refl

held_choice : (t : Bool) (a b c d : NumberRead) → held_number a ≡ held_number b → held_number c ≡ held_number d → held_number (cond t a c) ≡ held_number (cond t b d)
held_choice true a b c d p q = p
held_choice false a b c d p q = q

-- the float whose digits a are, where its fraction starts at k
abbrev float_of : List ℕ → ℕ → Digits → NumberRead
float_of s k a = float a.value (a.end - k) a.end (exponent s a.end)

held-digits : (s : List ℕ) (k : ℕ) (a b : Digits) → held a ≡ held b → held_number (float_of s k a) ≡ held_number (float_of s k b)
held-digits s k a b r =
    let e : a.end ≡ b.end = ap (λ (d : Digits). d.end) r in
    let v : min a.value beyond ≡ min b.value beyond = ap (λ (d : Digits). d.value) r in
    cc (held-float a.value (a.end - k) a.end (exponent s a.end), held-float b.value (b.end - k) b.end (exponent s b.end))

module _ (s : List ℕ) (d : Digits) where
  held_whole : held_number (Ok (Whole (Integer (min d.value beyond)) d.end)) ≡ held_number (Ok (Whole (Integer d.value) d.end))
  unfolding held_number held_numeral
  held_whole = cc (held-twice d.value)

  held-fraction : held_number (fraction s (held d)) ≡ held_number (fraction s d)
  held-fraction = held-digits s (d.end + 1) _ _ (held-from 10 d.value (d.end + 1) (drop (d.end + 1) s) (omega arith))

  held-point : (p : Peek) → held_number (point_to s (held d) p) ≡ held_number (point_to s d p)
  unfolding point_to
  held-point End = held_whole
  held-point Foreign = refl
  held-point (Byte x) = held_choice (is_digit 10 x) _ _ _ _ held-fraction held_whole

  pub held_integer : (at : ℕ) (p : Peek) → held_number (integer_to s at (held d) p) ≡ held_number (integer_to s at d p)
  unfolding integer_to held_number held_numeral
  held_integer at End = cc (held-twice d.value)
  held_integer at Foreign = refl
  held_integer at (Byte x) =
      rw (held_none d.value)
      (held_choice (eqb x underscore) _ _ _ _ refl
      (held_choice (eqb x point) _ _ _ _ (held-point (peek s (d.end + 1)))
      (held_choice (eqb d.end (at + 1) && eqb d.value 0) _ _ _ _ refl held_whole)))

-- ---- where a number ends

-- how many digits are the fraction's
abbrev pub fraction_of : Numeral → ℕ
fraction_of (Integer n) = 0
fraction_of (Float m sign x f) = f

-- the number at `at` ends at e
pub record Ends (s : List ℕ) (at : ℕ) (n : Numeral) (e : ℕ) : Type 0 where
  pub plain : Plain s at e
  pub few : fraction_of n ≤ length s

-- and so does the text
pub record Last (s : List ℕ) (at : ℕ) (n : Numeral) (e : ℕ) : Type 0 where
  pub ends : Ends s at n e
  pub last : e ≡ length s

abbrev pub EndsOf : List ℕ → ℕ → NumberRead → Type 0
EndsOf s at (Ok (Whole n e)) = Ends s at n e
EndsOf s at (Ok (Partial n e)) = Last s at n e
EndsOf s at (Err w) = Unit {0}

-- an exponent that ends the text
record LastExponent (s : List ℕ) (at e : ℕ) : Type 0 where
  plain : Plain s at e
  last : length s ≤ e

abbrev ExponentOf : List ℕ → ℕ → ExponentRead → Type 0
ExponentOf s at (Ok Exponent.Absent) = Unit {0}
ExponentOf s at (Ok Exponent.Ended) = length s ≤ at
ExponentOf s at (Ok (Exponent.Whole sign x e)) = Plain s at e
ExponentOf s at (Ok (Exponent.Partial sign x e)) = LastExponent s at e
ExponentOf s at (Err w) = Unit {0}

-- the exponent of the fraction that ends at `at`, of which the part up to k was read
module _ (s : List ℕ) (at : ℕ) where
  exponent-digits : (k : ℕ) (sign : Bool) → Plain s at k → ExponentOf s at (exponent_digits s sign k)
  unfolding exponent_ends
  exponent-digits k sign h = go (peek s d.end) refl
    where
      d : Digits
      d = digits_at 10 0 s k

      p : Plain s at d.end
      p = plain_digits s at k h 10 0 (omega arith)

      go : (r : Peek) → peek s d.end ≡ r → ExponentOf s at (exponent_ends sign d r)
      go End e = record { plain = p; last = peek_end s d.end e }
      go Foreign e = tt
      go (Byte x) e = p

  exponent_sign : (k : ℕ) (sign : Bool) → Plain s at k → (r : Peek) → ExponentOf s at (sign_to s sign k r)
  unfolding sign_to
  exponent_sign k sign h End = tt
  exponent_sign k sign h Foreign = tt
  exponent_sign k sign h (Byte x) = by_test (ExponentOf s at) (is_digit 10 x) _ _ (λ t. exponent-digits k sign h) (λ t. tt)

  exponent_letter : (k : ℕ) → Plain s at k → (r : Peek) → peek s k ≡ r → ExponentOf s at (letter_to s k r)
  unfolding letter_to
  exponent_letter k h End e = tt
  exponent_letter k h Foreign e = tt
  exponent_letter k h (Byte x) e =
      let l = peek_byte s k x e in
      let signed : (sign : Bool) → (x ≡ newline → ⊥) → ExponentOf s at (sign_to s sign (k + 1) (peek s (k + 1))) =
      λ sign n. exponent_sign (k + 1) sign (plain_step s at k h x l n) (peek s (k + 1)) in
      by_test (ExponentOf s at) (eqb x plus) _ _ (λ t. signed false (not-newline x plus t refl))
      (λ t. by_test (ExponentOf s at) (eqb x minus) _ _ (λ u. signed true (not-newline x minus u refl))
      (λ u. exponent_sign k false h (Byte x)))

  exponent-ends : (r : Peek) → peek s at ≡ r → ExponentOf s at (exponent_to s at r)
  unfolding exponent_to
  exponent-ends End e = peek_end s at e
  exponent-ends Foreign e = tt
  exponent-ends (Byte x) e =
      by_test (ExponentOf s at) (eqb x small_e || eqb x capital_e) _ _
      (λ t. let n : x ≡ newline → ⊥ = (λ g. let z : ◌≡◌ {A = ℕ} 0 1 = cc in omega arith) in
      exponent_letter (at + 1) (plain_char s at x (peek_byte s at x e) n) (peek s (at + 1)) refl)
      (λ t. tt)

module _ (s : List ℕ) (at : ℕ) where
  integer : (n e : ℕ) → Plain s at e → Ends s at (Integer n) e
  integer n e p = record { plain = p; few = omega arith }

  float_ends : (m f e : ℕ) → Plain s at e → f ≤ length s → (x : ExponentRead) → ExponentOf s e x → EndsOf s at (float m f e x)
  unfolding float
  float_ends m f e p h (Ok Exponent.Absent) q = record { plain = p; few = h }
  float_ends m f e p h (Ok Exponent.Ended) q = record { ends = record { plain = p; few = h }; last = omega (arith, p.span.inside) }
  float_ends m f e p h (Ok (Exponent.Whole sign x end)) q = record { plain = plain_on s at e p end q; few = h }
  float_ends m f e p h (Ok (Exponent.Partial sign x end)) q =
      record { ends = record { plain = plain_on s at e p end q.plain; few = h }; last = omega (arith, q.plain.span.inside, q.last) }
  float_ends m f e p h (Err w) q = tt

  fraction_ends : (d : Digits) → Plain s at (d.end + 1) → EndsOf s at (fraction s d)
  fraction_ends d h =
      let p = plain_digits s at (d.end + 1) h 10 d.value (omega arith) in
      let e = (fraction_digits s d).end in
      float_ends _ _ e p (omega (arith, p.span.inside)) (exponent s e) (exponent-ends s e (peek s e) refl)

  point_ends : (d : Digits) → Plain s at d.end → Plain s at (d.end + 1) → (r : Peek) → EndsOf s at (point_to s d r)
  unfolding point_to
  point_ends d p h End = integer _ _ p
  point_ends d p h Foreign = tt
  point_ends d p h (Byte x) = by_test (EndsOf s at) (is_digit 10 x) _ _ (λ t. fraction_ends d h) (λ t. integer _ _ p)

  -- behind the 0 at `at`
  module _ (nought : Plain s at (at + 1)) where
    closed_ends : (n e : ℕ) → Plain s at e → (r : Peek) → EndsOf s at (radix_closed (Integer n) e r)
    unfolding radix_closed
    closed_ends n e p End = integer _ _ p
    closed_ends n e p Foreign = tt
    closed_ends n e p (Byte x) = integer _ _ p

    module _ (letter : Plain s at (at + 2)) where
      radix_ends : (base : ℕ) → base ≤ 16 → (r : Look) → EndsOf s at (radix_to base s at r)
      unfolding radix_to
      radix_ends base few (Err w) = tt
      radix_ends base few (Ok x) =
          by_test (EndsOf s at) (is_digit base x) _ _ (λ t. closed_ends _ _ (plain_digits s at (at + 2) letter base 0 few) (peek s (digits_at base 0 s (at + 2)).end))
          (λ t. integer _ _ nought)

      character_ends : (i : QuotedItem) → quoted_item single_quote at s (at + 2) ≡ i → EndsOf s at (character_code at i)
      unfolding character_code
      character_ends (Ok (Item.Char b e)) f = integer b e (plain_on s at (at + 2) letter e (char_ends single_quote s (at + 2) at e b f))
      character_ends (Ok (Item.Beyond e)) f = integer beyond e (plain_on s at (at + 2) letter e (beyond_ends single_quote s (at + 2) at e f))
      character_ends (Ok (Item.Skip e)) f = tt
      character_ends (Ok (Item.Close e)) f = integer _ _ nought
      character_ends (Err w) f = tt

    zero_ends : (x : ℕ) → Seen s (at + 1) x → EndsOf s at (zero_to s at x)
    unfolding zero_to
    zero_ends x l =
        let m : at + 1 + 1 ≡ at + 2 = omega arith in
        let past : (x ≡ newline → ⊥) → Plain s at (at + 2) = λ n. rw m at (plain_step s at (at + 1) nought x l n) in
        let radix : (base : ℕ) → base ≤ 16 → (x ≡ newline → ⊥) → EndsOf s at (radix_constant base s at) =
        λ base few n. radix_ends (past n) base few (lookahead s (at + 2)) in
        by_test (EndsOf s at) (eqb x small_x) _ _ (λ t. radix 16 (omega arith) (not-newline x small_x t refl))
        (λ t. by_test (EndsOf s at) (eqb x small_o) _ _ (λ t. radix 8 (omega arith) (not-newline x small_o t refl))
        (λ t. by_test (EndsOf s at) (eqb x small_b) _ _ (λ t. radix 2 (omega arith) (not-newline x small_b t refl))
        (λ t. by_test (EndsOf s at) (eqb x single_quote) _ _ (λ t. character_ends (past (not-newline x single_quote t refl)) (quoted_item single_quote at s (at + 2)) refl)
        (λ t. integer _ _ nought))))

  integer_ends : (d : Digits) → Plain s at d.end → (r : Peek) → peek s d.end ≡ r → EndsOf s at (integer_to s at d r)
  unfolding integer_to
  integer_ends d p End e = record { ends = integer _ _ p; last = omega (arith, p.span.inside, peek_end s d.end e) }
  integer_ends d p Foreign e = tt
  integer_ends d p (Byte x) e =
      let l = peek_byte s d.end x e in
      by_test (EndsOf s at) (eqb x underscore) _ _ (λ t. tt)
      (λ t. by_test (EndsOf s at) (eqb x point) _ _
      (λ t. point_ends d p (plain_step s at d.end p x l (not-newline x point t refl)) (peek s (d.end + 1)))
      (λ t. by_test (EndsOf s at) (eqb d.end (at + 1) && eqb d.value 0) _ _
      (λ t. let q = eqb-true d.end (at + 1) (both _ _ t).0 in zero_ends (rw q at p) x (rw q at l))
      (λ t. integer _ _ p)))

  -- what is held of a number ends where it does
  held_few : (n : Numeral) → fraction_of n ≤ length s → fraction_of (held_numeral n) ≤ length s
  unfolding held_numeral
  held_few (Integer n) h = h
  held_few (Float m sign x f) h = h

  held_ends : (t : NumberRead) → EndsOf s at t → EndsOf s at (held_number t)
  unfolding held_number
  held_ends (Ok (Whole n e)) p = record { plain = p.plain; few = held_few n p.few }
  held_ends (Ok (Partial n e)) p = record { ends = record { plain = p.ends.plain; few = held_few n p.ends.few }; last = p.last }
  held_ends (Err w) p = tt

  -- a number that a digit begins
  module _ (b : ℕ) (l : Seen s at b) (h : is_digit 10 b ≡ true) where
    pub number_ends : EndsOf s at (number_token s at)
    number_ends =
        let d = digits_end 10 0 s at (omega (arith, l.inside)) in
        let p : Plain s at (digits_at 10 0 s at).end = record { span = record { ahead = digits-some 10 0 s at b l.rest h; inside = d.1 }; plain = digits_plain 10 0 s at (omega arith) } in
        integer_ends (digits_at 10 0 s at) p (peek s (digits_at 10 0 s at).end) refl

    held-number_ends : EndsOf s at (held_number (number_token s at))
    held-number_ends = held_ends (number_token s at) number_ends

    -- of the definition, and of what the code answers
    module _ (n : Numeral) (e : ℕ) where
      pub whole_ends : number_token s at ≡ Ok (Whole n e) → Ends s at n e
      whole_ends f = rw f at number_ends

      pub partial_ends : number_token s at ≡ Ok (Partial n e) → Last s at n e
      partial_ends f = rw f at number_ends

      module _ (r : NumberRead) (g : r ≡ held_number (number_token s at)) where
        pub held_whole_ends : r ≡ Ok (Whole n e) → Ends s at n e
        held_whole_ends f = rw (sym g ∙ f) at held-number_ends

        pub held_partial_ends : r ≡ Ok (Partial n e) → Last s at n e
        held_partial_ends f = rw (sym g ∙ f) at held-number_ends
