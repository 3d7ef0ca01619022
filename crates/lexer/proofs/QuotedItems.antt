-- Laws of quoted items. Assumes nothing.
use mathlib.Core.Path.{◌≡◌, refl, sym, ◌∙◌, ap}
use mathlib.Core.Bool.{Bool, true, false, cond}
use mathlib.Core.List.{List, []}
use Prim.Native.Nat.{ℕ, ◌+◌, ◌<◌, ◌≤◌}
use native.Mathlib.Omega.{arith}
use borrow.Author.Tests.{eqb-true, eqb-false, ne_eqb}
use lib.Dec.{eqb, leb}
use lib.ListN.{length, get_or}
use Rattle.lexer.specs.Chars.{among, tab, newline, carriage_return, space, backslash, small_x}
use Rattle.lexer.specs.Cursor.{move_to, Valid}
use Rattle.lexer.specs.Digits.{is_digit, digits_at}
use Rattle.lexer.specs.Items.{stop, on, same}
use Rattle.lexer.specs.Look.{front, needed, lookahead}
use Rattle.lexer.specs.Quoted.{escape_of, coded, closed, numeric_escape, escape_to, escape, quote_to, unquotable, item_to, quoted_item, Quoted, whole, refused, with_char, out_of_limit, item_turn, quoted_turn, unended, decode, measured, Writes, QuotedItem, measure}
use Rattle.lexer.specs.Stretch.{in_stretch}
use Rattle.lexer.specs.Look.{Look}
use Rattle.std.specs.declared.result.Result.TheVariants.{Ok, Err}
use Rattle.lexer.specs.declared.cursor.Cursor.{Cursor}
use Rattle.lexer.specs.declared.digits.Digits.{Digits}
use Rattle.lexer.specs.declared.quoted.Item.TheVariants.{Char, Beyond, Skip, Close}
use Rattle.lexer.specs.declared.refusal.Fault.{Fault}
use Rattle.lexer.proofs.Parts.{measure_parts}
use Rattle.lexer.proofs.Cursors.{move_offset, move_valid}
use Rattle.lexer.proofs.Items.{Carries, items_hold, items_stop, items_on}
use Rattle.lexer.proofs.Looks.{Seen, look_byte}
use Rattle.lexer.proofs.Spans.{by_test, not-newline, Span, Plain, plain_char, plain_step, plain_digits}
use Rattle.lexer.proofs.Steps.{drop_at, drop_end}
use Rattle.lexer.proofs.Stretches.{in-stretch, stretch_known}

-- ---- where an item ends

-- ahead, and within the text
-- a continuation escape
pub record Continued (s : List ℕ) (at e : ℕ) : Type 0 where
  pub span : Span s at e
  pub end : e ≡ at + 2
  pub first : get_or s at 0 ≡ backslash
  pub second : get_or s (at + 1) 0 ≡ newline

-- the closing quote
pub record Closing (q : ℕ) (s : List ℕ) (at e : ℕ) : Type 0 where
  pub end : e ≡ at + 1
  pub it : get_or s at 0 ≡ q
  pub whole : Plain s at e

abbrev Ends : ℕ → List ℕ → ℕ → QuotedItem → Type 0
Ends q s at (Ok (Char b e)) = Plain s at e
Ends q s at (Ok (Beyond e)) = Plain s at e
Ends q s at (Ok (Skip e)) = Continued s at e
Ends q s at (Ok (Close e)) = Closing q s at e
Ends q s at (Err w) = Unit {0}

module _ (q : ℕ) (s : List ℕ) (at : ℕ) where
  choice : (t : Bool) (a b : QuotedItem) → (t ≡ true → Ends q s at a) → (t ≡ false → Ends q s at b) → Ends q s at (cond t a b)
  choice t a b p r = by_test (Ends q s at) t a b p r

  code_ends : (n e : ℕ) → Plain s at e → Ends q s at (coded n e)
  unfolding coded
  code_ends n e p = choice (eqb n 0) _ _ (λ t. p) (λ t. choice (leb n 127) _ _ (λ t. p) (λ t. p))

  -- an escape whose digits start at `from`
  numeric_ends : (base token from : ℕ) → base ≤ 16 → Plain s at from → Ends q s at (numeric_escape base token s from)
  unfolding closed
  numeric_ends base token from few p = go (lookahead s d.end) refl
    where
      d : Digits
      d = digits_at base 0 s from

      go : (r : Look) → lookahead s d.end ≡ r → Ends q s at (closed token from d r)
      go (Err w) e = tt
      go (Ok x) e =
          choice (eqb x backslash) _ _
          (λ t. choice (eqb d.end from) _ _ (λ u. tt)
          (λ u. code_ends d.value (d.end + 1) (plain_step s at d.end (plain_digits s at from p base 0 few) x (look_byte s d.end x e)
          (not-newline x backslash t refl))))
          (λ t. tt)

  -- an escape, behind its backslash
  escape_ends : (token : ℕ) → Seen s at backslash → Ends q s at (escape token s (at + 1))
  unfolding escape_to
  escape_ends token l = go (lookahead s (at + 1)) refl
    where
      p : Plain s at (at + 1)
      p = plain_char s at backslash l (λ g. omega arith)

      go : (r : Look) → lookahead s (at + 1) ≡ r → Ends q s at (escape_to token s (at + 1) r)
      go (Err w) e = tt
      go (Ok x) e =
          let m = look_byte s (at + 1) x e in
          choice (eqb x newline) _ _
          (λ t. record { span = record { ahead = omega arith; inside = omega arith }; end = omega arith; first = l.it; second = m.it ∙ eqb-true x newline t })
          (λ t. let o = plain_step s at (at + 1) p x m (eqb-false x newline t) in
          choice (is_digit 8 x) _ _ (λ u. numeric_ends 8 token (at + 1) (omega arith) p)
          (λ u. choice (eqb x small_x) _ _ (λ v. numeric_ends 16 token (at + 1 + 1) (omega arith) o)
          (λ v. choice (eqb (escape_of x) 0) _ _ (λ w. tt) (λ w. o))))

  -- a quote, and what follows it
  quote_ends : Seen s at q → (q ≡ newline → ⊥) → Ends q s at (quote_to q (at + 1) (lookahead s (at + 1)))
  unfolding quote_to
  quote_ends l n = go (lookahead s (at + 1)) refl
    where
      p : Plain s at (at + 1)
      p = plain_char s at q l n

      go : (r : Look) → lookahead s (at + 1) ≡ r → Ends q s at (quote_to q (at + 1) r)
      go (Err w) e = tt
      go (Ok x) e =
          choice (eqb x q) _ _
          (λ t. plain_step s at (at + 1) p x (look_byte s (at + 1) x e) (λ g. n (sym (eqb-true x q t) ∙ g)))
          (λ t. record { end = refl; it = l.it; whole = p })

  item_ends : (token : ℕ) → Ends q s at (quoted_item q token s at)
  unfolding item_to
  item_ends token = go (lookahead s at) refl
    where
      go : (r : Look) → lookahead s at ≡ r → Ends q s at (item_to q token s at r)
      go (Err w) e = tt
      go (Ok x) e =
          let l = look_byte s at x e in
          choice (among x unquotable) _ _ (λ t. tt)
          (λ t. let n : x ≡ newline → ⊥ = (λ g. let z : ◌≡◌ {A = ℕ} 0 1 = cc in omega arith) in
          choice (eqb x q) _ _ (λ u. quote_ends (rw (eqb-true x q u) at l) (rw (eqb-true x q u) at n))
          (λ u. choice (eqb x backslash) _ _ (λ v. escape_ends token (rw (eqb-true x backslash v) at l)) (λ v. plain_char s at x l n)))

  -- ---- the same of an item that is known
  module _ (token e : ℕ) where
    ends : (i : QuotedItem) → quoted_item q token s at ≡ i → Ends q s at i
    ends i f = rw f at (item_ends token)

    pub char_ends : (b : ℕ) → quoted_item q token s at ≡ Ok (Char b e) → Plain s at e
    char_ends b f = ends (Ok (Char b e)) f

    pub beyond_ends : quoted_item q token s at ≡ Ok (Beyond e) → Plain s at e
    beyond_ends f = ends (Ok (Beyond e)) f

    pub skip_ends : quoted_item q token s at ≡ Ok (Skip e) → Continued s at e
    skip_ends f = ends (Ok (Skip e)) f

    pub close_ends : quoted_item q token s at ≡ Ok (Close e) → Closing q s at e
    close_ends f = ends (Ok (Close e)) f

-- a byte from space to tilde, but the quote and the backslash, stands for itself
pub ordinary_char : (q token : ℕ) (s : List ℕ) (at : ℕ) → at < length s → in_stretch space 126 q backslash (get_or s at 0) ≡ true
    → quoted_item q token s at ≡ Ok (Char (get_or s at 0) (at + 1))
unfolding front needed item_to
ordinary_char q token s at h t =
    let x = get_or s at 0 in
    let w = in-stretch space 126 q backslash x t in
    let k = stretch_known x w.from w.to in
    cc (drop_at s at h, k.0, ne_eqb x newline k.1, ne_eqb x tab (λ e. omega arith), ne_eqb x carriage_return (λ e. omega arith), ne_eqb x q w.no_p, ne_eqb x backslash w.no_q)

-- ---- what a quoted token comes to

-- where it ends
abbrev Spans : List ℕ → ℕ → Quoted → Type 0
Spans s at (whole bs e) = Span s at e
Spans s at (refused w) = Unit {0}

module _ (s : List ℕ) (at e : ℕ) (h : at < e) where
  spans : (d : Quoted) → Spans s e d → Spans s at d
  spans (whole bs k) p = record { ahead = omega arith; inside = p.inside }
  spans (refused w) p = tt

  spans_char : (b : ℕ) (d : Quoted) → Spans s e d → Spans s at (with_char b d)
  unfolding with_char
  spans_char b (whole bs k) p = spans (whole bs k) p
  spans_char b (refused w) p = tt

  spans_limit : (token : ℕ) (d : Quoted) → Spans s e d → Spans s at (out_of_limit token d)
  unfolding out_of_limit
  spans_limit token (whole bs k) p = tt
  spans_limit token (refused w) p = tt

module _ (q token : ℕ) (s : List ℕ) where
  -- past the end of the text
  past : (at : ℕ) → length s ≤ at → quoted_turn q token s at ≡ stop (unended at)
  unfolding front needed item_to item_turn
  past at h = cc (drop_end s at h)

  -- what holds of a quoted token, by its items
  module _ (P : ℕ → Quoted → Type 0) (closes : (at e : ℕ) → Span s at e → P at (whole [] e)) (refuses : (at : ℕ) (w : Fault) → quoted_item q token s at ≡ Err w → P at (refused w))
      (chars : (at e b : ℕ) → Span s at e → (d : Quoted) → P e d → P at (with_char b d)) (limits : (at e : ℕ) → Span s at e → (d : Quoted) → P e d → P at (out_of_limit token d))
      (skips : (at e : ℕ) → Span s at e → (d : Quoted) → P e d → P at d) where
    carries : (at : ℕ) (i : QuotedItem) → quoted_item q token s at ≡ i → Ends q s at i → Carries P (length s) at (item_turn token i)
    unfolding item_turn
    carries at (Ok (Char b e)) f p = record { ahead = p.span.ahead; inside = p.span.inside; rest = chars at e b p.span }
    carries at (Ok (Beyond e)) f p = record { ahead = p.span.ahead; inside = p.span.inside; rest = limits at e p.span }
    carries at (Ok (Skip e)) f p = record { ahead = p.span.ahead; inside = p.span.inside; rest = skips at e p.span }
    carries at (Ok (Close e)) f p = closes at e p.whole.span
    carries at (Err w) f p = refuses at w f

    pub decode_hold : (at : ℕ) → P at (decode q token s at)
    decode_hold = items_hold (quoted_turn q token s) unended s P past (λ a. carries a (quoted_item q token s a) refl (item_ends q s a token))

  module _ (at : ℕ) where
    pub decode_ends : (bs : List ℕ) (e : ℕ) → decode q token s at ≡ whole bs e → Span s at e
    decode_ends bs e f =
        rw f at (decode_hold (Spans s) (λ a k p. p) (λ a w g. tt) (λ a k b p. spans_char s a k p.ahead b) (λ a k p. spans_limit s a k p.ahead token)
        (λ a k p. spans s a k p.ahead) at)

    -- by the item at its front
    pub decode-refused : (w : Fault) → quoted_item q token s at ≡ Err w → decode q token s at ≡ refused w
    unfolding item_turn
    decode-refused w f = items_stop (quoted_turn q token s) unended s at (refused w) (past at) (ap (item_turn token) f)

    module _ (e : ℕ) where
      pub decode-close : quoted_item q token s at ≡ Ok (Close e) → decode q token s at ≡ whole [] e
      unfolding item_turn
      decode-close f = items_stop (quoted_turn q token s) unended s at (whole [] e) (past at) (ap (item_turn token) f)

      on_turn : (f : Quoted → Quoted) → quoted_turn q token s at ≡ on e f → Span s at e → decode q token s at ≡ f (decode q token s e)
      on_turn f g p = items_on (quoted_turn q token s) unended s at e f g p.ahead p.inside

      pub decode_skip : quoted_item q token s at ≡ Ok (Skip e) → decode q token s at ≡ decode q token s e
      unfolding item_turn
      decode_skip f = on_turn same (ap (item_turn token) f) (skip_ends q s at token e f).span

      pub decode-beyond : quoted_item q token s at ≡ Ok (Beyond e) → decode q token s at ≡ out_of_limit token (decode q token s e)
      unfolding item_turn
      decode-beyond f = on_turn (out_of_limit token) (ap (item_turn token) f) (beyond_ends q s at token e f).span

      pub decode_char : (b : ℕ) → quoted_item q token s at ≡ Ok (Char b e) → decode q token s at ≡ with_char b (decode q token s e)
      unfolding item_turn
      decode_char b f = on_turn (with_char b) (ap (item_turn token) f) (char_ends q s at token e b f).span

-- ---- what a measure tells

-- the n bytes that the token at c stands for, and the cursor behind it
pub record Measured (q token : ℕ) (s : List ℕ) (c : Cursor) (n : ℕ) (next : Cursor) : Type 0 where
  pub bytes : List ℕ
  pub end : ℕ
  pub reads : decode q token s c.offset ≡ whole bytes end
  pub count : length bytes ≡ n
  pub span : Span s c.offset end
  pub moved : next ≡ move_to s c end

module _ (q token : ℕ) (s : List ℕ) (c : Cursor) (n : ℕ) (next : Cursor) (f : measured s c (decode q token s c.offset) ≡ measure n next) where
  pub measured_whole : Measured q token s c n next
  unfolding measured
  measured_whole = go (decode q token s c.offset) refl f
    where
      go : (d : Quoted) → decode q token s c.offset ≡ d → measured s c d ≡ measure n next → Measured q token s c n next
      go (whole bs e) g h = let p = measure_parts h in record { bytes = bs; end = e; reads = g; count = p.0; span = decode_ends q token s c.offset bs e g; moved = cc (p.1) }
      go (refused w) g h = let z : ◌≡◌ {A = ℕ} 0 1 = cc in absurd (omega arith)

  pub measured_writes : (room : ℕ) → n ≤ room → Writes q token s c.offset n room
  measured_writes room h = let m = measured_whole in record { end = m.end; bytes = m.bytes; reads = m.reads; count = m.count; fits = h }

  pub measured-valid : Valid (length s) c → Valid (length s) next
  measured-valid v =
      let m = measured_whole in
      rw (← m.moved) at (move_valid s c m.end (omega arith) m.span.inside v)

  pub measured-ahead : c.offset < next.offset
  measured-ahead =
      let m = measured_whole in
      let k : next.offset ≡ m.end = ap (λ (d : Cursor). d.offset) m.moved ∙ move_offset s c m.end (omega arith) m.span.inside in
      omega arith
