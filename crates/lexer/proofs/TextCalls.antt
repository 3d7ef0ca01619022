-- What an answer of the text call tells: the token that the token call reads, where its text is, what is left of the scratch. Assumes nothing.
use mathlib.Core.Path.{◌≡◌, refl, sym, ◌∙◌, ap}
use mathlib.Core.Bool.{Bool, true, false, cond}
use mathlib.Core.List.{List, [], ◌++◌}
use Prim.Native.Nat.{ℕ, ◌+◌, ◌-◌, ◌<◌, ◌≤◌}
use native.Mathlib.Omega.{arith}
use borrow.Author.Tests.{leb-true, le-leb}
use lib.Dec.{leb}
use lib.ListN.{length, get_or, drop}
use lib.Seq.{sets, length-sets, sets-eq, take-append_seam, drop-append_seam}
use denote.Ref.{Bor}
use Rattle.lexer.specs.Chars.{class_of, single_quote}
use Rattle.lexer.specs.Cursor.{longest, part, move_to, valid}
use Rattle.lexer.specs.Look.{lookahead}
use Rattle.lexer.specs.Quoted.{decode}
use Rattle.lexer.specs.Text.{Outcome, leaves, text_told, next_token_text, counted_text, quoted_from, quoted_text, part_of, fitted, shown, text_read}
use Rattle.lexer.specs.Token.{source, decoded, none, Lexeme, lexeme, refused, read_lexeme, answered, not_valid, next_token, token_read}
use Rattle.std.specs.declared.result.Result.TheVariants.{Ok}
use Rattle.lexer.specs.declared.refusal.Fault.{Fault}
use Rattle.lexer.specs.declared.cursor.Cursor.{Cursor}
use Rattle.lexer.specs.declared.token.Token.{Token}
use Rattle.lexer.specs.declared.text.Part.{Part}
use Rattle.lexer.specs.declared.token.Source.TheVariants.{File}
use Rattle.lexer.proofs.Parts.{refuse_parts, text_parts}
use Rattle.lexer.proofs.Cursors.{is-valid}
use Rattle.lexer.proofs.Looks.{byte_look}
use Rattle.lexer.proofs.Promises.{lexeme_ends}
use Rattle.lexer.specs.declared.refusal.Refusal.TheVariants.{NoText}
use Rattle.lexer.specs.declared.text.TextRead.{TextRead}
use Rattle.lexer.specs.Refusal.{fault, refuse}

-- the bytes of a token's text
abbrev pub text_bytes : List ℕ → Lexeme → List ℕ
text_bytes s (lexeme t e source) = part t.start e s
text_bytes s (lexeme t e (decoded bs)) = bs
text_bytes s (lexeme t e none) = []
text_bytes s (refused w) = []

-- and where they lie: its own in the text a, decoded ones at the front of the scratch b
abbrev pub text_place : Bor (List ℕ) → Bor (List ℕ) → Lexeme → ℕ × ℕ
text_place a b (lexeme t e source) = (a.ref_ptr.0, t.start + a.ref_ptr.1)
text_place a b (lexeme t e (decoded bs)) = b.ref_ptr
text_place a b (lexeme t e none) = a.ref_ptr
text_place a b (refused w) = a.ref_ptr

-- the show call, lent the text s and the scratch x, hands back just these bytes, at this place
abbrev pub Shows : List ℕ → List ℕ → Part → Lexeme → Type 0
Shows s x p l = (a b : Bor (List ℕ)) → a.now ≡ s → b.now ≡ x → shown a b p ≡ (text_place a b l, text_bytes s l)

-- of the scratch d, left as x, at most the bytes of the part are written
abbrev pub OnlyPart : List ℕ → List ℕ → Part → Type 0
OnlyPart d x (Part.Source a e) = x ≡ d
OnlyPart d x (Part.Scratch a e) = (length x ≡ length d) × ((a ≡ 0) × (drop e x ≡ drop e d))

-- the token t at the cursor c, with the cursor behind it, and its text
pub record Told (s : List ℕ) (c : Cursor) (d : List ℕ) (t : Token) (next : Cursor) (p : Part) (x : List ℕ) : Type 0 where
  pub token : next_token File s c ≡ token_read t next
  pub text : Shows s x p (read_lexeme File s c.offset)
  pub kept : OnlyPart d x p

-- ---- a part of the text, and bytes that were written
fitted-part : (s x : Bor (List ℕ)) (a e : ℕ) → a ≤ e → e ≤ length x.now → fitted s x a e ≡ part_of x a e
unfolding fitted
fitted-part s x a e h k = cc (le-leb a e h, le-leb e (length x.now) k)

source_part : (a : Bor (List ℕ)) (s : List ℕ) (i e : ℕ) → i ≤ e → e ≤ length s → a.now ≡ s → fitted a a i e ≡ ((a.ref_ptr.0, i + a.ref_ptr.1), part i e s)
source_part a s i e h k q = fitted-part a a i e h (omega (arith, ap length q)) ∙ ap (λ y. ((a.ref_ptr.0, i + a.ref_ptr.1), part i e y)) q

module _ (d bs : List ℕ) (h : length bs ≤ length d) where
  written : sets d 0 bs ≡ bs ++ drop (length bs) d
  written = let m : 0 + length bs ≡ length bs = omega arith in rw m at (sets-eq bs d 0 (omega arith))

  written-part : (a b : Bor (List ℕ)) → b.now ≡ sets d 0 bs → fitted a b 0 (length bs) ≡ (b.ref_ptr, bs)
  written-part a b q =
      let m : length bs - 0 ≡ length bs = omega arith in
      let its : part 0 (length bs) (sets d 0 bs) ≡ bs = rw (m, written) (take-append_seam bs (drop (length bs) d)) in
      let front : 0 + b.ref_ptr.1 ≡ b.ref_ptr.1 = omega arith in
      fitted-part a b 0 (length bs) (omega arith) (omega (arith, ap length q, length-sets d 0 bs))
      ∙ ap (λ o. ((b.ref_ptr.0, o), part 0 (length bs) b.now)) front
      ∙ ap (λ y. (b.ref_ptr, y)) (ap (part 0 (length bs)) q ∙ its)

  written_only : OnlyPart d (sets d 0 bs) (Part.Scratch 0 (length bs))
  written_only = (length-sets d 0 bs, (refl, rw written (drop-append_seam bs (drop (length bs) d))))

-- ---- the call
module _ (s : List ℕ) (c : Cursor) (d : List ℕ) where
  called : Bool → Lexeme → Outcome
  called b l = cond b (text_told s c d l) (leaves (refuse not_valid c) d)

  record Tells (b : Bool) (l : Lexeme) (t : Token) (next : Cursor) (p : Part) (x : List ℕ) : Type 0 where
    token : cond b (answered s c l) (refuse not_valid c) ≡ token_read t next
    text : Shows s x p l
    kept : OnlyPart d x p

  -- a quoted item, where there is room or not
  decoded_tells : (b : Bool) (u : Token) (e : ℕ) (bs : List ℕ) (w : Fault) → leb (length bs) (length d) ≡ b → (t : Token) (next : Cursor) (p : Part) (x : List ℕ) → cond b (leaves (text_read u (move_to s c e) (Part.Scratch 0 (length bs))) (sets d 0 bs)) (leaves (refuse w c) d) ≡ leaves (text_read t next p) x → Tells true (lexeme u e (decoded bs)) t next p x
  unfolding answered shown
  decoded_tells false u e bs w f t next p x h = let z : ◌≡◌ {A = ℕ} 0 1 = cc in absurd (omega arith)
  decoded_tells true u e bs w f t next p x h =
      let r = leb-true (length bs) (length d) f in
      let same : text_read u (move_to s c e) (Part.Scratch 0 (length bs)) ≡ text_read t next p = cc in
      let parts = text_parts same in
      let q : Part.Scratch 0 (length bs) ≡ p = parts.2 in
      let y : sets d 0 bs ≡ x = cc in
      record { token = cc (parts.0, parts.1); text = λ a b _ g. rw (sym q) (written-part d bs r a b (g ∙ sym y)); kept = rw (sym q, sym y) (written_only d bs r) }

  tells : (b : Bool) (l : Lexeme) → valid (length s) c ≡ b → read_lexeme File s c.offset ≡ l → (t : Token) (next : Cursor) (p : Part) (x : List ℕ) → called b l ≡ leaves (text_read t next p) x → Tells b l t next p x
  unfolding called text_told answered shown
  tells false l f g t next p x h = let z : ◌≡◌ {A = ℕ} 0 1 = cc in absurd (omega arith)
  tells true (refused w) f g t next p x h = let z : ◌≡◌ {A = ℕ} 0 1 = cc in absurd (omega arith)
  tells true (lexeme u e none) f g t next p x h = let z : ◌≡◌ {A = ℕ} 0 1 = cc in absurd (omega arith)
  tells true (lexeme u e (decoded bs)) f g t next p x h = decoded_tells (leb (length bs) (length d)) u e bs _ refl t next p x h
  tells true (lexeme u e source) f g t next p x h =
      let same : text_read u (move_to s c e) (Part.Source u.start e) ≡ text_read t next p = cc in
      let parts = text_parts same in
      let q : Part.Source u.start e ≡ p = parts.2 in
      let y : d ≡ x = cc in
      let b = lexeme_ends File s c.offset u e source (is-valid (length s) c f).offset g in
      record { token = cc (parts.0, parts.1); text = λ a _ g _. rw (sym q) (source_part a s u.start e (omega (arith, b.ahead)) b.inside g); kept = rw (sym q) (sym y) }

  pub text-told : (t : Token) (next : Cursor) (p : Part) (x : List ℕ) → next_token_text s c d ≡ leaves (text_read t next p) x → Told s c d t next p x
  unfolding called
  text-told t next p x h =
      let r = tells (valid (length s) c) (read_lexeme File s c.offset) refl refl t next p x h in
      record { token = r.token; text = r.text; kept = r.kept }

  -- ---- a refusal leaves cursor and scratch as they were
  no-room : (b : Bool) (u : Token) (m : Cursor) (q : Part) (v w : Fault) (e : Cursor) (x y : List ℕ) → cond b (leaves (text_read u m q) y) (leaves (refuse v c) d) ≡ leaves (refuse w e) x → (e ≡ c) × (x ≡ d)
  no-room true u m q v w e x y h = let z : ◌≡◌ {A = ℕ} 0 1 = cc in absurd (omega arith)
  no-room false u m q v w e x y h = let r : refuse {T = TextRead} v c ≡ refuse w e = cc in (sym (refuse_parts r).1, cc)

  left : (w : Fault) (e : Cursor) (x : List ℕ) (b : Bool) (l : Lexeme) → called b l ≡ leaves (refuse w e) x → (e ≡ c) × (x ≡ d)
  unfolding called text_told
  left w e x false l h = let r : refuse {T = TextRead} not_valid c ≡ refuse w e = cc in (sym (refuse_parts r).1, cc)
  left w e x true (refused v) h = let r : refuse {T = TextRead} v c ≡ refuse w e = cc in (sym (refuse_parts r).1, cc)
  left w e x true (lexeme u n source) h = let z : ◌≡◌ {A = ℕ} 0 1 = cc in absurd (omega arith)
  left w e x true (lexeme u n none) h = let r : refuse {T = TextRead} (fault NoText u.start) c ≡ refuse w e = cc in (sym (refuse_parts r).1, cc)
  left w e x true (lexeme u n (decoded bs)) h = no-room (leb (length bs) (length d)) u (move_to s c n) _ _ w e x _ h

  pub nothing_left : (w : Fault) (e : Cursor) (x : List ℕ) → next_token_text s c d ≡ leaves (refuse w e) x → (e ≡ c) × (x ≡ d)
  unfolding called
  nothing_left w e x h = left w e x (valid (length s) c) (read_lexeme File s c.offset) h

-- ---- the quoted-text call
module _ (s : List ℕ) (at : ℕ) (short : length s ≤ longest) (inside : at < length s) (quote : get_or s at 0 ≡ single_quote) where
  quote_look : lookahead s at ≡ Ok single_quote
  unfolding class_of
  quote_look = byte_look s at single_quote inside quote refl

  pub quote_decodes : (d : List ℕ) → quoted_text s at d ≡ counted_text at d (decode single_quote at s (at + 1))
  unfolding quoted_from
  quote_decodes d = cc (le-leb (length s) longest short, le-leb at (length s) (omega (arith, inside)), quote_look)
