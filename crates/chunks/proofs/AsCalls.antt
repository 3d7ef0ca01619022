-- What is handed out of a text is what the token call gives on it, up to a token that is too long. Assumes nothing.
use mathlib.Core.Path.{◌≡◌, refl, sym, subst, ◌∙◌, ap}
use mathlib.Core.Logic.{◌⊎◌, inl, inr}
use mathlib.Core.Bool.{Bool, true, false, cond}
use mathlib.Core.List.{List}
use Prim.Native.Nat.{ℕ, ◌+◌, ◌<◌}
use native.Mathlib.Omega.{arith}
use borrow.Author.Tests.{ne_eqb}
use lib.Dec.{ltb, eqb}
use lib.ListN.{length, get_or}
use Rattle.lexer.specs.Chars.{is, decimal_digit}
use Rattle.lexer.specs.Cursor.{Valid}
use Rattle.lexer.specs.Digits.{beyond}
use Rattle.lexer.specs.Float.{float_value}
use Rattle.lexer.specs.Layout.{layout_end}
use Rattle.lexer.specs.Number.{number_token, number_end, NumberRead}
use Rattle.lexer.specs.Refusal.{fault, refuse}
use Rattle.lexer.specs.Token.{Text, Lexeme, lexeme, refused, floated, valued, numbered, plain_lexeme, after_layout, lexeme_since, read_lexeme, answered, next_token, token_read}
use Rattle.lexer.specs.declared.refusal.Fault.{Fault}
use Rattle.lexer.specs.declared.refusal.Refusal.TheVariants.{EndOfText, OutOfLimit, TokenTooLong}
use Rattle.lexer.specs.declared.cursor.Cursor.{Cursor}
use Rattle.lexer.specs.Cursor.{Scan}
use Rattle.std.specs.declared.result.Result.TheVariants.{Ok, Err}
use Rattle.lexer.specs.Float.{Floated}
use Rattle.std.specs.declared.option.Option.TheVariants.{Some, None}
use Rattle.lexer.specs.declared.kind.Kind.{Kind}
use Rattle.lexer.specs.declared.kind.Value.{Value}
use Rattle.lexer.specs.declared.number.Numeral.{Numeral}
use Rattle.lexer.specs.declared.number.NumberToken.{NumberToken}
use Rattle.lexer.specs.declared.token.Token.{Token}
use Rattle.lexer.specs.declared.token.Source.TheVariants.{File}
use Rattle.lexer.proofs.Calls.{passes}
use Rattle.lexer.proofs.Cursors.{move_valid}
use Rattle.lexer.proofs.Promises.{lexeme_ends, token_there}
use Rattle.lexer.proofs.Spans.{by_test}
use Rattle.chunks.specs.Whole.{longest_token, token_at, end_of, token_end, longer_than, showing, longer, after_layout as afterLayoutLimited, next_lexeme, Handed, token, last, stuck, Next, Hands, TooLong, Calls, NoneLonger}
use Rattle.chunks.proofs.Windows.{true-false, digit_token}
use Rattle.lexer.specs.Name.{PlainToken}
use Rattle.lexer.specs.Name.{whole_token}

pub refused_lexeme : (w : Fault) (t : Token) (e : ℕ) (x : Text) → refused w ≡ lexeme t e x → ⊥
refused_lexeme w t e x q = let y : ◌≡◌ {A = ℕ} 0 1 = cc in omega arith

module _ (s : List ℕ) where
  -- 15, for a token that is too long
  pub record Fifteen (c : Cursor) (a : Lexeme) : Type 0 where
    pub fault_there : Fault
    pub refuses : a ≡ refused fault_there
    pub long : TooLong s c fault_there

  -- the token call's, or that, by where layout ends: what comes next
  abbrev Cases : Cursor → Scan → Type 0
  Cases c r = (lexeme_since c.offset (after_layout File s c.offset r) ≡ lexeme_since c.offset (afterLayoutLimited s c.offset r)) ⊎ Fifteen c (lexeme_since c.offset (afterLayoutLimited s c.offset r))

  pub next_cases : (c : Cursor) → (read_lexeme File s c.offset ≡ next_lexeme s c.offset) ⊎ Fifteen c (next_lexeme s c.offset)
  unfolding after_layout afterLayoutLimited lexeme_since
  next_cases c = go (layout_end s c.offset) refl
    where
      by : ℕ → Bool → Lexeme
      by at t = cond t (refused (fault TokenTooLong at)) (token_at (ltb c.offset at) s at)

      token_cases : (at : ℕ) → layout_end s c.offset ≡ Ok at → (t : Bool) → longer (ltb c.offset at) s at ≡ t → (lexeme_since c.offset (token_at (ltb c.offset at) s at) ≡ lexeme_since c.offset (by at t)) ⊎ Fifteen c (lexeme_since c.offset (by at t))
      token_cases at e true f = inr (record { fault_there = fault TokenTooLong at; refuses = refl; long = record { start = at; starts = e; long = f; refusal = refl } })
      token_cases at e false f = inl refl

      go : (r : Scan) → layout_end s c.offset ≡ r → Cases c (layout_end s c.offset)
      go (Err w) e = subst (Cases c) (sym e) (inl refl)
      go (Ok at) e = subst (Cases c) (sym e) (token_cases at e (longer (ltb c.offset at) s at) refl)

  -- the token call from a valid cursor
  pub answers : (c : Cursor) → Valid (length s) c → (a : Lexeme) → read_lexeme File s c.offset ≡ a → next_token File s c ≡ answered s c a
  answers c v a e = rw (passes (length s) c v) (ap (answered s c) e)

  -- a token that is handed out is the call's, and the cursor behind it is valid
  read_there : (c : Cursor) → Valid (length s) c → (t : Token) (d : Cursor) → Next s c t d → (next_token File s c ≡ token_read t d) × Valid (length s) d
  unfolding answered
  read_there c v t d n = go (next_cases c)
    where
      go : (read_lexeme File s c.offset ≡ next_lexeme s c.offset) ⊎ Fifteen c (next_lexeme s c.offset) → (next_token File s c ≡ token_read t d) × Valid (length s) d
      go (inl q) =
          let e = q ∙ n.reads in
          let l = lexeme_ends File s c.offset t n.end n.text v.offset e in (
            answers c v (lexeme t n.end n.text) e ∙ ap (token_read t) (sym n.moved),
            subst (Valid (length s)) (sym n.moved) (move_valid s c n.end (omega (arith, l.behind, l.ahead)) l.inside v),
          )
      go (inr l) = absurd (refused_lexeme l.fault_there t n.end n.text (sym l.refuses ∙ n.reads))

  pub hands_calls : (h : Handed) (c : Cursor) → Valid (length s) c → Hands s c h → Calls (TooLong s) s c h
  unfolding answered
  hands_calls (token t d h) c v p = let n = read_there c v t d p.0 in (n.0, hands_calls h d n.1 p.1)
  hands_calls (last w) c v p = go (next_cases c)
    where
      go : (read_lexeme File s c.offset ≡ next_lexeme s c.offset) ⊎ Fifteen c (next_lexeme s c.offset) → (next_token File s c ≡ refuse w c) ⊎ TooLong s c w
      go (inl q) = inl (answers c v (refused w) (q ∙ p))
      go (inr l) = let f : refused l.fault_there ≡ refused w = sym l.refuses ∙ p in let k : l.fault_there ≡ w = cc in inr (subst (TooLong s c) k l.long)
  hands_calls stuck c v p = tt

  -- where none is too long it is the token call's throughout
  pub calls_only : NoneLonger s → (h : Handed) (c : Cursor) → Calls (TooLong s) s c h → Calls (λ _ _. ⊥) s c h
  calls_only f (token t d h) c p = (p.0, calls_only f h d p.1)
  calls_only f (last w) c (inl q) = inl q
  calls_only f (last w) c (inr l) = absurd (true-false (longer (ltb c.offset l.start) s l.start) l.long (f c.offset l.start l.starts))
  calls_only f stuck c p = tt

-- ---- how long a token is that is accepted
module _ (at : ℕ) (t : Token) (e : ℕ) (x : Text) where
  -- a plain token that ends at j, if it is accepted
  abbrev EndsAt : ℕ → PlainToken → Type 0
  EndsAt j p = plain_lexeme at p ≡ lexeme t e x → j ≡ e

  whole_ends : (k : Kind) (v : Value) (j : ℕ) → EndsAt j (whole_token k v j)
  unfolding plain_lexeme
  whole_ends k v j q = cc

  never_ends : (j : ℕ) (w : Fault) → EndsAt j (Err w)
  unfolding plain_lexeme
  never_ends j w q = absurd (refused_lexeme w t e x q)

  valued_ends : (j : ℕ) (n : Numeral) → EndsAt j (valued at j n)
  unfolding valued floated
  valued_ends j (Numeral.Integer n) = by_test (EndsAt j) (ltb n beyond) _ _ (λ _. whole_ends Kind.Number (Value.Integer n) j) (λ _. never_ends j (fault OutOfLimit at))
  valued_ends j (Numeral.Float m sign y f) = go (float_value m sign y f)
    where
      go : (v : Floated) → EndsAt j (floated at j v)
      go (Some v) = whole_ends Kind.Number (Value.Float v) j
      go None = never_ends j (fault OutOfLimit at)

  number_ends : (n : NumberRead) → plain_lexeme at (numbered at n) ≡ lexeme t e x → number_end n ≡ e
  unfolding number_end numbered
  number_ends (Ok (NumberToken.Whole m j)) = valued_ends j m
  number_ends (Ok (NumberToken.Partial m j)) = never_ends j (fault EndOfText j)
  number_ends (Err w) = never_ends 0 w

-- it is longer exactly if more than 1,024 bytes lie between its start and its end
pub accepted_longer : (layout : Bool) (s : List ℕ) (at : ℕ) (t : Token) (e : ℕ) (x : Text) → at < length s → token_at layout s at ≡ lexeme t e x → longer layout s at ≡ ltb (at + longest_token) e
unfolding longer_than end_of
accepted_longer layout s at t e x h f =
    let l = token_there File layout s at t e x f in
    let n : token_end layout s at ≡ e = by_test (λ (j : ℕ). j ≡ e) (is decimal_digit (get_or s at 0)) _ _ (λ g. number_ends at t e x (number_token s at) (sym (digit_token layout s at h g) ∙ f)) (λ _. ap end_of f) in
    let z : eqb e 0 ≡ false = ne_eqb e 0 (λ k. omega (arith, l.ahead)) in
    ap (longer_than layout s at (showing (token_at layout s at))) n ∙ rw z
