-- The layout call: what it gives is what 6.4.1 calls so, and text after text it comes to where layout ends. Assumes nothing.
use Prim.Native.Nat.{ℕ, zero, suc, ◌+◌, ◌-◌, ◌<◌, ◌≤◌}
use mathlib.Core.Path.{◌≡◌, refl, sym, ◌∙◌, ap}
use mathlib.Core.Bool.{Bool, true, false, cond, true≢false}
use mathlib.Core.List.{List}
use native.Mathlib.Omega.{arith}
use borrow.Author.Tests.{eq-eqb, ne_eqb, eqb-true}
use lib.Dec.{eqb, ltb}
use lib.ListN.{length, get_or}
use Rattle.lexer.specs.Chars.{is, layout_char, percent, slash, star}
use Rattle.lexer.specs.Cursor.{walk, part, move_to, valid, Valid}
use Rattle.lexer.specs.Layout.{single_line_comment, bracketed_comment, slashed, layout_text_of, layout_text, layout_end, moved, stepped}
use Rattle.lexer.specs.LayoutCall.{layout_kind, given_end, given_layout, layout_given, next_layout, LayoutAnswer}
use Rattle.lexer.specs.Look.{lookahead}
use Rattle.lexer.specs.Stretch.{run_of}
use Rattle.lexer.specs.Token.{Text, Lexeme, lexeme, refused, lexeme_to, after_layout, token_since, lexeme_since, answered, not_valid, next_token, token_read}
use Rattle.lexer.specs.declared.refusal.Fault.{Fault}
use Rattle.lexer.specs.Look.{Look}
use Rattle.std.specs.declared.result.Result.TheVariants.{Ok, Err}
use Rattle.lexer.specs.declared.cursor.Cursor.{Cursor}
use Rattle.lexer.specs.Cursor.{Moved}
use Rattle.lexer.specs.Cursor.{Scan}
use Rattle.lexer.specs.Layout.{Layout}
use Rattle.std.specs.declared.option.Option.TheVariants.{Some, None}
use Rattle.lexer.specs.declared.layout_call.LayoutKind.{LayoutKind}
use Rattle.lexer.specs.declared.layout_call.LayoutKind.TheVariants.{Blanks, SingleLine, Bracketed}
use Rattle.lexer.specs.declared.token.Token.{Token}
use Rattle.lexer.specs.declared.token.Source.{Source}
use Rattle.lexer.proofs.Calls.{passes, lexeme_read}
use Rattle.lexer.proofs.Cursors.{is-valid, move_here, move_offset, over-bytes}
use Rattle.lexer.proofs.Layouts.{Before, Ends, told, layout_ends, goes_on, stops_there, refused_there, past-blank, later}
use Rattle.lexer.proofs.Looks.{look_byte}
use Rattle.lexer.proofs.Promises.{token_starts}
use Rattle.lexer.proofs.Stretches.{along-run, run-ahead, run_inside, run-bytes, run_no_more, run-on}
use Rattle.lexer.specs.Refusal.{refuse}
use Rattle.lexer.specs.declared.layout_call.LayoutRead.{LayoutRead}

-- where the run of layout characters at an offset ends
abbrev pub blanks_end : List ℕ → ℕ → ℕ
blanks_end = run_of (is layout_char)

-- ---- what is given, by what one layout text came to
module _ (s : List ℕ) (c : Cursor) where
  -- what the call answers at a valid cursor
  abbrev pub given : LayoutAnswer
  given = layout_given s c (layout_text s c.offset)

  pub given-refused : (w : Fault) → stepped s c (layout_text s c.offset) ≡ Err w → given ≡ refuse w c
  unfolding layout_given
  given-refused w e = ap (layout_given s c) (told s c (Err w) e)

  pub given-none : stepped s c (layout_text s c.offset) ≡ (Ok None) → given ≡ Ok (LayoutRead.Absent c)
  unfolding layout_given
  given-none e = cc (told s c (Ok None) e, eq-eqb c.offset c.offset refl)

  module _ (d : Cursor) (e : stepped s c (layout_text s c.offset) ≡ Ok (Some d)) where
    pub text_there : Ends s c d
    text_there = told s c (Ok (Some d)) e

    pub given-text : given ≡ given_layout s c text_there.end (get_or s c.offset 0)
    unfolding layout_given
    given-text = cc (text_there.text, ne_eqb text_there.end c.offset (λ n. omega (arith, text_there.ahead)))

-- the kind tells whether it is a run of layout characters
abbrev pub is_run : LayoutKind → Bool
is_run Blanks = true
is_run SingleLine = false
is_run Bracketed = false

by_class : (t u : Bool) → is_run (cond t Blanks (cond u SingleLine Bracketed)) ≡ t
by_class true u = refl
by_class false true = refl
by_class false false = refl

pub kind_run : (x : ℕ) → is_run (layout_kind x) ≡ is layout_char x
kind_run x = by_class (is layout_char x) (eqb x percent)

-- ---- what is given is what 6.4.1 calls so

-- the bytes from `at` to before e are layout characters, and no further one follows
pub record BlanksTo (s : List ℕ) (at e : ℕ) : Type 0 where
  pub each : (i : ℕ) → at ≤ i → i < e → is layout_char (get_or s i 0) ≡ true
  pub no_more : e < length s → is layout_char (get_or s e 0) ≡ false

-- a `%`, and the comment behind it
pub record LineTo (s : List ℕ) (at e : ℕ) : Type 0 where
  pub opens : get_or s at 0 ≡ percent
  pub comment : single_line_comment s (at + 1) ≡ Ok e

-- a slash and a star, and the comment that they open
pub record BracketedTo (s : List ℕ) (at e : ℕ) : Type 0 where
  pub opens : get_or s at 0 ≡ slash
  pub then : get_or s (at + 1) 0 ≡ star
  pub comment : bracketed_comment s at ≡ Ok e

-- from `at` to e stands what the kind says
abbrev pub Is : List ℕ → LayoutKind → ℕ → ℕ → Type 0
Is s Blanks at e = BlanksTo s at e
Is s SingleLine at e = LineTo s at e
Is s Bracketed at e = BracketedTo s at e

module _ (s : List ℕ) where
  -- where a run ends no further byte passes
  run-over : (at : ℕ) → BlanksTo s at (blanks_end s at)
  run-over at = record { each = run-bytes (is layout_char) s at; no_more = run_no_more (is layout_char) s at }

  -- a layout text that does not end where it starts, by its first byte x
  module _ (at e : ℕ) (n : e ≡ at → ⊥) where
    by_star : (r : Look) → lookahead s (at + 1) ≡ r → get_or s at 0 ≡ slash → slashed s at r ≡ Ok e → BracketedTo s at e
    unfolding slashed
    by_star (Err w) f o g = let z : ◌≡◌ {A = ℕ} 0 1 = cc in absurd (omega arith)
    by_star (Ok y) f o g = go (eqb y star) refl
      where
        go : (t : Bool) → eqb y star ≡ t → BracketedTo s at e
        go true h = record { opens = o; then = (look_byte s (at + 1) y f).it ∙ eqb-true y star h; comment = cc (h, g) }
        go false h = absurd (n (cc (h, g)))

    by_byte : (x : ℕ) → get_or s at 0 ≡ x → layout_text_of s at (Ok x) ≡ Ok e → Is s (layout_kind x) at (given_end s at e x)
    unfolding layout_text_of
    by_byte x o g = go (is layout_char x) (eqb x percent) (eqb x slash) refl refl refl g
      where
        go : (a b d : Bool) → is layout_char x ≡ a → eqb x percent ≡ b → eqb x slash ≡ d
            → cond a (Ok (at + 1)) (cond b (single_line_comment s (at + 1)) (cond d (slashed s at (lookahead s (at + 1))) (Ok at))) ≡ Ok e
            → Is s (cond a Blanks (cond b SingleLine Bracketed)) at (cond a (blanks_end s at) e)
        go true b d p q r h = run-over at
        go false true d p q r h = record { opens = o ∙ eqb-true x percent q; comment = h }
        go false false true p q r h = by_star (lookahead s (at + 1)) refl (o ∙ eqb-true x slash r) h
        go false false false p q r h = absurd (n (cc))

  is-text : (at e : ℕ) → layout_text s at ≡ Ok e → (e ≡ at → ⊥) → Is s (layout_kind (get_or s at 0)) at (given_end s at e (get_or s at 0))
  unfolding layout_text_of
  is-text at e f n = go (lookahead s at) refl f
    where
      go : (r : Look) → lookahead s at ≡ r → layout_text_of s at r ≡ Ok e → Is s (layout_kind (get_or s at 0)) at (given_end s at e (get_or s at 0))
      go (Err w) g h = let z : ◌≡◌ {A = ℕ} 0 1 = cc in absurd (omega arith)
      go (Ok x) g h = let o = (look_byte s at x g).it in by_byte at e n (get_or s at 0) refl (ap (λ (y : ℕ). layout_text_of s at (Ok y)) o ∙ h)

-- ---- what the call promises whoever goes on from its answer

-- a layout text of the kind k from a on, at the cursor c, and the cursor d behind it
pub record LayoutPromised (s : List ℕ) (c : Cursor) (k : LayoutKind) (a : ℕ) (d : Cursor) : Type 0 where
  pub from : Valid (length s) c
  pub starts : a ≡ c.offset
  pub it : Is s k a d.offset
  pub ahead : a < d.offset
  pub next : Valid (length s) d
  pub next_passes : valid (length s) d ≡ true
  pub walked : d ≡ walk c (part c.offset d.offset s)
  -- layout goes on from there as it does from here
  pub rest : moved s c (layout_end s c.offset) ≡ moved s d (layout_end s d.offset)

module _ (s : List ℕ) where
  -- behind what is given layout ends where it ends from its start; it is no empty text, and within the text
  record Behind (at e : ℕ) : Type 0 where
    same : layout_end s at ≡ layout_end s e
    ahead : at < e
    inside : e ≤ length s

  behind-given : (at e : ℕ) → layout_text s at ≡ Ok e → at < e → e ≤ length s → (t : Bool) → is layout_char (get_or s at 0) ≡ t → Behind at (cond t (blanks_end s at) e)
  behind-given at e f h k false g = record { same = goes_on s at e f (λ n. omega arith); ahead = h; inside = k }
  behind-given at e f h k true g =
      let l : at < length s = omega arith in
      record {
        same = along-run (is layout_char) s (layout_end s) (past-blank s) at;
        ahead = (let r = run-on (is layout_char) s at l g in omega (arith, run-ahead (is layout_char) s (at + 1), r));
        inside = run_inside (is layout_char) s at (omega arith);
      }

-- none at the cursor: layout ends there
pub record LayoutAbsent (s : List ℕ) (c back : Cursor) : Type 0 where
  pub from : Valid (length s) c
  pub here : back ≡ c
  pub ends : layout_end s c.offset ≡ Ok c.offset

-- a refusal, which the token call gives there, too
pub record LayoutRefused (s : List ℕ) (c : Cursor) (w : Fault) (back : Cursor) : Type 0 where
  pub here : back ≡ c
  pub ends : valid (length s) c ≡ true → layout_end s c.offset ≡ Err w
  pub token : (origin : Source) → next_token origin s c ≡ refuse w c

abbrev pub Says : List ℕ → Cursor → LayoutAnswer → Type 0
Says s c (Ok (LayoutRead.Text k a d)) = LayoutPromised s c k a d
Says s c (Ok (LayoutRead.Absent back)) = LayoutAbsent s c back
Says s c (Err p) = LayoutRefused s c p.fault p.cursor

module _ (s : List ℕ) (c : Cursor) where
  module _ (v : Valid (length s) c) (t : valid (length s) c ≡ true) where
    -- a layout text that ends at e
    text_says : (e : ℕ) → layout_text s c.offset ≡ Ok e → c.offset < e → e ≤ length s → Says s c (given_layout s c e (get_or s c.offset 0))
    text_says e f h k =
        let g = given_end s c.offset e (get_or s c.offset 0) in
        let b = behind-given s c.offset e f h k (is layout_char (get_or s c.offset 0)) refl in
        let d : Cursor = move_to s c g in
        let l : c.offset ≤ g = omega (arith, b.ahead) in
        let o : d.offset ≡ g = move_offset s c g l b.inside in
        let p = later s c v g l b.inside b.same d refl in
        record {
          from = v;
          starts = refl;
          it = rw o (is-text s c.offset e f (λ n. omega (arith, n, h)));
          ahead = omega (arith, b.ahead, o);
          next = p.valid;
          next_passes = passes (length s) d p.valid;
          walked = over-bytes s c d g refl (sym o);
          rest = p.same;
        }

    no-token : (w : Fault) → layout_end s c.offset ≡ Err w → (origin : Source) → next_token origin s c ≡ refuse w c
    unfolding after_layout lexeme_since answered
    no-token w f origin = cc (t, f)

    -- by what one layout text comes to
    given_says : (r : Layout) → stepped s c (layout_text s c.offset) ≡ r → Says s c (given s c)
    given_says (Ok (Some d)) f = let x = text_there s c d f in rw (given-text s c d f) (text_says x.end x.text x.ahead x.inside)
    given_says (Ok None) f = rw (given-none s c f) (record { from = v; here = refl; ends = stops_there s c.offset (told s c (Ok None) f) })
    given_says (Err w) f =
        let e = refused_there s c.offset w (told s c (Err w) f) in
        rw (given-refused s c w f) (record { here = refl; ends = λ _. e; token = no-token w e })

  -- what the call answers says so
  pub layout_says : Says s c (next_layout s c)
  layout_says = go (valid (length s) c) refl
    where
      go : (t : Bool) → valid (length s) c ≡ t → Says s c (cond t (given s c) (refuse not_valid c))
      go true f = given_says (is-valid (length s) c f) f (stepped s c (layout_text s c.offset)) refl
      go false f = record { here = refl; ends = λ g. absurd (true≢false (sym g ∙ f)); token = λ origin. cc (f) }

-- ---- text after text

-- from a cursor on, text after text: to the cursor where none is, or to a refusal
pub data LaidOut (s : List ℕ) : Cursor → Moved → Type 0 where
  ends : (c : Cursor) → next_layout s c ≡ Ok (LayoutRead.Absent c) → LaidOut s c (Ok c)
  stops : (c : Cursor) (w : Fault) → next_layout s c ≡ refuse w c → LaidOut s c (Err w)
  text : (c : Cursor) (k : LayoutKind) (a : ℕ) (d : Cursor) (r : Moved) → next_layout s c ≡ Ok (LayoutRead.Text k a d) → LaidOut s d r → LaidOut s c r

module _ (s : List ℕ) where
  -- where layout ends from a cursor on
  abbrev pub layout_from : Cursor → Moved
  layout_from c = moved s c (layout_end s c.offset)

  one_more : (c : Cursor) → valid (length s) c ≡ true → ((d : Cursor) → c.offset < d.offset → d.offset ≤ length s → valid (length s) d ≡ true → LaidOut s d (layout_from d))
      → (r : LayoutAnswer) → next_layout s c ≡ r → Says s c r → LaidOut s c (layout_from c)
  unfolding moved
  one_more c t next (Ok (LayoutRead.Text k a d)) f p = rw p.rest (text c k a d (layout_from d) f (next d (omega (arith, p.starts, p.ahead)) p.next.offset p.next_passes))
  one_more c t next (Ok (LayoutRead.Absent back)) f p = rw (p.ends, move_here s c) (ends c (f ∙ ap (λ (x : Cursor). Ok (LayoutRead.Absent x)) p.here))
  one_more c t next (Err q) f p = rw (p.ends t) (stops c q.fault (f ∙ ap (refuse q.fault) p.here))

  laid : (n : ℕ) (c : Cursor) → length s - c.offset ≤ n → valid (length s) c ≡ true → LaidOut s c (layout_from c)
  laid zero c h t = one_more c t (λ d l k v. absurd (omega arith)) (next_layout s c) refl (layout_says s c)
  laid (suc n) c h t = one_more c t (λ d l k v. laid n d (omega arith) v) (next_layout s c) refl (layout_says s c)

  pub laid_out : (c : Cursor) → valid (length s) c ≡ true → LaidOut s c (layout_from c)
  laid_out c t = laid (length s) c (omega arith) t

-- ---- and before a token: to where it starts

-- from the cursor c, text after text, to the cursor at which the token t starts
pub record LaidBefore (s : List ℕ) (c : Cursor) (t : Token) : Type 0 where
  pub at : Cursor
  pub laid : LaidOut s c (Ok at)
  pub starts : at.offset ≡ t.start

module _ (s : List ℕ) (c : Cursor) (origin : Source) where
  -- a token that was read starts where layout ends
  since_starts : (at : ℕ) (l : Lexeme) (t : Token) (e : ℕ) (x : Text) → ((u : Token) (n : ℕ) (y : Text) → l ≡ lexeme u n y → u.start ≡ at) → lexeme_since c.offset l ≡ lexeme t e x → at ≡ t.start
  unfolding lexeme_since
  since_starts at (lexeme u n y) t e x h f = let q : token_since c.offset u ≡ t = cc in sym (h u n y refl) ∙ ap (λ (v : Token). v.start) q
  since_starts at (refused w) t e x h f = let z : ◌≡◌ {A = ℕ} 0 1 = cc in absurd (omega arith)

  behind_starts : (r : Scan) → Before c.offset (length s) r → (t : Token) (e : ℕ) (x : Text) → lexeme_since c.offset (after_layout origin s c.offset r) ≡ lexeme t e x
      → LaidOut s c (moved s c r) → LaidBefore s c t
  unfolding after_layout lexeme_since moved
  behind_starts (Err w) b t e x f l = let z : ◌≡◌ {A = ℕ} 0 1 = cc in absurd (omega arith)
  behind_starts (Ok at) b t e x f l =
      let o = move_offset s c at b.0 (omega (arith, b.1)) in
      record {
        at = move_to s c at;
        laid = l;
        starts = o ∙ since_starts at (lexeme_to origin s at (ltb c.offset at) (lookahead s at)) t e x (token_starts origin (ltb c.offset at) s at) f;
      }

  pub laid_before : (t : Token) (d : Cursor) → next_token origin s c ≡ token_read t d → LaidBefore s c t
  laid_before t d h =
      let r = lexeme_read origin s c t d h in
      behind_starts (layout_end s c.offset) (layout_ends s c.offset) t r.end r.text r.reads (laid_out s c r.passes)
