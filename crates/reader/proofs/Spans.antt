-- The tokens of a clause, one behind the other: how many, their spans, the bytes that they cover, their integers. Assumes nothing.
use Prim.Native.Nat.{ℕ, zero, suc, ◌+◌, ◌<◌, ◌≤◌}
use mathlib.Core.Path.{◌≡◌, refl, sym, ◌∙◌, ap, subst}
use mathlib.Core.Bool.{Bool, true, false, cond}
use mathlib.Core.List.{List, [], ◌∷◌, ◌++◌}
use native.Mathlib.Omega.{arith}
use lib.Dec.{eqb}
use lib.ListN.{length, get_or}
use Rattle.lexer.specs.Chars.{comma}
use Rattle.lexer.specs.Cursor.{valid, move_to}
use Rattle.lexer.specs.Digits.{largest_magnitude}
use Rattle.lexer.specs.Token.{Lexeme, lexeme, refused, is_comma, read_lexeme, answered, next_token, token_read}
use Rattle.lexer.specs.declared.cursor.Cursor.{Cursor}
use Rattle.lexer.specs.declared.token.Token as lexer
use Rattle.lexer.specs.declared.token.Source.TheVariants.{File}
use Rattle.lexer.proofs.Theorems.{token_promises, comma_starts, integer_within}
use Rattle.reader.specs.Token.{Integer, Token, terminals}
use Rattle.reader.specs.Clause.{token_in, is_end, Gathered, whole, stopped, too_many, with, onward, gather}
use Rattle.reader.specs.Listing.{token_at}
use Rattle.reader.specs.Fault.{Chain, none, more}
use Rattle.reader.specs.Cover.{between, all_bytes}
use Rattle.reader.proofs.Cover.{covers_none, covers_more}
use Rattle.reader.proofs.Sights.{Known, known}
use Rattle.reader.proofs.Turns.{answered_there}

pub terminals-length : (i : ℕ) (ts : List Token) → length (terminals i ts) ≡ length ts
unfolding terminals
terminals-length i [] = refl
terminals-length i (t ∷ ts) = ap suc (terminals-length (i + 1) ts)

-- ---- tokens before what was gathered
unfoldable pub with_all : List Token → Gathered → Gathered
with_all [] g = g
with_all (t ∷ ts) g = with t (with_all ts g)

pub with_last : (ts : List Token) (t : Token) (g : Gathered) → with_all (ts ++ (t ∷ [])) g ≡ with_all ts (with t g)
unfolding with_all
with_last [] t g = refl
with_last (u ∷ ts) t g = ap (with u) (with_last ts t g)

pub with_whole : (ts us : List Token) (e : Cursor) → with_all ts (whole us e) ≡ whole (ts ++ us) e
unfolding with_all with
with_whole [] us e = refl
with_whole (t ∷ ts) us e = ap (with t) (with_whole ts us e)

pub with_stopped : (ts : List Token) {w : _} → with_all ts (stopped w) ≡ stopped w
unfolding with_all with
with_stopped [] = refl
with_stopped (t ∷ ts) = ap (with t) (with_stopped ts)

pub with_too_many : (ts : List Token) → with_all ts too_many ≡ too_many
unfolding with_all with
with_too_many [] = refl
with_too_many (t ∷ ts) = ap (with t) (with_too_many ts)

-- each is the Comma exactly if a comma stands where it starts
abbrev pub Told : List ℕ → List Token → Type 0
Told s ts = (i : ℕ) → i < length ts → is_comma (token_at ts i).kind ≡ eqb (get_or s (token_at ts i).start 0) comma

told_none : (s : List ℕ) → Told s []
told_none s i l = absurd (omega arith)

-- a value that is an integer is within the tokenizer's limit
abbrev pub Limited : List Token → Type 0
Limited ts = (i n : ℕ) → (token_at ts i).value ≡ Integer n → n ≤ largest_magnitude

limited-none : Limited []
limited-none i n h = let z : ◌≡◌ {A = ℕ} 0 1 = cc in absurd (omega arith)

-- ---- one token more
module _ (s : List ℕ) (c : Cursor) (t : lexer.Token) (d : Cursor) (k : Known s c t d) (n : ℕ) where
  its_token : Token
  its_token = token_in s t d.offset k.text

  told-known : (ts : List Token) → Told s ts → Told s (token_in s t d.offset k.text ∷ ts)
  told-known ts r zero l = comma_starts File s c.offset t d.offset k.text k.reads
  told-known ts r (suc i) l = r i (omega arith)

  limited-known : (ts : List Token) → Limited ts → Limited (token_in s t d.offset k.text ∷ ts)
  limited-known ts r zero = integer_within File s c.offset t d.offset k.text k.reads
  limited-known ts r (suc i) = r i

  gather-known : gather (suc n) s c ≡ cond (is_end t.kind) (whole (its_token ∷ []) d) (with its_token (gather n s d))
  unfolding gather onward its_token
  gather-known =
      ap (λ (x : Lexeme). onward s c x (λ e. gather n s e)) k.reads
      ∙ ap (λ (e : Cursor). cond (is_end t.kind) (whole (its_token ∷ []) e) (with its_token (gather n s e))) (sym k.next)

  pub gather_end : is_end t.kind ≡ true → gather (suc n) s c ≡ whole (token_in s t d.offset k.text ∷ []) d
  unfolding its_token
  gather_end e = gather-known ∙ rw e

  pub gather_on : is_end t.kind ≡ false → gather (suc n) s c ≡ with (token_in s t d.offset k.text) (gather n s d)
  unfolding its_token
  gather_on e = gather-known ∙ rw e

pub gather_stopped : (s : List ℕ) (c : Cursor) (n : ℕ) {w : _} → read_lexeme File s c.offset ≡ refused w → gather (suc n) s c ≡ stopped w
unfolding gather onward
gather_stopped s c n e = ap (λ (x : Lexeme). onward s c x (λ e. gather n s e)) e

-- ---- the tokens that were gathered
pub record Few (s : List ℕ) (c : Cursor) (n : ℕ) (ts : List Token) (e : Cursor) : Type 0 where
  pub few : length ts ≤ n
  pub chain : Chain (length s) c.offset ts
  pub covers : all_bytes ts ≡ between c.offset e.offset
  pub told : Told s ts
  pub limited : Limited ts
  pub further : c.offset < e.offset
  pub inside : e.offset ≤ length s
  pub next_passes : valid (length s) e ≡ true

-- taken apart
pub tail : (t : Token) (ts : List Token) (e : Cursor) (g : Gathered) → with t g ≡ whole ts e → (us : List Token) × (ts ≡ t ∷ us) × (g ≡ whole us e)
unfolding with
tail t ts e (whole us d) h = (us, cc, cc)
tail t ts e (stopped w) h = let z : ◌≡◌ {A = ℕ} 0 1 = cc in absurd (omega arith)
tail t ts e too_many h = let z : ◌≡◌ {A = ℕ} 0 1 = cc in absurd (omega arith)

module _ (s : List ℕ) (c : Cursor) (v : valid (length s) c ≡ true) (n : ℕ) (ts : List Token) (e : Cursor)
    (next : (d : Cursor) → valid (length s) d ≡ true → (us : List Token) → gather n s d ≡ whole us e → Few s d n us e) where
  one-read : (t : lexer.Token) (d : Cursor) → next_token File s c ≡ token_read t d → gather (suc n) s c ≡ whole ts e → Few s c (suc n) ts e
  one-read t d r g = go (is_end t.kind) refl
    where
      go : (b : Bool) → is_end t.kind ≡ b → Few s c (suc n) ts e
      go true b =
          let k = known s c t d r in
          let p = token_promises s c File t d r in
          let m : token_in s t d.offset k.text ∷ [] ≡ ts = cc (gather_end s c t d k n b) in
          let z : d ≡ e = cc (gather_end s c t d k n b) in
          subst (λ (us : List Token). Few s c (suc n) us e) m
          (subst (Few s c (suc n) (token_in s t d.offset k.text ∷ [])) z
          (record {
            few = omega arith;
            chain = more p.behind p.ahead (none p.inside);
            covers = covers_more (token_in s t d.offset k.text) [] c.offset d.offset p.layout p.behind p.ahead (omega arith) (covers_none d.offset);
            told = told-known s c t d k n [] (told_none s);
            limited = limited-known s c t d k n [] limited-none;
            further = p.further;
            inside = p.inside;
            next_passes = p.next_passes;
          }))
      go false b =
          let k = known s c t d r in
          let p = token_promises s c File t d r in
          let a = tail (token_in s t d.offset k.text) ts e (gather n s d) (sym (gather_on s c t d k n b) ∙ g) in
          let f = next d p.next_passes a.0 a.2 in
          subst (λ (us : List Token). Few s c (suc n) us e) (sym a.1)
          (record {
            few = omega (arith, f.few);
            chain = more p.behind p.ahead f.chain;
            covers = covers_more (token_in s t d.offset k.text) a.0 c.offset e.offset p.layout p.behind p.ahead (omega (arith, f.further)) f.covers;
            told = told-known s c t d k n a.0 f.told;
            limited = limited-known s c t d k n a.0 f.limited;
            further = omega (arith, p.further, f.further);
            inside = f.inside;
            next_passes = f.next_passes;
          })

  one_lexeme : (x : Lexeme) → read_lexeme File s c.offset ≡ x → gather (suc n) s c ≡ whole ts e → Few s c (suc n) ts e
  unfolding answered
  one_lexeme (refused w) q g = let f = gather_stopped s c n q in let z : ◌≡◌ {A = ℕ} 0 1 = cc in absurd (omega arith)
  one_lexeme (lexeme t k x) q g = one-read t (move_to s c k) (answered_there s c v ∙ ap (answered s c) q) g

pub gathered_few : (n : ℕ) (s : List ℕ) (c : Cursor) (ts : List Token) (e : Cursor) → valid (length s) c ≡ true → gather n s c ≡ whole ts e → Few s c n ts e
unfolding gather
gathered_few zero s c ts e v g = let z : ◌≡◌ {A = ℕ} 0 1 = cc in absurd (omega arith)
gathered_few (suc n) s c ts e v g = one_lexeme s c v n ts e (λ d w us h. gathered_few n s d us e w h) (read_lexeme File s c.offset) refl g
