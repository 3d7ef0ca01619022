-- The own bytes of a name or a variable that is not quoted: no carriage return is among them. Assumes nothing.
use Prim.Native.Nat.{ℕ, suc, ◌+◌, ◌-◌, ◌<◌, ◌≤◌}
use mathlib.Core.Path.{◌≡◌, refl}
use mathlib.Core.Bool.{Bool, true, false}
use mathlib.Core.List.{List, [], ◌∷◌}
use native.Mathlib.Decide.{dec_le}
use native.Mathlib.Omega.{arith}
use borrow.Author.Tests.{eqb-true, leb-true, ne_eqb}
use lib.Dec.{eqb, leb}
use lib.ListN.{take, drop}
use Rattle.lexer.specs.Chars.{class_of, is, within, small_letter, decimal_digit, graphic_token_char, layout_char, foreign_byte, carriage_return}
use Rattle.lexer.specs.Cursor.{part}
use Rattle.lexer.specs.Name.{run_end, name_token, PlainToken}
use Rattle.lexer.specs.Token.{plain_token, Text, source, lexeme, text_of, read_lexeme}
use Rattle.std.specs.declared.result.Result.TheVariants.{Ok, Err}
use Rattle.lexer.specs.declared.kind.Kind.{Kind}
use Rattle.lexer.specs.declared.kind.Value.{Value}
use Rattle.lexer.specs.declared.token.Token.{Token}
use Rattle.lexer.specs.declared.token.Source.{Source}
use Rattle.lexer.proofs.Cursors.{both}
use Rattle.lexer.proofs.EachToken.{Each, Rules, plain_each, read_each}
use Rattle.lexer.proofs.Looks.{Seen}
use Rattle.lexer.proofs.Returns.{blank, blanked, drop-same}
use Rattle.lexer.proofs.Spans.{by_test}

-- what is no layout stays
byte_kept : (x : ℕ) → (class_of x ≡ layout_char → ⊥) → blank x ≡ x
unfolding blank class_of
byte_kept x n = cc (ne_eqb x carriage_return (λ e. n (cc)))

-- from `at` to e the bytes stay, where xs is left of the text at `at`
abbrev Kept : ℕ → List ℕ → ℕ → Type 0
Kept at xs e = take (e - at) (blanked xs) ≡ take (e - at) xs

-- up to `at` itself there are none
none_kept : (at : ℕ) (xs : List ℕ) (e : ℕ) → e ≤ at → Kept at xs e
none_kept at xs e h = let n : e - at ≡ 0 = omega arith in rw n

-- a byte that stays, and more behind it
more_kept : (at x : ℕ) (xs : List ℕ) (e : ℕ) → blank x ≡ x → Kept (at + 1) xs e → Kept at (x ∷ xs) e
more_kept at x xs e b h = go (dec_le e at)
  where
    go : Dec (e ≤ at) → Kept at (x ∷ xs) e
    go (yes l) = none_kept at (x ∷ xs) e l
    go (no l) = let n : e - at ≡ suc (e - (at + 1)) = omega arith in rw n (cc)

-- a run of classes below that of layout
run-kept : (lo hi : ℕ) → hi < layout_char → (at : ℕ) (xs : List ℕ) (e : ℕ) → run_end lo hi at xs ≡ Ok e → Kept at xs e
unfolding run_end
run-kept lo hi few at [] e f = cc
run-kept lo hi few at (x ∷ xs) e f =
    by_test (λ r. r ≡ Ok e → Kept at (x ∷ xs) e) (within lo hi (class_of x)) _ _
    (λ t g. more_kept at x xs e (byte_kept x (λ k. let h = leb-true (class_of x) hi (both (leb lo (class_of x)) _ t).1 in omega arith)) (run-kept lo hi few (at + 1) xs e g))
    (λ _. by_test (λ r. r ≡ Ok e → Kept at (x ∷ xs) e) (is foreign_byte x) _ _ (λ _ g. cc) (λ _ g. let q : e ≡ at = cc in none_kept at (x ∷ xs) e (omega arith))) f

module _ (s : List ℕ) where
  -- a token that is not quoted and begins with x, at `at`: its bytes stay, if they are its text
  abbrev Own : ℕ → ℕ → Kind → Value → ℕ → Type 0
  Own at x k v e = text_of k ≡ source → Kept at (x ∷ drop (at + 1) s) e

  -- so by each rule, if x is no carriage return
  rules : (at x : ℕ) → blank x ≡ x → Rules (Own at x) s at x
  rules at x b =
      record {
        word = λ e f. let h = run small_letter decimal_digit (omega arith) e f in (h, h);
        symbol = run graphic_token_char graphic_token_char (omega arith);
        solo = λ _. one;
        marked = λ layout k f _. one;
        separator = λ g. cc;
        bars = λ g. cc;
        end = λ e g. cc;
        float = λ y e g. cc;
        integer = λ n e l g. cc;
      }
    where
      one : Kept at (x ∷ drop (at + 1) s) (at + 1)
      one = more_kept at x (drop (at + 1) s) (at + 1) b (none_kept (at + 1) (drop (at + 1) s) (at + 1) (omega arith))

      run : (lo hi : ℕ) → hi < layout_char → (e : ℕ) → run_end lo hi (at + 1) (drop (at + 1) s) ≡ Ok e → source ≡ source → Kept at (x ∷ drop (at + 1) s) e
      run lo hi few e f _ = more_kept at x (drop (at + 1) s) e b (run-kept lo hi few (at + 1) (drop (at + 1) s) e f)

  -- any token: its bytes stay, if they are its text
  abbrev Keeps : ℕ → ℕ → Text → Type 0
  Keeps at e x = x ≡ source → part at e (blanked s) ≡ part at e s

  keeps : (at x : ℕ) → Seen s at x → (p : PlainToken) → Each (Own at x) p → Each (λ k v e. Keeps at e (text_of k)) p
  keeps at x l (Ok p) h = λ g. rw (drop-same at s, l.rest) (h g)
  keeps at x l (Err w) h = tt

  -- no token begins with a carriage return
  of_byte : (origin : Source) (layout : Bool) (at x : ℕ) (t : Bool) → eqb x carriage_return ≡ t → Each (Own at x) (plain_token origin s at layout x)
  unfolding plain_token name_token class_of blank
  of_byte origin layout at x true f = rw (eqb-true x carriage_return f) tt
  of_byte origin layout at x false f = plain_each (Own at x) s at x (rules at x (cc)) origin layout

  -- a token that was read
  pub own-bytes : (origin : Source) (from : ℕ) (t : Token) (e : ℕ) → read_lexeme origin s from ≡ lexeme t e source → part t.start e (blanked s) ≡ part t.start e s
  own-bytes origin from t e f =
      rw f at (read_each (λ k v at d y. Keeps at d y) origin s (λ at l bs d h g. cc) (λ at l bs d h g. cc)
      (λ at x l n layout. keeps at x l (plain_token origin s at layout x) (of_byte origin layout at x (eqb x carriage_return) refl)) from) refl
