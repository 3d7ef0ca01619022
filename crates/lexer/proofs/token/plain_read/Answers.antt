-- `lexer::token::plain_read` meets its contract. Assumes nothing.
use Prim.Native.Nat.{ℕ, zero, suc, ◌+◌, ◌<◌}
use mathlib.Core.Path.{◌≡◌, refl, sym, ◌∙◌}
use mathlib.Core.Bool.{Bool, true, false, ◌&&◌}
use mathlib.Core.List.{List}
use mir.Syntax.{w64}
use mir.Val.{Fits}
use borrow.Author.Rules.{rules}
use borrow.Author.Tests.{eqb-true, le-leb, lt-leb}
use lib.Dec.{eqb}
use lib.ListN.{length}
use native.Mathlib.Omega.{arith}
use Rattle.lexer.specs.Chars.{class_of, is, within, small_letter, underscore_char, solo_char, point}
use Rattle.lexer.specs.Name.{name_token, word_token, PlainToken, whole_token}
use Rattle.lexer.specs.Token.{mark, is_mark, solo_to, plain_token, At, Unmarked}
use Rattle.lexer.specs.declared.kind.Kind.{Kind}
use Rattle.lexer.specs.declared.kind.Value.TheVariants.{Nothing}
use Rattle.lexer.specs.Token.{Mark}
use Rattle.std.specs.declared.option.Option.TheVariants.{Some, None}
use Rattle.lexer.specs.declared.token.Source.{Source}
use Rattle.lexer.proofs.HandedOn.{handed_on}
use Rattle.lexer.proofs.Looks.{look_byte}
use Rattle.lexer.proofs.Marks.{bare}
use Rattle.lexer.proofs.Sets.{apart}
use Rattle.lexer.proofs.Table.{agreed}
use Rattle.lexer.proofs.token.plain_read.Goals as goal

-- the bytes that are marks
abbrev marks : Bool → ℕ → Bool
marks t x = is_mark (mark t x)

-- each is a solo character: one test over all bytes, which antt computes
solo : (t : Bool) (b : ℕ) → b < 256 → marks t b ≡ (marks t b && is solo_char b)
unfolding mark class_of
solo true b h = agreed (marks true) (λ x. marks true x && is solo_char x) 256 tt b h
solo false b h = agreed (marks false) (λ x. marks false x && is solo_char x) 256 tt b h

-- the classes of the letters and of the underscore
abbrev alphabetic : ℕ → Bool
alphabetic = within small_letter underscore_char

-- ---- the ways out, over plain values: u says whether b is a letter or the underscore, m is the mark that it is, p is what was read
module _ (s : List ℕ) (at : ℕ) (t : Bool) (origin : Source) (b : ℕ) (w : At s at b) where
  inside : at < length s
  inside = (look_byte s at b w.there).inside

  fits : Fits w64 (at + 1)
  fits = let l = inside in record { fits = omega (arith, w.short) }

  -- a word, by the class of its first byte, which is no point
  by_class : eqb b point ≡ false → (k : ℕ) → class_of b ≡ k → alphabetic k ≡ true → word_token s at b ≡ plain_token origin s at t b
  unfolding plain_token name_token
  by_class l zero e f = cc
  by_class l (suc zero) e f = cc
  by_class l (suc (suc zero)) e f = cc
  by_class l (suc (suc (suc k))) e f = cc (le-leb small_letter (suc (suc (suc k))) (omega arith), lt-leb (suc (suc (suc k))) underscore_char (omega arith))

  module _ (u : Bool) (a : u ≡ alphabetic (class_of b)) where
    word : (p : PlainToken) → u ≡ true → p ≡ word_token s at b → p ≡ plain_token origin s at t b
    unfolding class_of
    word p f g =
        let h : alphabetic (class_of b) ≡ true = sym a ∙ f in
        g ∙ by_class (apart (λ x. alphabetic (class_of x)) b point h) (class_of b) refl h

    module _ (n : u ≡ false) (m : Mark) (e : m ≡ mark t b) where
      marked : (k : Kind) (p : PlainToken) → b < 256 → m ≡ Some k → p ≡ whole_token k Nothing (at + 1) → p ≡ plain_token origin s at t b
      unfolding plain_token solo_to
      marked k p h f g = let i : is solo_char b ≡ true = cc (solo t b h) in cc (eqb-true (class_of b) solo_char i)

      module _ (f : m ≡ None) where
        unmarked : Unmarked s at b
        unmarked = record { at_byte = w; unmarked = bare t b (sym e ∙ f); no_letter = sym a ∙ n }

        token : (p : PlainToken) → p ≡ plain_token origin s at false b → p ≡ plain_token origin s at t b
        unfolding plain_token
        token p g = cc (bare t b (sym e ∙ f))

ruleset ways = (handed_on, inside, fits, word, marked, unmarked, token, rules)

pub word_token-requires : goal.word_token-requires
word_token-requires c = search ways

pub returns-then-is_alphabetic : goal.returns-then-is_alphabetic
returns-then-is_alphabetic c = search ways

pub overflow_add-at : goal.overflow_add-at
overflow_add-at c = search ways

pub unmarked_token-requires : goal.unmarked_token-requires
unmarked_token-requires c = search ways

pub returns-in-Some : goal.returns-in-Some
returns-in-Some c = search ways

pub returns-in-None : goal.returns-in-None
returns-in-None c = search ways
