-- `reader::listing::Tokens::front_length` meets its contract. Assumes nothing.
use Prim.Native.Nat.{ℕ, ◌+◌, ◌^◌, ◌<◌}
use mathlib.Core.Path.{◌≡◌, sym, ap, ◌∙◌}
use mathlib.Core.Logic.{◌⊎◌, inl, inr}
use mathlib.Core.List.{List, [], ◌∷◌}
use native.Mathlib.Omega.{arith}
use borrow.Author.Rules.{rules}
use mir.Syntax.{w64}
use mir.Val.{Fits}
use lib.ListN.{length, length-append}
use Rattle.lexer.specs.Chars.{open_paren}
use Rattle.reader.specs.Listing.{word, front, Spanned, Node}
use Rattle.reader.specs.declared.listing.Shape.{Shape}
use Rattle.reader.specs.declared.listing.Shape.TheVariants.{Word, Negative, Call, Square, Tail, Curly}
use Rattle.reader.proofs.Puts.{spelling-short, as-word, as-negative, as_call, front-word, front_negative, front-call}
use Rattle.reader.proofs.listing.Tokens.front_length.Goals as goal

module _ (s starts ends : List ℕ) (x : Shape) (i : ℕ) where
  module _ (h : Node s starts ends x i) where
    word_asks : x ≡ Word → Spanned s starts ends i i
    word_asks e = as-word s starts ends x i h e

    negative_asks : x ≡ Negative → Spanned s starts ends i (i + 1)
    negative_asks e = as-negative s starts ends x i h e

    call_asks : x ≡ Call → Spanned s starts ends i i
    call_asks e = as_call s starts ends x i h e

    fits : x ≡ Negative → length ends < 2 ^ 64 → Fits w64 (i + 1)
    fits e b = record { fits = omega (arith, (as-negative s starts ends x i h e).last) }

    longer : (r : ℕ) → x ≡ Call → r ≡ length (word s starts ends i i) → Fits w64 (r + 1)
    unfolding word
    longer r e f = record { fits = omega (arith, spelling-short _ _ _ (call_asks e).span) }

  module _ (r : ℕ) where
    of_word : x ≡ Word → r ≡ length (word s starts ends i i) → r ≡ length (front (word s starts ends) x i)
    of_word e f = cc (front-word s starts ends x i e)

    of_negative : x ≡ Negative → r ≡ length (word s starts ends i (i + 1)) → r ≡ length (front (word s starts ends) x i)
    of_negative e f = cc (front_negative s starts ends x i e)

    of-call : x ≡ Call → r ≡ length (word s starts ends i i) → r + 1 ≡ length (front (word s starts ends) x i)
    of-call e f = ap (λ (n : ℕ). n + 1) f ∙ sym (ap length (front-call s starts ends x i e) ∙ length-append (word s starts ends i i) (open_paren ∷ []))

  of_bracket : (x ≡ Square) ⊎ ((x ≡ Tail) ⊎ (x ≡ Curly)) → 1 ≡ length (front (word s starts ends) x i)
  unfolding front
  of_bracket (inl e) = cc
  of_bracket (inr (inl e)) = cc
  of_bracket (inr (inr e)) = cc

ruleset ways = (word_asks, negative_asks, call_asks, fits, longer, of_word, of_negative, of-call, of_bracket, rules)

pub returns-in-Word : goal.returns-in-Word
returns-in-Word c = search ways

pub returns-in-Negative : goal.returns-in-Negative
returns-in-Negative c = search ways

pub returns-in-Call : goal.returns-in-Call
returns-in-Call c = search ways

pub returns-in-Square : goal.returns-in-Square
returns-in-Square c = search ways

pub word_length-requires : goal.word_length-requires
word_length-requires c = search ways

pub overflow_add-token : goal.overflow_add-token
overflow_add-token c = search ways

pub word_length-requires-in-Negative : goal.word_length-requires-in-Negative
word_length-requires-in-Negative c = search ways

pub word_length-requires-in-Call : goal.word_length-requires-in-Call
word_length-requires-in-Call c = search ways

pub overflow_add-result : goal.overflow_add-result
overflow_add-result c = search ways
