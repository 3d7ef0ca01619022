-- `reader::listing::Tokens::put_front` meets its contract. Assumes nothing.
use Prim.Native.Nat.{ℕ, ◌+◌, ◌^◌, ◌<◌, ◌≤◌}
use mathlib.Core.Path.{◌≡◌, sym}
use mathlib.Core.Logic.{◌⊎◌}
use mathlib.Core.List.{List, [], ◌∷◌, ◌++◌}
use native.Mathlib.Omega.{arith}
use borrow.Author.Rules.{rules}
use mir.Syntax.{w64}
use mir.Val.{Fits}
use lib.ListN.{length, take, drop}
use Rattle.lexer.specs.Chars.{open_paren, open_bracket, open_brace}
use Rattle.reader.specs.Listing.{word, front, put, put_before, Room, SpannedRoom, NodeRoom}
use Rattle.reader.specs.declared.listing.Shape.{Shape}
use Rattle.reader.specs.declared.listing.Shape.TheVariants.{Word, Negative, Call, Square, Tail, Curly}
use Rattle.reader.proofs.Puts.{room_as, room_behind, room_before, room_in, within, put_both, as-word, as-negative, as_call, front-word, front_negative, front-call, front-bracket, front_curly}
use Rattle.reader.proofs.listing.Tokens.put_front.Goals as goal

module _ (s starts ends : List ℕ) (x : Shape) (i : ℕ) where
  module _ (at room : ℕ) (h : NodeRoom s starts ends x i at room) where
    word_asks : x ≡ Word → SpannedRoom s starts ends i i at room
    word_asks e = record { spanned = as-word s starts ends x i h.is e; place = room_as (front-word s starts ends x i e) h.place }

    negative_asks : x ≡ Negative → SpannedRoom s starts ends i (i + 1) at room
    negative_asks e = record { spanned = as-negative s starts ends x i h.is e; place = room_as (front_negative s starts ends x i e) h.place }

    fits : x ≡ Negative → length ends < 2 ^ 64 → Fits w64 (i + 1)
    fits e b = record { fits = omega (arith, (as-negative s starts ends x i h.is e).last) }

    both : x ≡ Call → Room (word s starts ends i i ++ open_paren ∷ []) at room
    both e = room_as (front-call s starts ends x i e) h.place

    open-room : x ≡ Call → Room (open_paren ∷ []) at room
    open-room e = room_behind (word s starts ends i i) (open_paren ∷ []) at room (both e)

    bracket_room : (x ≡ Square) ⊎ (x ≡ Tail) → Room (open_bracket ∷ []) at room
    bracket_room e = room_as (front-bracket s starts ends x i e) h.place

    curly_room : x ≡ Curly → Room (open_brace ∷ []) at room
    curly_room e = room_as (front_curly s starts ends x i e) h.place

    module _ (e : x ≡ Call) (d : List ℕ) (p : ℕ) (d₁ : List ℕ) (f : put p d₁ ≡ put_before (open_paren ∷ []) at d) where
      word_room : length d₁ ≡ room → Room (word s starts ends i i) p (length d₁)
      word_room l = room_before (word s starts ends i i) (open_paren ∷ []) at room (both e) d p d₁ f (length d₁) (sym l)

      open_low : length d₁ ≡ room → p ≤ length d₁
      open_low l = (word_room l).inside

      call_asks : length d₁ ≡ room → SpannedRoom s starts ends i i (length (take p d₁)) (length (take p d₁))
      call_asks l = record { spanned = as_call s starts ends x i h.is e; place = room_in d₁ (word_room l) }

      called : length d₁ ≡ room → (r : ℕ) (d₂ : List ℕ) → put r d₂ ≡ put_before (word s starts ends i i) (length (take p d₁)) (take p d₁)
          → put r (d₂ ++ drop p d₁) ≡ put_before (front (word s starts ends) x i) at d
      called l r d₂ g =
          let w = word_room l in
          cc (
            front-call s starts ends x i e,
            put_both (word s starts ends i i) (open_paren ∷ []) at room (both e) d p d₁ f r (d₂ ++ drop p d₁) (within (word s starts ends i i) p r d₁ d₂ w.inside w.fits g),
          )

  module _ (at : ℕ) (d : List ℕ) (r : ℕ) (d' : List ℕ) where
    put_word : x ≡ Word → put r d' ≡ put_before (word s starts ends i i) at d → put r d' ≡ put_before (front (word s starts ends) x i) at d
    put_word e f = cc (front-word s starts ends x i e)

    put_negative : x ≡ Negative → put r d' ≡ put_before (word s starts ends i (i + 1)) at d → put r d' ≡ put_before (front (word s starts ends) x i) at d
    put_negative e f = cc (front_negative s starts ends x i e)

    put_bracket : (x ≡ Square) ⊎ (x ≡ Tail) → put r d' ≡ put_before (open_bracket ∷ []) at d → put r d' ≡ put_before (front (word s starts ends) x i) at d
    put_bracket e f = cc (front-bracket s starts ends x i e)

    put_curly : x ≡ Curly → put r d' ≡ put_before (open_brace ∷ []) at d → put r d' ≡ put_before (front (word s starts ends) x i) at d
    put_curly e f = cc (front_curly s starts ends x i e)

ruleset ways = (word_asks, negative_asks, fits, open-room, bracket_room, curly_room, open_low, call_asks, called, put_word, put_negative, put_bracket, put_curly, rules)

pub returns-in-Word : goal.returns-in-Word
returns-in-Word c = search ways

pub returns-in-Negative : goal.returns-in-Negative
returns-in-Negative c = search ways

pub returns-in-Call : goal.returns-in-Call
returns-in-Call c = search ways

pub returns-in-Square : goal.returns-in-Square
returns-in-Square c = search ways

pub returns-in-Curly : goal.returns-in-Curly
returns-in-Curly c = search ways

pub put_word-requires : goal.put_word-requires
put_word-requires c = search ways

pub overflow_add-token : goal.overflow_add-token
overflow_add-token c = search ways

pub put_word-requires-in-Negative : goal.put_word-requires-in-Negative
put_word-requires-in-Negative c = search ways

pub put_char-open-requires : goal.put_char-open-requires
put_char-open-requires c = search ways

pub put_word-requires-in-Call : goal.put_word-requires-in-Call
put_word-requires-in-Call c = search ways

pub put_char-requires : goal.put_char-requires
put_char-requires c = search ways

pub put_char-requires-in-Curly : goal.put_char-requires-in-Curly
put_char-requires-in-Curly c = search ways

pub slice_bounds-put_word-end : goal.slice_bounds-put_word-end
slice_bounds-put_word-end c = search ways

pub slice_bounds-put_word-end-in-Call : goal.slice_bounds-put_word-end-in-Call
slice_bounds-put_word-end-in-Call c = search ways
