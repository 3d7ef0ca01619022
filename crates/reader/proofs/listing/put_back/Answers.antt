-- `reader::listing::put_back` meets its contract. Assumes nothing.
use Prim.Native.Nat.{ℕ}
use mathlib.Core.Path.{◌≡◌}
use mathlib.Core.Logic.{◌⊎◌, inl, inr}
use mathlib.Core.List.{List, [], ◌∷◌}
use borrow.Author.Rules.{rules}
use Rattle.lexer.specs.Chars.{close_paren, close_bracket, close_brace}
use Rattle.reader.specs.Listing.{back, put, put_before, Room}
use Rattle.reader.proofs.Puts.{room_as, put-none}
use Rattle.reader.specs.declared.listing.Shape.{Shape}
use Rattle.reader.specs.declared.listing.Shape.TheVariants.{Word, Negative, Call, Square, Tail, Curly}
use Rattle.reader.proofs.listing.put_back.Goals as goal

module _ (x : Shape) where
  as-word : (x ≡ Word) ⊎ (x ≡ Negative) → back x ≡ []
  unfolding back
  as-word (inl h) = cc
  as-word (inr h) = cc

  as_call : x ≡ Call → back x ≡ close_paren ∷ []
  unfolding back
  as_call h = cc

  as-bracket : (x ≡ Square) ⊎ (x ≡ Tail) → back x ≡ close_bracket ∷ []
  unfolding back
  as-bracket (inl h) = cc
  as-bracket (inr h) = cc

  as-curly : x ≡ Curly → back x ≡ close_brace ∷ []
  unfolding back
  as-curly h = cc

  module _ (at room : ℕ) (h : Room (back x) at room) where
    room_call : x ≡ Call → Room (close_paren ∷ []) at room
    room_call e = room_as (as_call e) h

    room_bracket : (x ≡ Square) ⊎ (x ≡ Tail) → Room (close_bracket ∷ []) at room
    room_bracket e = room_as (as-bracket e) h

    room_curly : x ≡ Curly → Room (close_brace ∷ []) at room
    room_curly e = room_as (as-curly e) h

  module _ (at : ℕ) (d : List ℕ) where
    put_nothing : (x ≡ Word) ⊎ (x ≡ Negative) → put at d ≡ put_before (back x) at d
    put_nothing e = cc (as-word e, put-none at d)

    module _ (r : ℕ) (d' : List ℕ) where
      put-call : x ≡ Call → put r d' ≡ put_before (close_paren ∷ []) at d → put r d' ≡ put_before (back x) at d
      put-call e f = cc (as_call e)

      put_bracket : (x ≡ Square) ⊎ (x ≡ Tail) → put r d' ≡ put_before (close_bracket ∷ []) at d → put r d' ≡ put_before (back x) at d
      put_bracket e f = cc (as-bracket e)

      put_curly : x ≡ Curly → put r d' ≡ put_before (close_brace ∷ []) at d → put r d' ≡ put_before (back x) at d
      put_curly e f = cc (as-curly e)

ruleset ways = (room_call, room_bracket, room_curly, put_nothing, put-call, put_bracket, put_curly, rules)

pub returns-in-Word : goal.returns-in-Word
returns-in-Word c = search ways

pub returns-in-Call : goal.returns-in-Call
returns-in-Call c = search ways

pub returns-in-Square : goal.returns-in-Square
returns-in-Square c = search ways

pub returns-in-Curly : goal.returns-in-Curly
returns-in-Curly c = search ways

pub put_char-requires : goal.put_char-requires
put_char-requires c = search ways

pub put_char-requires-in-Square : goal.put_char-requires-in-Square
put_char-requires-in-Square c = search ways

pub put_char-requires-in-Curly : goal.put_char-requires-in-Curly
put_char-requires-in-Curly c = search ways
