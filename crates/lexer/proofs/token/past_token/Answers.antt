-- `lexer::token::past_token` meets its contract. Assumes nothing.
use Prim.Native.Nat.{ℕ, ◌+◌, ◌-◌, ◌<◌}
use mathlib.Core.Path.{◌≡◌, sym, ◌∙◌, ap}
use mathlib.Core.List.{List}
use native.Mathlib.Omega.{arith}
use borrow.Author.Rules.{rules}
use lib.ListN.{length, get_or}
use Rattle.lexer.specs.Cursor.{step, along, move_to, Movable, Along}
use Rattle.lexer.specs.Token.{Passing}
use Rattle.lexer.specs.declared.cursor.Cursor.{Cursor}
use Rattle.lexer.proofs.Cursors.{movable, can_move_along, move_along, move_here, move_step, move_by, move_offset, move_valid}
use Rattle.lexer.proofs.token.past_token.Goals as goal

module _ (s : List ℕ) (c : Cursor) (e : ℕ) (w : Passing s c e) where
  last_there : e - 1 < length s
  last_there = omega (arith, w.ahead, w.inside)

  can_skip : Along c (e - 1)
  can_skip = can_move_along (length s) c w.valid (e - 1) (omega (arith, w.ahead)) (omega (arith, w.inside))

  module _ (d : Cursor) (m : d ≡ along c (e - 1 - c.offset)) where
    there : d ≡ move_to s c (e - 1)
    there = m ∙ move_along s c (e - 1) (omega (arith, w.ahead)) (omega (arith, w.inside)) w.plain

    at_last : d.offset ≡ e - 1
    at_last = ap (λ (x : Cursor). x.offset) there ∙ move_offset s c (e - 1) (omega (arith, w.ahead)) (omega (arith, w.inside))

    can_skip_last : Movable d
    can_skip_last =
        let o = at_last in
        movable (length s) d (rw there (move_valid s c (e - 1) (omega (arith, w.ahead)) (omega (arith, w.inside)) w.valid)) (omega (arith, w.ahead, w.inside))

    behind : (z : Cursor) → z ≡ step d (get_or s (e - 1) 0) → z ≡ move_to s c e
    behind z f =
        let o = at_last in
        let k : d.offset + 1 ≡ e = omega (arith, w.ahead) in
        let a = move_by s c e (omega (arith, w.ahead)) w.inside (e - 1) (omega (arith, w.ahead)) (omega arith) in
        let b = ap (λ (x : Cursor). move_to s x e) there in
        let g = move_step s d e (omega (arith, w.ahead)) w.inside in
        let q = ap (λ (n : ℕ). move_to s (step d (get_or s n 0)) e) o in
        let h = ap (move_to s (step d (get_or s (e - 1) 0))) k in
        f ∙ sym (move_here s (step d (get_or s (e - 1) 0))) ∙ h ∙ sym q ∙ sym g ∙ b ∙ sym a

ruleset ways = (last_there, can_skip, can_skip_last, behind, rules)

pub returns : goal.returns
returns c = search ways
