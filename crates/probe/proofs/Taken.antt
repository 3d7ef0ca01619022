-- A call of the reader of chunks takes no more bytes than it is offered. Assumes nothing.
use Prim.Native.Nat.{ℕ, ◌≤◌}
use mathlib.Core.Path.{◌≡◌, refl, sym, subst}
use mathlib.Core.Bool.{Bool, true, false, cond}
use mathlib.Core.List.{List, ◌++◌}
use native.Mathlib.Omega.{arith}
use lib.ListN.{length, take}
use Rattle.lexer.specs.Token.{not_valid}
use Rattle.chunks.specs.Reader.{Gives, handed, more, never, reading}
use Rattle.chunks.specs.Feed.{Leaves, leaves, at_hand, hand_in, end_of_hand, takes, admitted, gave, took, refusing, offered, by_phase, feeding}
use Rattle.chunks.specs.declared.delivery.Reader.{Reader}
use Rattle.chunks.specs.declared.delivery.Phase.{Phase}
use Rattle.chunks.specs.declared.delivery.Fed.{Fed}

abbrev TakesAtMost : ℕ → Leaves → Type 0
TakesAtMost n (leaves f w) = f.taken ≤ n

gave-takes : (r : Reader) (to k : ℕ) (x : Gives) → (gave r to k x).taken ≡ k
unfolding gave
gave-takes r to k (handed t c u) = refl
gave-takes r to k (more m c l u) = refl
gave-takes r to k (never v) = refl

either : (n : ℕ) (b : Bool) (x y : Leaves) → TakesAtMost n x → TakesAtMost n y → TakesAtMost n (cond b x y)
either n true x y g h = g
either n false x y g h = h

offered-takes : (ended : Bool) (r : Reader) (w chunk : List ℕ) → TakesAtMost (length chunk) (offered ended r w chunk)
offered-takes ended r w chunk =
    let n = length chunk in
    let k = takes (at_hand r) n in
    let e = gave-takes r (end_of_hand r k) k (reading ended r.mode r.cursor r.layout (hand_in r w ++ take k chunk)) in
    either n (admitted ended r n) (took ended r w chunk k) (leaves (refusing r 0 not_valid) w) (omega (arith, e)) (omega arith)

by_phase-takes : (p : Phase) (r : Reader) (w chunk : List ℕ) → TakesAtMost (length chunk) (by_phase p r w chunk)
unfolding by_phase
by_phase-takes Phase.Open r w chunk = offered-takes false r w chunk
by_phase-takes Phase.Ended r w chunk = offered-takes true r w chunk
by_phase-takes (Phase.Refused v) r w chunk = omega arith

pub takes-at_most : (r : Reader) (w v chunk : List ℕ) (f : Fed) → leaves f v ≡ feeding r w chunk → f.taken ≤ length chunk
takes-at_most r w v chunk f e = subst (TakesAtMost (length chunk)) (sym e) (by_phase-takes r.phase r w chunk)
