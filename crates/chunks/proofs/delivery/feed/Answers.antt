-- `chunks::delivery::feed` meets its contract. Assumes nothing.
use Prim.Native.Nat.{ℕ}
use mathlib.Core.Path.{◌≡◌, ap}
use mathlib.Core.List.{List}
use native.Mathlib.Omega.{arith}
use borrow.Author.Rules.{rules}
use Rattle.std.specs.declared.result.Result.TheVariants.{Err}
use Rattle.lexer.specs.declared.refusal.Fault.{Fault}
use Rattle.chunks.specs.Feed.{leaves, by_phase, stage_of}
use Rattle.chunks.specs.declared.delivery.Phase.{Phase}
use Rattle.chunks.specs.declared.delivery.Reader.{Reader}
use Rattle.chunks.proofs.delivery.feed.Goals as goal

refused : (r : Reader) (w chunk : List ℕ) (p : Phase) (x : Fault) → Err x ≡ stage_of p → leaves (record { reader = r; taken = 0; given = Err x }) w ≡ by_phase p r w chunk
unfolding by_phase stage_of
refused r w chunk Phase.Open x e = let z : ◌≡◌ {A = ℕ} 0 1 = cc in absurd (omega arith)
refused r w chunk Phase.Ended x e = let z : ◌≡◌ {A = ℕ} 0 1 = cc in absurd (omega arith)
refused r w chunk (Phase.Refused y) x e = let i : x ≡ y = cc in ap (λ (u : Fault). leaves (record { reader = r; taken = 0; given = Err u }) w) i

pub returns-in-Err : goal.returns-in-Err
returns-in-Err c = search (refused, rules)
