-- When a feeding is refused before a byte is taken, and that a refusal is kept. Assumes nothing.
use mathlib.Core.Path.{◌≡◌, refl, ◌∙◌, ap}
use mathlib.Core.Bool.{Bool, true, false, cond, ◌&&◌}
use mathlib.Core.List.{List, ◌++◌}
use Prim.Native.Nat.{ℕ, ◌+◌, ◌<◌}
use native.Mathlib.Omega.{arith}
use borrow.Author.Tests.{lt-leb}
use lib.ListN.{length, take}
use Rattle.lexer.specs.Cursor.{longest}
use Rattle.lexer.specs.Token.{not_valid}
use Rattle.lexer.specs.declared.refusal.Fault.{Fault}
use Rattle.chunks.specs.Feed.{Leaves, leaves, delivered, sound, admitted, at_hand, takes, end_of_hand, hand_in, place, filled_with, refusing, gave, took, offered, by_phase, feeding}
use Rattle.chunks.specs.Reader.{Gives, handed, more, never, reading}
use Rattle.std.specs.declared.result.Result.TheVariants.{Err}
use Rattle.chunks.specs.Given.{Given}
use Rattle.chunks.specs.declared.delivery.Phase.{Phase}
use Rattle.chunks.specs.declared.delivery.Reader.{Reader}

module _ (r : Reader) (w chunk : List ℕ) where
  -- ---- refused before a byte is taken
  not-admitted : (ended : Bool) → r.phase ≡ cond ended Phase.Ended Phase.Open → admitted ended r (length chunk) ≡ false → feeding r w chunk ≡ leaves (refusing r 0 not_valid) w
  unfolding by_phase
  not-admitted ended e f = ap (λ (q : Phase). by_phase q r w chunk) e ∙ go ended f
    where
      go : (t : Bool) → admitted t r (length chunk) ≡ false → by_phase (cond t Phase.Ended Phase.Open) r w chunk ≡ leaves (refusing r 0 not_valid) w
      go true g = rw g
      go false g = rw g

  pub made_up-8 : (ended : Bool) → r.phase ≡ cond ended Phase.Ended Phase.Open → sound r ≡ false → feeding r w chunk ≡ leaves (refusing r 0 not_valid) w
  made_up-8 ended e f = not-admitted ended e (cc)

  and_none : (t : Bool) → t && false ≡ false
  and_none true = refl
  and_none false = refl

  pub past-8 : r.phase ≡ Phase.Open → longest < delivered r + length chunk → feeding r w chunk ≡ leaves (refusing r 0 not_valid) w
  past-8 e h = not-admitted false e (ap (λ (t : Bool). sound r && t) (lt-leb (delivered r + length chunk) longest h) ∙ and_none (sound r))

  pub behind_end_8 : r.phase ≡ Phase.Ended → 0 < length chunk → feeding r w chunk ≡ leaves (refusing r 0 not_valid) w
  behind_end_8 e h = not-admitted true e (ap (λ (t : Bool). sound r && t) (lt-leb (delivered r + length chunk) (delivered r) (omega arith)) ∙ and_none (sound r))

  -- ---- a refusal is repeated
  pub again : (v : Fault) → r.phase ≡ Phase.Refused v → feeding r w chunk ≡ leaves (record { reader = r; taken = 0; given = Err v }) w
  unfolding by_phase
  again v e = ap (λ (q : Phase). by_phase q r w chunk) e

  -- and so it is kept
  abbrev Keeps : Leaves → Type 0
  Keeps (leaves f x) = (v : Fault) → f.given ≡ Err v → f.reader.phase ≡ Phase.Refused v

  repeated : (u v : Fault) → ◌≡◌ {A = Given} (Err u) (Err v) → Phase.Refused u ≡ Phase.Refused v
  repeated u v e = let q : u ≡ v = cc in ap Phase.Refused q

  refusing-keeps : (k : ℕ) (u : Fault) (x : List ℕ) → Keeps (leaves (refusing r k u) x)
  refusing-keeps k u x v e = repeated u v e

  gave_keeps : (to k : ℕ) (g : Gives) (x : List ℕ) → Keeps (leaves (gave r to k g) x)
  unfolding gave
  gave_keeps to k (handed t c u) x v e = let y : ◌≡◌ {A = ℕ} 0 1 = cc in absurd (omega arith)
  gave_keeps to k (more m c l u) x v e = let y : ◌≡◌ {A = ℕ} 0 1 = cc in absurd (omega arith)
  gave_keeps to k (never u) x v e = refusing-keeps k u x v e

  offered-keeps : (ended : Bool) → Keeps (offered ended r w chunk)
  offered-keeps ended = go (admitted ended r (length chunk))
    where
      go : (t : Bool) → Keeps (cond t (took ended r w chunk (takes (at_hand r) (length chunk))) (leaves (refusing r 0 not_valid) w))
      go true = gave_keeps (end_of_hand r (takes (at_hand r) (length chunk))) (takes (at_hand r) (length chunk)) (reading ended r.mode r.cursor r.layout (hand_in r w ++ take (takes (at_hand r) (length chunk)) chunk)) (filled_with w r.from (place r) (at_hand r) chunk (takes (at_hand r) (length chunk)))
      go false = refusing-keeps 0 not_valid w

  pub kept : Keeps (feeding r w chunk)
  unfolding by_phase
  kept = go r.phase refl
    where
      go : (q : Phase) → r.phase ≡ q → Keeps (by_phase q r w chunk)
      go Phase.Open e = offered-keeps false
      go Phase.Ended e = offered-keeps true
      go (Phase.Refused u) e = λ v f. e ∙ repeated u v f
