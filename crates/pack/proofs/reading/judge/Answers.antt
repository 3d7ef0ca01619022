-- `pack::reading::judge` meets its contract. Assumes nothing.
use Prim.Native.Nat.{ℕ, ◌≤◌}
use mathlib.Core.Path.{◌≡◌, sym, ◌∙◌}
use mathlib.Core.List.{List}
use native.Mathlib.Omega.{arith}
use borrow.Author.Rules.{rules}
use mathlib.Core.Bool.{Bool, true, false}
use lib.Dec.{eqb}
use borrow.Author.Tests.{eqb-true, eqb-false}
use lib.ListN.{length}
use Rattle.lexer.specs.Refusal.{fault}
use Rattle.lexer.specs.declared.refusal.Refusal.TheVariants.{NoPack, UnknownVersion}
use Rattle.pack.specs.Passes.{Inside, First, version_byte, Begins, Judgement}
use Rattle.pack.specs.declared.format.Version.{Version}
use Rattle.std.specs.declared.result.Result.TheVariants.{Err}
use Rattle.pack.proofs.Judging.{judge_empty, judge_other}
use Rattle.pack.proofs.reading.judge.Goals as goal

module _ (i : List ℕ) (v : Version) where
  none : (b : Bool) → b ≡ eqb (length i) 0 → b ≡ true → Judgement v i (Err (fault NoPack 0))
  none b e q = judge_empty v i (omega (arith, eqb-true (length i) 0 (sym e ∙ q)))

  module _ (b : Bool) (p : b ≡ eqb (length i) 0) (q : b ≡ false) where
    h : 1 ≤ length i
    h = omega (arith, eqb-false (length i) 0 (sym p ∙ q))

    inside : Inside i 0 1
    inside = record { inside = omega (arith, h) }

    module _ (r : ℕ) (w : First i r) (k : ℕ) (e : k ≡ version_byte v) where
      other : (r ≡ k → ⊥) → Judgement v i (Err (fault UnknownVersion 0))
      other g = judge_other v i h (λ z. g (w.same ∙ z ∙ sym e))

      begins : r ≡ k → Begins i v
      begins z = record { inside = h; same = sym w.same ∙ z ∙ e; bytes = w.bytes }

ruleset ways = (none, inside, other, begins, rules)

pub returns-then-is_empty : goal.returns-then-is_empty
returns-then-is_empty c = search ways

pub returns-then-version_of-byte : goal.returns-then-version_of-byte
returns-then-version_of-byte c = search ways
