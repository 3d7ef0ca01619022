-- `pack::clause_call::form_at` meets its contract. Assumes nothing.
use Prim.Native.Nat.{ℕ, ◌+◌, ◌≤◌}
use mathlib.Core.Path.{◌≡◌, sym, ap, ◌∙◌}
use mathlib.Core.List.{List}
use native.Mathlib.Omega.{arith}
use borrow.Author.Rules.{rules}
use Rattle.lexer.specs.declared.cursor.Cursor.{Cursor}
use Rattle.pack.specs.ClauseCall.{form_at}
use Rattle.pack.specs.Node.{most}
use Rattle.pack.specs.Walk.{Ahead, LineAt}
use Rattle.pack.specs.declared.format.Form.TheVariants.{One, Two}
use Rattle.pack.specs.declared.format.Version.{Version}
use Rattle.pack.proofs.clause_call.form_at.Goals as goal

module _ (s : List ℕ) (c : Cursor) (o : ℕ) (v : Version) where
  first : v ≡ Version.One → One ≡ form_at v s c o
  unfolding form_at
  first e = sym (ap (λ (z : Version). form_at z s c o) e)

  module _ (a : Ahead s c o) (r : ℕ) (w : LineAt s c o r) where
    small : r + 1 ≤ most
    small = omega (arith, w.before, a.inside, a.short)

    second : v ≡ Version.Two → (l : ℕ) → l ≡ r + 1 → Two l ≡ form_at v s c o
    unfolding form_at
    second e l q = ap Two (q ∙ ap (λ (n : ℕ). n + 1) w.same) ∙ sym (ap (λ (z : Version). form_at z s c o) e)

ruleset ways = (first, small, second, rules)

pub returns-in-One : goal.returns-in-One
returns-in-One c = search ways

pub returns-in-Two : goal.returns-in-Two
returns-in-Two c = search ways
