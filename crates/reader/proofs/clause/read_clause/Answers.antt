-- `reader::clause::read_clause` meets its contract. Assumes nothing.
use Prim.Native.Nat.{ℕ}
use mathlib.Core.Path.{◌≡◌, sym, ◌∙◌, subst}
use mathlib.Core.Bool.{Bool, true, false}
use mathlib.Core.List.{List}
use borrow.Author.Rules.{rules}
use lib.ListN.{length}
use Rattle.lexer.specs.Cursor.{valid}
use Rattle.lexer.specs.Refusal.{fault, refused_at}
use Rattle.lexer.specs.declared.cursor.Cursor.{Cursor}
use Rattle.lexer.specs.declared.refusal.Refusal.TheVariants.{NotValid}
use Rattle.reader.specs.Clause.{clause_tokens, Outcome, invalid, ClauseAnswer}
use Rattle.reader.specs.Gather.{by_tokens, leaves, left_by, clause_by}
use Rattle.reader.proofs.Outcomes.{permitted}
use Rattle.reader.proofs.clause.read_clause.Goals as goal
use Rattle.std.specs.Prelude.{Err}

begins : (n : ℕ) (c : Cursor) (t : Bool) → t ≡ valid n c → t ≡ true → valid n c ≡ true
begins n c t e f = sym e ∙ f

module _ (s : List ℕ) (c : Cursor) (t : Bool) (e : t ≡ valid (length s) c) (d : List ℕ) where
  read : (r : ClauseAnswer) (d' : List ℕ) → t ≡ true → leaves r d' ≡ left_by s c (by_tokens d (clause_tokens s c)) → Outcome s c d r d'
  unfolding clause_by
  read r d' f g = permitted s c d r d' (g ∙ sym (rw (sym e ∙ f)))

  refused : (r : ClauseAnswer) → t ≡ false → r ≡ Err (refused_at (fault NotValid 0) c) → Outcome s c d r d
  refused r f g = subst (λ (x : ClauseAnswer). Outcome s c d x d) (sym g) (invalid (sym e ∙ f))

ruleset ways = (begins, read, refused, rules)

pub returns-then-is_valid : goal.returns-then-is_valid
returns-then-is_valid c = search ways

pub returns : goal.returns
returns c = search ways
