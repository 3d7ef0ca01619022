-- `pack::clause_call::pack_clause` meets its contract. Assumes nothing.
use Prim.Native.Nat.{ℕ}
use mathlib.Core.Path.{◌≡◌, sym, subst}
use mathlib.Core.List.{List}
use native.Mathlib.Omega.{arith}
use borrow.Author.Rules.{rules}
use lib.ListN.{length}
use Rattle.lexer.specs.declared.cursor.Cursor.{Cursor}
use Rattle.reader.specs.Clause.{Outcome, ClauseAnswer}
use Rattle.reader.specs.declared.clause.ClauseRead.{ClauseRead}
use Rattle.lexer.specs.declared.refusal.Refused.{Refused}
use Rattle.reader.specs.LineCall.{ReadTree}
use Rattle.reader.proofs.Theorems.{clause_refused, clause_back, clause_front}
use Rattle.pack.specs.ClauseCall as L
use Rattle.pack.specs.ClauseCall.{ClausePack}
use Rattle.pack.specs.declared.format.Form.{Form}
use Rattle.std.proofs.lemmas.Result.{err_from_is_err_and}
use Rattle.pack.proofs.clause_call.pack_clause.Goals as goal
use Rattle.lexer.specs.Refusal.{refuse}
use Rattle.std.specs.Prelude.{Ok, Err}

module _ (s : List ℕ) (c : Cursor) (tree : List ℕ) (n : length tree ≡ 2048) where
  refused : (f : Form) (d : List ℕ) (w : Refused) (a : ClauseAnswer) (x : List ℕ) → Outcome s c tree a x → a ≡ Err w → ClausePack f s c d (Err w) d
  refused f d w a x o h =
      let b = clause_back s c tree (subst (λ (z : ClauseAnswer). Outcome s c tree z x) h o) in
      subst (λ (z : Cursor). ClausePack f s c d (refuse w.fault z) d) (sym b) (L.refused (clause_refused s c tree (omega arith) w.fault w.cursor a x o h))

  read_tree : (a : ClauseAnswer) (x : List ℕ) (r : ClauseRead) → Outcome s c tree a x → a ≡ Ok r → ReadTree s c x r.nodes r.next
  read_tree a x r = clause_front s c tree a x r.nodes r.next

ruleset ways = (refused, read_tree, rules)

pub returns-in_err-read : goal.returns-in_err-read
returns-in_err-read c = let p = err_from_is_err_and c.from_residual.result c.from_residual.ensures.1 in rw (p.1, p.2) (search (ways, c.in_err-read.was))

pub pack_read-requires : goal.pack_read-requires
pack_read-requires c = search (ways, c.in_ok-read.was)
