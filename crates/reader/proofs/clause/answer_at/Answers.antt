-- `reader::clause::answer_at` meets its contract. Assumes nothing.
use Prim.Native.Nat.{ℕ}
use mathlib.Core.Path.{◌≡◌, sym, ◌∙◌, ap}
use mathlib.Core.List.{List}
use borrow.Author.Rules.{rules}
use Rattle.lexer.specs.Refusal.{fault, refused_at}
use Rattle.lexer.specs.declared.cursor.Cursor.{Cursor}
use Rattle.lexer.specs.declared.refusal.Fault.{Fault}
use Rattle.lexer.specs.declared.refusal.Refusal.{Refusal}
use Rattle.reader.specs.Clause.{first_offset}
use Rattle.reader.specs.Gather.{Came, came, leaves, answered, left_by, Verdict}
use Rattle.reader.specs.declared.clause.ClauseRead.{ClauseRead}
use Rattle.reader.specs.declared.clause.Failure.{Failure}
use Rattle.lexer.specs.declared.refusal.Refused.{Refused}
use Rattle.reader.proofs.clause.answer_at.Goals as goal
use Rattle.std.specs.Prelude.{Ok, Err}

-- by what the clause came to
module _ (s : List ℕ) (c : Cursor) (x : Came) (v : Verdict) (d : List ℕ) (g : came v d ≡ x) where
  told : (w : Verdict) → v ≡ w → leaves (answered s c w) d ≡ left_by s c x
  unfolding left_by
  told w h = ap (λ (y : Verdict). leaves (answered s c y) d) (sym h) ∙ ap (left_by s c) g

  reads : (r : ClauseRead) → v ≡ Ok r → leaves (Ok r) d ≡ left_by s c x
  unfolding answered
  reads r h = told (Ok r) h

  refuses : (w : Fault) → v ≡ Err (Failure.At w) → leaves (Err (refused_at w c)) d ≡ left_by s c x
  unfolding answered
  refuses w h = told (Err (Failure.At w)) h

  at_first : (e : Failure) (w : Refusal) (at : ℕ) (r : Refused) → v ≡ Err e → e ≡ Failure.AtFirst w → at ≡ first_offset s c → r ≡ refused_at (fault w at) c → leaves (Err r) d ≡ left_by s c x
  unfolding answered
  at_first e w at r h k i j =
      ap (λ (y : Refused). leaves (Err y) d) (j ∙ ap (λ (o : ℕ). refused_at (fault w o) c) i) ∙ told (Err (Failure.AtFirst w)) (h ∙ ap Err k)

ruleset ways = (reads, refuses, at_first, rules)

pub returns-in-Ok : goal.returns-in-Ok
returns-in-Ok c = search ways

pub returns-in-Err-At : goal.returns-in-Err-At
returns-in-Err-At c = search ways

pub returns-in-Err-AtFirst : goal.returns-in-Err-AtFirst
returns-in-Err-AtFirst c = search ways
