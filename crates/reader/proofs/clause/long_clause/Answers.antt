-- `reader::clause::long_clause` meets its contract. Assumes nothing.
use Prim.Native.Nat.{ℕ, ◌-◌}
use mathlib.Core.Path.{◌≡◌, sym, ◌∙◌, ap}
use mathlib.Core.Bool.{Bool, true, false}
use mathlib.Core.List.{List}
use native.Mathlib.Omega.{arith}
use borrow.Author.Rules.{rules}
use lib.ListN.{length}
use Rattle.lexer.specs.declared.cursor.Cursor.{Cursor}
use Rattle.lexer.specs.declared.refusal.Fault.{Fault}
use Rattle.lexer.specs.declared.refusal.Refusal.TheVariants.{TooManyTokens}
use Rattle.reader.specs.Layout.{state_of}
use Rattle.reader.specs.Clause.{most_tokens}
use Rattle.reader.specs.Gather.{few_tokens, came, nodes_of, Result, by_nodes, by_result, clause_run, taken_as, Machined, result_of, Longer, GoingOn, Finishing, Verdict}
use Rattle.reader.specs.declared.machine.Mode.{Mode}
use Rattle.reader.specs.declared.clause.Taken.{Taken}
use Rattle.reader.specs.declared.clause.Failure.{Failure}
use Rattle.reader.proofs.Runs.{finished_light}
use Rattle.reader.proofs.clause.long_clause.Goals as goal
use Rattle.std.specs.Prelude.{Ok, Err}

module _ (s : List ℕ) (m : Mode) (k : Cursor) (st ns : List ℕ) (w : Longer s m k st ns) where
  going : (fs os : List ℕ) → length fs ≡ 1025 → length os ≡ 1025 → GoingOn s k m st ns fs os
  going fs os f g = record { longer = w; frames = omega arith; nodes = omega arith }

  finishing : (o : ℕ) (r : Machined) (fs os : List ℕ) (t : Taken) → result_of r fs os ≡ clause_run (most_tokens - few_tokens) few_tokens o (state_of m st ns) s k
      → r ≡ Ok t → t.whole ≡ true → length os ≡ 1025 → Finishing t.mode fs os
  unfolding result_of taken_as
  finishing o r fs os t e f b g =
      let p : taken_as true t.latest (state_of t.mode fs os) t.next ≡ clause_run (most_tokens - few_tokens) few_tokens o (state_of m st ns) s k =
      ap (λ (y : Bool). taken_as y t.latest (state_of t.mode fs os) t.next) (sym b) ∙ ap (λ (x : Machined). result_of x fs os) (sym f) ∙ e in
      let h = finished_light (most_tokens - few_tokens) few_tokens o t.latest (state_of m st ns) (state_of t.mode fs os) s k t.next (sym p) in
      record { words = omega arith; weight-left = omega (arith, w.words) }

-- what the tokens came to, with the slices as they are then: x is the run
module _ (d : List ℕ) (x : Result) (r : Machined) (fs os : List ℕ) (e : result_of r fs os ≡ x) where
  told : (y : Machined) → r ≡ y → by_result d (result_of y fs os) ≡ by_result d x
  told y f = ap (λ (z : Machined). by_result d (result_of z fs os)) (sym f) ∙ ap (by_result d) e

  stopped : (w : Fault) → r ≡ Err w → came (Err (Failure.At w)) d ≡ by_result d x
  unfolding result_of by_result
  stopped w f = told (Err w) f

  module _ (t : Taken) (f : r ≡ Ok t) where
    ended : (b : Bool) → t.whole ≡ b → by_result d (taken_as b t.latest (state_of t.mode fs os) t.next) ≡ by_result d x
    unfolding result_of
    ended b g = ap (λ (y : Bool). by_result d (taken_as y t.latest (state_of t.mode fs os) t.next)) (sym g) ∙ told (Ok t) f

    too-many : t.whole ≡ false → came (Err (Failure.AtFirst TooManyTokens)) d ≡ by_result d x
    unfolding taken_as by_result
    too-many = ended false

    accepted : (a : Verdict) (d' : List ℕ) → t.whole ≡ true → came a d' ≡ by_nodes d t.latest t.next (nodes_of (state_of t.mode fs os)) → came a d' ≡ by_result d x
    unfolding taken_as by_result
    accepted a d' g h = h ∙ ended true g

ruleset ways = (going, finishing, stopped, too-many, accepted, rules)

pub returns-in_err-all : goal.returns-in_err-all
returns-in_err-all c = search ways

pub returns-then-all : goal.returns-then-all
returns-then-all c = search ways

pub returns : goal.returns
returns c = search ways

pub finish_clause-requires : goal.finish_clause-requires
finish_clause-requires c = search ways
