-- `reader::clause::clause_at` meets its contract. Assumes nothing.
use Prim.Native.Nat.{ℕ, ◌-◌}
use mathlib.Core.Path.{◌≡◌, refl, sym, ◌∙◌, ap}
use mathlib.Core.Bool.{Bool, true, false}
use mathlib.Core.List.{List}
use native.Mathlib.Omega.{arith}
use borrow.Author.Rules.{rules}
use lib.ListN.{length}
use Rattle.lexer.specs.Cursor.{valid}
use Rattle.lexer.specs.declared.cursor.Cursor.{Cursor}
use Rattle.lexer.specs.declared.refusal.Fault.{Fault}
use Rattle.reader.specs.Machine.{size, start}
use Rattle.reader.specs.Weight.{sizes, weight}
use Rattle.reader.specs.Layout.{state_of}
use Rattle.reader.specs.Clause.{most_tokens, clause_tokens}
use Rattle.reader.specs.Gather.{few_tokens, came, nodes_of, by_nodes, by_tokens, by_result, clause_run, taken_as, Machined, result_of, Beginning, Longer, Finishing, Verdict}
use Rattle.reader.specs.declared.clause.Taken.{Taken}
use Rattle.reader.specs.declared.clause.Failure.{Failure}
use Rattle.reader.proofs.Runs.{same_outcome, finished_light, paused_light, paused_valid, go_on, in_two}
use Rattle.reader.proofs.clause.clause_at.Goals as goal
use Rattle.std.specs.Prelude.{Ok, Err}

beginning : (s : List ℕ) (c : Cursor) (st ns : List ℕ) → valid (length s) c ≡ true → length st ≡ 65 → length ns ≡ 65 → Beginning s c few_tokens st ns
beginning s c st ns v f g = record { valid_cursor = v; few = omega arith; frames = omega arith; nodes = omega arith }

-- what the first tokens came to, with the slices as they are then
module _ (s : List ℕ) (c : Cursor) (d : List ℕ) (r : Machined) (st ns : List ℕ) (e : result_of r st ns ≡ clause_run few_tokens 0 0 start s c) where
  -- and what the whole clause comes to from there
  told : (y : Machined) → r ≡ y → by_result d (go_on 960 few_tokens s (result_of y st ns)) ≡ by_tokens d (clause_tokens s c)
  told y f =
      ap (λ (x : Machined). by_result d (go_on 960 few_tokens s (result_of x st ns))) (sym f)
      ∙ ap (λ x. by_result d (go_on 960 few_tokens s x)) e
      ∙ ap (by_result d) (sym (in_two few_tokens 960 most_tokens 0 few_tokens 0 start s c refl refl))
      ∙ same_outcome s c d

  stopped : (w : Fault) → r ≡ Err w → came (Err (Failure.At w)) d ≡ by_tokens d (clause_tokens s c)
  unfolding result_of by_result go_on
  stopped w f = told (Err w) f

  module _ (t : Taken) (f : r ≡ Ok t) where
    -- the run, by whether it met the end mark
    ran : (b : Bool) → t.whole ≡ b → taken_as b t.latest (state_of t.mode st ns) t.next ≡ clause_run few_tokens 0 0 start s c
    unfolding result_of
    ran b g = ap (λ (x : Bool). taken_as x t.latest (state_of t.mode st ns) t.next) (sym g) ∙ ap (λ (x : Machined). result_of x st ns) (sym f) ∙ e

    comes_to : (b : Bool) → t.whole ≡ b → by_result d (go_on 960 few_tokens s (taken_as b t.latest (state_of t.mode st ns) t.next)) ≡ by_tokens d (clause_tokens s c)
    unfolding result_of
    comes_to b g = ap (λ (x : Bool). by_result d (go_on 960 few_tokens s (taken_as x t.latest (state_of t.mode st ns) t.next))) (sym g) ∙ told (Ok t) f

    longer : t.whole ≡ false → valid (length s) c ≡ true → length st ≡ 65 → length ns ≡ 65 → Longer s t.mode t.next st ns
    unfolding taken_as weight sizes size
    longer b v g h =
        let p = sym (ran false b) in
        let w = paused_light few_tokens 0 0 t.latest start (state_of t.mode st ns) s c t.next p in
        record { valid-next = paused_valid few_tokens 0 0 t.latest start (state_of t.mode st ns) s c t.next v p; frames = g; nodes = h; words = omega arith }

    went_on : (a : Verdict) (d' : List ℕ) → t.whole ≡ false → came a d' ≡ by_result d (clause_run (most_tokens - few_tokens) few_tokens t.latest (state_of t.mode st ns) s t.next) → came a d' ≡ by_tokens d (clause_tokens s c)
    unfolding taken_as go_on
    went_on a d' b g = g ∙ comes_to false b

    finishing : t.whole ≡ true → length ns ≡ 65 → Finishing t.mode st ns
    unfolding taken_as weight sizes size
    finishing b g =
        let w = finished_light few_tokens 0 0 t.latest start (state_of t.mode st ns) s c t.next (sym (ran true b)) in
        record { words = omega arith; weight-left = omega arith }

    accepted : (a : Verdict) (d' : List ℕ) → t.whole ≡ true → came a d' ≡ by_nodes d t.latest t.next (nodes_of (state_of t.mode st ns)) → came a d' ≡ by_tokens d (clause_tokens s c)
    unfolding taken_as by_result go_on
    accepted a d' b g = g ∙ comes_to true b

ruleset ways = (beginning, stopped, longer, went_on, finishing, accepted, rules)

pub returns-in_err-taken : goal.returns-in_err-taken
returns-in_err-taken c = search ways

pub returns-then-taken : goal.returns-then-taken
returns-then-taken c = search ways

pub returns : goal.returns
returns c = search ways

pub long_clause-requires : goal.long_clause-requires
unfolding valid
long_clause-requires c = search ways

pub finish_clause-requires : goal.finish_clause-requires
finish_clause-requires c = search ways
