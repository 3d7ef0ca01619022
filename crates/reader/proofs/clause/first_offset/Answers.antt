-- `reader::clause::first_offset` meets its contract. Assumes nothing.
use Prim.Native.Nat.{ℕ}
use mathlib.Core.Path.{◌≡◌, refl, sym, ◌∙◌, ap}
use mathlib.Core.Bool.{Bool, true, false, cond}
use mathlib.Core.List.{List}
use native.Mathlib.Omega.{arith}
use borrow.Author.Rules.{rules}
use lib.ListN.{length}
use Rattle.lexer.specs.Cursor.{move_to, valid}
use Rattle.lexer.specs.Token.{Lexeme, lexeme, refused, read_lexeme}
use Rattle.lexer.specs.declared.cursor.Cursor.{Cursor}
use Rattle.lexer.specs.declared.refusal.Fault.{Fault}
use Rattle.lexer.specs.declared.token.Source.TheVariants.{File}
use Rattle.reader.specs.Machine.{State, start, is_dead}
use Rattle.reader.specs.Layout.{state_of}
use Rattle.reader.specs.Clause.{is_end, start_of, first_offset}
use Rattle.reader.specs.Gather.{Result, finished, halted, paused, run_on, clause_run, taken_as, Machined, result_of, Beginning}
use Rattle.reader.specs.declared.clause.Taken.{Taken}
use Rattle.std.specs.Prelude.{Ok, Err}
use Rattle.reader.proofs.clause.first_offset.Goals as goal

beginning : (s : List ℕ) (c : Cursor) (st ns : List ℕ) → valid (length s) c ≡ true → length st ≡ 2 → length ns ≡ 2 → Beginning s c 1 st ns
beginning s c st ns v f g = record { valid_cursor = v; few = omega arith; frames = omega arith; nodes = omega arith }

-- the token that a run of one token took alive
taken : Result → ℕ
taken (finished a z d) = a
taken (halted w) = 0
taken (paused a z d) = a

one_token : (s : List ℕ) (c : Cursor) → taken (clause_run 1 0 0 start s c) ≡ first_offset s c
unfolding clause_run taken run_on start_of is_dead
one_token s c = go (read_lexeme File s c.offset)
  where
    pick : (b : Bool) (a : ℕ) (z : State) (d : Cursor) → taken (cond b (finished a z d) (paused a z d)) ≡ a
    pick true a z d = refl
    pick false a z d = refl

    go : (x : Lexeme) → taken (run_on s c 0 0 start x (λ b y d. clause_run 0 1 b y s d)) ≡ start_of x
    go (refused w) = refl
    go (lexeme t e x) = pick (is_end t.kind) t.start _ (move_to s c e)

module _ (s : List ℕ) (c : Cursor) (st ns : List ℕ) (r : Machined) (e : result_of r st ns ≡ clause_run 1 0 0 start s c) where
  told : (y : Machined) → r ≡ y → taken (result_of y st ns) ≡ first_offset s c
  told y g = ap (λ (x : Machined). taken (result_of x st ns)) (sym g) ∙ ap taken e ∙ one_token s c

  stopped : (w : Fault) → r ≡ Err w → 0 ≡ first_offset s c
  unfolding taken result_of
  stopped w g = told (Err w) g

  taken-is : (t : Taken) → taken (result_of (Ok t) st ns) ≡ t.latest
  unfolding taken taken_as result_of
  taken-is t = go t.whole
    where
      go : (b : Bool) → taken (taken_as b t.latest (state_of t.mode st ns) t.next) ≡ t.latest
      go true = refl
      go false = refl

  takes : (t : Taken) → r ≡ Ok t → t.latest ≡ first_offset s c
  takes t g = sym (taken-is t) ∙ told (Ok t) g

ruleset ways = (beginning, stopped, takes, rules)

pub returns-in-Ok : goal.returns-in-Ok
returns-in-Ok c = search ways

pub returns-in-Err : goal.returns-in-Err
returns-in-Err c = search ways
