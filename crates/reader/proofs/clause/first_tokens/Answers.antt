-- `reader::clause::first_tokens` meets its contract. Assumes nothing.
use Prim.Native.Nat.{ℕ, ◌-◌}
use mathlib.Core.Path.{◌≡◌, ◌∙◌, ap}
use mathlib.Core.List.{List}
use native.Mathlib.Omega.{arith}
use borrow.Author.Rules.{rules}
use lib.ListN.{length}
use Rattle.lexer.specs.declared.cursor.Cursor.{Cursor}
use Rattle.reader.specs.Machine.{State, size, start}
use Rattle.reader.specs.Weight.{sizes, weight}
use Rattle.reader.specs.Layout.{state_of, Room}
use Rattle.reader.specs.Gather.{Result, clause_run, Taking, Beginning}
use Rattle.reader.specs.declared.machine.Mode.{Mode}
use Rattle.reader.proofs.clause.first_tokens.Goals as goal

room : (s : List ℕ) (c : Cursor) (to : ℕ) (st ns : List ℕ) → Beginning s c to st ns → Room st ns 0 0 1
room s c to st ns w = record { frames = omega (arith, w.frames); nodes = omega (arith, w.nodes) }

module _ (s : List ℕ) (c : Cursor) (to : ℕ) (m : Mode) (st ns : List ℕ) (e : state_of m st ns ≡ start) where
  taking : (st₀ : List ℕ) → Beginning s c to st₀ ns → length st ≡ length st₀ → Taking s c 0 to m st ns
  unfolding weight sizes size
  taking st₀ w l =
      record {
        valid_cursor = w.valid_cursor;
        ahead = omega arith;
        few = w.few;
        frames = omega (arith, w.frames);
        nodes = w.nodes;
        words = rw e (omega arith);
      }

  ran : (r : Result) → r ≡ clause_run (to - 0) 0 0 (state_of m st ns) s c → r ≡ clause_run to 0 0 start s c
  ran r f = let k : to - 0 ≡ to = omega arith in f ∙ ap (λ (n : ℕ). clause_run n 0 0 (state_of m st ns) s c) k ∙ ap (λ (z : State). clause_run to 0 0 z s c) e

ruleset ways = (room, taking, ran, rules)

pub take_tokens-requires : goal.take_tokens-requires
take_tokens-requires c = search ways
