-- `reader::clause::more_tokens` meets its contract. Assumes nothing.
use Prim.Native.Nat.{ℕ, ◌-◌}
use mathlib.Core.Path.{◌≡◌, ◌∙◌, ap}
use mathlib.Core.List.{List, ◌++◌}
use native.Mathlib.Omega.{arith}
use borrow.Author.Rules.{rules}
use lib.ListN.{length}
use Rattle.lexer.specs.declared.cursor.Cursor.{Cursor}
use Rattle.reader.specs.Machine.{State}
use Rattle.reader.specs.Layout.{state_of}
use Rattle.reader.specs.Clause.{most_tokens}
use Rattle.reader.specs.Gather.{few_tokens, Result, clause_run, Taking, GoingOn}
use Rattle.reader.specs.declared.machine.Mode.{Mode}
use Rattle.reader.proofs.Fronts.{same_state}
use Rattle.reader.proofs.clause.more_tokens.Goals as goal

module _ (s : List ℕ) (c : Cursor) (m : Mode) (st ns fs os : List ℕ) (w : GoingOn s c m st ns fs os) where
  -- the short arrays stand at the front of the long ones
  module _ (fs' os' f o : List ℕ) (g : f ≡ st) (h : o ≡ ns) where
    same : state_of m (f ++ fs') (o ++ os') ≡ state_of m st ns
    same = rw (g, h) (same_state st ns fs' os' m (omega (arith, w.longer.frames, w.longer.words)) (omega (arith, w.longer.nodes, w.longer.words)))

    taking : length (f ++ fs') ≡ length fs → length (o ++ os') ≡ length os → Taking s c few_tokens most_tokens m (f ++ fs') (o ++ os')
    taking x y =
        record {
          valid_cursor = w.longer.valid-next;
          ahead = omega arith;
          few = omega arith;
          frames = omega (arith, w.frames);
          nodes = omega (arith, w.nodes);
          words = rw same w.longer.words;
        }

    ran : (l : ℕ) (r : Result) → r ≡ clause_run (most_tokens - few_tokens) few_tokens l (state_of m (f ++ fs') (o ++ os')) s c → r ≡ clause_run (most_tokens - few_tokens) few_tokens l (state_of m st ns) s c
    ran l r e = e ∙ ap (λ (z : State). clause_run (most_tokens - few_tokens) few_tokens l z s c) same

ruleset ways = (taking, ran, rules)

pub returns : goal.returns
returns c = search ways

pub take_tokens-requires : goal.take_tokens-requires
take_tokens-requires c = search ways
