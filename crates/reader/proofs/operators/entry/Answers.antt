-- `reader::operators::entry` meets its contract: that the code's table is 01's is one test, which antt computes. Assumes nothing.
use Prim.Native.Nat.{ℕ}
use mathlib.Core.List.{List, map}
use Rattle.reader.specs.Ops.{Entry, prefix_op, infix_op, fx, fy, xfx, xfy, yfx, operators}
use Rattle.reader.specs.Names.{trimmed, entry_as, entry_of, entry_at}
use Rattle.reader.specs.declared.operators.Operator.{Operator}
use Rattle.reader.specs.declared.operators.OperatorKind.{OperatorKind}
use Rattle.reader.specs.declared.operators.OperatorKind.TheVariants.{Xfx, Xfy, Yfx, Fy, Fx}
use Rattle.reader.proofs.Finding.{by_bytes, at_map}
use Rattle.reader.proofs.operators.entry.Goals as goal

-- an entry of 01's table as the code writes it
made : OperatorKind → List ℕ → ℕ → Operator
made k x p = record { 0 = by_bytes (λ a b c. a) x; 1 = by_bytes (λ a b c. b) x; 2 = by_bytes (λ a b c. c) x; 3 = k; 4 = p }

coded : Entry → Operator
coded (prefix_op x (fx p)) = made Fx x p
coded (prefix_op x (fy p)) = made Fy x p
coded (infix_op x (xfx p)) = made Xfx x p
coded (infix_op x (xfy p)) = made Xfy x p
coded (infix_op x (yfx p)) = made Yfx x p

pub returns : goal.returns
unfolding made coded by_bytes trimmed entry_as entry_at
returns c = at_map entry_of (map coded operators) c.before.args.place _ _ c.before.requires
