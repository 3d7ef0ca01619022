-- `reader::clause::write_clause` meets its contract. Assumes nothing.
use Prim.Native.Nat.{ℕ, ◌*◌, ◌<◌, ◌≤◌}
use mathlib.Core.Path.{◌≡◌}
use mathlib.Core.List.{List}
use native.Mathlib.Omega.{arith}
use borrow.Author.Rules.{rules}
use borrow.Author.Tests.{le-leb, lt-leb}
use lib.ListN.{length}
use lib.Seq.{sets}
use Rattle.lexer.specs.declared.cursor.Cursor.{Cursor}
use Rattle.lexer.specs.declared.refusal.Refusal.TheVariants.{NoRoom}
use Rattle.reader.specs.Machine.{laid}
use Rattle.reader.specs.Layout.{out_of, Copies}
use Rattle.reader.specs.Gather.{came, written, Finished}
use Rattle.reader.specs.Clause.{read_to}
use Rattle.reader.specs.declared.clause.Failure.{Failure}
use Rattle.reader.proofs.Turns.{length_out}
use Rattle.reader.proofs.clause.write_clause.Goals as goal
use Rattle.std.specs.Prelude.{Ok, Err}

module _ (n : ℕ) (ns d : List ℕ) (e : Cursor) where
  no-room : length d < 2 * n → came (Err (Failure.AtFirst NoRoom)) d ≡ written d e (out_of ns n)
  unfolding written
  no-room h =
      let m = length_out ns n in
      cc (lt-leb (2 * length (out_of ns n)) (length d) (omega arith))

  put_out : (d' : List ℕ) → 2 * n ≤ length d → d' ≡ sets d 0 (laid (out_of ns n)) → came (Ok (read_to n e)) d' ≡ written d e (out_of ns n)
  unfolding written
  put_out d' h g =
      let m = length_out ns n in
      cc (le-leb (2 * length (out_of ns n)) (length d) (omega arith))

copies : (n : ℕ) (ns d : List ℕ) → Finished n ns → 2 * n ≤ length d → Copies ns d n
copies n ns d w h = record { words = w.nodes; room = h }

twice-fits : (n : ℕ) (ns : List ℕ) → Finished n ns → n ≤ 1025
twice-fits n ns w = omega (arith, w.nodes, w.words)

ruleset ways = (no-room, copies, put_out, twice-fits, rules)

pub returns-then-tree-count : goal.returns-then-tree-count
returns-then-tree-count c = search ways

pub returns : goal.returns
returns c = search ways
