-- `reader::clause::finish_clause` meets its contract. Assumes nothing.
use Prim.Native.Nat.{ℕ, ◌≤◌}
use mathlib.Core.Path.{◌≡◌, ap, ◌∙◌, sym}
use mathlib.Core.List.{List}
use native.Mathlib.Omega.{arith}
use borrow.Author.Rules.{rules}
use lib.ListN.{length}
use Rattle.lexer.specs.Refusal.{fault}
use Rattle.lexer.specs.declared.cursor.Cursor.{Cursor}
use Rattle.lexer.specs.declared.refusal.Refusal.TheVariants.{NoReading}
use Rattle.reader.specs.Weight.{weight}
use Rattle.reader.specs.Layout.{out_of, state_of}
use Rattle.reader.specs.Gather.{came, nodes_of, written, by_nodes, Finished, Finishing, Verdict}
use Rattle.reader.specs.declared.machine.Spot.{Spot}
use Rattle.reader.specs.declared.machine.Pending.{Pending}
use Rattle.reader.specs.declared.machine.Shape.{Shape}
use Rattle.reader.specs.declared.machine.Mode.{Mode}
use Rattle.reader.specs.declared.clause.Failure.{Failure}
use Rattle.reader.proofs.Turns.{length_out}
use Rattle.reader.proofs.clause.finish_clause.Goals as goal
use Rattle.std.specs.Prelude.{Err}

finished : (m : Mode) (st ns : List ℕ) (n : ℕ) → m ≡ Mode.Done n → Finishing m st ns → Finished n ns
unfolding weight state_of
finished m st ns n f w =
    let g : weight (state_of (Mode.Done n) st ns) ≤ length ns = rw f at w.weight-left in
    record { nodes = omega (arith, length_out ns n); words = w.words }

-- by the mode, where o is the offset of the last token that it took alive
module _ (o : ℕ) (m : Mode) (e : Cursor) (st ns d : List ℕ) where
  accepted : (n : ℕ) → m ≡ Mode.Done n → (r : Verdict) (d' : List ℕ) → came r d' ≡ written d e (out_of ns n) → came r d' ≡ by_nodes d o e (nodes_of (state_of m st ns))
  unfolding nodes_of state_of by_nodes
  accepted n f r d' g = g ∙ sym (ap (λ (x : Mode). by_nodes d o e (nodes_of (state_of x st ns))) f)

  module _ (r : Verdict) (g : r ≡ Err (Failure.At (fault NoReading o))) where
    wants : (p : Spot) → m ≡ Mode.Want p → came r d ≡ by_nodes d o e (nodes_of (state_of m st ns))
    unfolding nodes_of state_of by_nodes
    wants p f = cc

    pends : (p : Spot) (q : Pending) → m ≡ Mode.Pend p q → came r d ≡ by_nodes d o e (nodes_of (state_of m st ns))
    unfolding nodes_of state_of by_nodes
    pends p q f = cc

    begins : (p : Spot) (h : Shape) (i : ℕ) → m ≡ Mode.Begun p h i → came r d ≡ by_nodes d o e (nodes_of (state_of m st ns))
    unfolding nodes_of state_of by_nodes
    begins p h i f = cc

    has : (p : Spot) → m ≡ Mode.Have p → came r d ≡ by_nodes d o e (nodes_of (state_of m st ns))
    unfolding nodes_of state_of by_nodes
    has p f = cc

    died : m ≡ Mode.Dead → came r d ≡ by_nodes d o e (nodes_of (state_of m st ns))
    unfolding nodes_of state_of by_nodes
    died f = cc

ruleset ways = (finished, accepted, wants, pends, begins, has, died, rules)

pub returns-in-Done : goal.returns-in-Done
returns-in-Done c = search ways

pub returns-in_default : goal.returns-in_default
returns-in_default c = search ways

pub write_clause-requires : goal.write_clause-requires
write_clause-requires c = search ways
