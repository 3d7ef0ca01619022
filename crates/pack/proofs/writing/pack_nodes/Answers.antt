-- `pack::writing::pack_nodes` meets its contract. Assumes nothing.
use Prim.Native.Nat.{ℕ, ◌/◌, ◌<◌, ◌≤◌}
use mathlib.Core.Path.{◌≡◌, sym, ◌∙◌}
use mathlib.Core.List.{List}
use native.Mathlib.Omega.{arith}
use borrow.Author.Rules.{rules}
use lib.ListN.{length}
use Rattle.pack.specs.declared.format.Form.{Form}
use Rattle.pack.specs.Calls.{PackOutcome}
use Rattle.pack.specs.Passes.{weighed, Weighing, Weighs}
use Rattle.lexer.specs.Refusal.{fault}
use Rattle.lexer.specs.declared.refusal.Refusal.TheVariants.{NoPack}
use Rattle.std.specs.declared.option.Option.{Option}
use Rattle.std.specs.declared.option.Option.TheVariants.{Some, None}
use Rattle.std.specs.declared.result.Result.TheVariants.{Err}
use Rattle.pack.proofs.Packs.{pack_many, pack_few, pack_no_tree}
use Rattle.pack.proofs.writing.pack_nodes.Goals as goal

module _ (f : Form) (bytes ns : List ℕ) (count : ℕ) where
  many : (d : List ℕ) → 1023 < count → PackOutcome f bytes ns count d (Err (fault NoPack 0)) d
  many d h = pack_many f bytes ns count d h

  few : (d : List ℕ) → length ns / 4 < count → PackOutcome f bytes ns count d (Err (fault NoPack 0)) d
  few d h = pack_few f bytes ns count d (omega arith)

  no-tree : (d : List ℕ) (r : Option ℕ) → r ≡ weighed bytes count 0 0 ns → r ≡ None → PackOutcome f bytes ns count d (Err (fault NoPack 0)) d
  no-tree d r e g = pack_no_tree f bytes ns count d (sym e ∙ g)

weighs : (bytes ns : List ℕ) (count size : ℕ) (r : Option ℕ) → count ≤ 1023 → count ≤ length ns / 4 → r ≡ weighed bytes count 0 0 ns → r ≡ Some size → Weighs bytes ns count size
weighs bytes ns count size r m h e g = record { weighs = sym e ∙ g; inside = omega arith; few = m }

weighing : (ns : List ℕ) (count : ℕ) → count ≤ 1023 → count ≤ length ns / 4 → Weighing ns count
weighing ns count m h = record { inside = omega arith; few = m }

ruleset ways = (many, few, no-tree, weighs, weighing, rules)

pub returns-then-count-gt-MOST_NODES : goal.returns-then-count-gt-MOST_NODES
returns-then-count-gt-MOST_NODES c = search ways

pub returns-then-nodes-count : goal.returns-then-nodes-count
returns-then-nodes-count c = search ways

pub returns-in_err-size : goal.returns-in_err-size
returns-in_err-size c = search ways
