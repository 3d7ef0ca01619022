-- `pack::format::Form::first_node` meets its contract. Assumes nothing.
use Prim.Native.Nat.{ℕ}
use mathlib.Core.Path.{◌≡◌, ap, sym}
use borrow.Author.Rules.{rules}
use Rattle.pack.specs.Image.{line_bytes}
use Rattle.pack.specs.Calls.{begins}
use Rattle.pack.specs.declared.format.Form.{Form}
use Rattle.pack.specs.declared.format.Form.TheVariants.{One, Two}
use Rattle.pack.proofs.format.Form.first_node.Goals as goal

first : (f : Form) → f ≡ One → 5 ≡ begins f
unfolding line_bytes
first f e = sym (ap begins e)

second : (f : Form) (l : ℕ) → f ≡ Two l → 7 ≡ begins f
unfolding line_bytes
second f l e = sym (ap begins e)

ruleset ways = (first, second, rules)

pub returns-in-One : goal.returns-in-One
returns-in-One c = search ways

pub returns-in-Two : goal.returns-in-Two
returns-in-Two c = search ways
