-- `reader::clause::see_name` meets its contract. Assumes nothing.
use Prim.Native.Nat.{ℕ}
use mathlib.Core.Path.{◌≡◌, ◌∙◌, ap}
use mathlib.Core.List.{List}
use borrow.Author.Rules.{rules}
use Rattle.lexer.specs.declared.cursor.Cursor.{Cursor}
use Rattle.lexer.specs.declared.token.Token as lexer
use Rattle.reader.specs.Token as R
use Rattle.reader.specs.Token.{terminal_as}
use Rattle.reader.specs.Ops.{operators, prefix_of, infix_of}
use Rattle.reader.specs.Roles.{roles_of}
use Rattle.reader.specs.Layout.{sight_of}
use Rattle.reader.specs.Machine.{see}
use Rattle.reader.specs.Gather.{token_from, sight_from, NameFrom}
use Rattle.reader.specs.declared.roles.Roles.{Roles}
use Rattle.reader.specs.declared.machine.Sight.TheVariants.{Name}
use Rattle.reader.proofs.Sights.{Known, known, token-known, sight_known, pre_role, inf_role}
use Rattle.reader.proofs.clause.see_name.Goals as goal

-- the roles by which a name is seen
shown : (e : ℕ) (text : List ℕ) (x : Roles) → x ≡ roles_of operators text → sight_of (Name e x) ≡ see operators (R.name text e)
unfolding sight_of see roles_of
shown e text x f = cc (pre_role (prefix_of operators text), inf_role (infix_of operators text))

module _ (s : List ℕ) (c : Cursor) (t : lexer.Token) (d : Cursor) (r : NameFrom s c t d) where
  it : Known s c t d
  it = known s c t d r.reads

  sees : (x : Roles) → x ≡ roles_of operators (token_from s c).text → sight_of (Name d.offset x) ≡ sight_from s c
  unfolding terminal_as
  sees x e =
      shown d.offset _ x (e ∙ ap (λ (u : R.Token). roles_of operators u.text) (token-known s c t d it)) ∙ sight_known s c t d it R.Name r.name

ruleset ways = (sees, rules)

pub returns : goal.returns
returns c = search ways
