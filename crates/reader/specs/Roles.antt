-- The roles of a name by a table, as the code has them. Assumes nothing.
use Rattle.std.specs.Prelude.{ℕ, List, Option as CodeOption, Some, None}
use Rattle.std.proofs.Math.Option.{Option, none, some}
use Rattle.reader.specs.Ops.{Pre, fx, fy, Inf, xfx, xfy, yfx, Table, is_minus, prefix_of, infix_of}
use Rattle.reader.specs.declared.roles.Prefix.{Prefix}
use Rattle.reader.specs.declared.roles.Prefix.TheVariants.{Fx, Fy}
use Rattle.reader.specs.declared.roles.Infix.{Infix}
use Rattle.reader.specs.declared.roles.Infix.TheVariants.{Xfx, Xfy, Yfx}
use Rattle.reader.specs.declared.roles.Roles.{Roles}

unfoldable pub prefix_role : Option Pre → CodeOption Prefix
prefix_role none = None
prefix_role (some (fx p)) = Some (Fx p)
prefix_role (some (fy p)) = Some (Fy p)

unfoldable pub infix_role : Option Inf → CodeOption Infix
infix_role none = None
infix_role (some (xfx p)) = Some (Xfx p)
infix_role (some (xfy p)) = Some (Xfy p)
infix_role (some (yfx p)) = Some (Yfx p)

-- ISO 6.3.4.3: the priority and the kind of each role that a name has in the table; and is it the minus of 01's negative numbers
unfoldable pub roles_of : Table → List ℕ → Roles
roles_of T x = record { minus = is_minus x; prefix = prefix_role (prefix_of T x); «infix» = infix_role (infix_of T x) }
