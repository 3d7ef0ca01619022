-- `reader::machine::has_role` meets its contract. Assumes nothing.
use Rattle.std.proofs.Common.{rules, ◌≡◌, ◌∙◌, sym, Bool, true, false, true≢false, Option, Some, None, is_some}
use Rattle.reader.specs.Ops.{roled}
use Rattle.reader.specs.Layout.{pre_of, inf_of}
use Rattle.reader.specs.declared.roles.Prefix.{Prefix}
use Rattle.reader.specs.declared.roles.Prefix.TheVariants.{Fx, Fy}
use Rattle.reader.specs.declared.roles.Infix.{Infix}
use Rattle.reader.specs.declared.roles.Infix.TheVariants.{Xfx, Xfy, Yfx}
use Rattle.reader.proofs.machine.has_role.Goals as goal

before : (p : Option Prefix) (q : Option Infix) (b : Bool) → b ≡ is_some p → b ≡ true → b ≡ roled (pre_of p) (inf_of q)
unfolding roled pre_of
before None q b e f = absurd (true≢false (sym f ∙ e))
before (Some (Fx k)) q b e f = f
before (Some (Fy k)) q b e f = f

between : (p : Option Prefix) (q : Option Infix) (a b : Bool) → a ≡ is_some p → a ≡ false → b ≡ is_some q → b ≡ roled (pre_of p) (inf_of q)
unfolding roled pre_of inf_of
between None None a b e f g = g
between None (Some (Xfx k)) a b e f g = g
between None (Some (Xfy k)) a b e f g = g
between None (Some (Yfx k)) a b e f g = g
between (Some p) q a b e f g = absurd (true≢false (sym e ∙ f))

ruleset ways = (before, between, rules)

pub returns-then-is_some : goal.returns-then-is_some
returns-then-is_some c = search ways

pub returns-else-is_some : goal.returns-else-is_some
returns-else-is_some c = search ways
