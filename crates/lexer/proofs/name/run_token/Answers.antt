-- `lexer::name::run_token` meets its contract. Assumes nothing.
use Prim.Native.Nat.{ℕ}
use mathlib.Core.Path.{◌≡◌}
use borrow.Author.Rules.{rules}
use Rattle.lexer.specs.Name.{run_token, whole_token}
use Rattle.lexer.specs.declared.refusal.Fault.{Fault}
use Rattle.lexer.specs.Cursor.{Scan}
use Rattle.std.specs.declared.result.Result.TheVariants.{Ok, Err}
use Rattle.lexer.specs.declared.kind.Kind.{Kind}
use Rattle.lexer.specs.declared.kind.Value.TheVariants.{Nothing}
use Rattle.lexer.proofs.HandedOn.{handed_on}
use Rattle.lexer.proofs.name.run_token.Goals as goal

module _ (k : Kind) (r : Scan) where
  stop : (e : ℕ) → r ≡ Ok e → whole_token k Nothing e ≡ run_token k r
  unfolding run_token
  stop e f = cc

  refused : (w : Fault) → r ≡ Err w → Err w ≡ run_token k r
  unfolding run_token
  refused w f = cc

ruleset ways = (handed_on, stop, refused, rules)

pub returns-in_err-end : goal.returns-in_err-end
returns-in_err-end c = search (ways, c.in_err-end.was)

pub returns : goal.returns
returns c = search ways
