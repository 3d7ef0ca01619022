-- `lexer::token::mark_of` meets its contract. Assumes nothing.
use Prim.Native.Nat.{ℕ}
use mathlib.Core.Path.{◌≡◌, sym, ◌∙◌}
use mathlib.Core.Bool.{Bool, true, false}
use borrow.Author.Rules.{rules}
use Rattle.lexer.specs.Token.{mark, is_mark}
use Rattle.std.specs.declared.option.Option.TheVariants.{None}
use Rattle.lexer.proofs.Marks.{as-bare, none}
use Rattle.lexer.proofs.token.mark_of.Goals as goal

module _ (t : Bool) (b : ℕ) (r : Bool) (e : r ≡ is_mark (mark false b)) where
  a_mark : r ≡ true → is_mark (mark false b) ≡ true
  a_mark f = sym e ∙ f

  no-mark : r ≡ false → None ≡ mark t b
  no-mark f = sym (none (mark t b) (as-bare t b ∙ sym e ∙ f))

ruleset ways = (a_mark, no-mark, rules)

pub returns-else-is_mark : goal.returns-else-is_mark
returns-else-is_mark c = search ways
