-- `lexer::token::bar_token` meets its contract. Assumes nothing.
use Prim.Native.Nat.{ℕ, ◌+◌, ◌^◌, ◌<◌}
use mathlib.Core.Path.{◌≡◌, sym, ◌∙◌}
use mathlib.Core.List.{List}
use native.Mathlib.Omega.{arith}
use borrow.Author.Rules.{rules}
use borrow.Author.Tests.{ne_eqb}
use lib.ListN.{length}
use mir.Syntax.{w64}
use mir.Val.{Fits}
use Rattle.lexer.specs.Chars.{bar}
use Rattle.lexer.specs.Look.{lookahead}
use Rattle.lexer.specs.Token.{bar_to, bar_token}
use Rattle.lexer.specs.declared.refusal.Fault.{Fault}
use Rattle.lexer.specs.Look.{Look}
use Rattle.std.specs.declared.result.Result.TheVariants.{Ok, Err}
use Rattle.lexer.specs.declared.kind.Kind.TheVariants.{HeadTailSeparator, DoubleBar}
use Rattle.lexer.specs.declared.kind.Value.TheVariants.{Nothing}
use Rattle.lexer.proofs.HandedOn.{handed_on}
use Rattle.lexer.proofs.Looks.{look_byte}
use Rattle.lexer.proofs.token.bar_token.Goals as goal
use Rattle.lexer.specs.Name.{PlainToken}
use Rattle.lexer.specs.Name.{whole_token}

module _ (s : List ℕ) (at : ℕ) (r : Look) (e : r ≡ lookahead s (at + 1)) where
  refused : (w : Fault) → r ≡ Err w → Err w ≡ bar_token s at
  unfolding bar_to
  refused w f = cc

  module _ (b : ℕ) (f : r ≡ Ok b) where
    two_fit : length s < 2 ^ 64 → Fits w64 (at + 2)
    two_fit h = let l = (look_byte s (at + 1) b (sym e ∙ f)).inside in record { fits = omega arith }

    two : (p : PlainToken) → b ≡ bar → p ≡ whole_token DoubleBar Nothing (at + 2) → p ≡ bar_token s at
    unfolding bar_to
    two p g h = cc

    one : (p : PlainToken) → (b ≡ bar → ⊥) → p ≡ whole_token HeadTailSeparator Nothing (at + 1) → p ≡ bar_token s at
    unfolding bar_to
    one p g h = cc (ne_eqb b bar g)

ruleset ways = (handed_on, refused, two_fit, two, one, rules)

pub returns-in_err-lookahead_char : goal.returns-in_err-lookahead_char
returns-in_err-lookahead_char c = search (ways, c.in_err-lookahead_char.was)

pub returns-then-branch-eq124 : goal.returns-then-branch-eq124
returns-then-branch-eq124 c = search ways

pub returns-else-branch-eq124 : goal.returns-else-branch-eq124
returns-else-branch-eq124 c = search ways
