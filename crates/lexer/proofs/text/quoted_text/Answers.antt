-- `lexer::text::quoted_text` meets its contract. Assumes nothing.
use Prim.Native.Nat.{ℕ, ◌+◌}
use mathlib.Core.Path.{◌≡◌, refl, sym, ◌∙◌}
use mathlib.Core.Logic.{◌⊎◌, inl, inr}
use mathlib.Core.Bool.{Bool, true, false, not, ◌&&◌}
use mathlib.Core.List.{List}
use native.Mathlib.Omega.{arith}
use borrow.Author.Rules.{rules}
use borrow.Author.Tests.{le-leb, ne_eqb, not-true, not-false}
use lib.Dec.{leb}
use lib.ListN.{length}
use Rattle.lexer.specs.Chars.{single_quote, double_quote}
use Rattle.lexer.specs.Cursor.{longest, valid}
use Rattle.lexer.specs.Look.{lookahead}
use Rattle.lexer.specs.Quoted.{decode}
use Rattle.lexer.specs.Refusal.{fault}
use Rattle.lexer.specs.Text.{counts, counted_text, quoted_from, quoted_text, Begins, QuotedAnswer}
use Rattle.lexer.specs.Token.{not_valid}
use Rattle.lexer.specs.Look.{Look}
use Rattle.std.specs.declared.result.Result.TheVariants.{Ok, Err}
use Rattle.lexer.specs.declared.cursor.Cursor.{Cursor}
use Rattle.lexer.specs.declared.refusal.Fault.{Fault}
use Rattle.lexer.specs.declared.refusal.Refusal.TheVariants.{NoToken}
use Rattle.lexer.proofs.HandedOn.{handed_on}
use Rattle.lexer.proofs.Cursors.{is-valid}
use Rattle.lexer.proofs.Looks.{look_byte}
use Rattle.lexer.proofs.text.quoted_text.Goals as goal

-- a cursor that stands at an offset
abbrev here : ℕ → Cursor
here at = record { offset = at; line = 0; column = 0 }

-- its test is the call's own
tested : (n at : ℕ) → valid n (here at) ≡ (leb n longest && leb at n)
unfolding valid
tested n at = go (leb n longest && leb at n) refl
  where
    go : (b : Bool) → (leb n longest && leb at n) ≡ b → valid n (here at) ≡ (leb n longest && leb at n)
    go true e = cc (le-leb 0 at (omega arith))
    go false e = cc

module _ (s : List ℕ) (at : ℕ) (b : Bool) (v : b ≡ valid (length s) (here at)) where
  -- the ways out
  invalid : (w : Fault) (d : List ℕ) → not b ≡ true → w ≡ not_valid → counts (Err w) d ≡ quoted_text s at d
  invalid w d g h = cc (not-true b g, tested (length s) at)

  module _ (g : not b ≡ false) (r : Look) (f : r ≡ lookahead s at) where
    told : (d : List ℕ) → quoted_text s at d ≡ quoted_from s at d r
    told d = cc (not-false b g, tested (length s) at)

    not_there : (w : Fault) (d : List ℕ) → r ≡ Err w → counts (Err w) d ≡ quoted_text s at d
    unfolding quoted_from
    not_there w d h = cc (told d)

    module _ (x : ℕ) (h : r ≡ Ok x) where
      begins : Begins s at
      begins = record { short = (is-valid (length s) (here at) (sym v ∙ not-false b g)).short; inside = (look_byte s at x (sym f ∙ h)).inside }

      module _ (d : List ℕ) where
        -- either quote begins a token
        quoted : (x ≡ double_quote) ⊎ (x ≡ single_quote) → (a : QuotedAnswer) (d' : List ℕ) → counts a d' ≡ counted_text at d (decode x at s (at + 1)) → counts a d' ≡ quoted_text s at d
        unfolding quoted_from
        quoted (inl q) a d' e = cc (told d)
        quoted (inr q) a d' e = cc (told d)

        other : ((x ≡ double_quote) ⊎ (x ≡ single_quote) → ⊥) → counts (Err (fault NoToken at)) d ≡ quoted_text s at d
        unfolding quoted_from
        other n = cc (told d, ne_eqb x single_quote (λ q. n (inr q)), ne_eqb x double_quote (λ q. n (inl q)))

ruleset ways = (handed_on, invalid, not_there, begins, quoted, other, rules)

pub returns-then-not-is_valid : goal.returns-then-not-is_valid
returns-then-not-is_valid c = search ways

pub returns-in_err-b : goal.returns-in_err-b
returns-in_err-b c = search (ways, c.in_err-b.was)

pub quoted_bytes-requires : goal.quoted_bytes-requires
quoted_bytes-requires c = search ways

pub returns-in-39 : goal.returns-in-39
returns-in-39 c = search ways

pub returns-in_default : goal.returns-in_default
returns-in_default c = search ways
