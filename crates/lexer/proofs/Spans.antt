-- Stretches of a text, and those on one line. Assumes nothing.
use mathlib.Core.Path.{◌≡◌, refl, sym, ◌∙◌}
use mathlib.Core.Bool.{Bool, true, false, cond}
use mathlib.Core.List.{List}
use Prim.Native.Nat.{ℕ, ◌+◌, ◌<◌, ◌≤◌}
use native.Mathlib.Omega.{arith}
use borrow.Author.Tests.{eqb-true, eqb-false}
use lib.Dec.{eqb}
use lib.ListN.{length}
use Rattle.lexer.specs.Chars.{newline}
use Rattle.lexer.specs.Digits.{digits_at}
use Rattle.lexer.proofs.Bases.{digits_end, digits_plain}
use Rattle.lexer.proofs.Cursors.{NoNewline, plain_one, plain_both}
use Rattle.lexer.proofs.Looks.{Seen}

-- what holds of both holds of the choice
pub by_test : {A : Type 0} (P : A → Type 0) (t : Bool) (a b : A) → (t ≡ true → P a) → (t ≡ false → P b) → P (cond t a b)
by_test P true a b p q = p refl
by_test P false a b p q = q refl

-- a character known by name
pub not-newline : (x k : ℕ) → eqb x k ≡ true → eqb k newline ≡ false → x ≡ newline → ⊥
not-newline x k t u g = eqb-false k newline u (sym (eqb-true x k t) ∙ g)

pub record Span (s : List ℕ) (at e : ℕ) : Type 0 where
  pub ahead : at < e
  pub inside : e ≤ length s

-- on one line
pub record Plain (s : List ℕ) (at e : ℕ) : Type 0 where
  pub span : Span s at e
  pub plain : NoNewline s at e

module _ (s : List ℕ) (at : ℕ) where
  -- a stretch and a character more
  pub plain_more : (e b : ℕ) → at ≤ e → NoNewline s at e → Seen s e b → (b ≡ newline → ⊥) → Plain s at (e + 1)
  plain_more e b h p l n =
      record {
        span = record { ahead = omega arith; inside = omega arith };
        plain = plain_both s at e (e + 1) p (plain_one s e (λ g. n (sym l.it ∙ g)));
      }

  -- a character
  pub plain_char : (b : ℕ) → Seen s at b → (b ≡ newline → ⊥) → Plain s at (at + 1)
  plain_char b l n = plain_more at b (omega arith) (λ i h k. absurd (omega arith)) l n

  module _ (k : ℕ) (p : Plain s at k) where
    -- one behind the other
    pub plain_on : (e : ℕ) → Plain s k e → Plain s at e
    plain_on e q =
        record {
          span = record { ahead = omega (arith, p.span.ahead, q.span.ahead); inside = q.span.inside };
          plain = plain_both s at k e p.plain q.plain;
        }

    pub plain_step : (b : ℕ) → Seen s k b → (b ≡ newline → ⊥) → Plain s at (k + 1)
    plain_step b l n = plain_more k b (omega (arith, p.span.ahead)) p.plain l n

    -- and digits behind it
    pub plain_digits : (base v : ℕ) → base ≤ 16 → Plain s at (digits_at base v s k).end
    plain_digits base v few =
        let d = digits_end base v s k p.span.inside in
        record {
          span = record { ahead = omega (arith, p.span.ahead, d.0); inside = d.1 };
          plain = plain_both s at k _ p.plain (digits_plain base v s k few);
        }
