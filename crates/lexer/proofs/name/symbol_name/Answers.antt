-- `lexer::name::symbol_name` meets its contract. Assumes nothing.
use Prim.Native.Nat.{ℕ, ◌+◌, ◌-◌, ◌^◌, ◌<◌, ◌≤◌}
use mathlib.Core.Path.{◌≡◌, refl, sym, ◌∙◌, subst}
use mathlib.Core.Bool.{Bool, true, false}
use mathlib.Core.List.{List}
use borrow.Author.Rules.{rules}
use lib.ListN.{length}
use mir.Syntax.{w64}
use mir.Val.{Fits}
use native.Mathlib.Omega.{arith}
use Rattle.lexer.specs.Chars.{is, graphic_token_char}
use Rattle.lexer.specs.Look.{lookahead}
use Rattle.lexer.specs.Name.{run_end, graphics, run_token, solo_name, symbol_name, PlainToken, whole_token}
use Rattle.std.specs.declared.result.Result.TheVariants.{Ok, Err}
use Rattle.lexer.specs.Cursor.{Scan}
use Rattle.lexer.specs.declared.kind.Kind.TheVariants.{Name}
use Rattle.lexer.specs.declared.kind.Value.TheVariants.{Nothing}
use Rattle.lexer.specs.declared.refusal.Fault.{Fault}
use Rattle.lexer.proofs.HandedOn.{handed_on}
use Rattle.lexer.proofs.Looks.{Seen, look_byte, look_fits}
use Rattle.lexer.proofs.Promises.{Run, run}
use Rattle.lexer.proofs.Runs.{of_class}
use Rattle.lexer.proofs.name.symbol_name.Goals as goal

-- the offset behind a byte of the text fits
fits : (s : List ℕ) (at b : ℕ) → lookahead s at ≡ Ok b → length s < 2 ^ 64 → Fits w64 (at + 1)
fits s at b w = look_fits s at b (lookahead s at) refl w

-- r is the run of graphic characters from the byte b on
module _ (s : List ℕ) (at b : ℕ) (w : lookahead s at ≡ Ok b) (r : Scan) (e : r ≡ graphics s at) where
  seen : Seen s at b
  seen = look_byte s at b w

  -- where b is graphic it goes on behind it, else it ends at once
  goes_on : is graphic_token_char b ≡ true → r ≡ graphics s (at + 1)
  unfolding run_end
  goes_on f = cc (seen.rest, of_class graphic_token_char b true (sym f))

  ends : is graphic_token_char b ≡ false → r ≡ Ok at
  unfolding run_end
  ends f = cc (seen.rest, of_class graphic_token_char b false (sym f), seen.known)

  ahead : (end : ℕ) → graphics s (at + 1) ≡ Ok end → at + 1 ≤ end
  ahead end f =
      (subst (Run s (at + 1)) f (run s graphic_token_char graphic_token_char (omega arith) (length s - (at + 1)) (at + 1) (omega arith))).0

  -- the ways out: u says whether b is graphic
  refused_by : (u : Bool) → is graphic_token_char b ≡ u → (f : Fault) → r ≡ Err f → Err f ≡ symbol_name s at b
  unfolding run_token
  refused_by true g f h = cc (goes_on g)
  refused_by false g f h = let z : ◌≡◌ {A = ℕ} 0 1 = cc (ends g) in absurd (omega arith)

  solo_by : (u : Bool) → is graphic_token_char b ≡ u → (end : ℕ) → r ≡ Ok end → end ≡ at → solo_name at (at + 1) b ≡ symbol_name s at b
  solo_by true g end h k = let l = ahead end (sym (goes_on g) ∙ h) in absurd (omega arith)
  solo_by false g end h k = cc

  graphic_by : (u : Bool) → is graphic_token_char b ≡ u → (end : ℕ) → r ≡ Ok end → (end ≡ at → ⊥) → whole_token Name Nothing end ≡ symbol_name s at b
  unfolding run_token
  graphic_by true g end h k = cc (goes_on g)
  graphic_by false g end h k = absurd (k (cc (ends g)))

  refused : (f : Fault) → r ≡ Err f → Err f ≡ symbol_name s at b
  refused = refused_by (is graphic_token_char b) refl

  module _ (end : ℕ) (p : PlainToken) (f : r ≡ Ok end) where
    solo : end ≡ at → p ≡ solo_name at (at + 1) b → p ≡ symbol_name s at b
    solo g h = h ∙ solo_by (is graphic_token_char b) refl end f g

    graphic : (end ≡ at → ⊥) → p ≡ whole_token Name Nothing end → p ≡ symbol_name s at b
    graphic g h = h ∙ graphic_by (is graphic_token_char b) refl end f g

ruleset ways = (handed_on, fits, refused, solo, graphic, rules)

pub returns-in_err-end : goal.returns-in_err-end
returns-in_err-end c = search (ways, c.in_err-end.was)

pub overflow_add-at : goal.overflow_add-at
overflow_add-at c = search ways

pub returns-then-end-at : goal.returns-then-end-at
returns-then-end-at c = search ways

pub returns-else-end-at : goal.returns-else-end-at
returns-else-end-at c = search (ways, c.in_ok-end.was)
