-- `lexer::layout_call::past_blanks` meets its contract. The invariant: the run from the start ends where it ends from here. Assumes nothing.
use Prim.Native.Nat.{ℕ, ◌+◌, ◌<◌, ◌≤◌}
use mathlib.Core.Path.{◌≡◌, refl, sym, ◌∙◌, ap}
use mathlib.Core.Bool.{Bool, true, false}
use mathlib.Core.List.{List}
use native.Mathlib.Omega.{arith}
use lib.ListN.{length, get_or}
use Rattle.lexer.specs.Chars.{is, layout_char}
use Rattle.lexer.specs.Cursor.{step, move_to, Valid, Movable}
use Rattle.lexer.specs.declared.cursor.Cursor.{Cursor}
use Rattle.lexer.proofs.LayoutCalls.{blanks_end}
use Rattle.lexer.proofs.Cursors.{move_here, move_step, movable, step-valid}
use Rattle.lexer.proofs.Stretches.{run-ahead, run_inside, run-on, run-stops, run-ended}
use Rattle.lexer.proofs.layout_call.past_blanks.Given as goal

pub record Later (s : List ℕ) (c₀ c : Cursor) (at : ℕ) : Type 0 where
  pub here : c.offset ≡ at
  pub same : move_to s c₀ (blanks_end s c₀.offset) ≡ move_to s c (blanks_end s c.offset)
  pub valid : Valid (length s) c

pub begins : (s : List ℕ) (c : Cursor) → Valid (length s) c → Later s c c c.offset
begins s c v = record { here = refl; same = refl; valid = v }

module _ (s : List ℕ) (c₀ c : Cursor) (at : ℕ) (i : Later s c₀ c at) where
  -- where the run ends at the cursor
  pub stays : blanks_end s c.offset ≡ c.offset → c ≡ move_to s c₀ (blanks_end s c₀.offset)
  stays e = sym (i.same ∙ ap (move_to s c) e ∙ move_here s c)

  pub ended : length s ≤ at → c ≡ move_to s c₀ (blanks_end s c₀.offset)
  ended h = stays (run-ended (is layout_char) s c.offset (omega (arith, i.here)))

  module _ (k : at < length s) where
    h : c.offset < length s
    h = omega (arith, i.here)

    pub can_skip : Movable c
    can_skip = movable (length s) c i.valid h

    module _ (t : Bool) (e : t ≡ is layout_char (get_or s at 0)) where
      f : t ≡ is layout_char (get_or s c.offset 0)
      f = e ∙ ap (λ (n : ℕ). is layout_char (get_or s n 0)) (sym i.here)

      pub stops : t ≡ false → c ≡ move_to s c₀ (blanks_end s c₀.offset)
      stops g = stays (run-stops (is layout_char) s c.offset h (sym f ∙ g))

      module _ (g : t ≡ true) (d : Cursor) (p : d ≡ step c (get_or s at 0)) where
        m : d ≡ step c (get_or s c.offset 0)
        m = p ∙ ap (λ (n : ℕ). step c (get_or s n 0)) (sym i.here)

        pub offset_on : d.offset ≡ c.offset + 1
        offset_on = ap (λ (x : Cursor). x.offset) m

        pub on : Later s c₀ d (at + 1)
        on =
            let r = run-on (is layout_char) s c.offset h (sym f ∙ g) in
            let b = run-ahead (is layout_char) s (c.offset + 1) in
            let k = run_inside (is layout_char) s (c.offset + 1) (omega (arith, h)) in
            record {
              here = omega (arith, offset_on, i.here);
              same =
                  i.same ∙ ap (move_to s c) r ∙ move_step s c (blanks_end s (c.offset + 1)) (omega (arith, b)) k
                  ∙ ap (λ (x : Cursor). move_to s x (blanks_end s (c.offset + 1))) (sym m) ∙ ap (λ (n : ℕ). move_to s d (blanks_end s n)) (sym offset_on);
              valid = rw m (step-valid (length s) c i.valid (get_or s c.offset 0) h);
            }

abbrev pub invariant-loop-at : goal.invariant-loop-at
invariant-loop-at l = Later l.text l.fn.cursor l.c l.at
