-- `lexer::layout::scan_for_layout` meets its contract. The invariant: layout from the start ends where it ends from here.
-- Assumes nothing.
use Prim.Native.Nat.{ℕ, ◌-◌, ◌<◌}
use mathlib.Core.Path.{◌≡◌, sym, ◌∙◌}
use mathlib.Core.List.{List}
use native.Mathlib.Omega.{arith}
use lib.ListN.{length}
use Rattle.lexer.specs.Cursor.{along, Valid, Along}
use Rattle.lexer.specs.Layout.{layout_text, layout_end, moved, stepped}
use Rattle.lexer.specs.declared.refusal.Fault.{Fault}
use Rattle.lexer.specs.declared.cursor.Cursor.{Cursor}
use Rattle.std.specs.declared.result.Result.TheVariants.{Ok, Err}
use Rattle.lexer.specs.Layout.{Layout}
use Rattle.std.specs.declared.option.Option.TheVariants.{Some, None}
use Rattle.lexer.proofs.Layouts.{Later, later_on, layout-refused, layout-none, layout_more, layout-ahead, spaces_end, spaces_along, past_spaces}
use Rattle.lexer.proofs.layout.scan_for_layout.Given as goal

-- a turn, over plain values: spaces up to `at`, and the cursor d there
module _ (s : List ℕ) (c₀ c : Cursor) (i : Later s c₀ c) (at : ℕ) (e : at ≡ spaces_end s c.offset) where
  pub can_skip : Along c at
  can_skip = spaces_along s c i.valid at e

  module _ (d : Cursor) (m : d ≡ along c (at - c.offset)) where
    pub spaces : Later s c d
    spaces = past_spaces s c i.valid at e d m

    pub there : Valid (length s) d
    there = spaces.valid

    -- the ways out: r is what the layout text at d came to
    module _ (r : Layout) (f : r ≡ stepped s d (layout_text s d.offset)) where
      pub refused : (w : Fault) → r ≡ Err w → Err w ≡ moved s c₀ (layout_end s c₀.offset)
      refused w q = sym (i.same ∙ spaces.same ∙ layout-refused s d w (sym f ∙ q))

      pub none : r ≡ Ok None → Ok d ≡ moved s c₀ (layout_end s c₀.offset)
      none q = sym (i.same ∙ spaces.same ∙ layout-none s d (sym f ∙ q))

      module _ (n : Cursor) (q : r ≡ Ok (Some n)) where
        pub more : Later s c₀ n
        more = later_on s c₀ c n i (later_on s c d n spaces (layout_more s d n (sym f ∙ q) there))

        pub less : length s - n.offset < length s - c.offset
        less = let l = layout-ahead s d n (sym f ∙ q) in omega (arith, more.valid.offset, spaces.ahead)

abbrev pub invariant-loop-next : goal.invariant-loop-next
invariant-loop-next l = Later l.text l.initial.c l.c

abbrev pub decreases-loop-next : goal.decreases-loop-next
decreases-loop-next l = length l.text - l.c.offset
