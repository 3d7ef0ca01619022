-- `lexer::quoted::escape_char` meets its contract: one test over all bytes, which antt computes. Assumes nothing.
use Prim.Native.Nat.{ℕ, ◌<◌, ◌≤◌}
use mathlib.Core.Path.{◌≡◌}
use mathlib.Core.Bool.{Bool, true, false, cond}
use borrow.Author.Rules.{rules}
use borrow.Author.Tests.{lt-ltb, le-ltb, ne_eqb}
use lib.Dec.{ltb, eqb}
use Rattle.lexer.specs.Chars.{class_of, is, quote_char, backslash, alert, backspace, tab, newline, vertical_tab, form_feed, carriage_return, small_a, small_b, small_f, small_n, small_r, small_t, small_v}
use Rattle.lexer.specs.Quoted.{escape_of}
use Rattle.lexer.proofs.Table.{matched}
use Rattle.lexer.proofs.quoted.escape_char.Goals as goal

-- the byte before small_t
abbrev small_s : ℕ
small_s = 115

-- what the code tests
abbrev tested : ℕ → ℕ
tested x =
    cond (is quote_char x) x
    (cond (eqb x backslash) x
    (cond (ltb x small_f) (cond (eqb x small_a) alert (cond (eqb x small_b) backspace 0))
    (cond (ltb x small_s) (cond (eqb x small_f) form_feed (cond (eqb x small_n) newline (cond (eqb x small_r) carriage_return 0)))
    (cond (eqb x small_t) tab (cond (eqb x small_v) vertical_tab 0)))))

module _ (b : ℕ) (h : b < 256) where
  rule : tested b ≡ escape_of b
  unfolding class_of escape_of
  rule = matched tested escape_of 256 tt b h

  module _ (r : Bool) (e : r ≡ is quote_char b) where
    quote : r ≡ true → b ≡ escape_of b
    quote f = cc rule

    module _ (f : r ≡ false) where
      slanted : b ≡ backslash → b ≡ escape_of b
      slanted g = cc rule

      module _ (g : b ≡ backslash → ⊥) where
        module _ (l : b < small_f) where
          an_alert : b ≡ small_a → alert ≡ escape_of b
          an_alert k = cc (rule, lt-ltb b small_f l)

          a_backspace : b ≡ small_b → backspace ≡ escape_of b
          a_backspace k = cc (rule, lt-ltb b small_f l)

          none_first : (b ≡ small_a → ⊥) → (b ≡ small_b → ⊥) → 0 ≡ escape_of b
          none_first k₁ k₂ = cc (rule, ne_eqb b backslash g, lt-ltb b small_f l, ne_eqb b small_a k₁, ne_eqb b small_b k₂)

        module _ (l : small_f ≤ b) where
          module _ (m : b < small_s) where
            a_feed : b ≡ small_f → form_feed ≡ escape_of b
            a_feed k = cc (rule, lt-ltb b small_s m)

            a_line : b ≡ small_n → newline ≡ escape_of b
            a_line k = cc (rule, lt-ltb b small_s m)

            a_return : b ≡ small_r → carriage_return ≡ escape_of b
            a_return k = cc (rule, lt-ltb b small_s m)

            none_second : (b ≡ small_f → ⊥) → (b ≡ small_n → ⊥) → (b ≡ small_r → ⊥) → 0 ≡ escape_of b
            none_second k₁ k₂ k₃ =
                cc (rule, ne_eqb b backslash g, le-ltb b small_f l, lt-ltb b small_s m, ne_eqb b small_f k₁, ne_eqb b small_n k₂, ne_eqb b small_r k₃)

          module _ (m : small_s ≤ b) where
            a_tab : b ≡ small_t → tab ≡ escape_of b
            a_tab k = cc rule

            a_vertical : b ≡ small_v → vertical_tab ≡ escape_of b
            a_vertical k = cc rule

            none_third : (b ≡ small_t → ⊥) → (b ≡ small_v → ⊥) → 0 ≡ escape_of b
            none_third k₁ k₂ = cc (rule, ne_eqb b backslash g, le-ltb b small_f l, le-ltb b small_s m, ne_eqb b small_t k₁, ne_eqb b small_v k₂)

ruleset ways = (quote, slanted, an_alert, a_backspace, none_first, a_feed, a_line, a_return, none_second, a_tab, a_vertical, none_third, rules)

pub returns-then-is_quote : goal.returns-then-is_quote
returns-then-is_quote c = search ways

pub returns-then-b-eq92 : goal.returns-then-b-eq92
returns-then-b-eq92 c = search ways

pub returns-in-97 : goal.returns-in-97
returns-in-97 c = search ways

pub returns-in-98 : goal.returns-in-98
returns-in-98 c = search ways

pub returns-in_default : goal.returns-in_default
returns-in_default c = search ways

pub returns-in-102 : goal.returns-in-102
returns-in-102 c = search ways

pub returns-in-110 : goal.returns-in-110
returns-in-110 c = search ways

pub returns-in-114 : goal.returns-in-114
returns-in-114 c = search ways

pub returns-in_default-b : goal.returns-in_default-b
returns-in_default-b c = search ways

pub returns-in-116 : goal.returns-in-116
returns-in-116 c = search ways

pub returns-in-118 : goal.returns-in-118
returns-in-118 c = search ways

pub returns-in_default-b-2 : goal.returns-in_default-b-2
returns-in_default-b-2 c = search ways
