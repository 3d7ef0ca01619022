-- `lexer::quoted::escape_sequence` meets its contract. Assumes nothing.
use Prim.Native.Nat.{ℕ, ◌+◌, ◌<◌, ◌≤◌}
use mathlib.Core.Path.{◌≡◌}
use mathlib.Core.List.{List}
use borrow.Author.Rules.{rules}
use borrow.Author.Tests.{ne_eqb, lt-ltb, le-ltb}
use Rattle.lexer.specs.Chars.{newline, small_x}
use Rattle.lexer.specs.Digits.{digit_of}
use Rattle.lexer.specs.Look.{lookahead}
use Rattle.lexer.specs.Quoted.{escape_of, numeric_escape, escape_to, escape, QuotedItem}
use Rattle.lexer.specs.Refusal.{fault}
use Rattle.lexer.specs.Look.{Look}
use Rattle.std.specs.declared.result.Result.TheVariants.{Ok, Err}
use Rattle.lexer.specs.declared.quoted.Item.TheVariants.{Char, Skip}
use Rattle.lexer.specs.declared.refusal.Fault.{Fault}
use Rattle.lexer.specs.declared.refusal.Refusal.TheVariants.{BadQuoted}
use Rattle.lexer.proofs.HandedOn.{handed_on}
use Rattle.lexer.proofs.Looks.{look_fits}
use Rattle.lexer.proofs.quoted.escape_sequence.Goals as goal

module _ (s : List ℕ) (at token : ℕ) (r : Look) (e : r ≡ lookahead s at) where
  refuse : (w : Fault) → r ≡ Err w → Err w ≡ escape token s at
  unfolding escape_to
  refuse w f = cc

  module _ (b : ℕ) (f : r ≡ Ok b) where
    continuation : b ≡ newline → Ok (Skip (at + 1)) ≡ escape token s at
    unfolding escape_to
    continuation g = cc

    module _ (d : ℕ) (g : b ≡ newline → ⊥) (h : d ≡ digit_of b) where
      octal : (i : QuotedItem) → d < 8 → i ≡ numeric_escape 8 token s at → i ≡ escape token s at
      unfolding escape_to
      octal i k m = cc (ne_eqb b newline g, lt-ltb d 8 k)

      module _ (k : 8 ≤ d) where
        hexadecimal : (i : QuotedItem) → b ≡ small_x → i ≡ numeric_escape 16 token s (at + 1) → i ≡ escape token s at
        unfolding escape_to
        hexadecimal i l m = cc (le-ltb d 8 k)

        module _ (x : ℕ) (l : b ≡ small_x → ⊥) (m : x ≡ escape_of b) where
          none : (i : QuotedItem) → x ≡ 0 → i ≡ Err (fault BadQuoted token) → i ≡ escape token s at
          unfolding escape_to
          none i o j = cc (ne_eqb b newline g, le-ltb d 8 k, ne_eqb b small_x l)

          char : (x ≡ 0 → ⊥) → Ok (Char x (at + 1)) ≡ escape token s at
          unfolding escape_to
          char o = cc (ne_eqb b newline g, le-ltb d 8 k, ne_eqb b small_x l, ne_eqb x 0 o)

ruleset ways = (handed_on, refuse, continuation, octal, hexadecimal, none, char, look_fits, rules)

pub returns-in_err-b : goal.returns-in_err-b
returns-in_err-b c = search (ways, c.in_err-b.was)

pub overflow_add-result : goal.overflow_add-result
overflow_add-result c = search ways

pub returns-then-b-eq10 : goal.returns-then-b-eq10
returns-then-b-eq10 c = search ways

pub returns-then-digit-lt8 : goal.returns-then-digit-lt8
returns-then-digit-lt8 c = search (ways, c.in_ok-b.was)

pub overflow_add-at : goal.overflow_add-at
overflow_add-at c = search ways

pub returns-then-b-eq120 : goal.returns-then-b-eq120
returns-then-b-eq120 c = search (ways, c.in_ok-b.was)

pub returns-then-code-eq0 : goal.returns-then-code-eq0
returns-then-code-eq0 c = search (ways, c.in_ok-b.was)

pub overflow_add-result-2 : goal.overflow_add-result-2
overflow_add-result-2 c = search ways

pub returns : goal.returns
returns c = search (ways, c.in_ok-b.was)
