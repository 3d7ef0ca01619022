-- `lexer::quoted::escape_sequence_to_char` meets its contract. Assumes nothing.
use Prim.Native.Nat.{ℕ, ◌+◌, ◌<◌, ◌≤◌, min}
use mathlib.Core.Path.{◌≡◌}
use mathlib.Core.List.{List}
use native.Mathlib.Decide.{dec_le}
use native.Mathlib.Omega.{arith}
use borrow.Author.Rules.{rules}
use borrow.Author.Tests.{eq-eqb, ne_eqb, lt-leb}
use Rattle.lexer.specs.Chars.{backslash}
use Rattle.lexer.specs.Digits.{digits_at, held, beyond}
use Rattle.lexer.specs.Look.{lookahead}
use Rattle.lexer.specs.Quoted.{coded, closed, numeric_escape, QuotedItem}
use Rattle.lexer.specs.Refusal.{fault}
use Rattle.lexer.specs.Look.{Look}
use Rattle.std.specs.declared.result.Result.TheVariants.{Ok, Err}
use Rattle.lexer.specs.declared.digits.Digits.{Digits}
use Rattle.lexer.specs.declared.refusal.Fault.{Fault}
use Rattle.lexer.specs.declared.refusal.Refusal.TheVariants.{BadQuoted}
use Rattle.lexer.proofs.HandedOn.{handed_on}
use Rattle.lexer.proofs.Looks.{look_fits}
use Rattle.lexer.proofs.quoted.escape_sequence_to_char.Goals as goal

large : (m n next : ℕ) → 127 < m → 127 < n → coded m next ≡ coded n next
unfolding coded
large m n next h k =
    cc (ne_eqb m 0 (λ e. omega arith), ne_eqb n 0 (λ e. omega arith), lt-leb m 127 h, lt-leb n 127 k)

-- a value that is not counted further is out of limit anyway
coded-held : (v next : ℕ) → coded (min v beyond) next ≡ coded v next
coded-held v next = go (dec_le v 127)
  where
    go : Dec (v ≤ 127) → coded (min v beyond) next ≡ coded v next
    go (yes h) = let k : min v beyond ≡ v = omega arith in rw k
    go (no h) = large (min v beyond) v next (omega arith) (omega arith)

module _ (s : List ℕ) (at base token : ℕ) (d : Digits) (e : d ≡ held (digits_at base 0 s at)) (r : Look) (f : r ≡ lookahead s d.end) where
  refuse : (w : Fault) → r ≡ Err w → Err w ≡ numeric_escape base token s at
  unfolding closed
  refuse w g = cc

  module _ (b : ℕ) (i : QuotedItem) (g : r ≡ Ok b) where
    unclosed : (b ≡ backslash → ⊥) → i ≡ Err (fault BadQuoted token) → i ≡ numeric_escape base token s at
    unfolding closed
    unclosed h j = cc (ne_eqb b backslash h)

    module _ (h : b ≡ backslash) where
      empty : d.end ≡ at → i ≡ Err (fault BadQuoted token) → i ≡ numeric_escape base token s at
      unfolding closed
      empty k j = cc (eq-eqb d.end at k)

      code : (d.end ≡ at → ⊥) → i ≡ coded d.value (d.end + 1) → i ≡ numeric_escape base token s at
      unfolding closed
      code k j = cc (ne_eqb d.end at k, coded-held (digits_at base 0 s at).value (d.end + 1))

ruleset ways = (handed_on, refuse, unclosed, empty, code, look_fits, rules)

pub returns-in_err-lookahead_char : goal.returns-in_err-lookahead_char
returns-in_err-lookahead_char c = search (ways, c.in_err-lookahead_char.was)

pub returns-then-branch-ne92 : goal.returns-then-branch-ne92
returns-then-branch-ne92 c = search ways

pub returns-then-end-at : goal.returns-then-end-at
returns-then-end-at c = search ways

pub overflow_add-end : goal.overflow_add-end
overflow_add-end c = search ways

pub returns : goal.returns
returns c = search ways
