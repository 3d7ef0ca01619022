-- `lexer::cursor::is_valid` meets its contract. Assumes nothing.
use Prim.Native.Nat.{ℕ, ◌<◌, ◌≤◌}
use mathlib.Core.Path.{◌≡◌}
use mathlib.Core.Bool.{false}
use lib.Dec.{leb}
use borrow.Author.Tests.{le-leb, lt-leb}
use borrow.Author.Rules.{rules}
use Rattle.lexer.specs.Cursor.{valid, longest}
use Rattle.lexer.specs.declared.cursor.Cursor.{Cursor}
use Rattle.lexer.proofs.cursor.is_valid.Goals as goal

module _ (n : ℕ) (c : Cursor) where
  too-long : longest < n → false ≡ valid n c
  unfolding valid
  too-long h = cc (lt-leb n longest h)

  module _ (h : n ≤ longest) where
    outside : n < c.offset → false ≡ valid n c
    unfolding valid
    outside k = cc (le-leb n longest h, lt-leb c.offset n k)

    module _ (k : c.offset ≤ n) where
      line : c.offset < c.line → false ≡ valid n c
      unfolding valid
      line l = cc (le-leb n longest h, le-leb c.offset n k, lt-leb c.line c.offset l)

      column : c.line ≤ c.offset → leb c.column c.offset ≡ valid n c
      unfolding valid
      column l = cc (le-leb n longest h, le-leb c.offset n k, le-leb c.line c.offset l)

ruleset ways = (too-long, outside, line, column, rules)

pub returns-then-n-gt-LONGEST : goal.returns-then-n-gt-LONGEST
returns-then-n-gt-LONGEST c = search ways

pub returns-then-n-c : goal.returns-then-n-c
returns-then-n-c c = search ways

pub returns-then-c : goal.returns-then-c
returns-then-c c = search ways

pub returns : goal.returns
returns c = search ways
