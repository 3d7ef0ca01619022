-- `pack::clause_call::line_at` meets its contract. Assumes nothing.
use Rattle.std.proofs.Common.{rules, arith, ◌≡◌, ◌+◌, ◌-◌, ℕ, List, count_by, nat_eq}
use Rattle.lexer.specs.Chars.{newline}
use Rattle.lexer.specs.Cursor.{part}
use Rattle.lexer.specs.declared.cursor.Cursor.{Cursor}
use Rattle.pack.specs.Walk.{Ahead, LineAt}
use Rattle.pack.proofs.Basics.{part_length}
use Rattle.pack.proofs.Lines.{newlines_few, newlines_counted, line_at}
use Rattle.pack.proofs.clause_call.line_at.Goals as goal

counted : (s : List ℕ) (c : Cursor) (o n : ℕ) → Ahead s c o → n ≡ count_by (λ (x : ℕ). nat_eq x newline) (part c.offset o s) → LineAt s c o (c.line + n)
counted s c o n a e =
    let k = newlines_counted (part c.offset o s) in
    let f = newlines_few (part c.offset o s) in
    let l = part_length c.offset (o - c.offset) s (omega (arith, a.behind, a.inside)) in
    record { same = omega (arith, line_at s c o, k, e); before = omega (arith, k, e, f, l, a.behind, a.line) }

ruleset ways = (counted, rules)

pub returns : goal.returns
returns c = search ways
