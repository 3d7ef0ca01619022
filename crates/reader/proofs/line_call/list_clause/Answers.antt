-- `reader::line_call::list_clause` meets its contract. Assumes nothing.
use Prim.Native.Nat.{ℕ}
use mathlib.Core.Path.{◌≡◌, subst}
use mathlib.Core.List.{List}
use native.Mathlib.Omega.{arith}
use borrow.Author.Rules.{rules}
use lib.ListN.{length}
use Rattle.lexer.specs.declared.cursor.Cursor.{Cursor}
use Rattle.reader.specs.Clause.{Outcome, invalid, token, no_mark, no_reading, no_room, read, ClauseAnswer}
use Rattle.reader.specs.LineCall as lined
use Rattle.reader.specs.LineCall.{LineOutcome, ReadTree, line_to, LineAnswer}
use Rattle.reader.proofs.TreeRoom.{few_numbers, read-front}
use Rattle.reader.proofs.line_call.list_clause.Goals as goal
use Rattle.reader.specs.declared.clause.ClauseRead.{ClauseRead}
use Rattle.lexer.specs.declared.refusal.Refused.{Refused}
use Rattle.std.specs.Prelude.{Ok, Err}

module _ (s : List ℕ) (c : Cursor) (tree : List ℕ) (n : length tree ≡ 2048) where
  module _ (d : List ℕ) where
    carry : (w w' : Refused) → ◌≡◌ {A = ClauseAnswer} (Err w) (Err w') → LineOutcome s c d (Err w) d → LineOutcome s c d (Err w') d
    carry w w' h o = let e : w ≡ w' = cc in subst (λ (x : Refused). LineOutcome s c d (Err x) d) e o

    -- refused as the clause call refuses; the tree has room
    refused : (w : Refused) (a : ClauseAnswer) (x : List ℕ) → Outcome s c tree a x → a ≡ Err w → LineOutcome s c d (Err w) d
    refused w a x (invalid v) h = carry _ w h (lined.invalid v)
    refused w a x (token v g) h = carry _ w h (lined.token v g)
    refused w a x (no_mark v g) h = carry _ w h (lined.no_mark v g)
    refused w a x (no_reading v g q f) h = carry _ w h (lined.no_reading v g q f)
    refused w a x (no_room {ts} {e} {t} v g q l) h =
        absurd (omega (arith, few_numbers s c ts e v g t q))
    refused w a x (read v g q m l) h = let z : ◌≡◌ {A = ℕ} 0 1 = cc in absurd (omega arith)

  read_tree : (a : ClauseAnswer) (x : List ℕ) (r : ClauseRead) → Outcome s c tree a x → a ≡ Ok r → ReadTree s c x r.nodes r.next
  read_tree a x r = read-front s c tree a x r.nodes r.next

ruleset ways = (refused, read_tree, rules)

pub returns-in_err-read : goal.returns-in_err-read
returns-in_err-read c = search ways

pub write_line-requires : goal.write_line-requires
write_line-requires c = read_tree c.args.text.now c.args.cursor _ (search ways) c.read_clause.result c.read_clause.new.tree c.in_ok-read.read c.read_clause.ensures (search ways)
