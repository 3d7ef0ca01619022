-- What an answer of the token call tells whoever reads on from it. Assumes nothing.
use mathlib.Core.Path.{◌≡◌, refl, sym, ◌∙◌, ap}
use mathlib.Core.Bool.{Bool, true, false, cond}
use mathlib.Core.List.{List}
use Prim.Native.Nat.{ℕ, ◌<◌, ◌≤◌}
use native.Mathlib.Omega.{arith}
use borrow.Author.Tests.{le-leb}
use lib.ListN.{length}
use Rattle.lexer.specs.Cursor.{longest, start_cursor, walk, part, move_to, valid, Valid}
use Rattle.lexer.specs.Token.{Text, Lexeme, lexeme, refused, behind_layout, token_since, lexeme_since, read_lexeme, answered, not_valid, next_token, token_read, Answer}
use Rattle.lexer.specs.declared.refusal.Fault.{Fault}
use Rattle.lexer.specs.declared.cursor.Cursor.{Cursor}
use Rattle.lexer.specs.declared.token.Token.{Token}
use Rattle.lexer.specs.declared.token.Source.{Source}
use Rattle.lexer.proofs.Parts.{read_parts, refuse_parts}
use Rattle.lexer.proofs.Cursors.{is-valid, move_offset, move_valid, over-bytes}
use Rattle.lexer.proofs.Promises.{lexeme_ends}
use Rattle.lexer.specs.Refusal.{refuse}

-- the token t was read at the cursor c of the text s, and the cursor d stands behind it
pub record Promised (s : List ℕ) (c : Cursor) (t : Token) (d : Cursor) : Type 0 where
  pub from : Valid (length s) c
  pub layout : t.layout ≡ c.offset
  pub behind : c.offset ≤ t.start
  pub ahead : t.start < d.offset
  pub inside : d.offset ≤ length s
  pub further : c.offset < d.offset
  pub next : Valid (length s) d
  pub next_passes : valid (length s) d ≡ true
  pub walked : d ≡ walk c (part c.offset d.offset s)

-- what was read to answer so: the lexeme, which ends at `end`, where d stands
pub record LexemeRead (origin : Source) (s : List ℕ) (c : Cursor) (t : Token) (d : Cursor) : Type 0 where
  pub passes : valid (length s) c ≡ true
  pub end : ℕ
  pub text : Text
  pub reads : read_lexeme origin s c.offset ≡ lexeme t end text
  pub there : move_to s c end ≡ d

-- 02, request 8: where the layout before a token began
since_layout : (from : ℕ) (l : Lexeme) (t : Token) (e : ℕ) (x : Text) → lexeme_since from l ≡ lexeme t e x → t.layout ≡ from
unfolding lexeme_since
since_layout from (lexeme u d y) t e x f = let q : token_since from u ≡ t = cc in sym (ap (λ (v : Token). v.layout) q)
since_layout from (refused w) t e x f = let z : ◌≡◌ {A = ℕ} 0 1 = cc in absurd (omega arith)

-- the test of a cursor, from its facts
pub passes : (n : ℕ) (c : Cursor) → Valid n c → valid n c ≡ true
unfolding valid
passes n c v =
    cc (le-leb n longest v.short, le-leb c.offset n v.offset, le-leb c.line c.offset v.line, le-leb c.column c.offset v.column)

pub start_passes : (n : ℕ) → n ≤ longest → valid n start_cursor ≡ true
start_passes n h = passes n start_cursor (record { short = h; offset = omega arith; line = omega arith; column = omega arith })

module _ (origin : Source) (s : List ℕ) (c : Cursor) where
  answer : Bool → Lexeme → Answer
  answer b l = cond b (answered s c l) (refuse not_valid c)

  of-answer : (t : Token) (d : Cursor) (b : Bool) (l : Lexeme) → valid (length s) c ≡ b → read_lexeme origin s c.offset ≡ l → answer b l ≡ token_read t d → LexemeRead origin s c t d
  unfolding answer answered
  of-answer t d false l f g h = let z : ◌≡◌ {A = ℕ} 0 1 = cc in absurd (omega arith)
  of-answer t d true (refused w) f g h = let z : ◌≡◌ {A = ℕ} 0 1 = cc in absurd (omega arith)
  of-answer t d true (lexeme u e x) f g h = let p = read_parts h in record { passes = f; end = e; text = x; reads = cc (p.0); there = cc (p.1) }

  module _ (t : Token) (d : Cursor) (h : next_token origin s c ≡ token_read t d) where
    pub lexeme_read : LexemeRead origin s c t d
    unfolding answer
    lexeme_read = of-answer t d (valid (length s) c) (read_lexeme origin s c.offset) refl refl h

    pub read_promises : Promised s c t d
    read_promises =
        let r = lexeme_read in
        let e = r.end in
        let v = is-valid (length s) c r.passes in
        let p = lexeme_ends origin s c.offset t e r.text v.offset r.reads in
        let k : c.offset ≤ e = omega (arith, p.behind, p.ahead) in
        let o : e ≡ d.offset = sym (move_offset s c e k p.inside) ∙ ap (λ (y : Cursor). y.offset) r.there in
        let n : Valid (length s) d = rw r.there at (move_valid s c e k p.inside v) in
        record {
          from = v;
          layout = since_layout c.offset (behind_layout origin s c.offset) t e r.text r.reads;
          behind = p.behind;
          ahead = omega (arith, p.ahead, o);
          inside = n.offset;
          further = omega (arith, p.behind, p.ahead, o);
          next = n;
          next_passes = passes (length s) d n;
          walked = over-bytes s c d e r.there o;
        }

  of_refusal : (w : Fault) (d : Cursor) (b : Bool) (l : Lexeme) → answer b l ≡ refuse w d → d ≡ c
  unfolding answer answered
  of_refusal w d false l h = cc ((refuse_parts h).1)
  of_refusal w d true (refused v) h = cc ((refuse_parts h).1)
  of_refusal w d true (lexeme u e x) h = let z : ◌≡◌ {A = ℕ} 0 1 = cc in absurd (omega arith)

  pub refused-here : (w : Fault) (d : Cursor) → next_token origin s c ≡ refuse w d → d ≡ c
  unfolding answer
  refused-here w d h = of_refusal w d (valid (length s) c) (read_lexeme origin s c.offset) h
