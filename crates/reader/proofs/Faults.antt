-- The last token that the machine took alive is the first that cannot stand, where a clause has no reading. Assumes nothing.
use Prim.Native.Nat.{ℕ, zero, suc, ◌+◌}
use mathlib.Core.Path.{◌≡◌, refl, ap, sym, ◌∙◌, subst}
use mathlib.Core.Bool.{Bool, true, false, cond, false≢true}
use mathlib.Core.List.{List, [], ◌∷◌, ◌++◌}
use native.Mathlib.Omega.{arith}
use Rattle.lexer.specs.Cursor.{move_to}
use Rattle.lexer.specs.Token.{Lexeme, lexeme, refused, read_lexeme}
use Rattle.lexer.specs.declared.cursor.Cursor.{Cursor}
use Rattle.lexer.specs.declared.token.Source.TheVariants.{File}
use Rattle.reader.specs.Token.{Kind, Name, Variable, String, Number, Open, OpenCT, Close, OpenList, CloseList, OpenCurly, CloseCurly, HeadTailSeparator, DoubleBar, Comma, End, Token, terminals}
use Rattle.reader.specs.Ops.{operators}
use Rattle.reader.specs.Tree.{Tree, packed}
use Rattle.reader.specs.Grammar.{Reads}
use Rattle.reader.specs.Fault.{FirstFault}
use Rattle.reader.specs.Machine as M
use Rattle.reader.specs.Machine.{State, dead, run, start, is_dead}
use Rattle.reader.specs.Clause.{most_tokens, Gathered, whole, with, onward, gather, clause_tokens, token_in, is_end}
use Rattle.reader.specs.Gather.{seen, latest_from}
use Rattle.reader.proofs.Spans.{tail}
use Rattle.reader.proofs.Table.{fair, operators-admitted}
use Rattle.reader.proofs.Viable.{dead_is, Dies, dies_there, a_death}

-- a machine that is dead takes no token alive
latest_dead : (i a : ℕ) (ts : List Token) → latest_from dead i a ts ≡ a
unfolding latest_from is_dead M.step
latest_dead i a [] = refl
latest_dead i a (t ∷ ts) = latest_dead (i + 1) a ts

-- alive behind `before` and dead behind t, it took t last
latest-at : (before : List Token) (t : Token) (after : List Token) (z : State) (i a : ℕ) → is_dead (run packed operators z (terminals i before)) ≡ false →
    is_dead (run packed operators z (terminals i (before ++ (t ∷ [])))) ≡ true → latest_from z i a (before ++ (t ∷ after)) ≡ t.start
unfolding latest_from run terminals
latest-at [] t after z i a l d =
    ap (λ (b : Bool). latest_from (M.step packed z i (seen t)) (i + 1) (cond b a t.start) after) l
    ∙ ap (λ (y : State). latest_from y (i + 1) t.start after) (dead_is (M.step packed z i (seen t)) d)
    ∙ latest_dead (i + 1) t.start after
latest-at (b ∷ before) t after z i a l d = latest-at before t after (M.step packed z i (seen b)) (i + 1) (cond (is_dead z) a b.start) l d

latest_dies : (ts : List Token) (t : Token) → Dies operators ts t → t.start ≡ latest_from start 0 0 ts
latest_dies ts t d = sym (ap (latest_from start 0 0) d.parts ∙ latest-at d.before t d.after start 0 0 d.lives d.dies)

-- ---- the tokens of a clause end with an end mark
is-end : (k : Kind) → is_end k ≡ true → k ≡ End
is-end Name h = absurd (false≢true h)
is-end Variable h = absurd (false≢true h)
is-end String h = absurd (false≢true h)
is-end Number h = absurd (false≢true h)
is-end Open h = absurd (false≢true h)
is-end OpenCT h = absurd (false≢true h)
is-end Close h = absurd (false≢true h)
is-end OpenList h = absurd (false≢true h)
is-end CloseList h = absurd (false≢true h)
is-end OpenCurly h = absurd (false≢true h)
is-end CloseCurly h = absurd (false≢true h)
is-end HeadTailSeparator h = absurd (false≢true h)
is-end DoubleBar h = absurd (false≢true h)
is-end Comma h = absurd (false≢true h)
is-end End h = refl

record Marked (ts : List Token) : Type 0 where
  front : List Token
  last : Token
  parts : ts ≡ front ++ (last ∷ [])
  mark : last.kind ≡ End

marked_on : (t : Token) (ts : List Token) → Marked ts → Marked (t ∷ ts)
marked_on t ts m = record { front = t ∷ m.front; last = m.last; parts = ap (λ (z : List Token). t ∷ z) m.parts; mark = m.mark }

marked_with : (t : Token) (ts : List Token) (e : Cursor) (y : Gathered) → ((us : List Token) (f : Cursor) → y ≡ whole us f → Marked us) → with t y ≡ whole ts e → Marked ts
marked_with t ts e y i k = let a = tail t ts e y k in subst (λ (z : List Token). Marked z) (sym a.1) (marked_on t a.0 (i a.0 e a.2))

gathered_marked : (n : ℕ) (s : List ℕ) (c : Cursor) (ts : List Token) (e : Cursor) → gather n s c ≡ whole ts e → Marked ts
unfolding gather onward
gathered_marked zero s c ts e g = let z : ◌≡◌ {A = ℕ} 0 1 = cc in absurd (omega arith)
gathered_marked (suc n) s c ts e g = go (read_lexeme File s c.offset) g (λ d us f h. gathered_marked n s d us f h)
  where
    pick : (t : Token) (d : Cursor) (b : Bool) → is_end t.kind ≡ b → ((us : List Token) (f : Cursor) → gather n s d ≡ whole us f → Marked us) → cond b (whole (t ∷ []) d) (with t (gather n s d)) ≡ whole ts e → Marked ts
    pick t d true h i k = let q : t ∷ [] ≡ ts = cc in subst (λ (z : List Token). Marked z) q (record { front = []; last = t; parts = refl; mark = is-end t.kind h })
    pick t d false h i k = marked_with t ts e (gather n s d) i k

    go : (x : Lexeme) → onward s c x (λ d. gather n s d) ≡ whole ts e → ((d : Cursor) (us : List Token) (f : Cursor) → gather n s d ≡ whole us f → Marked us) → Marked ts
    go (refused w) h i = let z : ◌≡◌ {A = ℕ} 0 1 = cc in absurd (omega arith)
    go (lexeme t k x) h i = pick (token_in s t k x) (move_to s c k) (is_end t.kind) refl (i (move_to s c k)) h

-- ---- so where they have no reading, the machine took the first that cannot stand last
module _ (s : List ℕ) (c : Cursor) (ts : List Token) (e : Cursor) (g : clause_tokens s c ≡ whole ts e) where
  abbrev Found : List Token → Type 0
  Found us = (t : Token) × FirstFault operators us t × (t.start ≡ latest_from start 0 0 us)

  pub first_fault : ((t : Tree) → Reads operators ts t → ⊥) → Found ts
  first_fault n =
      let m = gathered_marked most_tokens s c ts e g in
      let us = m.front ++ (m.last ∷ []) in
      let d = a_death operators (fair operators operators-admitted) m.front m.last m.mark (λ u r. n u (subst (λ (z : List Token). Reads operators z u) (sym m.parts) r)) in
      subst Found (sym m.parts) (d.0, dies_there operators (fair operators operators-admitted) us d.0 d.1, latest_dies us d.0 d.1)
