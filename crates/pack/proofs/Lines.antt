-- The line that a clause's pack of form 2 says: two bytes hold it, and it is true where the cursor's own line is. Assumes nothing.
use Prim.Native.Nat.{ℕ, zero, suc, ◌+◌, ◌-◌, ◌≤◌}
use mathlib.Core.Path.{◌≡◌, refl, sym, ◌∙◌, ap, subst}
use mathlib.Core.Bool.{Bool, true, false, cond}
use mathlib.Core.List.{List, [], ◌∷◌, ◌++◌}
use native.Mathlib.Omega.{arith}
use lib.Dec.{eqb}
use lib.ListN.{length, take}
use lib.Seq.{take-add}
use Rattle.std.specs.List.{count_by}
use Rattle.std.proofs.lemmas.List.Recursion.{is_count_by}
use Rattle.lexer.specs.Chars.{newline}
use Rattle.lexer.specs.Cursor.{step, walk, part, move_to}
use Rattle.lexer.specs.Token.{Lexeme, lexeme, refused, read_lexeme}
use Rattle.lexer.specs.declared.cursor.Cursor.{Cursor}
use Rattle.lexer.specs.declared.token.Source.TheVariants.{File}
use Rattle.lexer.proofs.Theorems.{is-valid, lexeme_bounds, move_offset}
use Rattle.reader.specs.Token.{Token}
use Rattle.reader.specs.Tree.{Tree}
use Rattle.reader.specs.Clause.{most_tokens, token_in, is_end, whole, with, onward, gather, first_offset}
use Rattle.reader.proofs.Theorems.{tokens_apart, clause_starts}
use Rattle.pack.specs.Node.{most}
use Rattle.pack.specs.Image.{line}
use Rattle.pack.specs.ClauseCall.{ClauseAt, form_at, clause_form}
use Rattle.pack.specs.Walk.{Ahead}
use Rattle.pack.specs.declared.format.Form.TheVariants.{Two}
use Rattle.pack.specs.declared.format.Version.{Version}
use Rattle.pack.proofs.Basics.{part_length}

-- ---- how many of some bytes are newlines
pub newlines : List ℕ → ℕ
newlines [] = 0
newlines (x ∷ xs) = cond (eqb x newline) (newlines xs + 1) (newlines xs)

by_byte : (b : Bool) (l n : ℕ) → cond b (l + 1) l + n ≡ l + cond b (n + 1) n
by_byte true l n = omega arith
by_byte false l n = refl

at_most : (b : Bool) (n : ℕ) → cond b (n + 1) n ≤ n + 1
at_most true n = omega arith
at_most false n = omega arith

added : (b : Bool) (n k m : ℕ) → n ≡ k + m → cond b (n + 1) n ≡ cond b (k + 1) k + m
added true n k m h = omega arith
added false n k m h = h

pub newlines_few : (xs : List ℕ) → newlines xs ≤ length xs
unfolding newlines
newlines_few [] = omega arith
newlines_few (x ∷ xs) = let h = newlines_few xs in let k = at_most (eqb x newline) (newlines xs) in omega arith

newlines_append : (xs ys : List ℕ) → newlines (xs ++ ys) ≡ newlines xs + newlines ys
unfolding newlines
newlines_append [] ys = omega arith
newlines_append (x ∷ xs) ys = added (eqb x newline) (newlines (xs ++ ys)) (newlines xs) (newlines ys) (newlines_append xs ys)

walk-lines : (c : Cursor) (xs : List ℕ) → (walk c xs).line ≡ c.line + newlines xs
unfolding walk newlines
walk-lines c [] = omega arith
walk-lines c (x ∷ xs) = walk-lines (step c x) xs ∙ by_byte (eqb x newline) c.line (newlines xs)

-- the line at an offset is the cursor's, and the newlines from there
pub line_at : (s : List ℕ) (c : Cursor) (o : ℕ) → (move_to s c o).line ≡ c.line + newlines (part c.offset o s)
unfolding move_to
line_at s c o = walk-lines c (part c.offset o s)

-- ---- as the code counts them
either_way : (b : Bool) (n : ℕ) → cond b (n + 1) n ≡ cond b (1 + n) n
either_way true n = omega arith
either_way false n = refl

pub newlines_counted : (xs : List ℕ) → newlines xs ≡ count_by (λ (x : ℕ). eqb x newline) xs
unfolding newlines
newlines_counted = is_count_by newlines (λ (x : ℕ). eqb x newline) refl (λ x xs. either_way (eqb x newline) (newlines xs))

-- ---- two bytes hold it
line_before : (s : List ℕ) (c : Cursor) (o : ℕ) → Ahead s c o → (move_to s c o).line ≤ o
line_before s c o a =
    let x = part c.offset o s in
    let h : length x ≡ o - c.offset = part_length c.offset (o - c.offset) s (omega (arith, a.behind, a.inside)) in
    omega (arith, line_at s c o, newlines_few x, h, a.behind, a.line)

pub form_fits : (v : Version) (s : List ℕ) (c : Cursor) (o : ℕ) → Ahead s c o → line (form_at v s c o) ≤ most
unfolding form_at line
form_fits Version.One s c o a = omega arith
form_fits Version.Two s c o a = omega (arith, line_before s c o a, a.inside, a.short)

pub clause_ahead : (s : List ℕ) (c : Cursor) (ts : List Token) (e : Cursor) (t : Tree) → ClauseAt s c ts e t → Ahead s c (first_offset s c)
clause_ahead s c ts e t o =
    let v = is-valid (length s) c o.valid_cursor in
    let p = clause_starts s c ts e o.valid_cursor o.gathered in
    record { behind = p.0; inside = p.1; short = v.short; line = v.line }

-- ---- and it is true

-- the cursor's line is the count of the newlines before it
abbrev pub True : List ℕ → Cursor → Type 0
True s c = c.line ≡ newlines (take c.offset s)

module _ (s : List ℕ) (c : Cursor) (o : ℕ) (l : c.offset ≤ o) (h : True s c) where
  line-true : (move_to s c o).line ≡ newlines (take o s)
  line-true =
      let e : c.offset + (o - c.offset) ≡ o = omega arith in
      line_at s c o ∙ ap (λ (n : ℕ). n + newlines (part c.offset o s)) h
      ∙ sym (newlines_append (take c.offset s) (part c.offset o s))
      ∙ ap newlines (sym (take-add c.offset (o - c.offset) s))
      ∙ ap (λ (n : ℕ). newlines (take n s)) e

  move_true : o ≤ length s → True s (move_to s c o)
  move_true i = line-true ∙ ap (λ (n : ℕ). newlines (take n s)) (sym (move_offset s c o l i))

-- so is the cursor's behind tokens that were gathered
module _ (s : List ℕ) (c : Cursor) (n : ℕ) (ts : List Token) (e : Cursor) (i : c.offset ≤ length s) (h : True s c)
    (next : (d : Cursor) (us : List Token) → d.offset ≤ length s → True s d → gather n s d ≡ whole us e → True s e) where
  one_lexeme : (x : Lexeme) → read_lexeme File s c.offset ≡ x → onward s c x (λ d. gather n s d) ≡ whole ts e → True s e
  unfolding onward
  one_lexeme (refused w) q g = let z : ◌≡◌ {A = ℕ} 0 1 = cc in absurd (omega arith)
  one_lexeme (lexeme t k x) q g = let p = lexeme_bounds File s c.offset t k x i q in go (omega (arith, p.behind, p.ahead)) p.inside (is_end t.kind) g
    where
      go : c.offset ≤ k → k ≤ length s → (b : Bool) → cond b (whole (token_in s t k x ∷ []) (move_to s c k)) (with (token_in s t k x) (gather n s (move_to s c k))) ≡ whole ts e → True s e
      go u v true r = let z : move_to s c k ≡ e = cc in subst (True s) z (move_true s c k u h v)
      go u v false r =
          let a = tokens_apart (token_in s t k x) ts e (gather n s (move_to s c k)) r in
          next (move_to s c k) a.0 (omega (arith, move_offset s c k u v)) (move_true s c k u h v) a.2

gather-true : (n : ℕ) (s : List ℕ) (c : Cursor) (ts : List Token) (e : Cursor) → c.offset ≤ length s → True s c → gather n s c ≡ whole ts e → True s e
unfolding gather
gather-true zero s c ts e i h g = let z : ◌≡◌ {A = ℕ} 0 1 = cc in absurd (omega arith)
gather-true (suc n) s c ts e i h g = one_lexeme s c n ts e i h (λ d us j k r. gather-true n s d us e j k r) (read_lexeme File s c.offset) refl g

module _ (s : List ℕ) (c : Cursor) (ts : List Token) (e : Cursor) (t : Tree) (o : ClauseAt s c ts e t) (h : True s c) where
  pub clause_line : clause_form Version.Two s c ≡ Two (newlines (take (first_offset s c) s) + 1)
  unfolding form_at
  clause_line = ap (λ (n : ℕ). Two (n + 1)) (line-true s c (first_offset s c) (clause_ahead s c ts e t o).behind h)

  pub next-line : True s e
  next-line = gather-true most_tokens s c ts e (is-valid (length s) c o.valid_cursor).offset h o.gathered
