-- The run over the tokens comes to what the tokens that were gathered come to. Assumes nothing.
use Prim.Native.Nat.{ℕ, zero, suc, ◌+◌, ◌≤◌}
use native.Mathlib.Omega.{arith}
use mathlib.Core.Path.{◌≡◌, refl, ◌∙◌, ap}
use mathlib.Core.Bool.{Bool, true, false, cond}
use mathlib.Core.List.{List, [], ◌∷◌}
use lib.ListN.{length}
use Rattle.lexer.specs.Cursor.{move_to, valid}
use Rattle.lexer.specs.Token.{Lexeme, lexeme, refused, read_lexeme}
use Rattle.lexer.specs.declared.cursor.Cursor.{Cursor}
use Rattle.lexer.specs.declared.token.Source.TheVariants.{File}
use Rattle.reader.specs.Token.{Token, terminals}
use Rattle.reader.specs.Ops.{operators}
use Rattle.reader.specs.Tree.{packed}
use Rattle.reader.specs.Machine as M
use Rattle.reader.specs.Machine.{State, dead, run, start}
use Rattle.reader.specs.Weight.{weight}
use Rattle.reader.specs.Clause.{most_tokens, token_in, is_end, Gathered, whole, stopped, too_many, with, onward, gather}
use Rattle.reader.specs.Gather.{seen, Result, finished, halted, paused, latest, latest_from, run_on, clause_run, by_tokens, by_result}
use Rattle.reader.proofs.Size.{step-size}
use Rattle.reader.proofs.Turns.{next-valid}

-- where a run pauses says nothing of what the call answers
abbrev anywhere : Result
anywhere = paused 0 dead (record { offset = 0; line = 0; column = 0 })

forget : Result → Result
forget (finished a z d) = finished a z d
forget (halted w) = halted w
forget (paused a z d) = anywhere

-- the machine from z on, over the tokens from the index i on, where it took the token at a alive last
result_by : ℕ → ℕ → State → Gathered → Result
result_by a i z (whole ts d) = finished (latest_from z i a ts) (run packed operators z (terminals i ts)) d
result_by a i z (stopped w) = halted w
result_by a i z too_many = anywhere

with-result : (a i : ℕ) (z : State) (t : Token) (g : Gathered) → result_by (latest z a t.start) (i + 1) (M.step packed z i (seen t)) g ≡ result_by a i z (with t g)
unfolding result_by with run terminals latest_from
with-result a i z t (whole ts d) = refl
with-result a i z t (stopped w) = refl
with-result a i z t too_many = refl

-- one turn
module _ (n i a : ℕ) (z : State) (s : List ℕ) (c : Cursor) (next : (b : ℕ) (y : State) (d : Cursor) → forget (clause_run n (i + 1) b y s d) ≡ result_by b (i + 1) y (gather n s d)) where
  one_token : (t : Token) (d : Cursor) (b : Bool)
      → forget (cond b (finished (latest z a t.start) (M.step packed z i (seen t)) d) (clause_run n (i + 1) (latest z a t.start) (M.step packed z i (seen t)) s d))
      ≡ result_by a i z (cond b (whole (t ∷ []) d) (with t (gather n s d)))
  unfolding forget result_by run terminals latest_from
  one_token t d true = refl
  one_token t d false = next (latest z a t.start) (M.step packed z i (seen t)) d ∙ with-result a i z t (gather n s d)

  one_lexeme : (x : Lexeme) → forget (run_on s c i a z x (λ b y d. clause_run n (i + 1) b y s d)) ≡ result_by a i z (onward s c x (λ d. gather n s d))
  unfolding forget run_on onward result_by
  one_lexeme (refused w) = refl
  one_lexeme (lexeme t e x) = one_token (token_in s t e x) (move_to s c e) (is_end t.kind)

run-gather : (n i a : ℕ) (z : State) (s : List ℕ) (c : Cursor) → forget (clause_run n i a z s c) ≡ result_by a i z (gather n s c)
unfolding clause_run gather result_by forget
run-gather zero i a z s c = refl
run-gather (suc n) i a z s c = one_lexeme n i a z s c (λ b y d. run-gather n (i + 1) b y s d) (read_lexeme File s c.offset)

pub same_outcome : (s : List ℕ) (c : Cursor) (d : List ℕ) → by_result d (clause_run most_tokens 0 0 start s c) ≡ by_tokens d (gather most_tokens s c)
unfolding by_result by_tokens result_by forget
same_outcome s c d = forgot (clause_run most_tokens 0 0 start s c) ∙ ap (by_result d) (run-gather most_tokens 0 0 start s c) ∙ go (gather most_tokens s c)
  where
    forgot : (r : Result) → by_result d r ≡ by_result d (forget r)
    forgot (finished a z e) = refl
    forgot (halted w) = refl
    forgot (paused a z e) = refl

    go : (g : Gathered) → by_result d (result_by 0 0 start g) ≡ by_tokens d g
    go (whole ts e) = refl
    go (stopped w) = refl
    go too_many = refl

-- the machine behind a clause's tokens takes no more words than they allow
weight_in : Result → ℕ
weight_in (finished f z d) = weight z
weight_in (halted w) = 0
weight_in (paused f z d) = weight z

module _ (n i f : ℕ) (z : State) (s : List ℕ) (c : Cursor) (next : (g : ℕ) (y : State) (d : Cursor) → weight_in (clause_run n (i + 1) g y s d) ≤ weight y + n) where
  token_light : (g : ℕ) (t : Token) (d : Cursor) (b : Bool)
      → weight_in (cond b (finished g (M.step packed z i (seen t)) d) (clause_run n (i + 1) g (M.step packed z i (seen t)) s d)) ≤ weight z + suc n
  unfolding weight_in
  token_light g t d true = omega (arith, step-size packed z i (seen t))
  token_light g t d false = omega (arith, step-size packed z i (seen t), next g (M.step packed z i (seen t)) d)

  one_light : (x : Lexeme) → weight_in (run_on s c i f z x (λ g y d. clause_run n (i + 1) g y s d)) ≤ weight z + suc n
  unfolding run_on weight_in
  one_light (refused w) = omega arith
  one_light (lexeme t e x) = token_light (latest z f t.start) (token_in s t e x) (move_to s c e) (is_end t.kind)

light : (n i f : ℕ) (z : State) (s : List ℕ) (c : Cursor) → weight_in (clause_run n i f z s c) ≤ weight z + n
unfolding clause_run weight_in
light zero i f z s c = omega arith
light (suc n) i f z s c = one_light n i f z s c (λ g y d. light n (i + 1) g y s d) (read_lexeme File s c.offset)

module _ (n i f g : ℕ) (z y : State) (s : List ℕ) (c d : Cursor) where
  pub finished_light : clause_run n i f z s c ≡ finished g y d → weight y ≤ weight z + n
  unfolding weight_in
  finished_light e = rw e at (light n i f z s c)

  pub paused_light : clause_run n i f z s c ≡ paused g y d → weight y ≤ weight z + n
  unfolding weight_in
  paused_light e = rw e at (light n i f z s c)

-- a run that pauses stands at a valid cursor
valid_in : List ℕ → Result → Bool
valid_in s (finished f z d) = true
valid_in s (halted w) = true
valid_in s (paused f z d) = valid (length s) d

run-valid : (n i f : ℕ) (z : State) (s : List ℕ) (c : Cursor) → valid (length s) c ≡ true → valid_in s (clause_run n i f z s c) ≡ true
unfolding clause_run run_on valid_in
run-valid zero i f z s c v = v
run-valid (suc n) i f z s c v = go (read_lexeme File s c.offset) refl (λ g y d. run-valid n (i + 1) g y s d)
  where
    pick : (g : ℕ) (y : State) (d : Cursor) (b : Bool) → valid_in s (clause_run n (i + 1) g y s d) ≡ true → valid_in s (cond b (finished g y d) (clause_run n (i + 1) g y s d)) ≡ true
    pick g y d true h = refl
    pick g y d false h = h

    go : (x : Lexeme) → read_lexeme File s c.offset ≡ x → ((g : ℕ) (y : State) (d : Cursor) → valid (length s) d ≡ true → valid_in s (clause_run n (i + 1) g y s d) ≡ true)
        → valid_in s (run_on s c i f z x (λ g y d. clause_run n (i + 1) g y s d)) ≡ true
    go (refused w) q next = refl
    go (lexeme t e x) q next =
        pick (latest z f t.start) (M.step packed z i (seen (token_in s t e x))) (move_to s c e) (is_end t.kind)
        (next (latest z f t.start) (M.step packed z i (seen (token_in s t e x))) (move_to s c e) (next-valid s c v t (move_to s c e) e x q refl))

pub paused_valid : (n i f g : ℕ) (z y : State) (s : List ℕ) (c d : Cursor) → valid (length s) c ≡ true → clause_run n i f z s c ≡ paused g y d → valid (length s) d ≡ true
unfolding valid_in
paused_valid n i f g z y s c d v e = rw e at (run-valid n i f z s c v)

-- a run of n tokens, and k more where it pauses
unfoldable pub go_on : ℕ → ℕ → List ℕ → Result → Result
go_on k j s (finished f z d) = finished f z d
go_on k j s (halted w) = halted w
go_on k j s (paused f z d) = clause_run k j f z s d

pub in_two : (n k t i j f : ℕ) (z : State) (s : List ℕ) (c : Cursor) → n + k ≡ t → i + n ≡ j → clause_run t i f z s c ≡ go_on k j s (clause_run n i f z s c)
unfolding clause_run run_on go_on
in_two zero k t i j f z s c g h =
    let d : i ≡ j = omega arith in
    let e : t ≡ k = omega arith in
    rw (d, e)
in_two (suc n) k zero i j f z s c g h = absurd (omega arith)
in_two (suc n) k (suc t) i j f z s c g h = go (read_lexeme File s c.offset) (λ o y d. in_two n k t (i + 1) j o y s d (omega arith) (omega arith))
  where
    pick : (o : ℕ) (y : State) (d : Cursor) (b : Bool) → clause_run t (i + 1) o y s d ≡ go_on k j s (clause_run n (i + 1) o y s d)
        → cond b (finished o y d) (clause_run t (i + 1) o y s d) ≡ go_on k j s (cond b (finished o y d) (clause_run n (i + 1) o y s d))
    pick o y d true e = refl
    pick o y d false e = e

    go : (x : Lexeme) → ((o : ℕ) (y : State) (d : Cursor) → clause_run t (i + 1) o y s d ≡ go_on k j s (clause_run n (i + 1) o y s d))
        → run_on s c i f z x (λ o y d. clause_run t (i + 1) o y s d) ≡ go_on k j s (run_on s c i f z x (λ o y d. clause_run n (i + 1) o y s d))
    go (refused w) next = refl
    go (lexeme u e x) next =
        pick (latest z f u.start) (M.step packed z i (seen (token_in s u e x))) (move_to s c e) (is_end u.kind) (next (latest z f u.start) (M.step packed z i (seen (token_in s u e x))) (move_to s c e))
