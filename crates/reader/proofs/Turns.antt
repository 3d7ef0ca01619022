-- One token put to the machine, and the tokens of a clause: what the lexer promises of each, and room for the machine's words. Assumes nothing.
use Prim.Native.Nat.{ℕ, zero, suc, ◌+◌, ◌<◌, ◌≤◌}
use mathlib.Core.Path.{◌≡◌, refl, sym, ◌∙◌, ap}
use mathlib.Core.Bool.{true, false}
use mathlib.Core.List.{List}
use native.Mathlib.Omega.{arith}
use lib.ListN.{length}
use Rattle.lexer.specs.Cursor.{valid, move_to}
use Rattle.lexer.specs.Token.{Text, Lexeme, lexeme, refused, read_lexeme, answered, next_token}
use Rattle.lexer.specs.declared.token.Source.TheVariants.{File}
use Rattle.lexer.specs.declared.cursor.Cursor.{Cursor}
use Rattle.lexer.specs.declared.refusal.Fault.{Fault}
use Rattle.lexer.specs.declared.token.Token as lexer
use Rattle.lexer.specs.Token.{token_read}
use Rattle.lexer.proofs.Theorems.{token_promises, refuse_parts}
use Rattle.reader.specs.Token.{Token}
use Rattle.reader.specs.Tree.{packed}
use Rattle.reader.specs.Machine as M
use Rattle.reader.specs.Machine.{State, none_left}
use Rattle.reader.specs.Weight.{sizes, weight}
use Rattle.reader.specs.Layout.{frames_of, out_of, state_of, stop_takes, takes, most, Held, Ready}
use Rattle.reader.specs.Clause.{token_in, is_end}
use Rattle.reader.specs.Gather.{seen, sight_from, finished, halted, latest, run_on, clause_run}
use Rattle.reader.specs.declared.machine.Mode.{Mode}
use Rattle.reader.specs.declared.machine.Mode.TheVariants.{Want, Pend, Begun, Have, Dead, Done}
use Rattle.reader.specs.declared.machine.Sight as code
use Rattle.reader.specs.declared.machine.Stop as codeStop
use Rattle.reader.proofs.Sights.{Known, token-known}
use Rattle.reader.proofs.Size.{count_low, numbered}
use Rattle.lexer.specs.Refusal.{refuse}

-- ---- what the token call tells

module _ (s : List ℕ) (c : Cursor) (v : valid (length s) c ≡ true) where
  pub answered_there : next_token File s c ≡ answered s c (read_lexeme File s c.offset)
  answered_there = rw v

  pub told-refused : (w : Fault) (k : Cursor) → next_token File s c ≡ refuse w k → read_lexeme File s c.offset ≡ refused w
  unfolding answered
  told-refused w k e = go (read_lexeme File s c.offset) refl (sym answered_there ∙ e)
    where
      go : (x : Lexeme) → read_lexeme File s c.offset ≡ x → answered s c x ≡ refuse w k → read_lexeme File s c.offset ≡ refused w
      go (refused u) q f = cc ((refuse_parts f).0)
      go (lexeme u n y) q f = let z : ◌≡◌ {A = ℕ} 0 1 = cc in absurd (omega arith)

  -- the next cursor is valid
  pub next-valid : (t : lexer.Token) (d : Cursor) (e : ℕ) (x : Text) → read_lexeme File s c.offset ≡ lexeme t e x → d ≡ move_to s c e → valid (length s) d ≡ true
  unfolding answered
  next-valid t d e x r m = (token_promises s c File t d (answered_there ∙ ap (answered s c) r ∙ ap (token_read t) (sym m))).next_passes

-- ---- room
pub length_frames : (st : List ℕ) (d : ℕ) → length (frames_of st d) ≡ d
unfolding frames_of
length_frames st zero = refl
length_frames st (suc d) = ap suc (length_frames st d)

pub length_out : (ns : List ℕ) (n : ℕ) → length (out_of ns n) ≡ n
unfolding out_of
length_out ns zero = refl
length_out ns (suc n) = ap suc (length_out ns n)

module _ (st ns : List ℕ) (b : ℕ) (f : b ≤ length st) (g : b ≤ length ns) (l : 0 < b) where
  held : (d n k : ℕ) → sizes (frames_of st d) ≤ most → sizes (frames_of st d) + length (out_of ns n) + k ≤ b → Held st ns d n k
  held d n k u h =
      let a = length_frames st d in
      let o = length_out ns n in
      let c = count_low (frames_of st d) in
      record {
        room = record { frames = omega arith; nodes = omega arith };
        places = numbered most (frames_of st d) (omega arith);
      }

  empty : (k : ℕ) → k ≤ 1 → Held st ns 0 0 k
  unfolding frames_of
  empty k h = record { room = record { frames = omega arith; nodes = omega arith }; places = none_left }

  -- what a state takes and k words more fit
  pub ready : (m : Mode) (k : code.Sight) → takes k ≤ 1 → weight (state_of m st ns) ≤ most → weight (state_of m st ns) + takes k ≤ b → Ready m k st ns
  unfolding weight state_of
  ready (Want p) k h u w = held p.depth p.count (takes k + 0) (omega arith) (omega arith)
  ready (Pend p q) k h u w = held p.depth p.count (takes k + 1) (omega arith) (omega arith)
  ready (Begun p x i) k h u w = held p.depth p.count (takes k + 1) (omega arith) (omega arith)
  ready (Have p) k h u w = held p.depth p.count (takes k + 0) (omega arith) (omega arith)
  ready Dead k h u w = empty (takes k + 0) (omega arith)
  ready (Done n) k h u w = empty (takes k + 0) (omega arith)

stop-takes : (x : codeStop.Stop) → stop_takes x ≤ 1
unfolding stop_takes
stop-takes codeStop.Stop.Close = omega arith
stop-takes codeStop.Stop.CloseList = omega arith
stop-takes codeStop.Stop.CloseCurly = omega arith
stop-takes codeStop.Stop.Bar = omega arith
stop-takes codeStop.Stop.DoubleBar = omega arith
stop-takes codeStop.Stop.Comma = omega arith
stop-takes codeStop.Stop.EndMark = omega arith

pub takes_one : (k : code.Sight) → takes k ≤ 1
unfolding takes
takes_one (code.Sight.Name e r) = omega arith
takes_one (code.Sight.Number s low) = omega arith
takes_one code.Sight.VarOrString = omega arith
takes_one (code.Sight.Round ct) = omega arith
takes_one code.Sight.Square = omega arith
takes_one code.Sight.Brace = omega arith
takes_one (code.Sight.Stop x) = stop-takes x

-- ---- the run, by the token that was read
module _ (s : List ℕ) (c : Cursor) (n i f : ℕ) (z : State) where
  pub run-stop : (w : Fault) → read_lexeme File s c.offset ≡ refused w → clause_run (suc n) i f z s c ≡ halted w
  unfolding clause_run run_on
  run-stop w e = ap (λ (x : Lexeme). run_on s c i f z x (λ g y k. clause_run n (i + 1) g y s k)) e

  module _ (t : lexer.Token) (d : Cursor) (p : Known s c t d) where
    by_lexeme : clause_run (suc n) i f z s c ≡ run_on s c i f z (lexeme t d.offset p.text) (λ g y k. clause_run n (i + 1) g y s k)
    unfolding clause_run
    by_lexeme = ap (λ (x : Lexeme). run_on s c i f z x (λ g y k. clause_run n (i + 1) g y s k)) p.reads

    -- the machine behind the token
    stepped : M.step packed z i (seen (token_in s t d.offset p.text)) ≡ M.step packed z i (sight_from s c)
    stepped = ap (λ (x : Token). M.step packed z i (seen x)) (sym (token-known s c t d p))

    pub run_last : is_end t.kind ≡ true → clause_run (suc n) i f z s c ≡ finished (latest z f t.start) (M.step packed z i (sight_from s c)) d
    unfolding run_on
    run_last h =
        by_lexeme
        ∙ rw h (ap (λ (y : State). finished (latest z f t.start) y (move_to s c d.offset)) stepped ∙ ap (finished (latest z f t.start) (M.step packed z i (sight_from s c))) (sym p.next))

    pub run_more : is_end t.kind ≡ false → clause_run (suc n) i f z s c ≡ clause_run n (i + 1) (latest z f t.start) (M.step packed z i (sight_from s c)) s d
    unfolding run_on
    run_more h =
        by_lexeme
        ∙ rw h (ap (λ (y : State). clause_run n (i + 1) (latest z f t.start) y s (move_to s c d.offset)) stepped ∙ ap (clause_run n (i + 1) (latest z f t.start) (M.step packed z i (sight_from s c)) s) (sym p.next))
