-- `reader::clause::take_tokens` meets its contract. The invariant: the run over the tokens from the start comes to what it comes to from here.
-- Assumes nothing.
use Prim.Native.Nat.{ℕ, suc, ◌+◌, ◌-◌, ◌<◌, ◌≤◌}
use mathlib.Core.Path.{◌≡◌, refl, sym, ◌∙◌, ap}
use mathlib.Core.Bool.{Bool, true, false, cond}
use mathlib.Core.List.{List}
use native.Mathlib.Omega.{arith}
use lib.ListN.{length}
use Rattle.lexer.specs.Token.{next_token, Answer}
use Rattle.lexer.specs.declared.token.Source.TheVariants.{File}
use Rattle.lexer.specs.declared.cursor.Cursor.{Cursor}
use Rattle.lexer.specs.declared.token.Token as lexer
use Rattle.reader.specs.Tree.{packed}
use Rattle.reader.specs.Machine as M
use Rattle.reader.specs.Machine.{is_dead}
use Rattle.reader.specs.Layout.{state_of, sight_of, Ready}
use Rattle.reader.specs.Clause.{is_end}
use Rattle.reader.specs.Gather.{sight_from, ReadFrom, latest, dead_mode, clause_run, taken_as, result_of, Taking}
use Rattle.reader.specs.declared.machine.Mode.{Mode}
use Rattle.reader.specs.declared.machine.Mode.TheVariants.{Want, Pend, Begun, Have, Dead, Done}
use Rattle.reader.specs.declared.machine.Sight.{Sight}
use Rattle.std.specs.Prelude.{Ok, Err}
use Rattle.reader.proofs.Sights.{known}
use Rattle.reader.proofs.Size.{step-size}
use Rattle.reader.proofs.Turns.{told-refused, next-valid, ready, takes_one, run-stop, run_last, run_more}
use Rattle.reader.proofs.clause.take_tokens.Given as goal
use Rattle.lexer.specs.declared.token.TokenRead.{TokenRead}
use Rattle.lexer.specs.declared.refusal.Refused.{Refused}
use Rattle.std.specs.declared.result.Result.TheVariants.{Ok, Err}

pub record Inv (s : List ℕ) (c₀ : Cursor) (from to f₀ : ℕ) (m₀ : Mode) (st₀ ns₀ : List ℕ) (c : Cursor) (i f : ℕ) (m : Mode) (st ns : List ℕ) : Type 0 where
  pub same : clause_run (to - from) from f₀ (state_of m₀ st₀ ns₀) s c₀ ≡ clause_run (to - i) i f (state_of m st ns) s c
  pub taking : Taking s c i to m st ns
  pub frames : length st ≡ length st₀
  pub nodes : length ns ≡ length ns₀

pub started : (s : List ℕ) (c : Cursor) (from to f : ℕ) (m : Mode) (st ns : List ℕ) → Taking s c from to m st ns → Inv s c from to f m st ns c from f m st ns
started s c from to f m st ns w = record { same = refl; taking = w; frames = refl; nodes = refl }

pub dead-mode : (m : Mode) (st ns : List ℕ) → dead_mode m ≡ is_dead (state_of m st ns)
unfolding is_dead state_of
dead-mode (Want p) st ns = refl
dead-mode (Pend p q) st ns = refl
dead-mode (Begun p h k) st ns = refl
dead-mode (Have p) st ns = refl
dead-mode Dead st ns = refl
dead-mode (Done n) st ns = refl

-- the ways out of the loop and of a turn, over plain values: a is what the token call answered
module _ (s : List ℕ) (c₀ : Cursor) (from to f₀ : ℕ) (m₀ : Mode) (st₀ ns₀ : List ℕ) (c : Cursor) (i f : ℕ) (m : Mode) (st ns : List ℕ) (v : Inv s c₀ from to f₀ m₀ st₀ ns₀ c i f m st ns) where
  pub pauses : to ≤ i → result_of (Ok (record { latest = f; mode = m; next = c; whole = false })) st ns ≡ clause_run (to - from) from f₀ (state_of m₀ st₀ ns₀) s c₀
  unfolding result_of taken_as clause_run
  pauses h =
      let n : to - i ≡ 0 = omega arith in
      sym (v.same ∙ ap (λ (k : ℕ). clause_run k i f (state_of m st ns) s c) n)

  module _ (h : i < to) where
    -- from here: the token, and what follows it
    pub from-here : clause_run (to - from) from f₀ (state_of m₀ st₀ ns₀) s c₀ ≡ clause_run (suc (to - (i + 1))) i f (state_of m st ns) s c
    from-here = let n : to - i ≡ suc (to - (i + 1)) = omega arith in v.same ∙ ap (λ (k : ℕ). clause_run k i f (state_of m st ns) s c) n

    pub room : (k : Sight) → Ready m k st ns
    room k =
        let w = v.taking.words in
        let u = v.taking.few in
        let o = takes_one k in
        ready st ns (to + 1) (omega (arith, v.taking.frames)) (omega (arith, v.taking.nodes)) (omega arith) m k o (omega arith) (omega arith)

    module _ (a : Answer) (e : a ≡ next_token File s c) where
      pub stops : (w : Refused) → a ≡ Err w → result_of (Err w.fault) st ns ≡ clause_run (to - from) from f₀ (state_of m₀ st₀ ns₀) s c₀
      unfolding result_of
      stops w g =
          let r = told-refused s c v.taking.valid_cursor w.fault w.cursor (sym e ∙ g) in
          sym (from-here ∙ run-stop s c (to - (i + 1)) i f (state_of m st ns) w.fault r)

      module _ (read : TokenRead) (g : a ≡ Ok read) where
        abbrev t : lexer.Token
        t = read.token

        abbrev d : Cursor
        d = read.next

        pub read_there : ReadFrom s c t d
        read_there = record { reads = sym e ∙ g }

        module _ (k : Sight) (q : sight_of k ≡ sight_from s c) (r : Mode) (st' ns' : List ℕ) (y : state_of r st' ns' ≡ M.step packed (state_of m st ns) i (sight_of k)) (b : Bool) (j : b ≡ is_end t.kind) (f' : ℕ) (o₀ : f' ≡ cond (dead_mode m) f t.start) where
          -- the last token that it took alive
          o : f' ≡ latest (state_of m st ns) f t.start
          o = o₀ ∙ ap (λ (x : Bool). cond x f t.start) (dead-mode m st ns)

          -- the machine behind the token
          behind : state_of r st' ns' ≡ M.step packed (state_of m st ns) i (sight_from s c)
          behind = y ∙ ap (M.step packed (state_of m st ns) i) q

          pub ends : b ≡ true → result_of (Ok (record { latest = f'; mode = r; next = d; whole = true })) st' ns' ≡ clause_run (to - from) from f₀ (state_of m₀ st₀ ns₀) s c₀
          unfolding result_of taken_as
          ends l =
              let p = known s c t d (sym e ∙ g) in
              rw (o, behind) (sym (from-here ∙ run_last s c (to - (i + 1)) i f (state_of m st ns) t d p (sym j ∙ l)))

          pub again : b ≡ false → length st' ≡ length st → length ns' ≡ length ns → Inv s c₀ from to f₀ m₀ st₀ ns₀ d (i + 1) f' r st' ns'
          again l x u =
              let p = known s c t d (sym e ∙ g) in
              let w = rw (← behind) at (step-size packed (state_of m st ns) i (sight_from s c)) in
              record {
                same =
                    from-here ∙ run_more s c (to - (i + 1)) i f (state_of m st ns) t d p (sym j ∙ l)
                    ∙ rw (o, behind) refl;
                taking =
                    record {
                      valid_cursor = next-valid s c v.taking.valid_cursor t d d.offset p.text p.reads p.next;
                      ahead = omega arith;
                      few = v.taking.few;
                      frames = omega (arith, v.taking.frames, x);
                      nodes = omega (arith, v.taking.nodes, u);
                      words = omega (arith, w, v.taking.words);
                    };
                frames = x ∙ v.frames;
                nodes = u ∙ v.nodes;
              }

abbrev pub invariant-loop-index : goal.invariant-loop-index
invariant-loop-index l = Inv l.text l.initial.c l.from l.to l.initial.latest l.initial.mode l.initial.frames l.initial.nodes l.c l.index l.latest l.mode l.frames l.nodes
