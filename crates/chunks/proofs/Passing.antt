-- Passing over layout goes on in the bytes at hand, and its cursor with it. Assumes nothing.
use mathlib.Core.Path.{◌≡◌, refl, sym, subst}
use mathlib.Core.List.{List, [], ◌∷◌}
use Prim.Native.Nat.{ℕ, suc, ◌+◌, ◌-◌, ◌<◌, ◌≤◌}
use native.Mathlib.Omega.{arith}
use lib.ListN.{length, drop}
use Rattle.lexer.specs.Cursor.{longest, step, Valid}
use Rattle.lexer.specs.declared.cursor.Cursor.{Cursor}
use Rattle.lexer.proofs.Cursors.{step-valid}
use Rattle.chunks.specs.Layouts.{Turned, ahead}
use Rattle.chunks.specs.Reader.{Passed, stopped, carried, pass, placed, Passable}
use Rattle.chunks.specs.declared.layout.Mode.{Mode}
use Rattle.chunks.specs.declared.pass.Place.{Place}
use Rattle.chunks.specs.declared.layout.Why.{Why}
use Rattle.chunks.specs.declared.layout.Why.TheVariants.{Starts}
use Rattle.std.specs.declared.result.Result.TheVariants.{Ok, Err}

-- from the cursor c, with n bytes at hand, to the cursor d with u left
pub record Onward (c : Cursor) (n : ℕ) (d : Cursor) (u : List ℕ) (why : Why) : Type 0 where
  pub ahead : c.offset ≤ d.offset
  pub left : d.offset + length u ≡ c.offset + n
  pub able : Passable (length u) d
  pub some : why ≡ Starts → 0 < length u

abbrev pub OnwardTo : Cursor → ℕ → Passed → Type 0
OnwardTo c n (stopped m d u why) = Onward c n d u why

-- past one byte
one_on : (c : Cursor) (n x : ℕ) → Passable (suc n) c → (p : Passed) → (Passable n (step c x) → OnwardTo (step c x) n p) → OnwardTo c (suc n) p
one_on c n x a (stopped m d u why) next =
    let v : Valid longest c = record { short = omega arith; offset = (let k = a.short in omega arith); line = a.line; column = a.column } in
    let w = step-valid longest c v x (let k = a.short in omega arith) in
    let o = next (record { short = (let k = a.short in omega arith); line = w.line; column = w.column }) in
    record { ahead = (let k = o.ahead in omega arith); left = (let k = o.left in omega arith); able = o.able; some = o.some }

here : (c : Cursor) (u : List ℕ) (why : Why) → Passable (length u) c → (why ≡ Starts → 0 < length u) → Onward c (length u) c u why
here c u why a f = record { ahead = omega arith; left = refl; able = a; some = f }

pass_on : (u : List ℕ) (m : Mode) (k : ℕ) (c : Cursor) → Passable (length u) c → OnwardTo c (length u) (pass m k c u)
unfolding pass carried
pass_on [] m k c a = here c [] _ a (λ e. let y : ◌≡◌ {A = ℕ} 0 1 = cc in absurd (omega arith))
pass_on (x ∷ xs) m k c a = go (λ m' j. pass_on xs m' j (step c x)) (ahead k m c.offset (x ∷ xs))
  where
    stays : (why : Why) → Onward c (length (x ∷ xs)) c (x ∷ xs) why
    stays why = here c (x ∷ xs) why a (λ _. omega arith)

    go : ((m' : Mode) (j : ℕ) → Passable (length xs) (step c x) → OnwardTo (step c x) (length xs) (pass m' j (step c x) xs)) → (t : Turned)
        → OnwardTo c (length (x ∷ xs)) (carried t (λ m' j. pass m' j (step c x) xs) (stopped m c (x ∷ xs)))
    go f (Ok n) = one_on c (length xs) x a (pass n.mode n.more (step c x) xs) (f n.mode n.more)
    go f (Err y) = stays y

-- as the code has it: from the cursor c, over the bytes u, to the place p
pub placed_on : (m : Mode) (c : Cursor) (u : List ℕ) (p : Place) → Passable (length u) c → placed c u p ≡ pass m 0 c u → Onward c (length u) p.cursor (drop (p.cursor.offset - c.offset) u) p.why
placed_on m c u p a e = subst (OnwardTo c (length u)) (sym e) (pass_on u m 0 c a)

pub pass-onward : (m : Mode) (c : Cursor) (u : List ℕ) → Passable (length u) c → (p : Passed) → pass m 0 c u ≡ p → OnwardTo c (length u) p
pass-onward m c u a p e = subst (OnwardTo c (length u)) e (pass_on u m 0 c a)
