-- The bytes at hand, from the place on where a token starts. Assumes nothing.
use mathlib.Core.Path.{◌≡◌, refl, sym, subst, ◌∙◌, ap}
use mathlib.Core.Logic.{◌⊎◌, inl, inr}
use mathlib.Core.Bool.{Bool, true, false, cond}
use mathlib.Core.List.{List, [], ◌∷◌, ◌++◌, append-nil}
use Prim.Native.Nat.{ℕ, ◌+◌, ◌-◌, ◌<◌, ◌≤◌}
use native.Mathlib.Omega.{arith}
use lib.Dec.{ltb}
use lib.ListN.{length, take, drop, length-append, length-drop}
use lib.Seq.{length-take-le, drop-append-le, take_at}
use Rattle.lexer.specs.Cursor.{longest, start_cursor, walk, move_to, Valid}
use Rattle.lexer.specs.Refusal.{fault}
use Rattle.lexer.specs.Token.{Lexeme, lexeme, refused, token_since}
use Rattle.lexer.specs.declared.refusal.Fault.{Fault}
use Rattle.lexer.specs.declared.refusal.Refusal.TheVariants.{TokenTooLong}
use Rattle.lexer.specs.declared.cursor.Cursor.{Cursor}
use Rattle.lexer.proofs.Cursors.{move_offset, move_valid}
use Rattle.lexer.proofs.Faults.{token-refused_inside}
use Rattle.lexer.proofs.Promises.{token_there}
use Rattle.lexer.specs.declared.token.Source.TheVariants.{File}
use Rattle.chunks.specs.Answers.{hand_of, EndsUnknown, judge_of, told}
use Rattle.chunks.specs.Hand.{to_next, next_by, Fits, Held, Starting}
use Rattle.chunks.specs.Reader.{Passed, stopped, pass, placed, more, never, judged, given, reading, Sums, Passable}
use Rattle.chunks.specs.Shift.{unknown, shift_token, shift_lexeme}
use Rattle.chunks.specs.Verdict.{Verdict, settled, too_long, waiting, verdict}
use Rattle.chunks.specs.Whole.{token_at, longer, limited}
use Rattle.chunks.specs.declared.hand.Next.{Next}
use Rattle.chunks.specs.declared.layout.Mode.{Mode}
use Rattle.chunks.specs.declared.pass.Place.{Place}
use Rattle.chunks.specs.declared.layout.Why.{Why}
use Rattle.chunks.specs.declared.layout.Why.TheVariants.{Starts, Waits, Stops}
use Rattle.chunks.specs.Given.{Given, read_to}
use Rattle.std.specs.declared.result.Result.TheVariants.{Ok, Err}
use Rattle.std.specs.declared.result.Result.{Result}
use Rattle.chunks.proofs.Judges.{judge_told}
use Rattle.chunks.proofs.Moves.{walk-moved}
use Rattle.chunks.proofs.Passing.{Onward, placed_on}
use Rattle.chunks.proofs.Verdicts.{Right, verdict_right}

-- ---- what is told of a token is what its verdict comes to
pub told-next : (m : Mode) (c : Cursor) (l : ℕ) (v : List ℕ) (k : Verdict) → next_by m c l (told v k) ≡ to_next (judged m c l v k)
unfolding next_by told to_next judged
told-next m c l v (settled (lexeme t e x)) = ap (λ (d : Cursor). Ok (Next.Token (read_to (token_since l (shift_token c.offset t)) d))) (sym (walk-moved c (take e v)))
told-next m c l v (settled (refused w)) = refl
told-next m c l v too_long = let k : c.offset + 0 ≡ c.offset = omega arith in ap (λ (i : ℕ). Err (fault TokenTooLong i)) k
told-next m c l v waiting = refl

-- ---- its offsets are within the bytes at hand

-- no way further on
shift_none : (a : Lexeme) → shift_lexeme 0 a ≡ a
unfolding shift_lexeme
shift_none (lexeme t e x) =
    let k : 0 + t.start ≡ t.start = omega arith in
    let m : 0 + t.layout ≡ t.layout = omega arith in
    let n : 0 + e ≡ e = omega arith in
    ap (λ (i : ℕ). lexeme (record { kind = t.kind; value = t.value; start = i; layout = 0 + t.layout }) (0 + e) x) k
    ∙ ap (λ (i : ℕ). lexeme (token_since i t) (0 + e) x) m ∙ ap (λ (i : ℕ). lexeme t i x) n
shift_none (refused w) = let k : 0 + w.offset ≡ w.offset = omega arith in ap (λ (i : ℕ). refused (fault w.refusal i)) k

-- what the verdict says holds of the text that is the bytes at hand
pub hand_right : (layout ended : Bool) (v : List ℕ) (some : 0 < length v) → Right layout v 0 v [] (sym (append-nil v)) (omega arith) some ended (λ _. refl) (verdict ended layout v)
hand_right layout ended v some = verdict_right layout v 0 v [] (sym (append-nil v)) (omega arith) some ended (λ _. refl)

module _ (layout ended : Bool) (v : List ℕ) (some : 0 < length v) (c : Cursor) (able : Passable (length v) c) where
  -- the token of that text, or 15 at its start
  in-limit : (a : Lexeme) → limited layout v 0 ≡ shift_lexeme 0 a → (a ≡ refused (fault TokenTooLong 0)) ⊎ (token_at layout v 0 ≡ a)
  in-limit a f = go (longer layout v 0) refl
    where
      by : Bool → Lexeme
      by t = cond t (refused (fault TokenTooLong 0)) (token_at layout v 0)

      go : (t : Bool) → longer layout v 0 ≡ t → (a ≡ refused (fault TokenTooLong 0)) ⊎ (token_at layout v 0 ≡ a)
      go true q = inl (sym (sym (ap by q) ∙ f ∙ shift_none a))
      go false q = inr (sym (ap by q) ∙ f ∙ shift_none a)

  short : length v ≤ longest
  short = let k = able.short in omega arith

  walked : (e : ℕ) → e ≤ length v → move_to v start_cursor e ≡ walk start_cursor (take e v)
  unfolding move_to
  walked e l = let m : e - 0 ≡ e = omega arith in ap (λ (k : ℕ). walk start_cursor (take k v)) m

  sums : (e : ℕ) → e ≤ length v → Sums c (walk start_cursor (take e v))
  sums e l =
      let o = move_offset v start_cursor e (omega arith) l in
      let d : Valid (length v) (move_to v start_cursor e) = move_valid v start_cursor e (omega arith) l (record { short = short; offset = omega arith; line = omega arith; column = omega arith }) in
      subst (Sums c) (walked e l)
      (record {
        offset = (let k = able.short in omega arith);
        line = (let k = able.short in let a = able.line in let b = d.line in omega arith);
        column = (let k = able.short in let a = able.column in let b = d.column in omega arith);
      })

  -- a verdict that holds of that text is one whose sums fit
  verdict-fits : (k : Verdict) → Right layout v 0 v [] (sym (append-nil v)) (omega arith) some ended (λ _. refl) k → Fits c (told v k)
  unfolding told
  verdict-fits (settled (lexeme t e x)) r = record { sums = sums e r.1.1; start = go (in-limit (lexeme t e x) r.0) }
    where
      go : (lexeme t e x ≡ refused (fault TokenTooLong 0)) ⊎ (token_at layout v 0 ≡ lexeme t e x) → c.offset + t.start ≤ longest
      go (inl q) = let y : ◌≡◌ {A = ℕ} 0 1 = cc in absurd (omega arith)
      go (inr q) = let p = token_there File layout v 0 t e x q in let k = able.short in omega (arith, p.ahead, p.inside)
  verdict-fits (settled (refused w)) r = go (in-limit (refused w) r.0)
    where
      go : (refused w ≡ refused (fault TokenTooLong 0)) ⊎ (token_at layout v 0 ≡ refused w) → c.offset + w.offset ≤ longest + 1
      go (inl q) = let f : w ≡ fault TokenTooLong 0 = cc in let o = ap (λ (x : Fault). x.offset) f in let k = able.short in omega arith
      go (inr q) = let o = token-refused_inside v start_cursor File layout 0 w some q in let k = able.short in omega arith
  verdict-fits too_long r = let k = able.short in omega arith
  verdict-fits waiting r = tt

  pub judgement_fits : length v < longest → Fits c (judge_of layout ended v)
  judgement_fits l = subst (Fits c) (sym (judge_told layout ended v some l)) (verdict-fits (verdict ended layout v) (hand_right layout ended v some))

-- ---- a token starts further on among the bytes at hand
module _ (s : List ℕ) (z : EndsUnknown s) (p : Place) (from : ℕ) (h : Starting s p from) (at : ℕ) (e : at ≡ p.cursor.offset - from) where
  pub start-inside : at < length s
  start-inside = let k = h.inside in omega arith

  hand-size : length (hand_of s) ≡ length s - 1
  hand-size = length-take-le (length s - 1) s (omega arith)

  -- the bytes from there on end as all do
  split : drop at s ≡ drop at (hand_of s) ++ unknown ∷ []
  split = let k = h.inside in let n = hand-size in ap (drop at) z ∙ drop-append-le at (hand_of s) (unknown ∷ []) (omega arith)

  size : length (drop at (hand_of s)) ≡ length s - 1 - at
  size = let n = hand-size in let k = length-drop at (hand_of s) in omega arith

  hand-from : hand_of (drop at s) ≡ drop at (hand_of s)
  hand-from =
      let k = ap length split ∙ length-append (drop at (hand_of s)) (unknown ∷ []) in
      let m : length (drop at s) - 1 ≡ length (drop at (hand_of s)) = omega arith in
      ap (λ (i : ℕ). take i (drop at s)) m ∙ ap (take (length (drop at (hand_of s)))) split
      ∙ take_at (drop at (hand_of s)) (unknown ∷ []) (length (drop at (hand_of s))) refl

  some_there : 0 < length (drop at (hand_of s))
  some_there = let k = h.inside in let n = size in omega arith

  able : Passable (length (drop at (hand_of s))) p.cursor
  able = let n = size in record { short = (let k = h.able.short in omega arith); line = h.able.line; column = h.able.column }

  module _ (l : ℕ) (ended : Bool) (rest : List ℕ) (q : rest ≡ drop at s) (j : Given) (f : j ≡ judge_of (ltb l p.cursor.offset) ended (hand_of rest)) where
    abbrev layout : Bool
    layout = ltb l p.cursor.offset

    same : j ≡ judge_of layout ended (drop at (hand_of s))
    same = f ∙ ap (λ (u : List ℕ). judge_of layout ended (hand_of u)) q ∙ ap (judge_of layout ended) hand-from

    few_there : length (drop at (hand_of s)) < longest
    few_there = let n = size in let k = h.few in let i = h.inside in omega arith

    pub start_fits : Fits p.cursor j
    start_fits = subst (Fits p.cursor) (sym same) (judgement_fits layout ended (drop at (hand_of s)) some_there p.cursor able few_there)

    pub start_tells : (r : Result Next Fault) → r ≡ next_by p.mode p.cursor l j → r ≡ to_next (given ended l (stopped p.mode p.cursor (drop (p.cursor.offset - from) (hand_of s)) Starts))
    unfolding given
    start_tells r g =
        g ∙ ap (next_by p.mode p.cursor l) (same ∙ judge_told layout ended (drop at (hand_of s)) some_there few_there)
        ∙ told-next p.mode p.cursor l (drop at (hand_of s)) (verdict ended layout (drop at (hand_of s)))
        ∙ ap (λ (i : ℕ). to_next (judged p.mode p.cursor l (drop i (hand_of s)) (verdict ended layout (drop i (hand_of s))))) e

-- ---- layout is passed over, then the token is told
module _ (s : List ℕ) (c : Cursor) (h : Held s c) (held : List ℕ) (held-hand : held ≡ hand_of s) where
  held-size : length held ≡ length s - 1
  held-size = ap length held-hand ∙ length-take-le (length s - 1) s (omega arith)

  pub held_passable : Passable (length held) c
  held_passable = subst (λ (k : ℕ). Passable k c) (sym held-size) h.able

  module _ (m : Mode) (p : Place) (f : placed c held p ≡ pass m 0 c held) where
    passed : pass m 0 c (hand_of s) ≡ stopped p.mode p.cursor (drop (p.cursor.offset - c.offset) (hand_of s)) p.why
    passed = sym (subst (λ (u : List ℕ). placed c u p ≡ pass m 0 c u) held-hand f)

    onward : Onward c (length (hand_of s)) p.cursor (drop (p.cursor.offset - c.offset) (hand_of s)) p.why
    onward = placed_on m c (hand_of s) p (subst (λ (u : List ℕ). Passable (length u) c) held-hand held_passable) (sym passed)

    hand_size' : length (hand_of s) ≡ length s - 1
    hand_size' = length-take-le (length s - 1) s (omega arith)

    pub held_starts : (y : Why) → y ≡ p.why → y ≡ Starts → Starting s p c.offset
    held_starts y g k =
        let o = onward in
        let z = hand_size' in
        let i = length-drop (p.cursor.offset - c.offset) (hand_of s) in
        let some : 0 < length (drop (p.cursor.offset - c.offset) (hand_of s)) = o.some (sym g ∙ k) in
        record {
          ahead = o.ahead;
          inside = omega arith;
          few = h.few;
          able = record { short = (let q = o.able.short in omega arith); line = o.able.line; column = o.able.column };
        }

    module _ (l : ℕ) (ended : Bool) (r : Result Next Fault) (y : Why) (g : y ≡ p.why) where
      -- by what stopped it
      tells : (z : Why) → y ≡ z → r ≡ to_next (given ended l (stopped p.mode p.cursor (drop (p.cursor.offset - c.offset) (hand_of s)) z)) → r ≡ to_next (reading ended m c l (hand_of s))
      tells z k q =
          q ∙ sym (ap (λ (x : Passed). to_next (given ended l x)) (passed ∙ ap (stopped p.mode p.cursor (drop (p.cursor.offset - c.offset) (hand_of s))) (sym g ∙ k)))

      pub held_starts_tells : y ≡ Starts → r ≡ to_next (given ended l (stopped p.mode p.cursor (drop (p.cursor.offset - c.offset) (hand_of s)) Starts)) → r ≡ to_next (reading ended m c l (hand_of s))
      held_starts_tells k q = tells Starts k q

      pub held_waits_tells : (w : Fault) → y ≡ Waits w → r ≡ cond ended (Err w) (Ok (Next.More p.mode p.cursor l)) → r ≡ to_next (reading ended m c l (hand_of s))
      unfolding given to_next
      held_waits_tells w k q = tells (Waits w) k (q ∙ next-by ended _ w)
        where
          next-by : (t : Bool) (u : List ℕ) (v : Fault) → cond t (Err v) (Ok (Next.More p.mode p.cursor l)) ≡ to_next (cond t (never v) (more p.mode p.cursor l u))
          next-by true u v = refl
          next-by false u v = refl

    pub held-stops_tells : (l : ℕ) (ended : Bool) (y : Why) → y ≡ p.why → (w : Fault) → y ≡ Stops w → Err w ≡ to_next (reading ended m c l (hand_of s))
    unfolding given to_next
    held-stops_tells l ended y g w k = tells l ended (Err w) y g (Stops w) k refl
