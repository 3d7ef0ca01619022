-- A caller who drives the reader is handed what the whole text has. Assumes nothing.
use mathlib.Core.Path.{◌≡◌, refl, sym, subst, ◌∙◌, ap}
use mathlib.Core.Bool.{Bool, true, false, cond}
use mathlib.Core.List.{List, [], ◌∷◌, ◌++◌, append_assoc, append-nil}
use Prim.Native.Nat.{ℕ, zero, suc, ◌+◌, ◌-◌, ◌<◌, ◌≤◌, min}
use native.Mathlib.Decide.{dec_le}
use native.Mathlib.Omega.{arith}
use borrow.Author.Tests.{lt-ltb, ltb-true, le-leb}
use lib.Dec.{ltb}
use lib.ListN.{length, take, drop, length-append, length-drop, length-take, take-append-drop}
use lib.Seq.{length-take-le, take-nil, take-take, drop-drop}
use Rattle.lexer.specs.Cursor.{longest, start_cursor, Valid, part}
use Rattle.lexer.specs.Token.{refused}
use Rattle.lexer.specs.declared.refusal.Fault.{Fault}
use Rattle.lexer.specs.declared.cursor.Cursor.{Cursor}
use Rattle.lexer.specs.declared.token.Token.{Token}
use Rattle.lexer.proofs.Calls.{passes}
use Rattle.chunks.specs.Feed.{full_hand, Leaves, leaves, at_hand, hand_in, delivered, window_size, most_at_hand, sound, admitted, takes, place, end_of_hand, filled_with, gave, took, by_phase, feeding, begun, ended_phase, in_phase, finishing}
use Rattle.chunks.specs.Reader.{Gives, handed, more, never, reading, Passable}
use Rattle.chunks.specs.Shift.{unknown}
use Rattle.chunks.specs.Session.{left, told as heard, call, session}
use Rattle.chunks.specs.Whole.{longest_token, next_lexeme, Handed, token, last, Next, Hands, Complete, joined}
use Rattle.std.specs.declared.result.Result.TheVariants.{Ok, Err}
use Rattle.std.specs.declared.option.Option.TheVariants.{Some, None}
use Rattle.chunks.specs.Given.{Given}
use Rattle.chunks.specs.declared.delivery.Phase.{Phase}
use Rattle.chunks.specs.declared.delivery.Reader.{Reader}
use Rattle.chunks.specs.declared.layout.Mode.{Mode}
use Rattle.chunks.specs.declared.layout.Mode.TheVariants.{Blank as blank}
use Rattle.chunks.proofs.Counts.{Rest, Counts, reading_counts}
use Rattle.chunks.proofs.Cuts.{fed_stands, unique}
use Rattle.chunks.proofs.Feeds.{last_part, takes_few, takes_room, place-front, place_room, behind-hand, behind-length}
use Rattle.chunks.proofs.Prompt.{never_ended, begun-after, asked_few, more_uncertain}
use Rattle.chunks.proofs.Reading.{Stands, Tells, reading_tells}

abbrev phase_of : Bool → Phase
phase_of ended = cond ended Phase.Ended Phase.Open

-- what may follow what was delivered: anything, or nothing behind the end
abbrev pub Follows : Bool → List ℕ → Type 0
Follows ended z = ended ≡ true → z ≡ []

-- the reader that was fed p, and has handed out the tokens up to the cursor o, where the layout before the next begins; whatever follows, it stands there
pub record Driven (ended : Bool) (p : List ℕ) (o : Cursor) (r : Reader) (w : List ℕ) : Type 0 where
  pub phase : r.phase ≡ phase_of ended
  pub size : length w ≡ window_size
  pub some : r.from ≤ r.to
  pub inside : r.to < window_size
  pub few : at_hand r < most_at_hand
  pub count : delivered r ≡ length p
  pub able : Passable (at_hand r) r.cursor
  pub layout : r.layout ≡ o.offset
  pub stands : (z : List ℕ) → Follows ended z → Stands (p ++ z) o z r.mode r.cursor (hand_in r w)

-- what is left of the bytes at hand, in the window
suffix : (at n j : ℕ) (w v : List ℕ) → take n (drop at w) ≡ v → length v ≡ n → j ≤ n → take (n - j) (drop (at + j) w) ≡ drop j v
suffix at n j w v e l h =
    let x = drop at w in
    let m : j + (n - j) ≡ n = omega arith in
    let b : n ≤ length x = (let k = ap length e ∙ l in let t = length-take n x in omega arith) in
    ap (take (n - j)) (sym (drop-drop j at w))
    ∙ last_part j (n - j) x (take j v) (drop j v) (omega arith) (length-take-le j v (omega arith)) (ap (λ (i : ℕ). take i x) m ∙ e ∙ sym (take-append-drop j v))

rest_of : (s v u : List ℕ) (a b : ℕ) → a ≤ b → drop a s ≡ v ++ [] → drop b s ≡ u ++ [] → drop (b - a) v ≡ u
rest_of s v u a b h e f =
    let m : a + (b - a) ≡ b = omega arith in
    ap (drop (b - a)) (sym (append-nil v) ∙ sym e) ∙ drop-drop (b - a) a s ∙ ap (λ (i : ℕ). drop i s) m ∙ f ∙ append-nil u

none_taken : (k : ℕ) (c z : List ℕ) → c ≡ [] → z ≡ [] → take k c ++ z ≡ []
none_taken k c z e f = ap (λ (y : List ℕ). take k y ++ z) e ∙ ap (λ (y : List ℕ). y ++ z) (take-nil k) ∙ f

-- where bytes stand that end n before `to`, in the window and in the text
module _ (to n start end c size front : ℕ) (a : start ≤ end) (b : c ≤ start) (d : end + n ≡ c + size) (e : to ≡ front + size) where
  first_there : to - n - (end - start) ≡ front + (start - c)
  first_there = let i : to - n ≡ front + (end - c) = omega arith in omega arith

  all_there : to - n - (to - n - (end - start)) ≡ end - start
  all_there = let i : to - n ≡ front + (end - c) = omega arith in omega arith

  from_there : c + (start - c) ≡ start
  from_there = omega arith

  few_there : end - start ≤ size - (start - c)
  few_there = omega arith

  within : start - c ≤ size
  within = omega arith

none_there : (m start end : ℕ) → (start ≤ end → ⊥) → m - (m - (end - start)) ≡ 0
none_there m start end l = omega arith

no_bytes : (start end : ℕ) → (start ≤ end → ⊥) → end - start ≡ 0
no_bytes start end l = omega arith

in_all : (a b c l : ℕ) → l ≡ b + c → a + b + c ≡ a + l
in_all a b c l e = omega arith

-- ---- one call

-- p is in truth not enough: with fewer than 1,025 bytes at hand, what comes next is another if a foreign byte follows than if the text ends there
abbrev pub Unsure : List ℕ → Cursor → Reader → Type 0
Unsure p o r = at_hand r < longest_token + 1 → next_lexeme (p ++ unknown ∷ []) o.offset ≡ next_lexeme p o.offset → ⊥

-- a token's own bytes stand in the window, right before those at hand
abbrev pub Bytes : List ℕ → Reader → List ℕ → Token → Cursor → Type 0
Bytes p r w t d = part (r.from - (d.offset - t.start)) r.from w ≡ part t.start d.offset p

-- what it gives, of every text that goes on from p: the next token, and the reader stands behind it; or more is wanted, and it stands further on; or the refusal
abbrev pub Gave : Bool → List ℕ → Cursor → Reader → List ℕ → Given → Type 0
Gave ended p o r w (Ok (Some t)) = ((z : List ℕ) → Follows ended z → Next (p ++ z) o t.token t.next) × (o.offset < t.next.offset) × Driven ended p t.next r w × Bytes p r w t.token t.next
Gave ended p o r w (Ok None) = (ended ≡ false) × Driven ended p o r w × Unsure p o r
Gave ended p o r w (Err v) = (z : List ℕ) → Follows ended z → next_lexeme (p ++ z) o.offset ≡ refused v

-- k bytes are taken, and with them p is delivered
abbrev pub Stepped : Bool → List ℕ → Cursor → ℕ → Leaves → Type 0
Stepped ended p o k (leaves f w) = (f.taken ≡ k) × Gave ended p o f.reader w f.given

module _ (ended : Bool) (p : List ℕ) (o : Cursor) (r : Reader) (w : List ℕ) (d : Driven ended p o r w) (chunk : List ℕ) (over : Follows ended chunk) (short : length p + length chunk ≤ longest) where
  -- so many bytes are taken
  abbrev k : ℕ
  k = takes (at_hand r) (length chunk)

  abbrev x : List ℕ
  x = take k chunk

  -- the bytes at hand then
  abbrev v : List ℕ
  v = hand_in r w ++ x

  -- they are a part of the window that it leaves
  abbrev to : ℕ
  to = end_of_hand r k

  abbrev w' : List ℕ
  w' = filled_with w r.from (place r) (at_hand r) chunk k

  may_come : admitted ended r (length chunk) ≡ true
  may_come =
      let c = d.count in
      let v : Valid (delivered r) r.cursor = record { short = omega arith; offset = omega arith; line = d.able.line; column = d.able.column } in
      let b : r.layout ≤ r.cursor.offset = (let l = d.layout in let a = (d.stands [] (λ _. refl)).ahead in omega arith) in
      let s : sound r ≡ true = cc (le-leb r.from r.to d.some, lt-ltb r.to window_size d.inside, le-leb r.layout r.cursor.offset b, passes (delivered r) r.cursor v) in
      let e = le-leb (delivered r + length chunk) (cond ended (delivered r) longest) (limit ended refl) in
      cc
    where
      limit : (t : Bool) → ended ≡ t → delivered r + length chunk ≤ cond t (delivered r) longest
      limit true e = let n : length chunk ≡ 0 = ap length (over e) in omega arith
      limit false e = let c = d.count in omega arith

  feeds : feeding r w chunk ≡ took ended r w chunk k
  unfolding by_phase
  feeds = ap (λ (q : Phase). by_phase q r w chunk) d.phase ∙ go ended may_come
    where
      go : (t : Bool) → admitted t r (length chunk) ≡ true → by_phase (phase_of t) r w chunk ≡ took t r w chunk k
      go true e = rw e
      go false e = rw e

  -- what follows the bytes that are taken
  later : (z : List ℕ) → Follows ended z → Follows ended (x ++ z)
  later z f e = none_taken k chunk z (over e) (f e)

  stands' : (z : List ℕ) → Follows ended z → Stands ((p ++ x) ++ z) o z r.mode r.cursor v
  stands' z f =
      subst (λ (s : List ℕ). Stands s o z r.mode r.cursor v) (sym (append_assoc p x z))
      (fed_stands (p ++ (x ++ z)) o x z r.mode r.cursor (hand_in r w) (d.stands (x ++ z) (later z f)))

  front : place r ≤ r.from
  front = place-front r.from r.to d.some d.inside

  room : to < window_size
  room = place_room r.from r.to d.some d.inside (length chunk)

  whole : r.from + at_hand r < window_size
  whole = let s = d.some in let i = d.inside in omega arith

  hand-size : length v ≡ at_hand r + k
  hand-size =
      let a = length-append (hand_in r w) x in
      let b = length-drop r.from w in
      let z = d.size in
      let i = whole in
      let c = length-take-le (at_hand r) (drop r.from w) (omega arith) in
      let e = length-take-le k chunk (takes_few (at_hand r) (length chunk)) in
      omega arith

  hand_few : length v ≤ most_at_hand
  hand_few = let n = hand-size in let f : at_hand r + k ≤ most_at_hand = rw (lt-ltb (at_hand r) most_at_hand d.few) at (takes_room (at_hand r) (length chunk)) in omega arith

  in_window : take (length v) (drop (place r) w') ≡ v
  in_window = ap (λ (i : ℕ). take i (drop (place r) w')) hand-size ∙ behind-hand w chunk r.from (place r) (at_hand r) k d.size whole front (takes_few (at_hand r) (length chunk)) room

  able : Passable (length v) r.cursor
  able =
      let n = hand-size in
      let c = d.count in
      let f = takes_few (at_hand r) (length chunk) in
      record { short = omega arith; line = d.able.line; column = d.able.column }

  sum : r.cursor.offset + length v ≡ length (p ++ x)
  sum =
      let n = hand-size in
      let c = d.count in
      let a = length-append p x in
      let e = length-take-le k chunk (takes_few (at_hand r) (length chunk)) in
      omega arith

  -- the reader that a call leaves
  module _ (o' : Cursor) (m' : Mode) (c' : Cursor) (l' : ℕ) (u' : List ℕ) (since : l' ≡ o'.offset) (q : Rest r.cursor.offset (r.cursor.offset + length v) c' u')
      (few' : length u' < most_at_hand) (st : (z : List ℕ) → Follows ended z → Stands ((p ++ x) ++ z) o' z m' c' u') where
    abbrev r' : Reader
    r' = record { mode = m'; cursor = c'; layout = l'; from = to - length u'; to = to; phase = r.phase }

    fits : length u' ≤ to
    fits = let n = hand-size in let c = q.count in let a = q.ahead in omega arith

    at-hand : at_hand r' ≡ length u'
    at-hand = let f = fits in omega arith

    hand_there : hand_in r' w' ≡ u'
    hand_there =
        let f = fits in
        let n = hand-size in
        let c = q.count in
        let a = q.ahead in
        let j = c'.offset - r.cursor.offset in
        let e : to - length u' ≡ place r + j = omega arith in
        let i : to - (to - length u') ≡ length v - j = omega arith in
        ap (λ (b : ℕ). take (to - (to - length u')) (drop b w')) e ∙ ap (λ (b : ℕ). take b (drop (place r + j) w')) i
        ∙ suffix (place r) (length v) j w' v in_window refl (omega arith)
        ∙ rest_of ((p ++ x) ++ []) v u' r.cursor.offset c'.offset a (stands' [] (λ _. refl)).hand (st [] (λ _. refl)).hand

    driven_on : Driven ended (p ++ x) o' r' w'
    driven_on =
        let n = at-hand in
        let c = q.count in
        let s = sum in
        record {
          phase = d.phase;
          size = behind-length w chunk r.from (place r) (at_hand r) k d.size whole front (takes_few (at_hand r) (length chunk)) room;
          some = omega arith;
          inside = room;
          few = omega arith;
          count = omega arith;
          able = subst (λ (b : ℕ). Passable b c') (sym n) q.able;
          layout = since;
          stands = λ z f. subst (Stands ((p ++ x) ++ z) o' z m' c') (sym hand_there) (st z f);
        }

  -- the bytes from one offset to another, where n are left behind them
  own-bytes : (start end n : ℕ) → r.cursor.offset ≤ start → end + n ≡ r.cursor.offset + length v → part (to - n - (end - start)) (to - n) w' ≡ part start end (p ++ x)
  own-bytes start end n h e = go (dec_le start end)
    where
      hand : drop r.cursor.offset (p ++ x) ≡ v
      hand = ap (drop r.cursor.offset) (sym (append-nil (p ++ x))) ∙ (stands' [] (λ _. refl)).hand ∙ append-nil v

      go : Dec (start ≤ end) → part (to - n - (end - start)) (to - n) w' ≡ part start end (p ++ x)
      go (no l) =
          let i = no_bytes start end l in
          let k = none_there (to - n) start end l in
          ap (λ (b : ℕ). take b (drop (to - n - (end - start)) w')) k ∙ sym (ap (λ (b : ℕ). take b (drop start (p ++ x))) i)
      go (yes l) =
          let j = start - r.cursor.offset in
          let y = in_all (place r) (at_hand r) k (length v) hand-size in
          let i = first_there to n start end r.cursor.offset (length v) (place r) l h e y in
          let b = all_there to n start end r.cursor.offset (length v) (place r) l h e y in
          let q = from_there to n start end r.cursor.offset (length v) (place r) l h e y in
          let m₁ = few_there to n start end r.cursor.offset (length v) (place r) l h e y in
          let m₂ = within to n start end r.cursor.offset (length v) (place r) l h e y in
          ap (λ (a : ℕ). take a (drop (to - n - (end - start)) w')) b ∙ ap (λ (a : ℕ). take (end - start) (drop a w')) i
          ∙ sym (take-take (end - start) (length v - j) (drop (place r + j) w') m₁)
          ∙ ap (take (end - start)) (suffix (place r) (length v) j w' v in_window refl m₂ ∙ ap (drop j) (sym hand) ∙ drop-drop j r.cursor.offset (p ++ x) ∙ ap (λ (b : ℕ). drop b (p ++ x)) q)

  -- ---- what a call tells
  told : (z : List ℕ) (f : Follows ended z) → Tells ((p ++ x) ++ z) o z ended f (reading ended r.mode r.cursor r.layout v)
  told z f =
      subst (λ (l : ℕ). Tells ((p ++ x) ++ z) o z ended f (reading ended r.mode r.cursor l v)) (sym d.layout)
      (reading_tells ((p ++ x) ++ z) o z ended f r.mode r.cursor v (stands' z f))

  by_gives : (g : Gives) → reading ended r.mode r.cursor r.layout v ≡ g → Counts r.cursor.offset (r.cursor.offset + length v) g
      → ((z : List ℕ) (f : Follows ended z) → Tells ((p ++ x) ++ z) o z ended f g) → Stepped ended (p ++ x) o k (leaves (gave r to k g) w')
  unfolding gave
  by_gives (handed t e u) g c tell =
      let n = hand_few in
      let y = c.0.count in
      let a = c.0.ahead in (
        refl,
        (
          (λ z f. (tell z f).0),
          (tell [] (λ _. refl)).2,
          driven_on e blank e e.offset u refl (record { ahead = omega arith; count = c.0.count; able = c.0.able }) (omega arith) (λ z f. (tell z f).1),
          own-bytes t.start e.offset (length u) c.1 (omega arith),
        ),
      )
  by_gives (more m' c' l' u') g c tell =
      let e = (tell [] (λ _. refl)).1 in
      let few = asked_few m' c' l' u' ended r.layout r.mode r.cursor v able g in
      let since = (tell [] (λ _. refl)).2 in
      let asks = ap (λ (b : Bool). reading b r.mode r.cursor o.offset v) (sym e) ∙ ap (λ (l : ℕ). reading ended r.mode r.cursor l v) (sym d.layout) ∙ g in
      let n = at-hand o m' c' l' u' since c few (λ z f. (tell z f).0) in (
        refl,
        (
          e,
          driven_on o m' c' l' u' since c few (λ z f. (tell z f).0),
          (λ h q. more_uncertain (p ++ x) o r.mode r.cursor v (λ z. stands' z (λ b. never_ended (sym e ∙ b))) m' c' l' u' asks (omega arith) q),
        ),
      )
  by_gives (never w) g c tell = (refl, tell)

  -- one call
  pub step : Stepped ended (p ++ x) o k (feeding r w chunk)
  step =
      subst (Stepped ended (p ++ x) o k) (sym feeds)
      (by_gives (reading ended r.mode r.cursor r.layout v) refl (reading_counts ended r.mode r.cursor r.layout v able) told)

-- ---- the reader at its start, and when the end is said
pub begun_driven : (w : List ℕ) → length w ≡ window_size → Driven false [] start_cursor begun w
begun_driven w l =
    record {
      phase = refl;
      size = l;
      some = omega arith;
      inside = omega arith;
      few = omega arith;
      count = omega arith;
      able = record { short = omega arith; line = omega arith; column = omega arith };
      layout = refl;
      stands = λ z f. begun-after z;
    }

pub ended_driven : (p : List ℕ) (o : Cursor) (r : Reader) (w : List ℕ) → Driven false p o r w → Driven true p o (finishing r) w
unfolding ended_phase
ended_driven p o r w d =
    record {
      phase = ap ended_phase d.phase;
      size = d.size;
      some = d.some;
      inside = d.inside;
      few = d.few;
      count = d.count;
      able = d.able;
      layout = d.layout;
      stands = λ z f. d.stands z (λ e. never_ended e);
    }

-- it is said once
ended_once : (p : List ℕ) (o : Cursor) (r : Reader) (w : List ℕ) → Driven true p o r w → Driven true p o (finishing r) w
unfolding ended_phase
ended_once p o r w d = subst (λ (q : Phase). Driven true p o (in_phase r q) w) (d.phase ∙ sym (ap ended_phase d.phase)) d

-- ---- a call, and what comes behind it
module _ (P : Cursor → Handed → Type 0) (ended : Bool) (s p z : List ℕ) (e : s ≡ p ++ z) (f : Follows ended z) (o : Cursor) (k : ℕ) (behind on : ℕ → Reader → List ℕ → Handed)
    (token-case : (j : ℕ) (t : Token) (d : Cursor) (r : Reader) (w : List ℕ) → j ≡ k → Next s o t d → o.offset < d.offset → Driven ended p d r w → P o (token t d (behind j r w)))
    (more-case : (j : ℕ) (r : Reader) (w : List ℕ) → j ≡ k → ended ≡ false → Driven ended p o r w → P o (on j r w))
    (last-case : (v : Fault) → next_lexeme s o.offset ≡ refused v → P o (last v)) where
  by_given : (j : ℕ) → j ≡ k → (r : Reader) (w : List ℕ) (g : Given) → Gave ended p o r w g → P o (heard (behind j r w) (on j r w) g)
  unfolding heard
  by_given j q r w (Ok (Some t)) a = token-case j t.token t.next r w q (subst (λ (x : List ℕ). Next x o t.token t.next) (sym e) (a.0 z f)) a.1 a.2
  by_given j q r w (Ok None) a = more-case j r w q a.0 a.1
  by_given j q r w (Err v) a = last-case v (ap (λ (x : List ℕ). next_lexeme x o.offset) e ∙ a z f)

  by_call : (l : Leaves) → Stepped ended p o k l → P o (call behind on l)
  unfolding call
  by_call (leaves g w) a = by_given g.taken a.0 g.reader w g.given a.1

-- the cursor behind a token is within the text
driven_inside : (ended : Bool) (p : List ℕ) (o : Cursor) (r : Reader) (w : List ℕ) → Driven ended p o r w → (s z : List ℕ) → s ≡ p ++ z → Follows ended z → o.offset ≤ length s
driven_inside ended p o r w d s z e f = let t = d.stands z f in let k = ap length e in omega (arith, t.ahead, t.inside)

nothing_more : (k : ℕ) (p : List ℕ) → p ++ take k [] ≡ p
nothing_more k p = ap (λ (x : List ℕ). p ++ x) (take-nil k) ∙ append-nil p

-- ---- behind the end
module _ (s : List ℕ) (short : length s ≤ longest) where
  last_step : (o : Cursor) (r : Reader) (w : List ℕ) → Driven true s o r w → Stepped true s o (takes (at_hand r) 0) (feeding r w [])
  last_step o r w d =
      subst (λ (x : List ℕ). Stepped true x o (takes (at_hand r) 0) (feeding r w [])) (nothing_more (takes (at_hand r) 0) s) (step true s o r w d [] (λ _. refl) (omega arith))

  end_hands : (n : ℕ) (o : Cursor) (r : Reader) (w : List ℕ) → Driven true s o (finishing r) w → Hands s o (session n [] r w)
  unfolding session
  end_hands zero o r w d = tt
  end_hands (suc n) o r w d =
      by_call (Hands s) true s s [] (sym (append-nil s)) (λ _. refl) o (takes (at_hand r) 0) _ _
      (λ j t e r' w' q a l c. (a, end_hands n e r' w' (ended_once s e r' w' c))) (λ j r' w' q f c. never_ended (sym f)) (λ v a. a)
      (feeding (finishing r) w []) (last_step o (finishing r) w d)

  end_comes : (n : ℕ) (o : Cursor) (r : Reader) (w : List ℕ) → Driven true s o (finishing r) w → length s - o.offset < n → Complete (session n [] r w)
  unfolding session
  end_comes zero o r w d b = absurd (omega arith)
  end_comes (suc n) o r w d b =
      by_call (λ c h. Complete h) true s s [] (sym (append-nil s)) (λ _. refl) o (takes (at_hand r) 0) _ _
      (λ j t e r' w' q a l c. let i = driven_inside true s e r' w' c s [] (sym (append-nil s)) (λ _. refl) in end_comes n e r' w' (ended_once s e r' w' c) (omega arith)) (λ j r' w' q f c. never_ended (sym f)) (λ v a. tt)
      (feeding (finishing r) w []) (last_step o (finishing r) w d)

-- ---- chunk after chunk
joined-left : (y : List ℕ) (xs : List (List ℕ)) → joined (left y xs) ≡ y ++ joined xs
joined-left [] xs = refl
joined-left (a ∷ y) xs = refl

takes-some : (h n : ℕ) → h < most_at_hand → 0 < n → 0 < takes h n
takes-some h n f g = go (ltb h full_hand) refl
  where
    go : (t : Bool) → ltb h full_hand ≡ t → 0 < min n (cond t (full_hand - h) (most_at_hand - h))
    go true e = let a = ltb-true h full_hand e in omega arith
    go false e = omega arith

-- what is left is less
left_less : (k : ℕ) (x : List ℕ) (xs : List (List ℕ)) → (0 < length x → 0 < k) → length (joined (left (drop k x) xs)) + length (left (drop k x) xs) < length (joined (x ∷ xs)) + length (x ∷ xs)
left_less k x xs f = go (drop k x) (length-drop k x)
  where
    go : (y : List ℕ) → length y ≡ length x - k → length (joined (left y xs)) + length (left y xs) < length (joined (x ∷ xs)) + length (x ∷ xs)
    go [] e = let a = length-append x (joined xs) in omega arith
    go (c ∷ y) e = let a = length-append x (joined xs) in let b = length-append (c ∷ y) (joined xs) in let g = f (omega arith) in omega arith

module _ (s : List ℕ) (short : length s ≤ longest) where
  -- the first chunk of several
  module _ (x : List ℕ) (xs : List (List ℕ)) (p : List ℕ) (e : s ≡ p ++ (x ++ joined xs)) (o : Cursor) (r : Reader) (w : List ℕ) (d : Driven false p o r w) where
    abbrev j : ℕ
    j = takes (at_hand r) (length x)

    first_step : Stepped false (p ++ take j x) o j (feeding r w x)
    first_step =
        let a = ap length e in
        let b = length-append p (x ++ joined xs) in
        let c = length-append x (joined xs) in
        step false p o r w d x (λ f. never_ended f) (omega arith)

    rest : s ≡ (p ++ take j x) ++ (drop j x ++ joined xs)
    rest =
        e ∙ ap (λ (u : List ℕ). p ++ (u ++ joined xs)) (sym (take-append-drop j x)) ∙ ap (λ (u : List ℕ). p ++ u) (append_assoc (take j x) (drop j x) (joined xs))
        ∙ sym (append_assoc p (take j x) (drop j x ++ joined xs))

    rest-left : s ≡ (p ++ take j x) ++ joined (left (drop j x) xs)
    rest-left = rest ∙ ap (λ (u : List ℕ). (p ++ take j x) ++ u) (sym (joined-left (drop j x) xs))

  pub session_hands : (n : ℕ) (chunks : List (List ℕ)) (p : List ℕ) → s ≡ p ++ joined chunks → (o : Cursor) (r : Reader) (w : List ℕ) → Driven false p o r w → Hands s o (session n chunks r w)
  unfolding session
  session_hands zero chunks p e o r w d = tt
  session_hands (suc n) [] p e o r w d = end_hands s short (suc n) o r w (subst (λ (u : List ℕ). Driven true u o (finishing r) w) (sym (e ∙ append-nil p)) (ended_driven p o r w d))
  session_hands (suc n) (x ∷ xs) p e o r w d =
      by_call (Hands s) false s (p ++ take (j x xs p e o r w d) x) (drop (j x xs p e o r w d) x ++ joined xs) (rest x xs p e o r w d) (λ f. never_ended f) o (j x xs p e o r w d) _ _
      (λ i t c r' w' q a l b. (a, session_hands n (drop i x ∷ xs) (p ++ take i x) (subst (λ (k : ℕ). s ≡ (p ++ take k x) ++ (drop k x ++ joined xs)) (sym q) (rest x xs p e o r w d)) c r' w' (subst (λ (k : ℕ). Driven false (p ++ take k x) c r' w') (sym q) b)))
      (λ i r' w' q f b. session_hands n (left (drop i x) xs) (p ++ take i x) (subst (λ (k : ℕ). s ≡ (p ++ take k x) ++ joined (left (drop k x) xs)) (sym q) (rest-left x xs p e o r w d)) o r' w' (subst (λ (k : ℕ). Driven false (p ++ take k x) o r' w') (sym q) b))
      (λ v a. a) (feeding r w x) (first_step x xs p e o r w d)

  pub session_comes : (n : ℕ) (chunks : List (List ℕ)) (p : List ℕ) → s ≡ p ++ joined chunks → (o : Cursor) (r : Reader) (w : List ℕ) → Driven false p o r w
      → length s - o.offset + (length (joined chunks) + length chunks) < n → Complete (session n chunks r w)
  unfolding session
  session_comes zero chunks p e o r w d b = absurd (omega arith)
  session_comes (suc n) [] p e o r w d b = end_comes s short (suc n) o r w (subst (λ (u : List ℕ). Driven true u o (finishing r) w) (sym (e ∙ append-nil p)) (ended_driven p o r w d)) (omega arith)
  session_comes (suc n) (x ∷ xs) p e o r w d b =
      by_call (λ c h. Complete h) false s (p ++ take (j x xs p e o r w d) x) (drop (j x xs p e o r w d) x ++ joined xs) (rest x xs p e o r w d) (λ f. never_ended f) o (j x xs p e o r w d) _ _
      (λ i t c r' w' q a l g.
      let h = subst (λ (k : ℕ). s ≡ (p ++ take k x) ++ (drop k x ++ joined xs)) (sym q) (rest x xs p e o r w d) in
      let y = subst (λ (k : ℕ). Driven false (p ++ take k x) c r' w') (sym q) g in
      let z = driven_inside false (p ++ take i x) c r' w' y s (drop i x ++ joined xs) h (λ f. never_ended f) in
      let a₁ = length-append x (joined xs) in
      let a₂ = length-append (drop i x) (joined xs) in
      let a₃ = length-drop i x in
      session_comes n (drop i x ∷ xs) (p ++ take i x) h c r' w' y (omega arith))
      (λ i r' w' q f g.
      let h = subst (λ (k : ℕ). s ≡ (p ++ take k x) ++ joined (left (drop k x) xs)) (sym q) (rest-left x xs p e o r w d) in
      let y = subst (λ (k : ℕ). Driven false (p ++ take k x) o r' w') (sym q) g in
      let z = left_less i x xs (λ u. subst (λ (k : ℕ). 0 < k) (sym q) (takes-some (at_hand r) (length x) d.few u)) in
      session_comes n (left (drop i x) xs) (p ++ take i x) h o r' w' y (omega arith))
      (λ v a. tt) (feeding r w x) (first_step x xs p e o r w d)

-- ---- from the start

-- so many calls are enough
abbrev pub calls : List (List ℕ) → ℕ
calls chunks = suc (length (joined chunks) + (length (joined chunks) + length chunks))

module _ (chunks : List (List ℕ)) (w : List ℕ) (size : length w ≡ window_size) (short : length (joined chunks) ≤ longest) where
  pub hands_whole : Hands (joined chunks) start_cursor (session (calls chunks) chunks begun w)
  hands_whole = session_hands (joined chunks) short (calls chunks) chunks [] refl start_cursor begun w (begun_driven w size)

  pub comes_whole : Complete (session (calls chunks) chunks begun w)
  comes_whole = session_comes (joined chunks) short (calls chunks) chunks [] refl start_cursor begun w (begun_driven w size) (omega arith)

pub cuts_agree : (a b : List (List ℕ)) (v w : List ℕ) → length v ≡ window_size → length w ≡ window_size → joined a ≡ joined b → length (joined a) ≤ longest → session (calls a) a begun v ≡ session (calls b) b begun w
cuts_agree a b v w m n e h =
    let k : length (joined b) ≤ longest = subst (λ (s : List ℕ). length s ≤ longest) e h in
    unique (joined a) (session (calls a) a begun v) (session (calls b) b begun w) start_cursor (hands_whole a v m h)
    (subst (λ (s : List ℕ). Hands s start_cursor (session (calls b) b begun w)) (sym e) (hands_whole b w n k)) (comes_whole a v m h) (comes_whole b w n k)
