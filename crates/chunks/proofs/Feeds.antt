-- A feeding: what its tests tell, and what the window holds behind it. Assumes nothing.
use mathlib.Core.Path.{◌≡◌, refl, sym, subst, ◌∙◌, ap}
use mathlib.Core.Bool.{Bool, true, false, cond, ◌&&◌}
use mathlib.Core.List.{List, [], ◌∷◌, ◌++◌, append_assoc}
use Prim.Native.Nat.{ℕ, suc, ◌+◌, ◌-◌, ◌<◌, ◌≤◌, min}
use native.Mathlib.Omega.{arith}
use borrow.Author.Tests.{leb-true, ltb-true, ltb-false, le-leb, eqb-true, eq-eqb}
use mir.Val.{Fits}
use mir.Syntax.{w64}
use lib.Dec.{leb, ltb, eqb}
use lib.ListN.{length, take, drop, length-append, length-drop, length-set}
use lib.Seq.{length-take-le, take_at, drop_at, take-add, take-set-le, take-suc-set, paste, length-paste, take-paste}
use Rattle.lexer.specs.Cursor.{longest, valid, Valid}
use Rattle.lexer.proofs.Cursors.{both, is-valid}
use Rattle.lexer.specs.Cursor.{part}
use Rattle.lexer.specs.declared.cursor.Cursor.{Cursor}
use Rattle.chunks.specs.Answers.{hand_of, EndsUnknown}
use Rattle.chunks.specs.Feed.{full_hand, at_hand, hand_in, delivered, window_size, most_at_hand, sound, admitted, takes, place_of, leaves, gave, took, fed_by, filled_with, Behind, Moves, Fills, TakesIn, Admitted, Windowed}
use Rattle.chunks.specs.Hand.{to_next, Held}
use Rattle.chunks.specs.Reader.{Gives, handed, more, never, reading, Passable}
use Rattle.chunks.specs.Shift.{unknown}
use Rattle.chunks.specs.declared.delivery.Fed.{Fed}
use Rattle.std.specs.declared.result.Result.TheVariants.{Ok}
use Rattle.std.specs.declared.option.Option.TheVariants.{None}
use Rattle.chunks.specs.Given.{token_given}
use Rattle.std.specs.declared.result.Result.{Result}
use Rattle.chunks.specs.declared.delivery.Reader.{Reader}
use Rattle.chunks.specs.declared.hand.Next.{Next}
use Rattle.lexer.specs.declared.refusal.Fault.{Fault}
use Rattle.chunks.specs.declared.layout.Mode.TheVariants.{Blank}
use Rattle.chunks.proofs.Counts.{Counts, reading_counts}

-- ---- what the tests tell
pub record Sound (r : Reader) : Type 0 where
  pub some : r.from ≤ r.to
  pub inside : r.to < window_size
  pub valid : Valid (delivered r) r.cursor

pub is-sound : (r : Reader) → sound r ≡ true → Sound r
is-sound r e =
    let p = both (leb r.from r.to && ltb r.to window_size && leb r.layout r.cursor.offset) (valid (delivered r) r.cursor) e in
    let o = both (leb r.from r.to && ltb r.to window_size) (leb r.layout r.cursor.offset) p.0 in
    let q = both (leb r.from r.to) (ltb r.to window_size) o.0 in
    record { some = leb-true r.from r.to q.0; inside = ltb-true r.to window_size q.1; valid = is-valid (delivered r) r.cursor p.1 }

-- two tests that hold together
same_test : (t u : Bool) → (t ≡ true → u ≡ true) → (u ≡ true → t ≡ true) → t ≡ u
same_test true true f g = refl
same_test false false f g = refl
same_test true false f g = sym (f refl)
same_test false true f g = g refl

module _ (r : Reader) (n : ℕ) (t : Bool) (e : t ≡ sound r) where
  module _ (f : t ≡ true) where
    facts : Sound r
    facts = is-sound r (sym e ∙ f)

    pub admit_some : r.from ≤ r.to
    admit_some = facts.some

    pub admit_fits : Fits w64 (r.cursor.offset + (r.to - r.from))
    admit_fits = let k = facts.valid.short in record { fits = omega arith }

    pub admit_short : r.cursor.offset + (r.to - r.from) ≤ longest
    admit_short = facts.valid.short

    pub admit_ended : (ended : Bool) → ended ≡ true → eqb n 0 ≡ admitted ended r n
    admit_ended ended g =
        let d = delivered r in
        let k : eqb n 0 ≡ leb (d + n) d =
        same_test (eqb n 0) (leb (d + n) d) (λ p. let z = eqb-true n 0 p in le-leb (d + n) d (omega arith)) (λ p. let z = leb-true (d + n) d p in eq-eqb n 0 (omega arith)) in
        cc

    pub admit_open : (ended : Bool) → ended ≡ false → leb n (longest - (r.cursor.offset + (r.to - r.from))) ≡ admitted ended r n
    admit_open ended g =
        let s = admit_short in
        let d = delivered r in
        let k : leb n (longest - d) ≡ leb (d + n) longest =
        same_test (leb n (longest - d)) (leb (d + n) longest) (λ p. let z = leb-true n (longest - d) p in le-leb (d + n) longest (omega arith)) (λ p. let z = leb-true (d + n) longest p in le-leb n (longest - d) (omega arith)) in
        cc

  pub admit_none : (ended : Bool) → t ≡ false → false ≡ admitted ended r n
  admit_none ended g = cc

-- ---- what the bytes at hand give, as the code has it
module _ (r : Reader) (to from sum k : ℕ) where
  pub gives_behind : (g : Gives) → Counts from sum g → sum ≤ from + to → Behind to sum (to_next g)
  unfolding to_next
  gives_behind (handed t d u) q h = record { read = (let c = q.0.count in omega arith); rest = (let a = q.0.ahead in omega arith) }
  gives_behind (more m d l u) q h = record { read = (let c = q.count in omega arith); rest = (let a = q.ahead in omega arith) }
  gives_behind (never w) q h = tt

  -- the bytes that are left, by the cursor
  left-same : (d : Cursor) (u : List ℕ) → d.offset + length u ≡ sum → to - (sum - d.offset) ≡ to - length u
  left-same d u c = let e : sum - d.offset ≡ length u = omega arith in ap (λ (i : ℕ). to - i) e

  pub fed_gave : (g : Gives) → Counts from sum g → fed_by r to sum k (to_next g) ≡ gave r to k g
  unfolding to_next fed_by gave
  fed_gave (handed t d u) q = ap (λ (i : ℕ). record { reader = record { mode = Blank; cursor = d; layout = d.offset; from = i; to = to; phase = r.phase }; taken = k; given = token_given t d }) (left-same d u q.0.count)
  fed_gave (more m d l u) q = ap (λ (i : ℕ). record { reader = record { mode = m; cursor = d; layout = l; from = i; to = to; phase = r.phase }; taken = k; given = Ok None }) (left-same d u q.count)
  fed_gave (never w) q = refl

-- bytes with the unknown one behind them
hand_before : (u s : List ℕ) → s ≡ u ++ unknown ∷ [] → hand_of s ≡ u
hand_before u s e =
    let l = ap length e ∙ length-append u (unknown ∷ []) in
    ap (take (length s - 1)) e ∙ take_at u (unknown ∷ []) (length s - 1) (omega arith)

module _ (w : List ℕ) (r : Reader) (place to : ℕ) (h : Windowed w r place to) where
  pub window_some : place ≤ to
  window_some = h.some

  pub window_sum : Fits w64 (r.cursor.offset + (to - place))
  window_sum = record { fits = (let k = h.able.short in omega arith) }

  pub window_one : Fits w64 (to + 1)
  window_one = record { fits = (let k = h.inside in omega arith) }

  module _ (behind : ℕ) (e : behind ≡ to + 1) where
    pub window_start : place ≤ behind
    window_start = let k = h.some in omega arith

    pub window_end : behind ≤ length w
    window_end = let k = h.inside in let z = h.size in omega arith

    -- the bytes that are read, as the code has them
    abbrev shown : List ℕ
    shown = take (behind - place) (drop place w)

    shown-same : shown ≡ part place to w ++ unknown ∷ []
    shown-same = ap (λ (i : ℕ). part place i w) e ∙ h.last

    hand-shown : hand_of shown ≡ part place to w
    hand-shown = hand_before (part place to w) shown shown-same

    hand-length : length (part place to w) ≡ to - place
    hand-length =
        let k = h.inside in
        let z = h.size in
        let o = h.some in
        let d = length-drop place w in
        length-take-le (to - place) (drop place w) (omega arith)

    shown-length : length shown ≡ to - place + 1
    shown-length = let n = hand-length in ap length shown-same ∙ length-append (part place to w) (unknown ∷ []) ∙ omega arith

    pub window_last : EndsUnknown shown
    window_last = shown-same ∙ ap (λ (u : List ℕ). u ++ unknown ∷ []) (sym hand-shown)

    pub window_held : Held shown r.cursor
    window_held =
        let n = shown-length in
        let k = h.inside in
        record {
          few = omega arith;
          able = record { short = (let s = h.able.short in omega arith); line = h.able.line; column = h.able.column };
        }

    module _ (ended : Bool) (x : Result Next Fault) (q : x ≡ to_next (reading ended r.mode r.cursor r.layout (hand_of shown))) (sum : ℕ) (f : sum ≡ r.cursor.offset + (to - place)) where
      abbrev given-here : Gives
      given-here = reading ended r.mode r.cursor r.layout (part place to w)

      next-same : x ≡ to_next given-here
      next-same = q ∙ ap (λ (u : List ℕ). to_next (reading ended r.mode r.cursor r.layout u)) hand-shown

      counts : Counts r.cursor.offset sum given-here
      counts =
          let n = hand-length in
          let m : r.cursor.offset + length (part place to w) ≡ sum = omega arith in
          subst (λ (i : ℕ). Counts r.cursor.offset i given-here) m
          (reading_counts ended r.mode r.cursor r.layout (part place to w) (subst (λ (i : ℕ). Passable i r.cursor) (sym n) h.able))

      pub window_behind : Behind to sum x
      window_behind = subst (Behind to sum) (sym next-same) (gives_behind r to r.cursor.offset sum 0 given-here counts (omega arith))

      pub window_gave : (k : ℕ) (y : Fed) → y ≡ fed_by r to sum k x → y ≡ gave r to k (reading ended r.mode r.cursor r.layout (part place to w))
      window_gave k y g = g ∙ ap (fed_by r to sum k) next-same ∙ fed_gave r to r.cursor.offset sum k given-here counts

-- ---- the window behind a feeding
pub takes_few : (h n : ℕ) → takes h n ≤ n
takes_few h n = omega arith

pub takes_room : (h n : ℕ) → h + takes h n ≤ cond (ltb h most_at_hand) most_at_hand h
takes_room h n = go (ltb h full_hand) refl (ltb h most_at_hand) refl
  where
    go : (t : Bool) → ltb h full_hand ≡ t → (u : Bool) → ltb h most_at_hand ≡ u → h + min n (cond t (full_hand - h) (most_at_hand - h)) ≤ cond u most_at_hand h
    go true e true f = let a = ltb-true h full_hand e in omega arith
    go true e false f = let a = ltb-true h full_hand e in let b = ltb-false h most_at_hand f in omega arith
    go false e true f = let a = ltb-true h most_at_hand f in omega arith
    go false e false f = let b = ltb-false h most_at_hand f in omega arith

module _ (from to : ℕ) (some : from ≤ to) (inside : to < window_size) where
  pub place-front : place_of from ≤ from
  place-front = go (ltb from (most_at_hand + 1))
    where
      go : (t : Bool) → cond t from 0 ≤ from
      go true = omega arith
      go false = omega arith

  pub place_room : (n : ℕ) → place_of from + (to - from) + takes (to - from) n < window_size
  place_room n = go (ltb from (most_at_hand + 1)) refl (ltb (to - from) most_at_hand) refl
    where
      h : ℕ
      h = to - from

      go : (t : Bool) → ltb from (most_at_hand + 1) ≡ t → (u : Bool) → ltb h most_at_hand ≡ u → cond t from 0 + (to - from) + takes (to - from) n < window_size
      go true e true f = let a = ltb-true from (most_at_hand + 1) e in let b : h + takes h n ≤ most_at_hand = rw f at (takes_room h n) in omega arith
      go true e false f = let b : h + takes h n ≤ h = rw f at (takes_room h n) in omega arith
      go false e true f = let b : h + takes h n ≤ most_at_hand = rw f at (takes_room h n) in omega arith
      go false e false f = let a = ltb-false from (most_at_hand + 1) e in let b : h + takes h n ≤ h = rw f at (takes_room h n) in omega arith

-- the last bytes of the first a + n, where the first a are known
pub last_part : (a n : ℕ) (w x y : List ℕ) → a ≤ length w → length x ≡ a → take (a + n) w ≡ x ++ y → take n (drop a w) ≡ y
last_part a n w x y h l e =
    sym (drop_at (take a w) (take n (drop a w)) a (length-take-le a w h)) ∙ ap (drop a) (sym (take-add a n w) ∙ e) ∙ drop_at x y a l

module _ (w chunk : List ℕ) (from place h k : ℕ) (size : length w ≡ window_size) (inside : from + h < window_size) (front : place ≤ from) (few : k ≤ length chunk) (room : place + h + k < window_size) where
  -- the bytes at hand are moved, and those of the chunk are put behind them
  abbrev moved : List ℕ
  moved = paste w place (drop from w) h

  abbrev put : List ℕ
  put = paste moved (place + h) chunk k

  abbrev behind : List ℕ
  behind = filled_with w from place h chunk k

  abbrev hand : List ℕ
  hand = take h (drop from w) ++ take k chunk

  source : h ≤ length (drop from w)
  source = let l = length-drop from w in omega arith

  pub moved_length : length moved ≡ window_size
  moved_length = let s = source in length-paste w place (drop from w) h (omega arith) s ∙ size

  put-length : length put ≡ window_size
  put-length = let l = moved_length in length-paste moved (place + h) chunk k (omega arith) few ∙ l

  pub behind-length : length behind ≡ window_size
  behind-length = length-set put (place + h + k) unknown ∙ put-length

  put_front : take (place + (h + k)) put ≡ take place w ++ hand
  put_front =
      let l = moved_length in
      let e : place + (h + k) ≡ place + h + k = omega arith in
      ap (λ (i : ℕ). take i put) e ∙ take-paste moved (place + h) chunk k (omega arith) few
      ∙ ap (λ (u : List ℕ). u ++ take k chunk) (take-paste w place (drop from w) h (omega arith) source)
      ∙ append_assoc (take place w) (take h (drop from w)) (take k chunk)

  front_length : length (take place w) ≡ place
  front_length = length-take-le place w (omega arith)

  pub behind-hand : take (h + k) (drop place behind) ≡ hand
  behind-hand =
      let l = behind-length in
      last_part place (h + k) behind (take place w) hand (omega arith) front_length
      (take-set-le (place + (h + k)) put (place + h + k) unknown (omega arith) ∙ put_front)

  behind-shown : take (h + k + 1) (drop place behind) ≡ hand ++ unknown ∷ []
  behind-shown =
      let l = behind-length in
      let p = put-length in
      let e : place + (h + k + 1) ≡ suc (place + h + k) = omega arith in
      let i : place + h + k ≡ place + (h + k) = omega arith in
      last_part place (h + k + 1) behind (take place w) (hand ++ unknown ∷ []) (omega arith) front_length
      (ap (λ (j : ℕ). take j behind) e ∙ take-suc-set put (place + h + k) unknown (omega arith)
      ∙ ap (λ (u : List ℕ). u ++ unknown ∷ []) (ap (λ (j : ℕ). take j put) i ∙ put_front)
      ∙ append_assoc (take place w) hand (unknown ∷ []))

-- ---- a chunk is taken
module _ (w : List ℕ) (r : Reader) (chunk : List ℕ) (a : Admitted w r (length chunk)) where
  abbrev h : ℕ
  h = r.to - r.from

  pub take-some : r.from ≤ r.to
  take-some = a.some

  module _ (place : ℕ) (p : place ≡ place_of r.from) where
    front : place ≤ r.from
    front = let k = place-front r.from r.to a.some a.inside in omega arith

    pub take_end : Fits w64 (place + (r.to - r.from))
    take_end = record { fits = (let f = front in let i = a.inside in omega arith) }

    module _ (taken : ℕ) (q : taken ≡ takes (r.to - r.from) (length chunk)) where
      room : place + h + taken < window_size
      room = let k = place_room r.from r.to a.some a.inside (length chunk) in rw (p, q) k

      few : taken ≤ length chunk
      few = rw q (takes_few h (length chunk))

      whole : r.from + h < window_size
      whole = let s = a.some in let i = a.inside in omega arith

      pub take-to : Fits w64 (place + (r.to - r.from) + taken)
      take-to = record { fits = (let k = room in omega arith) }

      pub take-takes : TakesIn w r.from r.to place (length chunk) taken
      take-takes = record { moves = record { size = a.size; some = a.some; inside = a.inside; front = front }; there = few; room = room }

      module _ (w₂ : List ℕ) (f : w₂ ≡ filled_with w r.from place (r.to - r.from) chunk taken) where
        at-hand : part place (place + h + taken) w₂ ≡ hand_in r w ++ take taken chunk
        at-hand =
            let m : place + h + taken - place ≡ h + taken = omega arith in
            ap (λ (u : List ℕ). part place (place + h + taken) u) f ∙ ap (λ (i : ℕ). take i (drop place (filled_with w r.from place h chunk taken))) m
            ∙ behind-hand w chunk r.from place h taken a.size whole front few room

        shown_last : part place (place + h + taken + 1) w₂ ≡ part place (place + h + taken) w₂ ++ unknown ∷ []
        shown_last =
            let m : place + h + taken + 1 - place ≡ h + taken + 1 = omega arith in
            ap (λ (u : List ℕ). part place (place + h + taken + 1) u) f ∙ ap (λ (i : ℕ). take i (drop place (filled_with w r.from place h chunk taken))) m
            ∙ behind-shown w chunk r.from place h taken a.size whole front few room
            ∙ ap (λ (u : List ℕ). u ++ unknown ∷ []) (sym at-hand)

        pub take_windowed : Windowed w₂ r place (place + (r.to - r.from) + taken)
        take_windowed =
            let k = few in
            let s = a.short in
            let m : place + h + taken - place ≡ h + taken = omega arith in
            record {
              last = shown_last;
              some = omega arith;
              inside = room;
              size = ap length f ∙ behind-length w chunk r.from place h taken a.size whole front few room;
              able = record { short = omega arith; line = a.valid.line; column = a.valid.column };
            }

        pub take_leaves : (ended : Bool) (y : Fed)
            → y ≡ gave r (place + (r.to - r.from) + taken) taken (reading ended r.mode r.cursor r.layout (part place (place + (r.to - r.from) + taken) w₂))
            → leaves y w₂ ≡ took ended r w chunk (takes (at_hand r) (length chunk))
        take_leaves ended y g =
            ap (λ (x : Fed). leaves x w₂) (g ∙ ap (λ (v : List ℕ). gave r (place + h + taken) taken (reading ended r.mode r.cursor r.layout v)) at-hand)
            ∙ ap (leaves (gave r (place + h + taken) taken (reading ended r.mode r.cursor r.layout (hand_in r w ++ take taken chunk)))) f
            ∙ sums place p taken q
          where
            sums : (i : ℕ) → i ≡ place_of r.from → (k : ℕ) → k ≡ takes (r.to - r.from) (length chunk)
                → leaves (gave r (i + h + k) k (reading ended r.mode r.cursor r.layout (hand_in r w ++ take k chunk))) (filled_with w r.from i h chunk k) ≡ took ended r w chunk (takes (at_hand r) (length chunk))
            sums i d k b = rw (d, b)

-- ---- what the two halves of it ask
module _ (w : List ℕ) (from to place n k : ℕ) (t : TakesIn w from to place n k) where
  pub takes_moves : Moves w from to place
  takes_moves = t.moves

  pub takes-some : from ≤ to
  takes-some = t.moves.some

  pub takes_end : Fits w64 (place + (to - from))
  takes_end = record { fits = (let r = t.room in omega arith) }

  pub takes_fills : (v : List ℕ) → v ≡ paste w place (drop from w) (to - from) → Fills v n (place + (to - from)) k
  takes_fills v e =
      let m = t.moves in
      let s = m.some in
      let i = m.inside in
      let f = m.front in
      let z = m.size in
      let d = length-drop from w in
      record { size = ap length e ∙ length-paste w place (drop from w) (to - from) (omega arith) (omega arith) ∙ z; there = t.there; room = t.room }

-- ---- a chunk that may come
pub is-admitted : (w : List ℕ) (ended : Bool) (r : Reader) (n : ℕ) → length w ≡ window_size → admitted ended r n ≡ true → Admitted w r n
is-admitted w ended r n l e =
    let p = both (sound r) (leb (delivered r + n) (cond ended (delivered r) longest)) e in
    let s = is-sound r p.0 in
    record { size = l; some = s.some; inside = s.inside; valid = s.valid; short = few ended s.valid.short (leb-true (delivered r + n) (cond ended (delivered r) longest) p.1) }
  where
    few : (t : Bool) → delivered r ≤ longest → delivered r + n ≤ cond t (delivered r) longest → delivered r + n ≤ longest
    few true h k = omega arith
    few false h k = k
