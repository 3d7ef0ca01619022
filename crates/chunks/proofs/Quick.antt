-- Fewer bytes at hand than a token may have: the token call over them, with the unknown byte behind, tells what they give. Assumes nothing.
use mathlib.Core.Path.{◌≡◌, refl, sym, subst, ◌∙◌, ap}
use mathlib.Core.Logic.{◌⊎◌, inl, inr}
use mathlib.Core.Bool.{Bool, true, false, cond}
use mathlib.Core.List.{List, [], ◌∷◌, ◌++◌, append-nil}
use Prim.Native.Nat.{ℕ, ◌+◌, ◌-◌, ◌<◌, ◌≤◌}
use native.Mathlib.Omega.{arith}
use borrow.Author.Tests.{eqb-true, eq-eqb, lt-ltb, le-ltb}
use lib.Dec.{eqb, ltb}
use lib.ListN.{length, drop, get_or, length-append}
use lib.Seq.{length-take-le}
use Rattle.lexer.specs.Chars.{is, class_of, decimal_digit}
use Rattle.lexer.specs.Digits.{is_digit}
use Rattle.lexer.specs.Cursor.{start_cursor}
use Rattle.lexer.specs.Number.{number_token, number_end, NumberRead}
use Rattle.lexer.specs.Refusal.{number_of, fault, refuse}
use Rattle.lexer.specs.Token.{Lexeme, lexeme, refused, token_since, read_lexeme, answered, next_token, token_read, Answer}
use Rattle.lexer.specs.declared.refusal.Fault.{Fault}
use Rattle.lexer.specs.declared.refusal.Refusal.{Refusal}
use Rattle.lexer.specs.declared.refusal.Refusal.TheVariants.{ForeignByte}
use Rattle.lexer.specs.declared.cursor.Cursor.{Cursor}
use Rattle.lexer.specs.declared.number.NumberToken.{NumberToken}
use Rattle.lexer.specs.declared.token.Token.{Token}
use Rattle.lexer.specs.declared.token.Source.TheVariants.{File}
use Rattle.lexer.proofs.Calls.{read_promises}
use Rattle.lexer.proofs.Cursors.{both}
use Rattle.lexer.proofs.Refusals.{number_once}
use Rattle.lexer.proofs.Faults.{refusal_placed, placed-inside}
use Rattle.lexer.proofs.Layouts.{Before, layout_ends}
use Rattle.lexer.proofs.Numbers.{whole_ends, partial_ends}
use Rattle.lexer.proofs.Promises.{class_digit, token_there}
use Rattle.lexer.proofs.Spans.{by_test}
use Rattle.chunks.specs.Answers.{answer_came, of_answer, hand_of, EndsUnknown}
use Rattle.chunks.proofs.Views.{first_there}
use Rattle.chunks.specs.Hand.{to_next, next_by, Fits, Held, Brief}
use Rattle.chunks.specs.Reader.{Gives, handed, more, never, Passed, stopped, pass, placed, judged, given, reading, moved_by, Sums, Passable}
use Rattle.chunks.specs.Shift.{unknown, shift_token}
use Rattle.chunks.specs.Whole.{longest_token, token_at, own_byte, end_of, token_end, unshown, longer_than, showing, longer, next_lexeme, Next as Next', NoneLonger}
use Rattle.chunks.specs.declared.hand.Next.{Next}
use Rattle.chunks.specs.Verdict.{Verdict, settled, too_long, waiting, verdict}
use Rattle.chunks.specs.declared.layout.Mode.{Mode}
use Rattle.chunks.specs.declared.pass.Place.{Place}
use Rattle.chunks.specs.declared.layout.Why.{Why}
use Rattle.chunks.specs.declared.layout.Why.TheVariants.{Starts, Waits, Stops}
use Rattle.chunks.specs.Given.{Given, read_to}
use Rattle.lexer.specs.declared.token.TokenRead.{TokenRead}
use Rattle.std.specs.declared.result.Result.TheVariants.{Ok, Err}
use Rattle.std.specs.declared.result.Result.{Result}
use Rattle.chunks.specs.declared.layout.Mode.TheVariants.{Blank as blank}
use Rattle.chunks.proofs.AsCalls.{Fifteen, next_cases, answers}
use Rattle.chunks.proofs.Counts.{Counts, reading_counts}
use Rattle.chunks.proofs.Cuts.{fed_stands}
use Rattle.chunks.proofs.Prompt.{never_ended, begun-after, foreign_next}
use Rattle.chunks.proofs.Reading.{Stands, Tells, reading_tells}
use Rattle.chunks.proofs.Shifted.{shift_next, reading-from_start}
use Rattle.chunks.proofs.Verdicts.{digit_seen}
use Rattle.chunks.proofs.Windows.{true-false}
use Rattle.std.specs.declared.result.Result.TheVariants.{Ok, Err}

-- ---- in a text of fewer than 1,024 bytes no token is longer
number-inside : (s : List ℕ) (at : ℕ) → at < length s → is decimal_digit (get_or s at 0) ≡ true → number_end (number_token s at) ≤ length s
unfolding number_end
number-inside s at l c = go (number_token s at) refl
  where
    digit : is_digit 10 (get_or s at 0) ≡ true
    digit = class_digit (get_or s at 0) (eqb-true (class_of (get_or s at 0)) decimal_digit c)

    go : (x : NumberRead) → number_token s at ≡ x → number_end x ≤ length s
    go (Ok (NumberToken.Whole m e)) f = (whole_ends s at (get_or s at 0) (digit_seen s at l c) digit m e f).plain.span.inside
    go (Ok (NumberToken.Partial m e)) f = (partial_ends s at (get_or s at 0) (digit_seen s at l c) digit m e f).ends.plain.span.inside
    go (Err w) f = omega arith

token-inside : (layout : Bool) (s : List ℕ) (at : ℕ) → end_of (token_at layout s at) ≤ length s
unfolding end_of
token-inside layout s at = go (token_at layout s at) refl
  where
    go : (a : Lexeme) → token_at layout s at ≡ a → end_of a ≤ length s
    go (lexeme t e x) f = (token_there File layout s at t e x f).inside
    go (refused w) f = omega arith

short_none : (s : List ℕ) → length s < longest_token → NoneLonger s
unfolding unshown longer_than
short_none s h from at f = go (token_end (ltb from at) s at) end_inside
  where
    inside : at < length s
    inside = let b : Before from (length s) (Ok at) = subst (Before from (length s)) f (layout_ends s from) in b.1

    end_inside : token_end (ltb from at) s at ≤ length s
    end_inside = by_test (λ (e : ℕ). e ≤ length s) (is decimal_digit (get_or s at 0)) _ _ (number-inside s at inside) (λ _. token-inside (ltb from at) s at)

    hidden : (k : ℕ) → longest_token ≤ k → unshown (ltb from at) s at k ≡ false
    hidden k l = rw (lt-ltb (length s) (at + k) (omega arith))

    many : (t : Bool) → longest_token ≤ cond t longest_token (longest_token + 1)
    many true = omega arith
    many false = omega arith

    go : (e : ℕ) → e ≤ length s → longer_than (ltb from at) s at (showing (token_at (ltb from at) s at)) e ≡ false
    go e l = by_test (λ (b : Bool). b ≡ false) (eqb e 0) _ _ (λ _. hidden (showing (token_at (ltb from at) s at)) (many (own_byte (token_at (ltb from at) s at)))) (λ _. le-ltb (at + longest_token) e (omega arith))

-- ---- the token call from the start of such a text, and what the bytes give
abbrev next_of : Answer → Result Next Fault
next_of (Ok p) = Ok (Next.Token p)
next_of (Err p) = Err p.fault

module _ (s : List ℕ) (few : length s < longest_token) where
  call_same : next_token File s start_cursor ≡ answered s start_cursor (next_lexeme s 0)
  call_same = go (next_cases s start_cursor)
    where
      go : (read_lexeme File s 0 ≡ next_lexeme s 0) ⊎ Fifteen s start_cursor (next_lexeme s 0) → next_token File s start_cursor ≡ answered s start_cursor (next_lexeme s 0)
      go (inl q) = answers s start_cursor (record { short = omega arith; offset = omega arith; line = omega arith; column = omega arith }) (next_lexeme s 0) q
      go (inr l) = absurd (true-false (longer (ltb 0 l.long.start) s l.long.start) l.long.long (short_none s few 0 l.long.start l.long.starts))

  read_same : (t : Token) (d : Cursor) → Next' s start_cursor t d → next_token File s start_cursor ≡ token_read t d
  unfolding answered
  read_same t d n = call_same ∙ ap (answered s start_cursor) n.reads ∙ ap (token_read t) (sym n.moved)

  refused-same : (w : Fault) → next_lexeme s 0 ≡ refused w → next_token File s start_cursor ≡ refuse w start_cursor
  unfolding answered
  refused-same w e = call_same ∙ ap (answered s start_cursor) e

-- the reader stands at the start of every text that goes on from v
stands_start : (v z : List ℕ) → Stands (v ++ z) start_cursor z blank start_cursor v
stands_start v z = fed_stands (v ++ z) start_cursor v z blank start_cursor [] (begun-after (v ++ z))

came_5 : (n : ℕ) → answer_came n (refuse (fault ForeignByte n) start_cursor) ≡ true
unfolding answer_came
came_5 n = eq-eqb n n refl

module _ (ended : Bool) (v z : List ℕ) (over : ended ≡ true → z ≡ []) (open-end : ended ≡ false → z ≡ unknown ∷ []) (few : length (v ++ z) < longest_token) (not-came : answer_came (length v) (next_token File (v ++ z) start_cursor) ≡ false) where
  by_gives : (g : Gives) → reading ended blank start_cursor 0 v ≡ g → Tells (v ++ z) start_cursor z ended over g → Counts 0 (0 + length v) g → to_next g ≡ next_of (next_token File (v ++ z) start_cursor)
  unfolding to_next
  by_gives (handed t d u) g p c = ap next_of (sym (read_same (v ++ z) few t d p.0))
  by_gives (never w) g p c = ap next_of (sym (refused-same (v ++ z) few w p))
  by_gives (more m d l u) g p c =
      let e : ended ≡ false = p.1 in
      let q : reading false blank start_cursor 0 v ≡ more m d l u = ap (λ (b : Bool). reading b blank start_cursor 0 v) (sym e) ∙ g in
      let k = c.count in
      let a = length-append v z in
      let f = foreign_next v start_cursor blank start_cursor v (stands_start v) m d l u q (omega arith) [] in
      let r = refused-same (v ++ z) few (fault ForeignByte (length v)) (ap (λ (x : List ℕ). next_lexeme (v ++ x) 0) (open-end e) ∙ f) in
      absurd (true-false (answer_came (length v) (next_token File (v ++ z) start_cursor)) (ap (answer_came (length v)) r ∙ came_5 (length v)) not-came)

  pub at-start : to_next (reading ended blank start_cursor 0 v) ≡ next_of (next_token File (v ++ z) start_cursor)
  at-start =
      let a = length-append v z in
      by_gives (reading ended blank start_cursor 0 v) refl (reading_tells (v ++ z) start_cursor z ended over blank start_cursor v (stands_start v z))
      (reading_counts ended blank start_cursor 0 v (record { short = omega arith; line = omega arith; column = omega arith }))

-- the same from any cursor, where the layout before the token begins
next_of_shifted : (c : Cursor) (s : List ℕ) (a : Answer) → a ≡ next_token File s start_cursor → shift_next c (next_of a) ≡ next_by blank c c.offset (of_answer a)
unfolding next_by of_answer
next_of_shifted c s (Ok q) e =
    let p = read_promises File s start_cursor q.token q.next (sym e) in
    let k : c.offset + q.token.layout ≡ c.offset = omega (arith, p.layout) in
    ap (λ (i : ℕ). Ok (Next.Token (read_to (token_since i (shift_token c.offset q.token)) (moved_by c q.next)))) k
next_of_shifted c s (Err p) e = refl

-- ---- as the code has it: the bytes at hand, with the unknown byte behind them
module _ (s : List ℕ) (last : EndsUnknown s) (c : Cursor) (h : Brief s c) (ended : Bool) where
  abbrev v : List ℕ
  v = hand_of s

  size : length v ≡ length s - 1
  size = length-take-le (length s - 1) s (omega arith)

  -- what is put to the call
  abbrev text : List ℕ
  text = cond ended v s

  -- what stands behind the bytes at hand there
  abbrev tail : Bool → List ℕ
  tail t = cond t [] (unknown ∷ [])

  text_of : (t : Bool) → cond t v s ≡ v ++ tail t
  text_of true = sym (append-nil v)
  text_of false = last

  text_few : (t : Bool) → length (cond t v s) < longest_token
  text_few true = let n = size in let b = h.brief in omega arith
  text_few false = h.brief

  over : (t : Bool) → t ≡ true → tail t ≡ []
  over true e = refl
  over false e = never_ended e

  unended : (t : Bool) → t ≡ false → tail t ≡ unknown ∷ []
  unended true e = never_ended (sym e)
  unended false e = refl

  module _ (a : Answer) (e : a ≡ next_token File text start_cursor) (t : Bool) (f : t ≡ answer_came (length s - 1) a) (g : t ≡ false) where
    told-start : to_next (reading ended blank start_cursor 0 v) ≡ next_of a
    told-start =
        let n : length s - 1 ≡ length v = sym size in
        let w : next_token File text start_cursor ≡ next_token File (v ++ tail ended) start_cursor = ap (λ (x : List ℕ). next_token File x start_cursor) (text_of ended) in
        at-start ended v (tail ended) (over ended) (unended ended) (subst (λ (x : List ℕ). length x < longest_token) (text_of ended) (text_few ended))
        (ap (answer_came (length v)) (sym w ∙ sym e) ∙ ap (λ (i : ℕ). answer_came i a) (sym n) ∙ sym f ∙ g)
        ∙ ap next_of (sym w ∙ sym e)

    pub brief_tells : (j : Given) → j ≡ of_answer a → (r : Result Next Fault) → r ≡ next_by blank c c.offset j → r ≡ to_next (reading ended blank c c.offset v)
    brief_tells j q r k = k ∙ ap (next_by blank c c.offset) q ∙ sym (next_of_shifted c text a e) ∙ ap (shift_next c) (sym told-start) ∙ sym (reading-from_start ended c v)

    pub brief_fits : (j : Given) → j ≡ of_answer a → Fits c j
    unfolding to_next of_answer
    brief_fits j q = subst (Fits c) (sym q) (go a refl)
      where
        able : Passable (length v) c
        able = let n = size in record { short = (let k = h.held.able.short in omega arith); line = h.held.able.line; column = h.held.able.column }

        counted : (t : Token) (d : Cursor) (y : Gives) → to_next y ≡ Ok (Next.Token (read_to t d)) → Counts 0 (0 + length v) y → Sums c d
        counted t d (handed t₁ d₁ u) q r =
            let same : read_to t₁ d₁ ≡ read_to t d = cc in
            let i : d₁ ≡ d = ap (λ (x : TokenRead). x.next) same in
            let n = r.0.count in
            let k = able.short in
            let l₁ = able.line in
            let l₂ = able.column in
            let m₁ = r.0.able.line in
            let m₂ = r.0.able.column in
            subst (Sums c) i (record { offset = omega arith; line = omega arith; column = omega arith })
        counted t d (more m d₁ l u) q r = let y : ◌≡◌ {A = ℕ} 0 1 = cc in absurd (omega arith)
        counted t d (never w) q r = let y : ◌≡◌ {A = ℕ} 0 1 = cc in absurd (omega arith)

        text-size : (b : Bool) → length (cond b v s) ≤ length s
        text-size true = let n = size in omega arith
        text-size false = omega arith

        go : (b : Answer) → a ≡ b → Fits c (of_answer b)
        go (Ok q) k =
            let m = counted q.token q.next (reading ended blank start_cursor 0 v) (told-start ∙ ap next_of k)
            (reading_counts ended blank start_cursor 0 v (record { short = (let i = able.short in omega arith); line = omega arith; column = omega arith })) in
            let p = read_promises File text start_cursor q.token q.next (sym e ∙ k) in
            record { sums = m; start = (let i = m.offset in omega (arith, p.ahead)) }
        go (Err q) k =
            let i = placed-inside text start_cursor q.fault (refusal_placed text start_cursor File q.fault q.cursor (sym e ∙ k)) in
            let l = text-size ended in
            let n = h.held.able.short in
            let o = first_there s last in
            omega arith

-- ---- the call came to the unknown byte: more is wanted

-- a refusal 5 points at a byte of the text
five_inside : (s : List ℕ) (n : ℕ) → next_token File s start_cursor ≡ refuse (fault ForeignByte n) start_cursor → n < length s
five_inside s n e = (refusal_placed s start_cursor File (fault ForeignByte n) start_cursor e).inside

came_fault : (n : ℕ) (w : Fault) → answer_came n (refuse w start_cursor) ≡ true → w ≡ fault ForeignByte n
unfolding answer_came
came_fault n w e =
    let p = both (eqb (number_of w.refusal) 5) (eqb w.offset n) e in
    let r = number_once w.refusal ForeignByte (eqb-true (number_of w.refusal) 5 p.0) in
    ap (λ (k : Refusal). fault k w.offset) r ∙ ap (fault ForeignByte) (eqb-true w.offset n p.1)

came_read : (n : ℕ) (t : Token) (d : Cursor) → answer_came n (token_read t d) ≡ true → ⊥
unfolding answer_came
came_read n t d e = let y : ◌≡◌ {A = ℕ} 0 1 = cc in omega arith

-- what is given then is where the reader stands
abbrev IsMore : Gives → Type 0
IsMore (handed t d u) = ⊥
IsMore (more m d l u) = Unit {0}
IsMore (never w) = ⊥

module _ (ended : Bool) (v z : List ℕ) (over : ended ≡ true → z ≡ []) (few : length (v ++ z) < longest_token) (came : answer_came (length v) (next_token File (v ++ z) start_cursor) ≡ true) where
  asks : (g : Gives) → reading ended blank start_cursor 0 v ≡ g → Tells (v ++ z) start_cursor z ended over g → Tells (v ++ []) start_cursor [] ended (λ _. refl) g → IsMore g
  asks (handed t d u) g p q = came_read (length v) t d (sym (ap (answer_came (length v)) (read_same (v ++ z) few t d p.0)) ∙ came)
  asks (more m d l u) g p q = tt
  asks (never w) g p q =
      let e = came_fault (length v) w (sym (ap (answer_came (length v)) (refused-same (v ++ z) few w p)) ∙ came) in
      let a = length-append v z in
      let b = length-append v [] in
      let k = five_inside (v ++ []) (length v) (refused-same (v ++ []) (omega arith) (fault ForeignByte (length v)) (q ∙ ap refused e)) in
      omega arith

  pub start_asks : IsMore (reading ended blank start_cursor 0 v)
  start_asks =
      asks (reading ended blank start_cursor 0 v) refl (reading_tells (v ++ z) start_cursor z ended over blank start_cursor v (stands_start v z))
      (reading_tells (v ++ []) start_cursor [] ended (λ _. refl) blank start_cursor v (stands_start v []))

-- from any cursor
next_more : (c : Cursor) (g h : Gives) → to_next h ≡ shift_next c (to_next g) → IsMore g → IsMore h
unfolding to_next
next_more c (more m d l u) (handed t e x) q i = let y : ◌≡◌ {A = ℕ} 0 1 = cc in absurd (omega arith)
next_more c (more m d l u) (more m₁ e l₁ x) q i = tt
next_more c (more m d l u) (never w) q i = let y : ◌≡◌ {A = ℕ} 0 1 = cc in absurd (omega arith)
next_more c (handed t d u) h q i = absurd i
next_more c (never w) h q i = absurd i

-- by where layout stopped
more_place : (ended : Bool) (m : Mode) (c : Cursor) (l : ℕ) (u : List ℕ) (y : Why) → IsMore (given ended l (stopped m c u y)) → Ok (Next.More m c l) ≡ to_next (given ended l (stopped m c u y))
unfolding given judged to_next
more_place ended m c l u Starts i = go (verdict ended (ltb l c.offset) u) i
  where
    go : (k : Verdict) → IsMore (judged m c l u k) → Ok (Next.More m c l) ≡ to_next (judged m c l u k)
    go (settled (lexeme t e x)) i = absurd i
    go (settled (refused w)) i = absurd i
    go too_long i = absurd i
    go waiting i = refl
more_place ended m c l u (Waits w) i = go ended i
  where
    go : (t : Bool) → IsMore (cond t (never w) (more m c l u)) → Ok (Next.More m c l) ≡ to_next (cond t (never w) (more m c l u))
    go true i = absurd i
    go false i = refl
more_place ended m c l u (Stops w) i = absurd i

module _ (s : List ℕ) (last : EndsUnknown s) (c : Cursor) (h : Brief s c) (ended : Bool) (n : ℕ) (i : n ≡ length s - 1) (a : Answer) (e : a ≡ next_token File (text s last c h ended) start_cursor) (t : Bool) (f : t ≡ answer_came n a) (g : t ≡ true) where
  brief_asks : IsMore (reading ended blank c c.offset (hand_of s))
  brief_asks =
      let k : n ≡ length (hand_of s) = i ∙ sym (size s last c h ended) in
      let w = ap (λ (x : List ℕ). next_token File x start_cursor) (text_of s last c h ended ended) in
      next_more c (reading ended blank start_cursor 0 (hand_of s)) (reading ended blank c c.offset (hand_of s)) (reading-from_start ended c (hand_of s))
      (start_asks ended (hand_of s) (tail s last c h ended ended) (over s last c h ended ended) (subst (λ (x : List ℕ). length x < longest_token) (text_of s last c h ended ended) (text_few s last c h ended ended))
      (ap (answer_came (length (hand_of s))) (sym w ∙ sym e) ∙ ap (λ (j : ℕ). answer_came j a) (sym k) ∙ sym f ∙ g))

  pub brief_more : (held : List ℕ) → held ≡ hand_of s → (p : Place) → placed c held p ≡ pass blank 0 c held → (y : Next) → y ≡ Next.More p.mode p.cursor c.offset → Ok y ≡ to_next (reading ended blank c c.offset (hand_of s))
  brief_more held b p q y k =
      let d : pass blank 0 c (hand_of s) ≡ stopped p.mode p.cursor (drop (p.cursor.offset - c.offset) (hand_of s)) p.why = sym (subst (λ (u : List ℕ). placed c u p ≡ pass blank 0 c u) b q) in
      ap (λ (x : Next). Ok x) k ∙ more_place ended p.mode p.cursor c.offset (drop (p.cursor.offset - c.offset) (hand_of s)) p.why (subst (λ (x : Passed). IsMore (given ended c.offset x)) d brief_asks) ∙ sym (ap (λ (x : Passed). to_next (given ended c.offset x)) d)

-- ---- what the functions above it ask
module _ (s : List ℕ) (c : Cursor) where
  pub brief_held : Brief s c → Held s c
  brief_held h = h.held

  pub held_brief : Held s c → length s < longest_token → Brief s c
  held_brief h l = record { held = h; brief = l }
