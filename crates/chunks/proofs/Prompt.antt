-- A wait is never idle: where the reader asks for more, what comes next is in truth not certain. Assumes nothing.
use mathlib.Core.Path.{◌≡◌, refl, sym, subst, ◌∙◌, ap}
use mathlib.Core.Logic.{inl, inr}
use mathlib.Core.Bool.{Bool, true, false, cond}
use mathlib.Core.List.{List, [], ◌∷◌, ◌++◌, append-nil, append_assoc}
use Prim.Native.Nat.{ℕ, zero, suc, ◌+◌, ◌<◌, ◌≤◌, min}
use native.Mathlib.Omega.{arith}
use borrow.Author.Tests.{eqb-true, lt-ltb}
use lib.Dec.{eqb, ltb}
use lib.ListN.{length, drop, get_or, length-append, length-drop, get_or-append}
use lib.Seq.{take-length, drop-length, drop-drop, get_or-drop, drop_at as drop-seam}
use Rattle.lexer.specs.Chars.{is, class_of, layout_char, foreign_byte, decimal_digit, newline, percent, star, slash}
use Rattle.lexer.specs.Cursor.{step, start_cursor}
use Rattle.lexer.specs.Number.{number_token, number_end}
use Rattle.lexer.specs.Refusal.{fault}
use Rattle.lexer.specs.Token.{numbered, Lexeme, lexeme, refused, lexeme_since}
use Rattle.lexer.specs.declared.refusal.Fault.{Fault}
use Rattle.lexer.specs.declared.refusal.Refusal.TheVariants.{UnclosedComment, ForeignByte, TokenTooLong}
use Rattle.lexer.specs.declared.cursor.Cursor.{Cursor}
use Rattle.lexer.specs.declared.token.Token.{Token}
use Rattle.lexer.proofs.Cursors.{move_here}
use Rattle.lexer.proofs.Spans.{by_test}
use Rattle.lexer.proofs.Steps.{drop_at}
use Rattle.chunks.specs.Layouts.{Turned, wait, opened, slashed, starred, turn, ahead, resume}
use Rattle.chunks.specs.declared.layout.Mode.{Mode}
use Rattle.chunks.specs.declared.layout.Mode.TheVariants.{Blank as blank, Line as line, Inside as inside}
use Rattle.chunks.specs.Reader.{Passed, stopped, carried, pass, handed, more, never, judged, given, reading, Passable}
use Rattle.chunks.specs.declared.layout.Why.{Why}
use Rattle.chunks.specs.declared.layout.Why.TheVariants.{Starts as starts, Waits as waits, Stops as stops}
use Rattle.chunks.specs.Shift.{unknown}
use Rattle.chunks.specs.Verdict.{Verdict, settled, too_long, waiting, view, shown_late, by_end, verdict}
use Rattle.chunks.specs.Whole.{longest_token, token_at, cut_at, came_to, own_byte, showing, unshown, longer_than, end_of, token_end, longer, limited, next_lexeme}
use Rattle.chunks.proofs.Cuts.{fed_stands}
use Rattle.chunks.proofs.Hands.{hand_right}
use Rattle.chunks.proofs.Kept.{Near, Shows}
use Rattle.chunks.proofs.Layouts.{turn_tells, rest_there}
use Rattle.chunks.proofs.Passing.{Onward, pass-onward}
use Rattle.chunks.proofs.Reading.{Stands, PassTold, passed_told, refused_there, starts_there, Tells, reading_tells}
use Rattle.chunks.proofs.Tokens.{LexemeKept, LexemeUpto, lexeme_kept}
use Rattle.chunks.proofs.Verdicts.{Right, none_end, is-shown, is-short}
use Rattle.chunks.proofs.Windows.{end_other, cut-length, cut_byte, shows_cut, shows_end, came_hit, near_gone, digit_token, numbered_hit, plain_hit}
use Rattle.std.specs.declared.result.Result.TheVariants.{Ok, Err}

-- ---- a wait in layout

-- the unknown byte at the front is refused, in each mode
at-unknown : (s : List ℕ) (m : Mode) (at : ℕ) (r : List ℕ) → drop at s ≡ unknown ∷ r → resume s m at ≡ Err (fault ForeignByte at)
unfolding turn class_of
at-unknown s blank at r d = turn_tells s blank at (unknown ∷ []) r d
at-unknown s line at r d = turn_tells s line at (unknown ∷ []) r d
at-unknown s (inside o) at r d = turn_tells s (inside o) at (unknown ∷ []) r d

module _ (s : List ℕ) (at : ℕ) (r : List ℕ) where
  -- behind a slash
  after-slash : drop at s ≡ slash ∷ unknown ∷ r → resume s blank at ≡ Err (fault ForeignByte (at + 1))
  unfolding turn slashed class_of
  after-slash d = turn_tells s blank at (slash ∷ unknown ∷ []) r d

  -- behind the mark that opens a comment
  after_opening : drop at s ≡ slash ∷ star ∷ unknown ∷ r → resume s blank at ≡ Err (fault ForeignByte (at + 2))
  unfolding turn slashed opened class_of
  after_opening d = turn_tells s blank at (slash ∷ star ∷ unknown ∷ []) r d

  -- behind a star in a comment
  after-star : (o : ℕ) → drop at s ≡ star ∷ unknown ∷ r → resume s (inside o) at ≡ Err (fault ForeignByte (at + 1))
  unfolding turn starred class_of
  after-star o d = (turn_tells s (inside o) at (star ∷ unknown ∷ []) r d).0 ∙ at-unknown s (inside o) (at + 1) r (rest_there s at star (unknown ∷ r) d)

-- where a turn over the bytes u waits, the text that has the unknown byte behind them is refused there
module _ (s : List ℕ) (m : Mode) (at : ℕ) (u : List ℕ) where
  abbrev Open : Turned → Type 0
  Open (Ok n) = Unit {0}
  Open (Err starts) = Unit {0}
  Open (Err (waits w)) = resume s m at ≡ Err (fault ForeignByte (at + length u))
  Open (Err (stops w)) = Unit {0}

module _ (s : List ℕ) (at : ℕ) (r : List ℕ) where
  -- behind the mark that opens a comment, behind a slash, behind a star in a comment, and where nothing is at hand
  opened_open : (ys : List ℕ) → drop at s ≡ slash ∷ star ∷ (ys ++ unknown ∷ r) → Open s blank at (slash ∷ star ∷ ys) (opened at ys)
  unfolding opened
  opened_open [] d = after_opening s at r d
  opened_open (y ∷ ys) d = by_test (Open s blank at (slash ∷ star ∷ y ∷ ys)) (is foreign_byte y) _ _ (λ _. tt) (λ _. tt)

  slashed_open : (xs : List ℕ) → drop at s ≡ slash ∷ (xs ++ unknown ∷ r) → Open s blank at (slash ∷ xs) (slashed at xs)
  unfolding slashed
  slashed_open [] d = after-slash s at r d
  slashed_open (y ∷ ys) d =
      by_test (Open s blank at (slash ∷ y ∷ ys)) (is foreign_byte y) _ _ (λ _. tt)
      (λ _. by_test (Open s blank at (slash ∷ y ∷ ys)) (eqb y star) _ _
      (λ g. let k = eqb-true y star g in subst (λ (c : ℕ). Open s blank at (slash ∷ c ∷ ys) (opened at ys)) (sym k) (opened_open ys (d ∙ ap (λ (c : ℕ). slash ∷ c ∷ (ys ++ unknown ∷ r)) k))) (λ _. tt))

  starred_open : (o : ℕ) (xs : List ℕ) → drop at s ≡ star ∷ (xs ++ unknown ∷ r) → Open s (inside o) at (star ∷ xs) (starred o xs)
  unfolding starred
  starred_open o [] d = after-star s at r o d
  starred_open o (y ∷ ys) d = by_test (Open s (inside o) at (star ∷ y ∷ ys)) (eqb y slash) _ _ (λ _. tt) (λ _. tt)

  none_open : (m : Mode) → drop at s ≡ unknown ∷ r → Open s m at [] (turn m at [])
  unfolding turn
  none_open m d = let e : at ≡ at + 0 = omega arith in at-unknown s m at r d ∙ ap (λ (k : ℕ). Err (fault ForeignByte k)) e

  -- so in each mode
  turn_open : (m : Mode) (u : List ℕ) → drop at s ≡ u ++ unknown ∷ r → Open s m at u (turn m at u)
  unfolding turn
  turn_open m [] d = none_open m d
  turn_open blank (x ∷ xs) d =
      by_test (Open s blank at (x ∷ xs)) (is foreign_byte x) _ _ (λ _. tt)
      (λ _. by_test (Open s blank at (x ∷ xs)) (is layout_char x) _ _ (λ _. tt)
      (λ _. by_test (Open s blank at (x ∷ xs)) (eqb x percent) _ _ (λ _. tt)
      (λ _. by_test (Open s blank at (x ∷ xs)) (eqb x slash) _ _
      (λ g. let k = eqb-true x slash g in subst (λ (c : ℕ). Open s blank at (c ∷ xs) (slashed at xs)) (sym k) (slashed_open xs (d ∙ ap (λ (c : ℕ). c ∷ (xs ++ unknown ∷ r)) k))) (λ _. tt))))
  turn_open line (x ∷ xs) d =
      by_test (Open s line at (x ∷ xs)) (is foreign_byte x) _ _ (λ _. tt) (λ _. by_test (Open s line at (x ∷ xs)) (eqb x newline) _ _ (λ _. tt) (λ _. tt))
  turn_open (inside o) (x ∷ xs) d =
      by_test (Open s (inside o) at (x ∷ xs)) (is foreign_byte x) _ _ (λ _. tt)
      (λ _. by_test (Open s (inside o) at (x ∷ xs)) (eqb x star) _ _
      (λ g. let k = eqb-true x star g in subst (λ (c : ℕ). Open s (inside o) at (c ∷ xs) (starred o xs)) (sym k) (starred_open o xs (d ∙ ap (λ (c : ℕ). c ∷ (xs ++ unknown ∷ r)) k))) (λ _. tt))

-- a wait is for the byte behind two at most, and not for a foreign one: the refusal that it holds for the end of the text is another
abbrev Other : List ℕ → Turned → Type 0
Other u (Ok n) = Unit {0}
Other u (Err starts) = Unit {0}
Other u (Err (waits w)) = (w.refusal ≡ ForeignByte → ⊥) × (length u ≤ 2)
Other u (Err (stops w)) = Unit {0}

-- the refusals that a wait holds
comment_other : UnclosedComment ≡ ForeignByte → ⊥
comment_other q = let y : ◌≡◌ {A = ℕ} 0 1 = cc in omega arith

-- the same four places, and each mode
opened_other : (at x y : ℕ) (ys : List ℕ) → Other (x ∷ y ∷ ys) (opened at ys)
unfolding opened
opened_other at x y [] = (end_other, omega arith)
opened_other at x y (z ∷ zs) = by_test (Other (x ∷ y ∷ z ∷ zs)) (is foreign_byte z) _ _ (λ _. tt) (λ _. tt)

slashed_other : (at x : ℕ) (xs : List ℕ) → Other (x ∷ xs) (slashed at xs)
unfolding slashed
slashed_other at x [] = (end_other, omega arith)
slashed_other at x (y ∷ ys) =
    by_test (Other (x ∷ y ∷ ys)) (is foreign_byte y) _ _ (λ _. tt) (λ _. by_test (Other (x ∷ y ∷ ys)) (eqb y star) _ _ (λ _. opened_other at x y ys) (λ _. tt))

starred_other : (o x : ℕ) (xs : List ℕ) → Other (x ∷ xs) (starred o xs)
unfolding starred
starred_other o x [] = (comment_other, omega arith)
starred_other o x (y ∷ ys) = by_test (Other (x ∷ y ∷ ys)) (eqb y slash) _ _ (λ _. tt) (λ _. tt)

turn_other : (m : Mode) (at : ℕ) (u : List ℕ) → Other u (turn m at u)
unfolding turn
turn_other blank at [] = (end_other, omega arith)
turn_other line at [] = (end_other, omega arith)
turn_other (inside o) at [] = (comment_other, omega arith)
turn_other blank at (x ∷ xs) =
    by_test (Other (x ∷ xs)) (is foreign_byte x) _ _ (λ _. tt)
    (λ _. by_test (Other (x ∷ xs)) (is layout_char x) _ _ (λ _. tt)
    (λ _. by_test (Other (x ∷ xs)) (eqb x percent) _ _ (λ _. tt) (λ _. by_test (Other (x ∷ xs)) (eqb x slash) _ _ (λ _. slashed_other at x xs) (λ _. tt))))
turn_other line at (x ∷ xs) = by_test (Other (x ∷ xs)) (is foreign_byte x) _ _ (λ _. tt) (λ _. by_test (Other (x ∷ xs)) (eqb x newline) _ _ (λ _. tt) (λ _. tt))
turn_other (inside o) at (x ∷ xs) = by_test (Other (x ∷ xs)) (is foreign_byte x) _ _ (λ _. tt) (λ _. by_test (Other (x ∷ xs)) (eqb x star) _ _ (λ _. starred_other o x xs) (λ _. tt))

-- where the passing waits, its last turn waits
abbrev LastTurn : Passed → Type 0
LastTurn (stopped m c u starts) = Unit {0}
LastTurn (stopped m c u (waits w)) = turn m c.offset u ≡ wait w
LastTurn (stopped m c u (stops w)) = Unit {0}

-- one turn of the passing
one-turn : (m : Mode) (c : Cursor) (x : ℕ) (xs : List ℕ) → ((m' : Mode) (k : ℕ) → LastTurn (pass m' k (step c x) xs))
    → (t : Turned) → turn m c.offset (x ∷ xs) ≡ t → LastTurn (carried t (λ m' k. pass m' k (step c x) xs) (stopped m c (x ∷ xs)))
unfolding carried
one-turn m c x xs next (Ok n) e = next n.mode n.more
one-turn m c x xs next (Err starts) e = tt
one-turn m c x xs next (Err (waits w)) e = e
one-turn m c x xs next (Err (stops w)) e = tt

-- and so all of them
last_turn : (u : List ℕ) (m : Mode) (k : ℕ) (c : Cursor) → LastTurn (pass m k c u)
unfolding pass ahead carried turn
last_turn [] m k c = refl
last_turn (x ∷ xs) m (suc k) c = last_turn xs m k (step c x)
last_turn (x ∷ xs) m zero c = one-turn m c x xs (λ m' k. last_turn xs m' k (step c x)) (turn m c.offset (x ∷ xs)) refl

-- ---- a wait in a token

-- a token that is refused at a foreign byte has no end
no_end : (layout : Bool) (s : List ℕ) (at k : ℕ) → at < length s → token_at layout s at ≡ refused (fault ForeignByte k) → token_end layout s at ≡ 0
unfolding number_end end_of
no_end layout s at k l q =
    by_test (λ (e : ℕ). e ≡ 0) (is decimal_digit (get_or s at 0)) _ _
    (λ g. ap number_end (numbered_hit at (number_token s at) k (plain_hit at (numbered at (number_token s at)) k (sym (digit_token layout s at l g) ∙ q))))
    (λ _. ap end_of q)

-- and the byte that shows it is not the token's own
not_own : (a : Lexeme) (k : ℕ) → a ≡ refused (fault ForeignByte k) → own_byte a ≡ false
unfolding own_byte
not_own a k q = ap own_byte q

-- the token at `at`, of which v is at hand: its reading came to the byte behind them
module _ (layout : Bool) (at : ℕ) (v : List ℕ) (c : came_to (length v) (token_at layout (v ++ unknown ∷ []) 0) ≡ true) where
  there : at ≡ at + 0
  there = omega arith

  -- so it is refused there
  came_cut : token_at layout (cut_at (length v) v) 0 ≡ refused (fault ForeignByte (length v))
  came_cut = ap (λ (x : List ℕ). token_at layout (x ++ unknown ∷ []) 0) (take-length v) ∙ came_hit (length v) (token_at layout (v ++ unknown ∷ []) 0) c

  -- a text that has the unknown byte there is refused at it
  module _ (t : List ℕ) (l : at + length v < length t) (same : (i : ℕ) → i < length v → get_or v i 0 ≡ get_or t (at + i) 0) (it : get_or t (at + length v) 0 ≡ unknown) where
    shows : Shows (length v) at (cut_at (length v) v) t
    shows = shows_cut t at (length v) v (omega arith) (omega arith) same

    behind : drop (at + length v) t ≡ unknown ∷ drop (at + length v + 1) t
    behind = drop_at t (at + length v) l ∙ ap (λ (x : ℕ). x ∷ drop (at + length v + 1) t) it

    refused-here : token_at layout t at ≡ refused (fault ForeignByte (at + length v))
    refused-here = go (lexeme_kept (length v) at (cut_at (length v) v) t shows 0 at there layout (omega arith))
      where
        go : LexemeKept (length v) at (cut_at (length v) v) t shows 0 at there (token_at layout (cut_at (length v) v) 0) (token_at layout t at) → token_at layout t at ≡ refused (fault ForeignByte (at + length v))
        go (inl p) = p.2.1 (drop (at + length v + 1) t) behind
        go (inr p) =
            let near : Near (length v) (fault ForeignByte (length v)) = subst (LexemeUpto (length v)) came_cut p.1 in
            let k : length v < length v = near refl in
            absurd (omega arith)

  -- and, where fewer than 1,025 bytes are at hand, it is no longer token
  module _ (t : List ℕ) (r : List ℕ) (d : drop at t ≡ v ++ unknown ∷ r) (h : at ≤ length t) (few : length v < longest_token + 1) where
    -- what t has at the bytes at hand, and behind them
    size : length t ≡ at + (length v + suc (length r))
    size =
        let a = length-drop at t in
        let b : length (drop at t) ≡ length v + suc (length r) = ap length d ∙ length-append v (unknown ∷ r) in
        omega arith

    same : (i : ℕ) → i < length v → get_or v i 0 ≡ get_or t (at + i) 0
    same i l = sym (get_or-append v (unknown ∷ r) 0 i l) ∙ ap (λ (x : List ℕ). get_or x i 0) (sym d) ∙ get_or-drop at t i 0

    left : drop (at + length v) t ≡ unknown ∷ r
    left = sym (drop-drop (length v) at t) ∙ ap (drop (length v)) d ∙ drop-seam v (unknown ∷ r) (length v) refl

    it : get_or t (at + length v) 0 ≡ unknown
    it = first (drop_at t (at + length v) (omega (arith, size)))
      where
        first : drop (at + length v) t ≡ get_or t (at + length v) 0 ∷ drop (at + length v + 1) t → get_or t (at + length v) 0 ≡ unknown
        first q = let k = left in cc

    hit : token_at layout t at ≡ refused (fault ForeignByte (at + length v))
    hit = refused-here t (omega (arith, size)) same it

    -- so it is in the text cut off behind 1,025 bytes of the token
    cut_hit : at + (longest_token + 1) ≤ length t → token_at layout (cut_at (at + (longest_token + 1)) t) at ≡ refused (fault ForeignByte (at + length v))
    cut_hit l =
        let k = cut-length (at + (longest_token + 1)) t l in
        refused-here (cut_at (at + (longest_token + 1)) t) (omega arith)
        (λ i m. same i m ∙ sym (cut_byte (at + (longest_token + 1)) t l (at + i) (omega arith)))
        (cut_byte (at + (longest_token + 1)) t l (at + length v) (omega arith) ∙ it)

    -- the first 1,025 bytes show it
    shown : unshown layout t at (longest_token + 1) ≡ false
    shown =
        is-shown layout t at (longest_token + 1)
        (λ l. ap (came_to (at + (longest_token + 1))) (cut_hit l) ∙ near_gone (at + (longest_token + 1)) (at + (longest_token + 1)) (fault ForeignByte (at + length v)) (λ _. omega arith) (omega arith))

    not-longer : longer layout t at ≡ false
    not-longer =
        ap (longer_than layout t at (showing (token_at layout t at))) (no_end layout t at (at + length v) (omega (arith, size)) hit) ∙ none_end layout t at (showing (token_at layout t at))
        ∙ ap (λ (b : Bool). unshown layout t at (cond b longest_token (longest_token + 1))) (not_own (token_at layout t at) (at + length v) hit) ∙ shown

    limited_hit : limited layout t at ≡ refused (fault ForeignByte (at + length v))
    limited_hit = is-short layout t at not-longer ∙ hit

-- the verdict waits, with fewer than 1,025 bytes at hand: the reading came to the byte behind them
module _ (layout : Bool) (v : List ℕ) (few : length v < longest_token + 1) where
  abbrev n : ℕ
  n = min (length v) (longest_token + 1)

  abbrev w : List ℕ
  w = view (longest_token + 1) false v

  -- a verdict by the token's end is no wait
  not_waiting : (e : ℕ) (a : Lexeme) → by_end layout v e a ≡ waiting → ⊥
  not_waiting e a = by_test (λ (x : Verdict). x ≡ waiting → ⊥) (ltb longest_token e) _ _ long (λ _. by_test (λ (x : Verdict). x ≡ waiting → ⊥) (shown_late layout v a) _ _ long (λ _ q. let y : ◌≡◌ {A = ℕ} 0 1 = cc in omega arith))
    where
      long : {t : Bool} → t ≡ true → too_long ≡ waiting → ⊥
      long t q = let y : ◌≡◌ {A = ℕ} 0 1 = cc in omega arith

  -- a wait is by what the view tells
  came_view : verdict false layout v ≡ waiting → came_to n (token_at layout w 0) ≡ true
  came_view = by_test (λ (x : Verdict). x ≡ waiting → came_to n (token_at layout w 0) ≡ true) (came_to n (token_at layout w 0)) _ _ (λ c q. c) (λ c q. absurd (not_waiting (token_end layout w 0) (token_at layout w 0) q))

  -- which is all that is at hand
  view_few : w ≡ v ++ unknown ∷ []
  unfolding view
  view_few = rw (lt-ltb (length v) (longest_token + 1) few)

  came_there : verdict false layout v ≡ waiting → came_to (length v) (token_at layout (v ++ unknown ∷ []) 0) ≡ true
  came_there q =
      let m : n ≡ length v = omega arith in
      subst (λ (k : ℕ). came_to k (token_at layout (v ++ unknown ∷ []) 0) ≡ true) m (subst (λ (x : List ℕ). came_to n (token_at layout x 0) ≡ true) view_few (came_view q))

-- ---- what the text has next
-- the text has not ended
pub never_ended : {A : Type 0} → false ≡ true → A
never_ended e = let y : ◌≡◌ {A = ℕ} 0 1 = cc in absurd (omega arith)

-- more is asked for with the bytes at hand where the passing stopped, and, at a token, where the verdict waits
module _ (m : Mode) (c : Cursor) (l : ℕ) (u : List ℕ) (m' : Mode) (c' : Cursor) (l' : ℕ) (u' : List ℕ) where
  asked : more m c l u ≡ more m' c' l' u' → u ≡ u'
  asked q = cc

  judged_more : (v : Verdict) → judged m c l u v ≡ more m' c' l' u' → (v ≡ waiting) × (u ≡ u')
  unfolding judged
  judged_more (settled (lexeme t e x)) q = let y : ◌≡◌ {A = ℕ} 0 1 = cc in absurd (omega arith)
  judged_more (settled (refused w)) q = let y : ◌≡◌ {A = ℕ} 0 1 = cc in absurd (omega arith)
  judged_more too_long q = let y : ◌≡◌ {A = ℕ} 0 1 = cc in absurd (omega arith)
  judged_more waiting q = (refl, asked q)

  never_more : (w : Fault) → never w ≡ more m' c' l' u' → ⊥
  never_more w q = let y : ◌≡◌ {A = ℕ} 0 1 = cc in omega arith

-- a text that has the unknown byte behind what is at hand is refused there
module _ (s : List ℕ) (o : Cursor) (r : List ℕ) (m' : Mode) (c' : Cursor) (l' : ℕ) (u' : List ℕ) (few : length u' < longest_token + 1) where
  given-refused : (q : Passed) → PassTold s o (unknown ∷ r) q → LastTurn q → given false o.offset q ≡ more m' c' l' u' → (k : ℕ) → length s ≡ k + suc (length r) → next_lexeme s o.offset ≡ refused (fault ForeignByte k)
  unfolding given lexeme_since
  given-refused (stopped m c u starts) p t e k n =
      let layout = ltb o.offset c.offset in
      let g = judged_more m c o.offset u m' c' l' u' (verdict false layout u) e in
      let f : length u < longest_token + 1 = subst (λ (x : List ℕ). length x < longest_token + 1) (sym g.1) few in
      let b : length (drop c.offset s) ≡ length u + suc (length r) = ap length p.0.hand ∙ length-append u (unknown ∷ r) in
      let a = length-drop c.offset s in
      let h = p.0.inside in
      let i : c.offset + length u ≡ k = omega arith in
      starts_there s o (unknown ∷ r) false never_ended m c u p.0 p.1.1
      ∙ ap (lexeme_since o.offset) (limited_hit layout c.offset u (came_there layout u f g.0) s r p.0.hand h f) ∙ ap (λ (j : ℕ). refused (fault ForeignByte j)) i
  given-refused (stopped m c u (waits w)) p t e k n =
      let b : length (drop c.offset s) ≡ length u + suc (length r) = ap length p.0.hand ∙ length-append u (unknown ∷ r) in
      let a = length-drop c.offset s in
      let h = p.0.inside in
      let i : c.offset + length u ≡ k = omega arith in
      let open-there : Open s m c.offset u (wait w) = subst (Open s m c.offset u) t (turn_open s c.offset r m u p.0.hand) in
      refused_there s o (unknown ∷ r) false never_ended m c u (fault ForeignByte (c.offset + length u)) p.0 open-there ∙ ap (λ (j : ℕ). refused (fault ForeignByte j)) i
  given-refused (stopped m c u (stops w)) p t e k n = absurd (never_more m c o.offset u m' c' l' u' w e)

-- a token's refusal for a foreign byte points into the text
token-inside : (layout : Bool) (s : List ℕ) (at k : ℕ) → at ≤ length s → token_at layout s at ≡ refused (fault ForeignByte k) → k < length s
token-inside layout s at k h q = go (lexeme_kept (length s) 0 s s whole at at there layout h)
  where
    whole : Shows (length s) 0 s s
    whole = shows_end s 0 s (omega arith) (λ i l. ap (λ (j : ℕ). get_or s j 0) (let e : i ≡ 0 + i = omega arith in e))

    there : at ≡ 0 + at
    there = omega arith

    near : LexemeUpto (length s) (token_at layout s at) → k < length s
    near p = let f : Near (length s) (fault ForeignByte k) = subst (LexemeUpto (length s)) q p in f refl

    go : LexemeKept (length s) 0 s s whole at at there (token_at layout s at) (token_at layout s at) → k < length s
    go (inl p) =
        let e : length {A = ℕ} [] ≡ length (unknown ∷ []) = ap length (sym (drop-length s) ∙ p.2.0) in
        absurd (omega arith)
    go (inr p) = near p.1

-- of two refusals that are one, the first is for a foreign byte if the second is
same-fault : (v w : Fault) → refused v ≡ refused w → w.refusal ≡ ForeignByte → v.refusal ≡ ForeignByte
same-fault v w q f = let e : v ≡ w = cc in ap (λ (x : Fault). x.refusal) e ∙ f

-- 15 is not 5
long_other : TokenTooLong ≡ ForeignByte → ⊥
long_other q = let y : ◌≡◌ {A = ℕ} 0 1 = cc in omega arith

-- so does that of a token that is perhaps too long
limited-inside : (layout : Bool) (s : List ℕ) (at k : ℕ) → at ≤ length s → limited layout s at ≡ refused (fault ForeignByte k) → k < length s
limited-inside layout s at k h =
    by_test (λ (x : Lexeme). x ≡ refused (fault ForeignByte k) → k < length s) (longer layout s at) _ _ (λ _ q. absurd (long_other (same-fault (fault TokenTooLong at) (fault ForeignByte k) q refl))) (λ _ q. token-inside layout s at k h q)

-- wherever the layout before it began
since_refused : (from : ℕ) (a : Lexeme) (w : Fault) → lexeme_since from a ≡ refused w → a ≡ refused w
unfolding lexeme_since
since_refused from (lexeme t e x) w q = let y : ◌≡◌ {A = ℕ} 0 1 = cc in absurd (omega arith)
since_refused from (refused v) w q = q

-- a text that ends behind what is at hand is not refused there for a foreign byte
module _ (s : List ℕ) (o : Cursor) (m' : Mode) (c' : Cursor) (l' : ℕ) (u' : List ℕ) where
  given-ended : (q : Passed) → PassTold s o [] q → LastTurn q → given false o.offset q ≡ more m' c' l' u' → next_lexeme s o.offset ≡ refused (fault ForeignByte (length s)) → ⊥
  unfolding given
  given-ended (stopped m c u starts) p t e f =
      let layout = ltb o.offset c.offset in
      let k = limited-inside layout s c.offset (length s) p.0.inside (since_refused o.offset (limited layout s c.offset) (fault ForeignByte (length s)) (sym (starts_there s o [] false never_ended m c u p.0 p.1.1) ∙ f)) in
      omega arith
  given-ended (stopped m c u (waits w)) p t e f =
      let other : (w.refusal ≡ ForeignByte → ⊥) × (length u ≤ 2) = subst (Other u) t (turn_other m c.offset u) in
      other.0 (same-fault w (fault ForeignByte (length s)) (sym (refused_there s o [] false never_ended m c u w p.0 (p.1 refl)) ∙ f) refl)
  given-ended (stopped m c u (stops w)) p t e f = never_more m c o.offset u m' c' l' u' w e

-- ---- the reader, whatever comes

-- s was delivered so far, and the reader stands properly in every text that goes on from it
abbrev pub StandsAfter : List ℕ → Cursor → Mode → Cursor → List ℕ → Type 0
StandsAfter s o m c u = (z : List ℕ) → Stands (s ++ z) o z m c u

-- a reader that has just begun does
pub begun-after : StandsAfter [] start_cursor blank start_cursor []
unfolding resume
begun-after z =
    record {
      same = refl;
      hand = refl;
      moved = sym (move_here z start_cursor);
      ahead = omega arith;
      inside = omega arith;
    }

module _ (s : List ℕ) (o : Cursor) (m : Mode) (c : Cursor) (u : List ℕ) (stands : StandsAfter s o m c u) where
  -- with a chunk more it does
  pub fed_after : (x : List ℕ) → StandsAfter (s ++ x) o m c (u ++ x)
  fed_after x z = subst (λ (t : List ℕ). Stands t o z m c (u ++ x)) (sym (append_assoc s x z)) (fed_stands (s ++ (x ++ z)) o x z m c u (stands (x ++ z)))

  -- what it gives is told of every text that goes on from s
  told : (z : List ℕ) → Tells (s ++ z) o z false never_ended (reading false m c o.offset u)
  told z = reading_tells (s ++ z) o z false never_ended m c u (stands z)

  -- when it has asked for more it does
  pub asked_after : (m' : Mode) (c' : Cursor) (l' : ℕ) (u' : List ℕ) → reading false m c o.offset u ≡ more m' c' l' u' → StandsAfter s o m' c' u'
  asked_after m' c' l' u' q z = let p : Tells (s ++ z) o z false never_ended (more m' c' l' u') = subst (Tells (s ++ z) o z false never_ended) q (told z) in p.0

  -- and when it has handed out a token, on the way to the next
  pub handed_after : (t : Token) (d : Cursor) (u' : List ℕ) → reading false m c o.offset u ≡ handed t d u' → StandsAfter s d blank d u'
  handed_after t d u' q z = let p : Tells (s ++ z) o z false never_ended (handed t d u') = subst (Tells (s ++ z) o z false never_ended) q (told z) in p.1

-- ---- it asks for more: fewer than 1,027 bytes are at hand
module _ (m' : Mode) (c' : Cursor) (l' : ℕ) (u' : List ℕ) (ended : Bool) (l : ℕ) where
  waits_asked : (m : Mode) (c : Cursor) (u : List ℕ) (w : Fault) (t : Bool) → cond t (never w) (more m c l u) ≡ more m' c' l' u' → u ≡ u'
  waits_asked m c u w true q = absurd (never_more m c l u m' c' l' u' w q)
  waits_asked m c u w false q = asked m c l u m' c' l' u' q

  given_few : (m : Mode) (c : Cursor) (u : List ℕ) (y : Why) → LastTurn (stopped m c u y) → (y ≡ starts → 0 < length u) → given ended l (stopped m c u y) ≡ more m' c' l' u' → length u' < longest_token + 3
  unfolding given
  given_few m c u starts t some e =
      let layout = ltb l c.offset in
      let j = judged_more m c l u m' c' l' u' (verdict ended layout u) e in
      let r = hand_right layout ended u (some refl) in
      let b : (ended ≡ false) × (length u < longest_token + 3) = subst (Right layout u 0 u [] (sym (append-nil u)) (omega arith) (some refl) ended (λ _. refl)) j.0 r in
      subst (λ (x : List ℕ). length x < longest_token + 3) j.1 b.1
  given_few m c u (waits w) t some e =
      let f = waits_asked m c u w ended e in
      let other : (w.refusal ≡ ForeignByte → ⊥) × (length u ≤ 2) = subst (Other u) t (turn_other m c.offset u) in
      let k = ap length f in
      omega (arith, other.1)
  given_few m c u (stops w) t some e = absurd (never_more m c l u m' c' l' u' w e)

  pub asked_few : (m : Mode) (c : Cursor) (u : List ℕ) → Passable (length u) c → reading ended m c l u ≡ more m' c' l' u' → length u' < longest_token + 3
  asked_few m c u a e = go (pass m zero c u) refl
    where
      go : (q : Passed) → pass m zero c u ≡ q → length u' < longest_token + 3
      go (stopped m₁ c₁ u₁ y) f =
          let o : Onward c (length u) c₁ u₁ y = pass-onward m c u a (stopped m₁ c₁ u₁ y) f in
          given_few m₁ c₁ u₁ y (subst LastTurn f (last_turn u m zero c)) o.some (sym (ap (given ended l) f) ∙ e)

-- ---- it asks for more: a wait is never idle
module _ (s : List ℕ) (o : Cursor) (m : Mode) (c : Cursor) (u : List ℕ) (stands : StandsAfter s o m c u)
    (m' : Mode) (c' : Cursor) (l' : ℕ) (u' : List ℕ) (asks : reading false m c o.offset u ≡ more m' c' l' u') where
  -- if a foreign byte comes, it is refused 5 at that byte, whatever follows it
  pub foreign_next : length u' < longest_token + 1 → (r : List ℕ) → next_lexeme (s ++ unknown ∷ r) o.offset ≡ refused (fault ForeignByte (length s))
  foreign_next few r =
      given-refused (s ++ unknown ∷ r) o r m' c' l' u' few (pass m zero c u) (passed_told (s ++ unknown ∷ r) o (unknown ∷ r) m c u (stands (unknown ∷ r))) (last_turn u m zero c) asks
      (length s) (length-append s (unknown ∷ r))

  -- if the text ends, it is not
  pub end_next : next_lexeme s o.offset ≡ refused (fault ForeignByte (length s)) → ⊥
  end_next =
      given-ended s o m' c' l' u' (pass m zero c u) (passed_told s o [] m c u (subst (λ (x : List ℕ). Stands x o [] m c u) (append-nil s) (stands []))) (last_turn u m zero c) asks

  -- so what comes next is not certain yet
  pub more_uncertain : length u' < longest_token + 1 → next_lexeme (s ++ unknown ∷ []) o.offset ≡ next_lexeme s o.offset → ⊥
  more_uncertain few q = end_next (sym q ∙ foreign_next few [])
