-- Laws of layout: where it ends, and how its sequence goes on. Assumes nothing.
use mathlib.Core.Path.{◌≡◌, refl, sym, ◌∙◌, ap}
use mathlib.Core.Bool.{Bool, true, false, cond}
use mathlib.Core.List.{List, [], ◌∷◌}
use Prim.Native.Nat.{ℕ, ◌+◌, ◌-◌, ◌<◌, ◌≤◌}
use native.Mathlib.Nat.{add-zero}
use native.Mathlib.Omega.{arith}
use borrow.Author.Tests.{eq-eqb, ne_eqb, eqb-true, eqb-false}
use lib.Dec.{eqb}
use lib.ListN.{length, get_or}
use Rattle.lexer.specs.Chars.{is, class_of, layout_char, foreign_byte, newline, space, percent, star, slash}
use Rattle.lexer.specs.Cursor.{move_to, along, Valid, Along}
use Rattle.lexer.specs.Items.{stop, on, same}
use Rattle.lexer.specs.Layout.{single_line_comment, unclosed, comment_text, comment_opened, bracketed_comment, slashed, layout_text_of, layout_text, layout_turn, layout_texts, ended, layout_end, moved, stepped, layout_to}
use Rattle.lexer.specs.Look.{front, needed, lookahead}
use Rattle.lexer.specs.Stretch.{in_stretch, stretch_end}
use Rattle.lexer.specs.declared.refusal.Fault.{Fault}
use Rattle.lexer.specs.Look.{Look}
use Rattle.std.specs.declared.result.Result.TheVariants.{Ok, Err}
use Rattle.lexer.specs.declared.cursor.Cursor.{Cursor}
use Rattle.lexer.specs.Cursor.{Scan}
use Rattle.lexer.specs.Layout.{Layout}
use Rattle.std.specs.declared.option.Option.TheVariants.{Some, None}
use Rattle.lexer.proofs.Cursors.{NoNewline, can_move_along, move_along, move_here, move_offset, move_valid}
use Rattle.lexer.proofs.Items.{Carries, items_stop, items_on, items_hold}
use Rattle.lexer.proofs.Looks.{look_byte}
use Rattle.lexer.proofs.Scans.{Between, choice, wider, past_ends, moved-by}
use Rattle.lexer.proofs.Steps.{drop_at, drop_end}
use Rattle.lexer.proofs.Stretches.{along_stretch, stretch_ahead, stretch_inside, stretch_bytes, in-stretch}

-- ---- where one layout text ends
module _ (s : List ℕ) where
  pub line_ends : (at : ℕ) → at ≤ length s → Between at (length s) (single_line_comment s at)
  line_ends at h = rw (add-zero at) at (past_ends (newline ∷ []) Ok 0 (omega arith) (λ (n : ℕ). omega arith) s at h)

  comment_ends : (o : ℕ) (r : Look) → lookahead s (o + 2) ≡ r → Between (o + 2) (length s) (comment_opened s o r)
  unfolding comment_opened
  comment_ends o (Err w) e = tt
  comment_ends o (Ok x) e =
      let l = look_byte s (o + 2) x e in
      wider (o + 2 + 2) (length s) _ _ (comment_text s o) (omega arith) (omega arith)
      (past_ends (star ∷ slash ∷ []) (unclosed o) 2 (omega arith) (λ (n : ℕ). tt) s (o + 2) (omega (arith, l.inside)))

  pub bracketed_ends : (o : ℕ) → Between (o + 2) (length s) (bracketed_comment s o)
  bracketed_ends o = comment_ends o (lookahead s (o + 2)) refl

  slash_ends : (at : ℕ) (r : Look) → at ≤ length s → Between at (length s) (slashed s at r)
  unfolding slashed
  slash_ends at (Err w) h = tt
  slash_ends at (Ok x) h =
      choice _ _ (eqb x star) _ _
      (λ _. wider (at + 2) (length s) _ _ (bracketed_comment s at) (omega arith) (omega arith) (bracketed_ends at))
      (λ _. omega arith)

  text_ends : (at : ℕ) (r : Look) → lookahead s at ≡ r → Between at (length s) (layout_text_of s at r)
  unfolding layout_text_of
  text_ends at (Err w) e = tt
  text_ends at (Ok x) e =
      let l = (look_byte s at x e).inside in
      choice _ _ (is layout_char x) _ _ (λ _. omega arith)
      (λ _. choice _ _ (eqb x percent) _ _
      (λ _. wider (at + 1) (length s) _ _ (single_line_comment s (at + 1)) (omega arith) (omega arith) (line_ends (at + 1) (omega arith)))
      (λ _. choice _ _ (eqb x slash) _ _ (λ _. slash_ends at (lookahead s (at + 1)) (omega arith)) (λ _. omega arith)))

  pub layout-text_ends : (at : ℕ) → Between at (length s) (layout_text s at)
  layout-text_ends at = text_ends at (lookahead s at) refl

  -- ---- the sequence
  nothing_left : (at : ℕ) → length s ≤ at → layout_texts s at ≡ stop (ended at)
  unfolding front needed layout_text_of layout_turn
  nothing_left at h = cc (drop_end s at h)

  module _ (at : ℕ) where
    pub refused_there : (w : Fault) → layout_text s at ≡ Err w → layout_end s at ≡ Err w
    unfolding layout_turn
    refused_there w e = items_stop (layout_texts s) ended s at (Err w) (nothing_left at) (cc)

    pub stops_there : layout_text s at ≡ Ok at → layout_end s at ≡ Ok at
    unfolding layout_turn
    stops_there e = items_stop (layout_texts s) ended s at (Ok at) (nothing_left at) (cc (eq-eqb at at refl))

    pub goes_on : (e : ℕ) → layout_text s at ≡ Ok e → (e ≡ at → ⊥) → layout_end s at ≡ layout_end s e
    unfolding layout_turn
    goes_on e q n =
        let b : (at ≤ e) × (e ≤ length s) = rw q at (layout-text_ends at) in
        items_on (layout_texts s) ended s at e same (cc (ne_eqb e at n)) (at_most b.0 n) b.1
      where
        at_most : at ≤ e → (e ≡ at → ⊥) → at < e
        at_most h k = omega (arith, k)

-- layout ends before a character: from lo on, before hi
abbrev pub Before : ℕ → ℕ → Scan → Type 0
Before lo hi (Ok e) = (lo ≤ e) × (e < hi)
Before lo hi (Err w) = Unit {0}

further : (hi lo lo' : ℕ) (r : Scan) → lo' ≤ lo → Before lo hi r → Before lo' hi r
further hi lo lo' (Ok e) p h = omega arith
further hi lo lo' (Err w) p h = tt

-- an empty layout text stands before a character
module _ (s : List ℕ) where
  before_char : (at : ℕ) (r : Look) → lookahead s at ≡ r → (e : ℕ) → layout_text_of s at r ≡ Ok e → at < length s
  unfolding layout_text_of
  before_char at (Err w) f e g = let z : ◌≡◌ {A = ℕ} 0 1 = cc in absurd (omega arith)
  before_char at (Ok x) f e g = (look_byte s at x f).inside

  -- what holds of the sequence, by its texts
  module _ (P : ℕ → Scan → Type 0) (stops : (at e : ℕ) → layout_text s at ≡ Ok e → P at (Ok at)) (refuses : (at : ℕ) (w : Fault) → layout_text s at ≡ Err w → P at (Err w))
      (more : (at e : ℕ) (r : Scan) → at < e → e ≤ length s → P e r → P at r) where
    carries : (at : ℕ) (r : Scan) → layout_text s at ≡ r → Carries P (length s) at (layout_turn at r)
    unfolding layout_turn
    carries at (Err w) f = refuses at w f
    carries at (Ok e) f = go (eqb e at) refl
      where
        go : (t : Bool) → eqb e at ≡ t → Carries P (length s) at (cond t (stop (Ok at)) (on e same))
        go true g = stops at e f
        go false g =
            let b : (at ≤ e) × (e ≤ length s) = rw f at (layout-text_ends s at) in
            let l : at < e = (let n = eqb-false e at g in omega (arith, n, b.0)) in
            record { ahead = l; inside = b.1; rest = λ r h. more at e r l b.1 h }

    pub layout_hold : (at : ℕ) → P at (layout_end s at)
    layout_hold at = items_hold (layout_texts s) ended s P (nothing_left s) (λ at. carries at (layout_text s at) refl) at

  pub layout_ends : (at : ℕ) → Before at (length s) (layout_end s at)
  layout_ends at =
      layout_hold (λ (at : ℕ) (r : Scan). Before at (length s) r) (λ at e f. (omega arith, before_char at (lookahead s at) refl e f)) (λ at w f. tt)
      (λ at e r l k h. further (length s) e at r (omega arith) h) at

pub before_between : (lo hi : ℕ) (r : Scan) → Before lo hi r → Between lo hi r
before_between lo hi (Ok e) h = omega arith
before_between lo hi (Err w) h = tt

-- what ends behind the cursor, as a comment does, is layout up to there
pub stepped-ahead : (s : List ℕ) (c : Cursor) (hi : ℕ) (r : Scan) → Between (c.offset + 1) hi r → stepped s c r ≡ layout_to (moved s c r)
unfolding stepped moved
stepped-ahead s c hi (Ok e) b = cc (ne_eqb e c.offset (λ h. omega (arith, b.0)))
stepped-ahead s c hi (Err w) b = refl

-- ---- the sequence from a cursor
-- from d, further on, it ends where it ends from c
pub record Later (s : List ℕ) (c d : Cursor) : Type 0 where
  pub same : moved s c (layout_end s c.offset) ≡ moved s d (layout_end s d.offset)
  pub valid : Valid (length s) d
  pub ahead : c.offset ≤ d.offset

module _ (s : List ℕ) (c : Cursor) where
  pub later_here : Valid (length s) c → Later s c c
  later_here v = record { same = refl; valid = v; ahead = omega arith }

  pub later_on : (d e : Cursor) → Later s c d → Later s d e → Later s c e
  later_on d e p q = record { same = p.same ∙ q.same; valid = q.valid; ahead = omega (arith, p.ahead, q.ahead) }

  -- the cursor d at e, from where layout ends where it ends from c
  pub later : Valid (length s) c → (e : ℕ) → c.offset ≤ e → e ≤ length s → layout_end s c.offset ≡ layout_end s e → (d : Cursor) → d ≡ move_to s c e → Later s c d
  later v e h k q d m =
      let o : d.offset ≡ e = ap (λ (x : Cursor). x.offset) m ∙ move_offset s c e h k in
      let b = before_between e (length s) (layout_end s e) (layout_ends s e) in
      record {
        same =
            ap (moved s c) q ∙ moved-by s c e (layout_end s e) h b
            ∙ ap (λ (x : Cursor). moved s x (layout_end s e)) (sym m) ∙ ap (λ (x : ℕ). moved s d (layout_end s x)) (sym o);
        valid = rw m (move_valid s c e h k v);
        ahead = omega arith;
      }

  -- ---- by what one layout text came to
  pub record Ends (d : Cursor) : Type 0 where
    pub end : ℕ
    pub text : layout_text s c.offset ≡ Ok end
    pub there : d ≡ move_to s c end
    pub ahead : c.offset < end
    pub inside : end ≤ length s

  -- what each outcome tells of the text
  abbrev pub Came : Layout → Type 0
  Came (Ok (Some d)) = Ends d
  Came (Ok None) = layout_text s c.offset ≡ Ok c.offset
  Came (Err w) = layout_text s c.offset ≡ Err w

  came : (r : Scan) → layout_text s c.offset ≡ r → Came (stepped s c r)
  unfolding stepped
  came (Err w) q = q
  came (Ok e) q = go (eqb e c.offset) refl
    where
      go : (t : Bool) → eqb e c.offset ≡ t → Came (cond t (Ok None) (Ok (Some (move_to s c e))))
      go true g = q ∙ ap Ok (eqb-true e c.offset g)
      go false g =
          let b : (c.offset ≤ e) × (e ≤ length s) = rw q at (layout-text_ends s c.offset) in
          record { end = e; text = q; there = refl; ahead = (let n = eqb-false e c.offset g in omega (arith, n, b.0)); inside = b.1 }

  pub told : (r : Layout) → stepped s c (layout_text s c.offset) ≡ r → Came r
  told r e = rw e at (came (layout_text s c.offset) refl)

  pub layout-refused : (w : Fault) → stepped s c (layout_text s c.offset) ≡ Err w → moved s c (layout_end s c.offset) ≡ Err w
  unfolding moved
  layout-refused w e = ap (moved s c) (refused_there s c.offset w (told (Err w) e))

  pub layout-none : stepped s c (layout_text s c.offset) ≡ (Ok None) → moved s c (layout_end s c.offset) ≡ Ok c
  unfolding moved
  layout-none e = ap (moved s c) (stops_there s c.offset (told (Ok None) e)) ∙ ap Ok (move_here s c)

  module _ (d : Cursor) (e : stepped s c (layout_text s c.offset) ≡ Ok (Some d)) where
    pub layout_more : Valid (length s) c → Later s c d
    layout_more v =
        let t = told (Ok (Some d)) e in
        let h : c.offset ≤ t.end = omega (arith, t.ahead) in
        later v t.end h t.inside (goes_on s c.offset t.end t.text (λ n. omega (arith, t.ahead))) d t.there

    pub layout-ahead : c.offset < d.offset
    layout-ahead =
        let t = told (Ok (Some d)) e in
        let o = ap (λ (x : Cursor). x.offset) t.there ∙ move_offset s c t.end (omega (arith, t.ahead)) t.inside in
        omega (arith, t.ahead)

-- ---- spaces, each of which is a layout text
abbrev pub spaces_end : List ℕ → ℕ → ℕ
spaces_end s at = stretch_end space space 0 0 s at

-- a layout character is not foreign
no_foreign : (x : ℕ) → is layout_char x ≡ true → is foreign_byte x ≡ false
no_foreign x t = cc (eqb-true (class_of x) layout_char t)

module _ (s : List ℕ) where
  -- past a layout character layout goes on
  pub past-blank : (i : ℕ) → i < length s → is layout_char (get_or s i 0) ≡ true → layout_end s i ≡ layout_end s (i + 1)
  unfolding front needed layout_text_of
  past-blank i h t = let n : is foreign_byte (get_or s i 0) ≡ false = no_foreign (get_or s i 0) t in goes_on s i (i + 1) (cc (drop_at s i h, n, t)) (λ n. omega arith)

  past-space : (i : ℕ) → i < length s → in_stretch space space 0 0 (get_or s i 0) ≡ true → layout_end s i ≡ layout_end s (i + 1)
  unfolding class_of
  past-space i h e =
      let w = in-stretch space space 0 0 (get_or s i 0) e in
      let x : get_or s i 0 ≡ space = omega (arith, w.from, w.to) in
      past-blank i h (rw x)

  module _ (c : Cursor) (v : Valid (length s) c) (at : ℕ) (q : at ≡ spaces_end s c.offset) where
    ahead : c.offset ≤ at
    ahead = rw q (stretch_ahead space space 0 0 s c.offset)

    inside : at ≤ length s
    inside = rw q (stretch_inside space space 0 0 s c.offset v.offset)

    -- a space is no newline
    plain : NoNewline s c.offset at
    plain i h l =
        let w = in-stretch space space 0 0 (get_or s i 0) (stretch_bytes space space 0 0 s c.offset i h (rw q at l)) in
        λ n. omega (arith, w.from)

    pub spaces_along : Along c at
    spaces_along = can_move_along (length s) c v at ahead inside

    pub past_spaces : (d : Cursor) → d ≡ along c (at - c.offset) → Later s c d
    past_spaces d m =
        let k : layout_end s c.offset ≡ layout_end s at = along_stretch (layout_end s) space space 0 0 s past-space c.offset ∙ ap (layout_end s) (sym q) in
        later s c v at ahead inside k d (m ∙ move_along s c at ahead inside plain)
