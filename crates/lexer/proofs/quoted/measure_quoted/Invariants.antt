-- `lexer::quoted::measure_quoted` meets its contract. The invariant: the measure from the start is what the n bytes, whether one was out
-- of limit, and the cursor make of the rest. It holds again behind the stretch that a turn passes over first. Assumes nothing.
use Prim.Native.Nat.{ℕ, suc, ◌+◌, ◌-◌, ◌<◌, ◌≤◌}
use mathlib.Core.Path.{◌≡◌, refl, sym, ◌∙◌, ap}
use mathlib.Core.Bool.{Bool, true, false, cond}
use mathlib.Core.List.{List, []}
use native.Mathlib.Omega.{arith}
use mir.Syntax.{w64}
use mir.Val.{Fits}
use lib.ListN.{length, get_or}
use Rattle.lexer.specs.Chars.{newline, space, backslash}
use Rattle.lexer.specs.Cursor.{step, move_to, along, Valid, Movable, Along}
use Rattle.lexer.specs.Quoted.{quoted_item, Quoted, whole, refused, with_char, out_of_limit, decode, measured, MeasureRead, measure}
use Rattle.lexer.specs.Refusal.{fault}
use Rattle.lexer.specs.Stretch.{in_stretch, stretch_end}
use Rattle.lexer.specs.declared.cursor.Cursor.{Cursor}
use Rattle.lexer.specs.declared.quoted.Item.TheVariants.{Char, Beyond, Skip, Close}
use Rattle.lexer.specs.declared.refusal.Fault.{Fault}
use Rattle.lexer.specs.declared.refusal.Refusal.TheVariants.{OutOfLimit}
use Rattle.lexer.proofs.Cursors.{movable, step-valid, can_move_along, move_here, move_step, move_offset, move_valid, move_by, move_along}
use Rattle.lexer.proofs.Spans.{Span, Plain}
use Rattle.lexer.proofs.QuotedItems.{Continued, ordinary_char, char_ends, beyond_ends, skip_ends, close_ends, decode_ends, decode-refused, decode-close, decode_skip, decode-beyond, decode_char}
use Rattle.lexer.proofs.Stretches.{Passed, can_pass, passed, stretch_carry}
use Rattle.lexer.proofs.quoted.measure_quoted.Given as goal
use Rattle.lexer.specs.declared.quoted.Item.{Item}
use Rattle.std.specs.declared.result.Result.TheVariants.{Ok, Err}

module _ (token : ℕ) (s : List ℕ) where
  -- the measure of a token: n bytes of it, `beyond` where one was out of limit, lie before c, and d is the rest
  unfoldable pub resumed : ℕ → Bool → Cursor → Quoted → MeasureRead
  resumed n beyond c (whole bs e) = cond beyond (Err (fault OutOfLimit token)) (measure (n + length bs) (move_to s c e))
  resumed n beyond c (refused w) = Err w

  pub start : (c : Cursor) (d : Quoted) → measured s c d ≡ resumed 0 false c d
  unfolding measured resumed
  start c (whole bs e) = let k : 0 + length bs ≡ length bs = omega arith in rw k
  start c (refused w) = refl

  pub more : (n : ℕ) (beyond : Bool) (c : Cursor) (b : ℕ) (d : Quoted) → resumed n beyond c (with_char b d) ≡ resumed (n + 1) beyond c d
  unfolding resumed with_char
  more n beyond c b (whole bs e) = let k : n + suc (length bs) ≡ n + 1 + length bs = omega arith in rw k
  more n beyond c b (refused w) = refl

  pub limit : (n : ℕ) (beyond : Bool) (c : Cursor) (d : Quoted) → resumed n beyond c (out_of_limit token d) ≡ resumed n true c d
  unfolding resumed out_of_limit
  limit n beyond c (whole bs e) = refl
  limit n beyond c (refused w) = refl

  -- the cursor moved on to where the rest starts
  pub moved : (n : ℕ) (beyond : Bool) (c : Cursor) (q b : ℕ) (d : Quoted) → c.offset ≤ b → decode q token s b ≡ d
      → resumed n beyond c d ≡ resumed n beyond (move_to s c b) d
  unfolding resumed
  moved n beyond c q b (whole bs e) h f =
      let p = decode_ends q token s b bs e f in
      let m = move_by s c e (omega arith) p.inside b h (omega arith) in
      cc
  moved n beyond c q b (refused w) h f = refl

pub record Inv (s : List ℕ) (q token : ℕ) (c₀ c : Cursor) (n : ℕ) (beyond : Bool) : Type 0 where
  pub same : measured s c₀ (decode q token s c₀.offset) ≡ resumed token s n beyond c (decode q token s c.offset)
  pub valid : Valid (length s) c
  pub few : n ≤ c.offset

pub begin : (s : List ℕ) (q token : ℕ) (c : Cursor) → Valid (length s) c → Inv s q token c c 0 false
begin s q token c v = record { same = start token s c (decode q token s c.offset); valid = v; few = omega arith }

module _ (s : List ℕ) (q token : ℕ) (c₀ c : Cursor) (n : ℕ) (beyond : Bool) (i : Inv s q token c₀ c n beyond) where
  -- the cursor moved on to e, past what m and b count
  module _ (e : ℕ) (h : c.offset ≤ e) (k : e ≤ length s) (d : Cursor) (o : d ≡ move_to s c e) where
    pub there : d.offset ≡ e
    there = ap (λ (z : Cursor). z.offset) o ∙ move_offset s c e h k

    pub onward : (m : ℕ) (b : Bool) → resumed token s n beyond c (decode q token s c.offset) ≡ resumed token s m b c (decode q token s e)
        → m ≤ n + (e - c.offset) → Inv s q token c₀ d m b
    onward m b g l =
        record {
          same = i.same ∙ g ∙ moved token s m b c q e (decode q token s e) h refl ∙ cc (o, there);
          valid = rw (← o) at (move_valid s c e h k i.valid);
          few = omega (arith, there, i.few);
        }

  -- the bytes of a stretch count one each, so far up to j
  pub record Counted (j : ℕ) : Type 0 where
    pub ahead : c.offset ≤ j
    pub same : resumed token s n beyond c (decode q token s c.offset) ≡ resumed token s (n + (j - c.offset)) beyond c (decode q token s j)

  pub none : Counted c.offset
  none = let k : n + (c.offset - c.offset) ≡ n = omega arith in record { ahead = omega arith; same = rw k }

  pub one : (j : ℕ) → j < length s → in_stretch space 126 q backslash (get_or s j 0) ≡ true → Counted j → Counted (j + 1)
  one j h t w =
      let m = n + (j - c.offset) in
      let x = get_or s j 0 in
      let k : m + 1 ≡ n + (j + 1 - c.offset) = omega (arith, w.ahead) in
      let g = decode_char q token s j (j + 1) x (ordinary_char q token s j h t) in
      record { ahead = omega (arith, w.ahead); same = rw (← k) (w.same ∙ ap (resumed token s m beyond c) g ∙ more token s m beyond c x (decode q token s (j + 1))) }

  module _ (at : ℕ) (a : at ≡ stretch_end space 126 q backslash s c.offset) where
    pub counted : Counted at
    counted = rw a (stretch_carry space 126 q backslash s Counted one c.offset none)

    pub stretch_before : c.offset ≤ at
    stretch_before = counted.ahead

    pub stretch_along : Along c at
    stretch_along = can_pass space 126 q backslash (omega arith) (omega arith) s c i.valid at a

    pub stretch_fits : Fits w64 (n + (at - c.offset))
    stretch_fits = record { fits = omega (arith, stretch_before, stretch_along.short, i.few) }

    module _ (d : Cursor) (o : d ≡ along c (at - c.offset)) where
      pub behind : Passed s c at d
      behind = passed space 126 q backslash (omega arith) (omega arith) s c i.valid at a d o

      pub behind_inv : Inv s q token c₀ d (n + (at - c.offset)) beyond
      behind_inv = let w = behind in onward at w.ahead w.inside d w.there (n + (at - c.offset)) beyond counted.same (omega arith)

-- the ways out of a turn that starts at c₁ with n₁: c is the cursor behind the stretch, r the item at `at`. All premises stand here, since
-- `search` meets them as hypotheses: it does not find the invariant behind the stretch by a law of its own
module _ (s : List ℕ) (q token : ℕ) (c₀ c₁ : Cursor) (n₁ : ℕ) (beyond : Bool) (at : ℕ) (c : Cursor) (i₁ : Inv s q token c₀ c₁ n₁ beyond)
    (a : at ≡ stretch_end space 126 q backslash s c₁.offset) (o₁ : c ≡ along c₁ (at - c₁.offset)) where
  abbrev pub n : ℕ
  n = n₁ + (at - c₁.offset)

  -- what holds there
  pub p₁ : Passed s c₁ at c
  p₁ = behind s q token c₀ c₁ n₁ beyond i₁ at a c o₁

  pub i : Inv s q token c₀ c n beyond
  i = behind_inv s q token c₀ c₁ n₁ beyond i₁ at a c o₁

  pub item : quoted_item q token s c.offset ≡ quoted_item q token s at
  item = ap (quoted_item q token s) p₁.offset

  pub refuse : (w : Fault) → Err w ≡ quoted_item q token s at → Err w ≡ measured s c₀ (decode q token s c₀.offset)
  unfolding resumed
  refuse w g = sym (i.same ∙ ap (resumed token s n beyond c) (decode-refused q token s c.offset w (item ∙ sym g)))

  -- a turn that moves the cursor to e
  module _ (e : ℕ) (p : Span s c.offset e) (d : Cursor) (o : d ≡ move_to s c e) where
    pub less : length s - d.offset < length s - c₁.offset
    less = omega (arith, p.ahead, p.inside, p₁.ahead, p₁.offset, there s q token c₀ c n beyond i e (omega arith) p.inside d o)

    -- the item changes by x what the rest comes to, or by m and b what was read
    pub turn : (m : ℕ) (b : Bool) (x : Quoted → Quoted) → decode q token s c.offset ≡ x (decode q token s e)
        → ((y : Quoted) → resumed token s n beyond c (x y) ≡ resumed token s m b c y) → m ≤ n + 1 → Inv s q token c₀ d m b
    turn m b x g k h =
        onward s q token c₀ c n beyond i e (omega arith) p.inside d o m b
        (ap (resumed token s n beyond c) g ∙ k (decode q token s e)) (omega (arith, p.ahead))

  -- one on a line
  module _ (e : ℕ) (p : Plain s c.offset e) where
    pub along-line : Along c e
    along-line = can_move_along (length s) c i.valid e (omega arith) p.span.inside

    pub line : (d : Cursor) → d ≡ along c (e - c.offset) → d ≡ move_to s c e
    line d o = o ∙ move_along s c e (omega arith) p.span.inside p.plain

  -- one past a continuation escape
  pub lines : (e : ℕ) → Continued s c.offset e → step (step c backslash) newline ≡ move_to s c e
  lines e p =
      let k : e ≡ c.offset + 1 + 1 = omega arith in
      sym
      (move_step s c e (omega arith) p.span.inside ∙ ap (λ (x : ℕ). move_to s (step c x) e) p.first
      ∙ move_step s (step c backslash) e (omega arith) p.span.inside ∙ ap (λ (x : ℕ). move_to s (step (step c backslash) x) e) p.second
      ∙ ap (move_to s (step (step c backslash) newline)) k ∙ move_here s (step (step c backslash) newline))

  module _ (r : Item) (f : Ok r ≡ quoted_item q token s at) (e : ℕ) where
    module _ (g : r ≡ Close e) where
      pub closing : Plain s c.offset e
      closing = (close_ends q s c.offset token e (item ∙ sym f ∙ ap Ok g)).whole

      pub closed : measured s c₀ (decode q token s c₀.offset) ≡ resumed token s n beyond c (whole [] e)
      closed = i.same ∙ ap (resumed token s n beyond c) (decode-close q token s c.offset e (item ∙ sym f ∙ ap Ok g))

      pub close-along : Along c e
      close-along = along-line e closing

      pub out : beyond ≡ true → Err (fault OutOfLimit token) ≡ measured s c₀ (decode q token s c₀.offset)
      unfolding resumed
      out h = cc closed

      pub done : (d : Cursor) → beyond ≡ false → d ≡ along c (e - c.offset) → measure n d ≡ measured s c₀ (decode q token s c₀.offset)
      unfolding resumed
      done d h o = let k : n + 0 ≡ n = omega arith in cc (closed, line e closing d o)

    module _ (g : r ≡ Skip e) where
      pub continued : Continued s c.offset e
      continued = skip_ends q s c.offset token e (item ∙ sym f ∙ ap Ok g)

      pub skip_first : Movable c
      skip_first = let p = continued in movable (length s) c i.valid (omega arith)

      module _ (d : Cursor) (k : d ≡ step c backslash) where
        pub skip_second : Movable d
        skip_second =
            let p = continued in
            rw (← k) at (movable (length s) (step c backslash) (step-valid (length s) c i.valid backslash (omega arith)) (omega arith))

        module _ (d₂ : Cursor) (l : d₂ ≡ step d newline) where
          past : d₂ ≡ move_to s c e
          past = cc (lines e continued)

          pub skip : Inv s q token c₀ d₂ n beyond
          skip = turn e continued.span d₂ past n beyond (λ y. y) (decode_skip q token s c.offset e (item ∙ sym f ∙ ap Ok g)) (λ y. refl) (omega arith)

          pub skip_less : length s - d₂.offset < length s - c₁.offset
          skip_less = less e continued.span d₂ past

    module _ (b : ℕ) (g : r ≡ Char b e) where
      pub char_plain : Plain s c.offset e
      char_plain = char_ends q s c.offset token e b (item ∙ sym f ∙ ap Ok g)

      pub char_along : Along c e
      char_along = along-line e char_plain

      pub char_fits : Fits w64 (n + 1)
      char_fits = let p = char_plain in record { fits = omega (arith, i.few, i.valid.short) }

      module _ (d : Cursor) (o : d ≡ along c (e - c.offset)) where
        pub char : Inv s q token c₀ d (n + 1) beyond
        char =
            turn e char_plain.span d (line e char_plain d o) (n + 1) beyond
            (with_char b) (decode_char q token s c.offset e b (item ∙ sym f ∙ ap Ok g)) (more token s n beyond c b) (omega arith)

        pub char_less : length s - d.offset < length s - c₁.offset
        char_less = less e char_plain.span d (line e char_plain d o)

    module _ (g : r ≡ Beyond e) where
      pub beyond_plain : Plain s c.offset e
      beyond_plain = beyond_ends q s c.offset token e (item ∙ sym f ∙ ap Ok g)

      pub beyond-along : Along c e
      beyond-along = along-line e beyond_plain

      module _ (d : Cursor) (o : d ≡ along c (e - c.offset)) where
        pub out-of-limit : Inv s q token c₀ d n true
        out-of-limit =
            turn e beyond_plain.span d (line e beyond_plain d o) n true
            (out_of_limit token) (decode-beyond q token s c.offset e (item ∙ sym f ∙ ap Ok g)) (limit token s n beyond c) (omega arith)

        pub beyond_less : length s - d.offset < length s - c₁.offset
        beyond_less = less e beyond_plain.span d (line e beyond_plain d o)

abbrev pub invariant-loop-next : goal.invariant-loop-next
invariant-loop-next l = Inv l.text l.quote l.token l.initial.c l.c l.n l.beyond

abbrev pub decreases-loop-next : goal.decreases-loop-next
decreases-loop-next l = length l.text - l.c.offset
