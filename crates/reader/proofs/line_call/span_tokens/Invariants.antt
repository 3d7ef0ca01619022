-- `reader::line_call::span_tokens` meets its contract. The invariant: the tokens from the start are those whose spans stand in front, and then those
-- from here. Assumes nothing.
use Prim.Native.Nat.{ℕ, suc, ◌+◌, ◌-◌, ◌<◌, ◌≤◌}
use mathlib.Core.Path.{◌≡◌, refl, sym, ◌∙◌, ap}
use mathlib.Core.Bool.{Bool, true, false}
use mathlib.Core.List.{List, [], ◌∷◌, ◌++◌, map, map-append}
use native.Mathlib.Omega.{arith}
use mir.Syntax.{w16}
use mir.Val.{Fits}
use lib.ListN.{length, set, take, length-set, length-append}
use lib.Seq.{take-suc-set}
use Rattle.lexer.specs.Token.{next_token, Answer}
use Rattle.lexer.specs.declared.token.Source.TheVariants.{File}
use Rattle.lexer.specs.declared.cursor.Cursor.{Cursor}
use Rattle.lexer.specs.declared.token.Token as lexer
use Rattle.lexer.proofs.Theorems.{token_promises}
use Rattle.reader.specs.Token.{Token}
use Rattle.reader.specs.Clause.{most_tokens, token_in, is_end, whole, stopped, too_many, gather}
use Rattle.reader.specs.LineCall.{Spanning, Fronts, Spans}
use Rattle.reader.proofs.Sights.{known}
use Rattle.reader.proofs.Spans.{with_all, with_last, with_whole, with_stopped, with_too_many, gather_end, gather_on, gather_stopped}
use Rattle.reader.proofs.Turns.{told-refused}
use Rattle.reader.proofs.line_call.span_tokens.Given as goal
use Rattle.lexer.specs.declared.token.TokenRead.{TokenRead}
use Rattle.lexer.specs.declared.refusal.Refused.{Refused}
use Rattle.std.specs.declared.result.Result.TheVariants.{Ok, Err}

pub record Inv (s : List ℕ) (c₀ c : Cursor) (i : ℕ) (starts ends : List ℕ) : Type 0 where
  pub left : List Token
  pub count : length left ≡ i
  pub same : gather most_tokens s c₀ ≡ with_all left (gather (most_tokens - i) s c)
  pub high : i ≤ most_tokens
  pub spanning : Spanning s c starts ends
  pub fronts : Fronts left starts ends

pub begin : (s : List ℕ) (c : Cursor) (starts ends : List ℕ) → Spanning s c starts ends → Inv s c c 0 starts ends
unfolding with_all
begin s c starts ends h =
    record { left = []; count = refl; same = refl; high = omega arith; spanning = h; fronts = record { starts_same = refl; ends_same = refl } }

-- one span more
pub front_on : (f : Token → ℕ) (ts : List Token) (t : Token) (d : List ℕ) (i : ℕ) → length ts ≡ i → i < length d → take (length ts) d ≡ map f ts
    → take (length (ts ++ (t ∷ []))) (set d i (f t)) ≡ map f (ts ++ (t ∷ []))
front_on f ts t d i n h e =
    let m : length (ts ++ (t ∷ [])) ≡ suc i = length-append ts (t ∷ []) ∙ omega arith in
    ap (λ (k : ℕ). take k (set d i (f t))) m ∙ take-suc-set d i (f t) h
    ∙ ap (λ (k : ℕ). take k d ++ (f t ∷ [])) (sym n)
    ∙ ap (λ (l : List ℕ). l ++ (f t ∷ [])) e
    ∙ sym (map-append f ts (t ∷ []))

-- the slices keep their lengths
module _ (s : List ℕ) (c₀ c : Cursor) (i j : ℕ) (starts₀ ends₀ starts ends : List ℕ) (h : Spanning s c₀ starts₀ ends₀) (v : Inv s c₀ c i starts ends) (x : ℕ) where
  pub starts_kept : length (set starts j x) ≡ length starts₀
  starts_kept = length-set starts j x ∙ v.spanning.started ∙ sym h.started

  pub ends_kept : length (set ends j x) ≡ length ends₀
  ends_kept = length-set ends j x ∙ v.spanning.ended ∙ sym h.ended

module _ (s : List ℕ) (c₀ c : Cursor) (i : ℕ) (starts ends : List ℕ) (v : Inv s c₀ c i starts ends) where
  -- all places are taken, and no mark
  pub full : (room : ℕ) → room ≡ most_tokens → room ≤ i → Spans s c₀ starts ends
  unfolding gather
  full room k h =
      let n : most_tokens - i ≡ 0 = omega arith in
      let g : gather most_tokens s c₀ ≡ too_many = v.same ∙ ap (λ (k : ℕ). with_all v.left (gather k s c)) n ∙ with_too_many v.left in
      record { fronts = λ ts e w. let z : ◌≡◌ {A = ℕ} 0 1 = cc in absurd (omega arith) }

  module _ (room : ℕ) (k : room ≡ most_tokens) (h : i < room) where
    pub from-here : gather most_tokens s c₀ ≡ with_all v.left (gather (suc (1023 - i)) s c)
    from-here =
        let n : most_tokens - i ≡ suc (1023 - i) = omega arith in
        v.same ∙ ap (λ (k : ℕ). with_all v.left (gather k s c)) n

    pub start_there : i < length starts
    start_there = omega (arith, v.spanning.started)

    pub end_there : i < length ends
    end_there = omega (arith, v.spanning.ended)

    module _ (a : Answer) (e : a ≡ next_token File s c) where
      pub halted : (w : Refused) → a ≡ Err w → Spans s c₀ starts ends
      halted w f =
          let r = told-refused s c v.spanning.valid_cursor w.fault w.cursor (sym e ∙ f) in
          let g : gather most_tokens s c₀ ≡ stopped w.fault = from-here ∙ ap (with_all v.left) (gather_stopped s c (1023 - i) r) ∙ with_stopped v.left in
          record { fronts = λ ts e w. let z : ◌≡◌ {A = ℕ} 0 1 = cc in absurd (omega arith) }

      module _ (read : TokenRead) (f : a ≡ Ok read) where
        abbrev t : lexer.Token
        t = read.token

        abbrev d : Cursor
        d = read.next

        pub start-fits : Fits w16 t.start
        start-fits = let p = token_promises s c File t d (sym e ∙ f) in record { fits = omega (arith, p.ahead, p.inside, p.from.short) }

        pub end-fits : Fits w16 d.offset
        end-fits = let p = token_promises s c File t d (sym e ∙ f) in record { fits = omega (arith, p.inside, p.from.short) }

        pub it : Token
        it = token_in s t d.offset (known s c t d (sym e ∙ f)).text

        module _ (x y : ℕ) (p : x ≡ t.start) (q : y ≡ d.offset) where
          fronts_on : Fronts (v.left ++ (it ∷ [])) (set starts i x) (set ends i y)
          unfolding it
          fronts_on =
              record {
                starts_same =
                    ap (λ (k : ℕ). take (length (v.left ++ (it ∷ []))) (set starts i k)) p
                    ∙ front_on (λ (k : Token). k.start) v.left it starts i v.count start_there v.fronts.starts_same;
                ends_same =
                    ap (λ (k : ℕ). take (length (v.left ++ (it ∷ []))) (set ends i k)) q
                    ∙ front_on (λ (k : Token). k.end) v.left it ends i v.count end_there v.fronts.ends_same;
              }

          module _ (b : Bool) (m : b ≡ is_end t.kind) where
            pub ended : b ≡ true → Spans s c₀ (set starts i x) (set ends i y)
            unfolding it
            ended z =
                let g : gather most_tokens s c₀ ≡ whole (v.left ++ (it ∷ [])) d =
                from-here ∙ ap (with_all v.left) (gather_end s c t d (known s c t d (sym e ∙ f)) (1023 - i) (sym m ∙ z)) ∙ with_whole v.left (it ∷ []) d in
                record { fronts = λ ts k w. let l : v.left ++ (it ∷ []) ≡ ts = cc in rw l at fronts_on }

            pub again : b ≡ false → Inv s c₀ d (i + 1) (set starts i x) (set ends i y)
            unfolding it
            again z =
                let n : 1023 - i ≡ most_tokens - (i + 1) = omega arith in
                record {
                  left = v.left ++ (it ∷ []);
                  count = length-append v.left (it ∷ []) ∙ ap (λ (k : ℕ). k + 1) v.count;
                  same =
                      from-here ∙ ap (with_all v.left) (gather_on s c t d (known s c t d (sym e ∙ f)) (1023 - i) (sym m ∙ z))
                      ∙ sym (with_last v.left it (gather (1023 - i) s d))
                      ∙ ap (λ (k : ℕ). with_all (v.left ++ (it ∷ [])) (gather k s d)) n;
                  high = omega arith;
                  spanning =
                      record {
                        valid_cursor = (token_promises s c File t d (sym e ∙ f)).next_passes;
                        started = length-set starts i x ∙ v.spanning.started;
                        ended = length-set ends i y ∙ v.spanning.ended;
                      };
                  fronts = fronts_on;
                }

abbrev pub invariant-loop-i : goal.invariant-loop-i
invariant-loop-i l = Inv l.text l.initial.c l.c l.i l.starts l.ends
