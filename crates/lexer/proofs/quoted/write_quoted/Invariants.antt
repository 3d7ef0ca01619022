-- `lexer::quoted::write_quoted` meets its contract. The invariant: the bytes left, stored from here in the scratch as it is, make what all
-- the bytes make, stored from the front in the scratch as it came; and they are as many as they should be. Assumes nothing.
use Prim.Native.Nat.{ℕ, suc, ◌+◌, ◌-◌, ◌^◌, ◌<◌, ◌≤◌}
use mathlib.Core.Path.{◌≡◌, refl, sym, ◌∙◌, ap}
use mathlib.Core.List.{List, [], ◌∷◌}
use native.Mathlib.Numerals.{add-one}
use native.Mathlib.Omega.{arith}
use mir.Syntax.{w64}
use mir.Val.{Fits}
use lib.ListN.{length, set, length-set}
use lib.Seq.{sets}
use Rattle.lexer.specs.Quoted.{quoted_item, Quoted, whole, refused, with_char, out_of_limit, decode, bytes_of, Writes}
use Rattle.lexer.specs.declared.quoted.Item.TheVariants.{Char, Beyond, Skip, Close}
use Rattle.lexer.specs.declared.refusal.Fault.{Fault}
use Rattle.lexer.proofs.QuotedItems.{char_ends, skip_ends, decode-refused, decode-close, decode_skip, decode-beyond, decode_char}
use Rattle.lexer.proofs.quoted.write_quoted.Given as goal
use Rattle.lexer.specs.declared.quoted.Item.{Item}
use Rattle.std.specs.declared.result.Result.TheVariants.{Ok, Err}

pub record Inv (s : List ℕ) (from q token n : ℕ) (d₀ d : List ℕ) (at i : ℕ) : Type 0 where
  pub bytes : List ℕ
  pub end : ℕ
  pub left : decode q token s at ≡ whole bytes end
  pub same : sets d₀ 0 (bytes_of (decode q token s from)) ≡ sets d i bytes
  pub count : i + length bytes ≡ n
  pub long : length d ≡ length d₀
  pub room : n ≤ length d₀

pub begin : (s : List ℕ) (from q token n : ℕ) (d : List ℕ) → Writes q token s from n (length d) → Inv s from q token n d d from 0
unfolding bytes_of
begin s from q token n d w =
    record {
      bytes = w.bytes;
      end = w.end;
      left = w.reads;
      same = rw w.reads;
      count = omega arith;
      long = refl;
      room = w.fits;
    }

pub none : (bs : List ℕ) → length bs ≡ 0 → bs ≡ []
none [] e = refl
none (b ∷ bs) e = absurd (omega arith)

-- what is whole has no byte out of limit
pub in-limit : {A : Type 0} → (token : ℕ) (d : Quoted) (bs : List ℕ) (e : ℕ) → out_of_limit token d ≡ whole bs e → A
unfolding out_of_limit
in-limit token (whole cs k) bs e h = let z : ◌≡◌ {A = ℕ} 0 1 = cc in absurd (omega arith)
in-limit token (refused w) bs e h = let z : ◌≡◌ {A = ℕ} 0 1 = cc in absurd (omega arith)

-- the bytes behind the first
pub record Behind (b : ℕ) (d : Quoted) (bs : List ℕ) (e : ℕ) : Type 0 where
  pub rest : List ℕ
  pub it : d ≡ whole rest e
  pub all : bs ≡ b ∷ rest

pub behind : (b : ℕ) (d : Quoted) (bs : List ℕ) (e : ℕ) → with_char b d ≡ whole bs e → Behind b d bs e
unfolding with_char
behind b (whole cs k) bs e h = record { rest = cs; it = cc; all = cc }
behind b (refused w) bs e h = let z : ◌≡◌ {A = ℕ} 0 1 = cc in absurd (omega arith)

-- the ways out of a turn: r is the item at `at`
module _ (s : List ℕ) (from q token n : ℕ) (d₀ d : List ℕ) (at i : ℕ) (v : Inv s from q token n d₀ d at i) where
  pub empty : v.bytes ≡ [] → d ≡ sets d₀ 0 (bytes_of (decode q token s from))
  empty h = sym (v.same ∙ ap (sets d i) h)

  pub done : n ≤ i → d ≡ sets d₀ 0 (bytes_of (decode q token s from))
  done h = empty (none v.bytes (omega arith))

  pub refuse : (w : Fault) → Err w ≡ quoted_item q token s at → d ≡ sets d₀ 0 (bytes_of (decode q token s from))
  refuse w g = cc (decode-refused q token s at w (sym g), v.left)

  module _ (r : Item) (f : Ok r ≡ quoted_item q token s at) where
    module _ (e : ℕ) where
      pub close : r ≡ Close e → d ≡ sets d₀ 0 (bytes_of (decode q token s from))
      close g = empty (cc (decode-close q token s at e (sym f ∙ ap Ok g), v.left))

      pub beyond : r ≡ Beyond e → d ≡ sets d₀ 0 (bytes_of (decode q token s from))
      beyond g = in-limit token (decode q token s e) v.bytes v.end (sym (decode-beyond q token s at e (sym f ∙ ap Ok g)) ∙ v.left)

      module _ (g : r ≡ Skip e) where
        pub skip : Inv s from q token n d₀ d e i
        skip =
            record {
              bytes = v.bytes;
              end = v.end;
              left = sym (decode_skip q token s at e (sym f ∙ ap Ok g)) ∙ v.left;
              same = v.same;
              count = v.count;
              long = v.long;
              room = v.room;
            }

        pub skip_less : length s - e < length s - at
        skip_less = let p = skip_ends q s at token e (sym f ∙ ap Ok g) in omega arith

      module _ (b : ℕ) (g : r ≡ Char b e) where
        pub next : Behind b (decode q token s e) v.bytes v.end
        next = behind b (decode q token s e) v.bytes v.end (sym (decode_char q token s at e b (sym f ∙ ap Ok g)) ∙ v.left)

        pub counted : i + suc (length next.rest) ≡ n
        counted = ap (λ (bs : List ℕ). i + length bs) (sym next.all) ∙ v.count

        pub inside : i < length d
        inside = omega (arith, counted)

        pub fits : length d₀ < 2 ^ 64 → Fits w64 (i + 1)
        fits h = record { fits = omega (arith, counted) }

        pub char : Inv s from q token n d₀ (set d i b) e (i + 1)
        char =
            record {
              bytes = next.rest;
              end = v.end;
              left = next.it;
              same = rw (add-one i) (v.same ∙ ap (sets d i) next.all);
              count = omega (arith, counted);
              long = length-set d i b ∙ v.long;
              room = v.room;
            }

        pub char_less : length s - e < length s - at
        char_less = let p = char_ends q s at token e b (sym f ∙ ap Ok g) in omega arith

abbrev pub invariant-loop-i : goal.invariant-loop-i
invariant-loop-i l = Inv l.text l.from l.quote l.token l.n l.initial.scratch l.scratch l.at l.i

abbrev pub decreases-loop-i : goal.decreases-loop-i
decreases-loop-i l = length l.text - l.at
