-- What a look at an offset tells of the text. Assumes nothing.
use mathlib.Core.Path.{◌≡◌, ◌∙◌, sym, refl}
use mathlib.Core.Logic.{◌⊎◌, inl, inr, ⊎_elim}
use mathlib.Core.Bool.{Bool, true, false, cond}
use mathlib.Core.List.{List, ◌∷◌}
use Prim.Native.Nat.{ℕ, ◌+◌, ◌^◌, ◌<◌, ◌≤◌}
use mir.Syntax.{w64}
use mir.Val.{Fits}
use native.Mathlib.Decide.{dec_le}
use native.Mathlib.Omega.{arith}
use lib.ListN.{length, get_or, drop}
use Rattle.lexer.specs.Chars.{is, foreign_byte}
use Rattle.lexer.specs.Look.{front, peek, needed, lookahead}
use Rattle.lexer.specs.declared.chars.Peek.{Peek}
use Rattle.lexer.specs.declared.chars.Peek.TheVariants.{Byte, Foreign, End}
use Rattle.lexer.specs.Look.{Look}
use Rattle.std.specs.declared.result.Result.TheVariants.{Ok}
use Rattle.lexer.proofs.Steps.{drop_at, drop_end}

-- at a byte b of some class
pub record Seen (s : List ℕ) (at b : ℕ) : Type 0 where
  pub inside : at < length s
  pub rest : drop at s ≡ b ∷ drop (at + 1) s
  pub known : is foreign_byte b ≡ false
  pub it : get_or s at 0 ≡ b

-- at a foreign byte x
pub record Strange (s : List ℕ) (at x : ℕ) : Type 0 where
  pub inside : at < length s
  pub rest : drop at s ≡ x ∷ drop (at + 1) s
  pub unknown : is foreign_byte x ≡ true

-- within the text, or not
pub inside_or_not : (s : List ℕ) (at : ℕ) → (length s ≤ at) ⊎ (at < length s)
inside_or_not s at = go (dec_le (length s) at)
  where
    go : Dec (length s ≤ at) → (length s ≤ at) ⊎ (at < length s)
    go (yes h) = inl h
    go (no h) = inr (omega arith)

module _ (s : List ℕ) (at : ℕ) where
  there : (t : Bool) → is foreign_byte (get_or s at 0) ≡ t → at < length s → peek s at ≡ cond t Foreign (Byte (get_or s at 0))
  unfolding front
  there t f h = cc (drop_at s at h)

  none_there : length s ≤ at → peek s at ≡ End
  unfolding front
  none_there h = cc (drop_end s at h)

  pub peek_end : peek s at ≡ End → length s ≤ at
  peek_end e = ⊎_elim (λ h. h) (λ h. go (is foreign_byte (get_or s at 0)) refl h) (inside_or_not s at)
    where
      go : (t : Bool) → is foreign_byte (get_or s at 0) ≡ t → at < length s → length s ≤ at
      go true f h = let z : ◌≡◌ {A = ℕ} 0 1 = cc (there true f h) in omega arith
      go false f h = let z : ◌≡◌ {A = ℕ} 0 1 = cc (there false f h) in omega arith

  pub peek_byte : (b : ℕ) → peek s at ≡ Byte b → Seen s at b
  peek_byte b e = ⊎_elim (λ h. none h) (λ h. go (is foreign_byte (get_or s at 0)) refl h) (inside_or_not s at)
    where
      none : length s ≤ at → Seen s at b
      none h = let z : ◌≡◌ {A = ℕ} 0 1 = cc (none_there h) in absurd (omega arith)

      go : (t : Bool) → is foreign_byte (get_or s at 0) ≡ t → at < length s → Seen s at b
      go true f h = let z : ◌≡◌ {A = ℕ} 0 1 = cc (there true f h) in absurd (omega arith)
      go false f h =
          let q : get_or s at 0 ≡ b = cc (there false f h) in
          record { inside = h; rest = cc (drop_at s at h); known = cc; it = q }

  pub peek_foreign : peek s at ≡ Foreign → Strange s at (get_or s at 0)
  peek_foreign e = ⊎_elim (λ h. none h) (λ h. go (is foreign_byte (get_or s at 0)) refl h) (inside_or_not s at)
    where
      none : length s ≤ at → Strange s at (get_or s at 0)
      none h = let z : ◌≡◌ {A = ℕ} 0 1 = cc (none_there h) in absurd (omega arith)

      go : (t : Bool) → is foreign_byte (get_or s at 0) ≡ t → at < length s → Strange s at (get_or s at 0)
      go true f h = record { inside = h; rest = drop_at s at h; unknown = f }
      go false f h = let z : ◌≡◌ {A = ℕ} 0 1 = cc (there false f h) in absurd (omega arith)

  -- a look that finds a byte
  pub look_byte : (b : ℕ) → lookahead s at ≡ Ok b → Seen s at b
  unfolding needed
  look_byte b e = go (peek s at) refl e
    where
      go : (p : Peek) → peek s at ≡ p → needed at p ≡ Ok b → Seen s at b
      go (Byte x) q f = let g : x ≡ b = cc in peek_byte b (cc)
      go Foreign q f = let z : ◌≡◌ {A = ℕ} 0 1 = cc in absurd (omega arith)
      go End q f = let z : ◌≡◌ {A = ℕ} 0 1 = cc in absurd (omega arith)

  -- and a byte of some class is found
  pub byte_look : (b : ℕ) → at < length s → get_or s at 0 ≡ b → is foreign_byte b ≡ false → lookahead s at ≡ Ok b
  unfolding needed
  byte_look b h e f = cc (there false (cc) h)

-- where a peek or a look found a byte, the offset is within the text, and the next one fits
module _ (s : List ℕ) (at b : ℕ) where
  module _ (r : Peek) (e : r ≡ peek s at) (f : r ≡ Byte b) where
    pub peek-inside : at < length s
    peek-inside = (peek_byte s at b (sym e ∙ f)).inside

    pub peek-fits : length s < 2 ^ 64 → Fits w64 (at + 1)
    peek-fits h = let l = peek-inside in record { fits = omega arith }

  module _ (r : Look) (e : r ≡ lookahead s at) (f : r ≡ Ok b) where
    pub look_inside : at < length s
    look_inside = (look_byte s at b (sym e ∙ f)).inside

    pub look_fits : length s < 2 ^ 64 → Fits w64 (at + 1)
    look_fits h = let l = look_inside in record { fits = omega arith }
