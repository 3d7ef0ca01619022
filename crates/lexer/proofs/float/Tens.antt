-- The powers of ten up to 10 ^ 22 are doubles, and the product or quotient of two doubles that are whole numbers is the exact one, rounded once. Assumes nothing.
use Prim.Native.Nat.{ℕ, zero, suc, ◌*◌, ◌^◌, ◌<◌}
use mathlib.Core.Path.{◌≡◌, refl, sym, ◌∙◌}
use mathlib.Core.Bool.{Bool, true, false}
use mathlib.Core.List.{List, [], ◌∷◌}
use native.Mathlib.Nat.{pow-suc, mul-one, mul_assoc, mul_comm, mul_left_comm, mul-pos}
use native.Mathlib.Omega.{arith}
use borrow.Author.Tests.{ne_eqb}
use lib.Dec.{T, eqb, eqb→eq, lit<, ltb→lt}
use lib.IntN.{ℤ}
use lib.ListN.{get_or}
use lib.Ieee.{Float, nan, inf, fin, up, down, round, Format, binary64, mul, div}
use lib.Ieee.Exact.{HasValue}
use lib.Ieee.Fits.{up_pos, down_pos}
use lib.Ieee.Positive.{positive_of_value}
use lib.Ieee.Scale.{round_same}
use Rattle.lexer.proofs.Table.{at}

-- ten to the i and the powers after it, n in all, each rounded
unfoldable pub powers : ℕ → ℕ → List Float
powers i zero = []
powers i (suc n) = round binary64 false (10 ^ i) 1 ∷ powers (suc i) n

abbrev pub tens : List Float
tens = powers 0 23

-- whether a float is the whole number n
is_whole : ℕ → Float → Bool
is_whole n nan = false
is_whole n (inf s) = false
is_whole n (fin true m e) = false
is_whole n (fin false m e) = eqb (m * up e * 1) (n * down e)

has_value : (n : ℕ) (x : Float) → T (is_whole n x) → HasValue x false n 1
unfolding is_whole
has_value n nan t = absurd t
has_value n (inf s) t = absurd t
has_value n (fin true m e) t = absurd t
has_value n (fin false m e) t = (refl, eqb→eq (m * up e * 1) (n * down e) t)

-- rounding loses nothing: each entry is the power of ten
pub power_at : (k : ℕ) → k < 23 → HasValue (get_or tens k nan) false (10 ^ k) 1
unfolding powers round is_whole
power_at k h = has_value (10 ^ k) (get_or tens k nan) (at nan (λ (i : ℕ). is_whole (10 ^ i)) tens tt k h)

pub ten_pos : (k : ℕ) → 0 < 10 ^ k
ten_pos zero = lit< tt
ten_pos (suc k) = let h = ten_pos k in rw pow-suc (omega arith)

-- ---- one operation of two values that are whole numbers: the exact result, rounded

never : {A : Type 0} → true ≡ false → A
never e = let z : ◌≡◌ {A = ℕ} 0 1 = cc in absurd (omega arith)

mul-of : (f : Format) (m : ℕ) (e : ℤ) (n : ℕ) (d : ℤ) (a b : ℕ) → m * up e * 1 ≡ a * down e → n * up d * 1 ≡ b * down d → mul f (fin false m e) (fin false n d) ≡ round f false (a * b) 1
unfolding mul
mul-of f m e n d a b h k =
    let h' : m * up e ≡ a * down e = sym (mul-one (m * up e)) ∙ h in
    let k' : n * up d ≡ b * down d = sym (mul-one (n * up d)) ∙ k in
    round_same f false (m * up e * (n * up d)) (down e * down d) (a * b) 1 (mul-pos (down_pos e) (down_pos d)) (lit< tt)
    (rw (h', k') (simp (mul-one, mul_assoc, mul_left_comm)))

pub mul_at : (f : Format) (x y : Float) (a b : ℕ) → HasValue x false a 1 → HasValue y false b 1 → mul f x y ≡ round f false (a * b) 1
mul_at f nan y a b h k = absurd h
mul_at f (inf s) y a b h k = absurd h
mul_at f (fin true m e) y a b h k = never h.0
mul_at f (fin false m e) nan a b h k = absurd k
mul_at f (fin false m e) (inf t) a b h k = absurd k
mul_at f (fin false m e) (fin true n d) a b h k = never k.0
mul_at f (fin false m e) (fin false n d) a b h k = mul-of f m e n d a b h.1 k.1

div-of : (f : Format) (m : ℕ) (e : ℤ) (n : ℕ) (d : ℤ) (a b : ℕ) → 0 < n → 0 < b → m * up e * 1 ≡ a * down e → n * up d * 1 ≡ b * down d
    → div f (fin false m e) (fin false n d) ≡ round f false a b
unfolding div
div-of f m e n d a b p q h k =
    let z = ne_eqb n 0 (λ (x : n ≡ 0). omega arith) in
    let h' : m * up e ≡ a * down e = sym (mul-one (m * up e)) ∙ h in
    let k' : n * up d ≡ b * down d = sym (mul-one (n * up d)) ∙ k in
    rw z
    (round_same f false (m * up e * down d) (n * up d * down e) a b (mul-pos (mul-pos p (up_pos d)) (down_pos e)) q
    (rw (h', k') (simp (mul_assoc, mul_comm, mul_left_comm))))

pub div-at : (f : Format) (x y : Float) (a b : ℕ) → 0 < b → HasValue x false a 1 → HasValue y false b 1 → div f x y ≡ round f false a b
div-at f nan y a b q h k = absurd h
div-at f (inf s) y a b q h k = absurd h
div-at f (fin true m e) y a b q h k = never h.0
div-at f (fin false m e) nan a b q h k = absurd k
div-at f (fin false m e) (inf t) a b q h k = absurd k
div-at f (fin false m e) (fin true n d) a b q h k = never k.0
div-at f (fin false m e) (fin false n d) a b q h k = div-of f m e n d a b (ltb→lt 0 n (positive_of_value (fin false n d) b 1 k q)) q h.1 k.1
