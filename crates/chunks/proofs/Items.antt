-- Quoted items in a window and in the text. Assumes nothing.
use mathlib.Core.Path.{◌≡◌, refl, sym, subst, ◌∙◌, ap}
use mathlib.Core.Logic.{inl, inr}
use mathlib.Core.Bool.{Bool, true, false, cond}
use mathlib.Core.List.{List}
use Prim.Native.Nat.{ℕ, ◌+◌, ◌-◌, ◌<◌, ◌≤◌}
use native.Mathlib.Omega.{arith}
use borrow.Author.Tests.{eq-eqb, ne_eqb, eqb-true, eqb-false}
use lib.Dec.{eqb, leb}
use lib.ListN.{drop}
use Rattle.lexer.specs.Chars.{among, newline, backslash, small_x}
use Rattle.lexer.specs.Digits.{is_digit, digits_at}
use Rattle.lexer.specs.Look.{peek, needed, lookahead}
use Rattle.lexer.specs.Quoted.{unquotable, escape_of, coded, closed, numeric_escape, escape_to, escape, quote_to, item_to, quoted_item, QuotedItem}
use Rattle.lexer.specs.Refusal.{fault}
use Rattle.lexer.specs.declared.refusal.Fault.{Fault}
use Rattle.lexer.specs.declared.refusal.Refusal.TheVariants.{ForeignByte, BadQuoted}
use Rattle.lexer.specs.declared.chars.Peek.{Peek}
use Rattle.lexer.specs.declared.chars.Peek.TheVariants.{Byte}
use Rattle.lexer.specs.Look.{Look}
use Rattle.std.specs.declared.result.Result.TheVariants.{Ok, Err}
use Rattle.lexer.specs.declared.digits.Digits.{Digits}
use Rattle.lexer.specs.declared.quoted.Item.TheVariants.{Char, Beyond, Skip, Close}
use Rattle.lexer.proofs.Bases.{digits_bounds}
use Rattle.chunks.specs.Shift.{shift_fault}
use Rattle.chunks.proofs.Kept.{Near, Shows, Hidden, Kept, by_tests, by_look, both_refuse}
use Rattle.chunks.proofs.Runs.{shift_digits, DigitsKept, digits-kept}

unfoldable pub shift_item : ℕ → QuotedItem → QuotedItem
shift_item d (Ok (Char b e)) = Ok (Char b (d + e))
shift_item d (Ok (Beyond e)) = Ok (Beyond (d + e))
shift_item d (Ok (Skip e)) = Ok (Skip (d + e))
shift_item d (Ok (Close e)) = Ok (Close (d + e))
shift_item d (Err v) = Err (shift_fault d v)

abbrev pub ItemFrom : ℕ → QuotedItem → Type 0
ItemFrom m (Ok (Char b e)) = m ≤ e
ItemFrom m (Ok (Beyond e)) = m ≤ e
ItemFrom m (Ok (Skip e)) = m ≤ e
ItemFrom m (Ok (Close e)) = m ≤ e
ItemFrom m (Err v) = Unit {0}

abbrev pub ItemUpto : ℕ → QuotedItem → Type 0
ItemUpto m (Ok (Char b e)) = e ≤ m
ItemUpto m (Ok (Beyond e)) = e ≤ m
ItemUpto m (Ok (Skip e)) = e ≤ m
ItemUpto m (Ok (Close e)) = e ≤ m
ItemUpto m (Err v) = Near m v

item_along : (d : ℕ) (v : Fault) → shift_item d (Err v) ≡ Err (shift_fault d v)
unfolding shift_item
item_along d v = refl

-- ---- an item ends where its rule starts, or behind
module _ (m : ℕ) where
  choice : (t : Bool) (a b : QuotedItem) → ItemFrom m a → ItemFrom m b → ItemFrom m (cond t a b)
  choice true a b p q = p
  choice false a b p q = q

  coded-from : (v e : ℕ) → m ≤ e → ItemFrom m (coded v e)
  unfolding coded
  coded-from v e h = choice (eqb v 0) _ _ h (choice (leb v 127) _ _ h h)

  closed-from : (token at : ℕ) (a : Digits) (l : Look) → m ≤ a.end → ItemFrom m (closed token at a l)
  unfolding closed
  closed-from token at a (Err v) h = tt
  closed-from token at a (Ok x) h = choice (eqb x backslash) _ _ (choice (eqb a.end at) _ _ tt (coded-from a.value (a.end + 1) (omega arith))) tt

  numeric_from : (base token : ℕ) (s : List ℕ) (at : ℕ) → m ≤ at → ItemFrom m (numeric_escape base token s at)
  numeric_from base token s at h =
      let b = (digits_bounds base 0 at (drop at s)).0 in
      closed-from token at (digits_at base 0 s at) (lookahead s (digits_at base 0 s at).end) (omega arith)

  escape-from : (token : ℕ) (s : List ℕ) (at : ℕ) (l : Look) → m ≤ at → ItemFrom m (escape_to token s at l)
  unfolding escape_to
  escape-from token s at (Err v) h = tt
  escape-from token s at (Ok x) h =
      choice (eqb x newline) _ _ (omega arith)
      (choice (is_digit 8 x) _ _ (numeric_from 8 token s at h)
      (choice (eqb x small_x) _ _ (numeric_from 16 token s (at + 1) (omega arith))
      (choice (eqb (escape_of x) 0) _ _ tt (omega arith))))

  quote_from : (q at : ℕ) (l : Look) → m ≤ at → ItemFrom m (quote_to q at l)
  unfolding quote_to
  quote_from q at (Err v) h = tt
  quote_from q at (Ok x) h = choice (eqb x q) _ _ (omega arith) h

  pub item_from : (q token : ℕ) (s : List ℕ) (at : ℕ) (l : Look) → m ≤ at → ItemFrom m (item_to q token s at l)
  unfolding item_to
  item_from q token s at (Err v) h = tt
  item_from q token s at (Ok x) h =
      choice (among x unquotable) _ _ tt
      (choice (eqb x q) _ _ (quote_from q (at + 1) (lookahead s (at + 1)) (omega arith))
      (choice (eqb x backslash) _ _ (escape-from token s (at + 1) (lookahead s (at + 1)) (omega arith)) (omega arith)))

-- a test of two places, further on
pub eqb-along : (d a b : ℕ) → eqb (d + a) (d + b) ≡ eqb a b
eqb-along d a b = go (eqb a b) refl
  where
    go : (t : Bool) → eqb a b ≡ t → eqb (d + a) (d + b) ≡ eqb a b
    go true g = let h = eqb-true a b g in eq-eqb (d + a) (d + b) (omega arith) ∙ sym g
    go false g = let h = eqb-false a b g in ne_eqb (d + a) (d + b) (λ k. h (omega arith)) ∙ sym g

-- ---- an item in the window and in the text
module _ (n d : ℕ) (w s : List ℕ) (h : Shows n d w s) where
  abbrev pub ItemKept : QuotedItem → QuotedItem → Type 0
  ItemKept a b = Kept Err (shift_item d) (ItemFrom (d + n)) (ItemUpto n) n (Hidden n d w s Err) a b

  tests : (t : Bool) (a b a' b' : QuotedItem) → (t ≡ true → ItemKept a a') → (t ≡ false → ItemKept b b') → ItemKept (cond t a b) (cond t a' b')
  tests = by_tests Err (shift_item d) (ItemFrom (d + n)) (ItemUpto n) n (Hidden n d w s Err)

  looks : (i j : ℕ) → j ≡ d + i → i ≤ n → (F G : Look → QuotedItem) → ((v : Fault) → F (Err v) ≡ Err v) → ((v : Fault) → G (Err v) ≡ Err v)
      → (i ≡ n → ItemFrom (d + n) (G (lookahead s j)))
      → ((x : ℕ) → i < n → peek w i ≡ Byte x → peek s j ≡ Byte x → ItemKept (F (Ok x)) (G (Ok x)))
      → ItemKept (F (lookahead w i)) (G (lookahead s j))
  looks = by_look n d w s h Err (shift_item d) (ItemFrom (d + n)) (ItemUpto n) (item_along d) (λ v near. near)

  bad : (i j : ℕ) → j ≡ d + i → ItemKept (Err (fault BadQuoted i)) (Err (fault BadQuoted j))
  bad i j e = both_refuse n d w s h Err (shift_item d) (ItemFrom (d + n)) (ItemUpto n) (item_along d) (λ v near. near) BadQuoted i j e (λ k. let y : ◌≡◌ {A = ℕ} 0 1 = cc in absurd (omega arith))

  coded_kept : (v e f : ℕ) → f ≡ d + e → e ≤ n → ItemKept (coded v e) (coded v f)
  unfolding coded shift_item
  coded_kept v e f g l =
      tests (eqb v 0) _ _ _ _ (λ _. inr (ap (λ (m : ℕ). Ok (Beyond m)) g, l)) (λ _. tests (leb v 127) _ _ _ _ (λ _. inr (ap (λ (m : ℕ). Ok (Char v m)) g, l)) (λ _. inr (ap (λ (m : ℕ). Ok (Beyond m)) g, l)))

  -- the token starts at t in the window, at u in the text
  module _ (t u : ℕ) (there : u ≡ d + t) where
    closed-kept : (i j : ℕ) → j ≡ d + i → (a b : Digits) → DigitsKept n d w s h a b → ItemKept (closed t i a (lookahead w a.end)) (closed u j b (lookahead s b.end))
    unfolding closed needed
    closed-kept i j e a b (inl p) =
        inl (
          ap (λ (k : ℕ). closed t i a (lookahead w k)) p.0 ∙ ap (λ (r : Peek). closed t i a (needed n r)) p.1.0,
          closed-from (d + n) u j b (lookahead s b.end) p.1.1,
          (p.2.0, λ r k. let e = p.2.1 r k in ap (λ (o : Peek). closed u j b (needed b.end o)) e.1 ∙ ap (λ (m : ℕ). Err (fault ForeignByte m)) e.0),
        )
    closed-kept i j e a b (inr p) =
        subst (λ (x : Digits). ItemKept (closed t i a (lookahead w a.end)) (closed u j x (lookahead s x.end))) (sym p.0)
        (looks a.end (d + a.end) refl p.1 (closed t i a) (closed u j (shift_digits d a)) (λ v. refl) (λ v. refl)
        (λ q. closed-from (d + n) u j (shift_digits d a) (lookahead s (d + a.end)) (omega arith))
        (λ x l f g. tests (eqb x backslash) _ _ _ _
        (λ _. rw (ap (eqb (d + a.end)) e ∙ eqb-along d a.end i) (tests (eqb a.end i) _ _ _ _ (λ _. bad t u there) (λ _. coded_kept a.value (a.end + 1) (d + a.end + 1) (omega arith) (omega arith))))
        (λ _. bad t u there)))

    numeric_kept : (base i j : ℕ) → base ≤ 16 → j ≡ d + i → i ≤ n → ItemKept (numeric_escape base t w i) (numeric_escape base u s j)
    numeric_kept base i j few e l = closed-kept i j e _ _ (digits-kept n d w s h base few (n - i) i j 0 (omega arith) e)

    escape-kept : (i j : ℕ) → j ≡ d + i → i ≤ n → ItemKept (escape t w i) (escape u s j)
    unfolding escape_to shift_item
    escape-kept i j e l =
        looks i j e l (escape_to t w i) (escape_to u s j) (λ v. refl) (λ v. refl) (λ q. escape-from (d + n) u s j (lookahead s j) (omega arith))
        (λ x k f g. tests (eqb x newline) _ _ _ _ (λ _. inr (ap (λ (m : ℕ). Ok (Skip m)) (omega arith), omega arith))
        (λ _. tests (is_digit 8 x) _ _ _ _ (λ _. numeric_kept 8 i j (omega arith) e l)
        (λ _. tests (eqb x small_x) _ _ _ _ (λ _. numeric_kept 16 (i + 1) (j + 1) (omega arith) (omega arith) (omega arith))
        (λ _. tests (eqb (escape_of x) 0) _ _ _ _ (λ _. bad t u there) (λ _. inr (ap (λ (m : ℕ). Ok (Char (escape_of x) m)) (omega arith), omega arith))))))

    module _ (q : ℕ) where
      quote_kept : (i j : ℕ) → j ≡ d + i → i ≤ n → ItemKept (quote_to q i (lookahead w i)) (quote_to q j (lookahead s j))
      unfolding quote_to shift_item
      quote_kept i j e l =
          looks i j e l (quote_to q i) (quote_to q j) (λ v. refl) (λ v. refl) (λ p. quote_from (d + n) q j (lookahead s j) (omega arith))
          (λ x k f g. tests (eqb x q) _ _ _ _ (λ _. inr (ap (λ (m : ℕ). Ok (Char q m)) (omega arith), omega arith)) (λ _. inr (ap (λ (m : ℕ). Ok (Close m)) e, l)))

      pub item_kept : (i j : ℕ) → j ≡ d + i → i ≤ n → ItemKept (quoted_item q t w i) (quoted_item q u s j)
      unfolding item_to shift_item
      item_kept i j e l =
          looks i j e l (item_to q t w i) (item_to q u s j) (λ v. refl) (λ v. refl) (λ p. item_from (d + n) q u s j (lookahead s j) (omega arith))
          (λ x k f g. tests (among x unquotable) _ _ _ _ (λ _. bad t u there)
          (λ _. tests (eqb x q) _ _ _ _ (λ _. quote_kept (i + 1) (j + 1) (omega arith) (omega arith))
          (λ _. tests (eqb x backslash) _ _ _ _ (λ _. escape-kept (i + 1) (j + 1) (omega arith) (omega arith)) (λ _. inr (ap (λ (m : ℕ). Ok (Char x m)) (omega arith), omega arith)))))
