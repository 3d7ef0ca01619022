-- Laws of a scan from item to item. Assumes nothing.
use mathlib.Core.Path.{◌≡◌, refl, sym, subst, ◌∙◌, ap}
use mathlib.Core.Logic.{⊎_elim}
use mathlib.Core.List.{List}
use Prim.Native.Nat.{ℕ, zero, suc, ◌+◌, ◌-◌, ◌<◌, ◌≤◌}
use native.Mathlib.Nat.{add-zero}
use native.Mathlib.Omega.{arith}
use lib.ListN.{length, drop}
use Rattle.lexer.specs.Items.{Turn, stop, on, after, items}
use Rattle.lexer.proofs.Looks.{inside_or_not}
use Rattle.lexer.proofs.Steps.{drop_at, drop_end}

module _ {R : Type 0} (turn : ℕ → Turn R) (none : ℕ → R) (s : List ℕ) where
  -- k bytes are passed over
  passed : (k at : ℕ) → at + k ≤ length s → items turn none k at (drop at s) ≡ items turn none 0 (at + k) (drop (at + k) s)
  unfolding items
  passed zero at h = rw add-zero
  passed (suc k) at h =
      let l : at < length s = omega arith in
      let m : at + 1 + k ≡ at + suc k = omega arith in
      rw (drop_at s at l) (passed k (at + 1) (omega arith) ∙ rw m)

  module _ (at : ℕ) where
    here : (t : Turn R) → at < length s → turn at ≡ t → items turn none 0 at (drop at s) ≡ after t (λ e. items turn none (e - (at + 1)) (at + 1) (drop (at + 1) s))
    unfolding items
    here t h e = rw (drop_at s at h, e)

    -- the scan stops: also where the text ends, if what stands there says the same
    pub items_stop : (r : R) → (length s ≤ at → turn at ≡ stop (none at)) → turn at ≡ stop r → items turn none 0 at (drop at s) ≡ r
    unfolding items after
    items_stop r n e = ⊎_elim (λ h. ended h) (λ h. here (stop r) h e) (inside_or_not s at)
      where
        ended : length s ≤ at → items turn none 0 at (drop at s) ≡ r
        ended h = let q = n h in cc (drop_end s at h)

    -- the scan goes on from a later offset
    pub items_on : (e : ℕ) (f : R → R) → turn at ≡ on e f → at < e → e ≤ length s → items turn none 0 at (drop at s) ≡ f (items turn none 0 e (drop e s))
    unfolding after
    items_on e f q h k =
        let m : at + 1 + (e - (at + 1)) ≡ e = omega arith in
        here (on e f) (omega arith) q ∙ ap f (passed (e - (at + 1)) (at + 1) (omega arith) ∙ rw m)

-- ---- what holds of a scan, by its turns
module _ {R : Type 0} (P : ℕ → R → Type 0) (n at : ℕ) where
  -- an item that ends at e, within n
  pub record Onward (e : ℕ) (f : R → R) : Type 0 where
    pub ahead : at < e
    pub inside : e ≤ n
    pub rest : (r : R) → P e r → P at (f r)

  abbrev pub Carries : Turn R → Type 0
  Carries (stop r) = P at r
  Carries (on e f) = Onward e f

module _ {R : Type 0} (turn : ℕ → Turn R) (none : ℕ → R) (s : List ℕ) (P : ℕ → R → Type 0)
    (past : (at : ℕ) → length s ≤ at → turn at ≡ stop (none at)) where
  turned : (at : ℕ) (t : Turn R) → turn at ≡ t → Carries P (length s) at t
      → ((e : ℕ) → at < e → e ≤ length s → P e (items turn none 0 e (drop e s))) → P at (items turn none 0 at (drop at s))
  turned at (stop r) e c next = subst (λ (x : R). P at x) (sym (items_stop turn none s at r (past at) e)) c
  turned at (on k f) e c next =
      subst (λ (x : R). P at x) (sym (items_on turn none s at k f e c.ahead c.inside))
      (c.rest (items turn none 0 k (drop k s)) (next k c.ahead c.inside))

  module _ (c : (at : ℕ) → Carries P (length s) at (turn at)) where
    reach : (n at : ℕ) → length s - at ≤ n → P at (items turn none 0 at (drop at s))
    reach zero at h = turned at (turn at) refl (c at) (λ e i j. absurd (omega arith))
    reach (suc n) at h = turned at (turn at) refl (c at) (λ e i j. reach n e (omega arith))

    -- P holds of what the scan comes to, wherever it starts
    pub items_hold : (at : ℕ) → P at (items turn none 0 at (drop at s))
    items_hold at = reach (length s - at) at (omega arith)
