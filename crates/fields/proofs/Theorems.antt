-- What holds of this crate: an answer permits one number that is returned and one content of the fields. Assumes nothing.
use Prim.Native.Nat.{ℕ}
use mathlib.Core.Path.{◌≡◌, sym, ◌∙◌, ap}
use mathlib.Core.List.{List}
use Rattle.fields.specs.Fields.{Outcome, leaves, answer_leaves, layout_leaves, Left}
use Rattle.lexer.specs.Token.{Answer}
use Rattle.lexer.specs.LayoutCall.{LayoutAnswer}

-- one number and one content of the fields
pub same : (r r' : ℕ) (g g' : List ℕ) → leaves r g ≡ leaves r' g' → (r ≡ r') × (g ≡ g')
same r r' g g' e = (cc, cc)

module _ (r r' : ℕ) (g g' : List ℕ) where
  pub answer_coincides : (a : Answer) (f : List ℕ) → leaves r g ≡ answer_leaves a f → leaves r' g' ≡ answer_leaves a f → (r ≡ r') × (g ≡ g')
  answer_coincides a f p q = same r r' g g' (p ∙ sym q)

  pub layout_coincides : (a : LayoutAnswer) (f : List ℕ) → leaves r g ≡ layout_leaves a f → leaves r' g' ≡ layout_leaves a f → (r ≡ r') × (g ≡ g')
  layout_coincides a f p q = same r r' g g' (p ∙ sym q)

-- and one content of a lent slice, where the call's answers and what it leaves coincide
module _ {A : Type 0} (Permits : A → List ℕ → Type 0) (tells : A → List ℕ → Outcome) (x x' f g g' : List ℕ) (r r' : ℕ) where
  pub left_coincides : (p : Left Permits tells x f g r) (q : Left Permits tells x' f g' r') → (p.answer ≡ q.answer) × (x ≡ x') → (r ≡ r') × (x ≡ x') × (g ≡ g')
  left_coincides p q e =
      let k = same r r' g g' (p.told ∙ ap (λ a. tells a f) e.0 ∙ sym q.told) in
      (k.0, e.1, k.1)

-- for the crates above: an answer is told as what it is
pub told_as : {A : Type 0} (tells : A → List ℕ → Outcome) (f : List ℕ) (o : Outcome) (a b : A) → a ≡ b → o ≡ tells b f → o ≡ tells a f
told_as tells f o a b h e = cc
