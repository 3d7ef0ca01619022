-- What the machine's answer tells of a clause. Assumes nothing.
use Prim.Native.Nat.{ℕ, ◌+◌, ◌*◌, ◌≤◌}
use mathlib.Core.Path.{◌≡◌, refl, ap, sym, ◌∙◌, subst}
use mathlib.Core.Logic.{◌⊎◌, inl, inr}
use mathlib.Core.Option.{Option, none, some}
use mathlib.Core.List.{List, [], ◌∷◌}
use native.Mathlib.Omega.{arith}
use lib.ListN.{length, length-append}
use Rattle.reader.specs.Token.{Tok}
use Rattle.reader.specs.Ops.{Table}
use Rattle.reader.specs.Tree.{Tree, packed, numbers}
use Rattle.reader.specs.Grammar.{Clause}
use Rattle.reader.specs.Machine.{nd, Out, State, want, pend, begun, have, dead, done, run, start, laid, answer}
use Rattle.reader.proofs.Basics.{Fair, push}
use Rattle.reader.proofs.Complete.{complete}
use Rattle.reader.proofs.Sound.{sound}
use Rattle.reader.proofs.Size.{nodes_fit}
use Rattle.reader.proofs.Unique.{wide, push_injective, laid_tree}

some-done : (s : State) (ns : List ℕ) → answer s ≡ some ns → (out : Out) × (s ≡ done out) × (laid out ≡ ns)
unfolding answer
some-done (want fs out) ns e = absurd (let z : ◌≡◌ {A = ℕ} 0 1 = cc in omega arith)
some-done (pend i k m r s fs out) ns e = absurd (let z : ◌≡◌ {A = ℕ} 0 1 = cc in omega arith)
some-done (begun h i fs out) ns e = absurd (let z : ◌≡◌ {A = ℕ} 0 1 = cc in omega arith)
some-done (have fs out) ns e = absurd (let z : ◌≡◌ {A = ℕ} 0 1 = cc in omega arith)
some-done dead ns e = absurd (let z : ◌≡◌ {A = ℕ} 0 1 = cc in omega arith)
some-done (done out) ns e = (out, refl, cc)

pub laid-length : (out : Out) → length (laid out) ≡ 2 * length out
unfolding laid
laid-length [] = refl
laid-length (nd i w ∷ out) = omega (arith, laid-length out, length-append (laid out) (i ∷ w ∷ []))

module _ (T : Table) (fair : Fair T) where
  pub answer_complete : {ts : List Tok} {t : Tree} → Clause T ts t → answer (run packed T start ts) ≡ some (numbers t)
  unfolding answer
  answer_complete {t} c = ap answer (complete packed T fair c) ∙ ap some (laid_tree t)

  pub answer-sound : (ts : List Tok) (ns : List ℕ) → answer (run packed T start ts) ≡ some ns → (t : Tree) × Clause T ts t × (numbers t ≡ ns)
  answer-sound ts ns e =
      let a = some-done (run packed T start ts) ns e in
      let r = sound packed T ts a.0 fair a.1 in
      (r.0, r.1, sym (laid_tree r.0) ∙ ap laid r.2 ∙ a.2)

  pub one_tree : {ts : List Tok} {t u : Tree} → Clause T ts t → Clause T ts u → t ≡ u
  one_tree {ts} {t} {u} c d =
      let p : run wide T start ts ≡ done (push wide t []) = complete wide T fair c in
      let q : run wide T start ts ≡ done (push wide u []) = complete wide T fair d in
      let r : push wide t [] ≡ push wide u [] = cc in
      push_injective t u r

  pub reads? : (ts : List Tok) → ((t : Tree) × Clause T ts t) ⊎ ((t : Tree) → Clause T ts t → ⊥)
  reads? ts = go (answer (run packed T start ts)) refl
    where
      go : (r : Option (List ℕ)) → answer (run packed T start ts) ≡ r → ((t : Tree) × Clause T ts t) ⊎ ((t : Tree) → Clause T ts t → ⊥)
      go none e = inr (λ t c. let p = answer_complete c in let z : ◌≡◌ {A = ℕ} 0 1 = cc in omega arith)
      go (some ns) e = let r = answer-sound ts ns e in inl (r.0, r.1)

  pub tree_small : {ts : List Tok} {t : Tree} → Clause T ts t → length (numbers t) + 2 ≤ 2 * length ts
  tree_small {ts} {t} c =
      let e = complete packed T fair c in
      let n : length (laid (push packed t [])) ≡ length (numbers t) = ap (λ (z : List ℕ). length z) (laid_tree t) in
      omega (arith, nodes_fit packed T ts (push packed t []) e, laid-length (push packed t []))

  -- a computed run decides a specimen
  pub accepts : (ts : List Tok) (t : Tree) → run wide T start ts ≡ done (push wide t []) → Clause T ts t
  accepts ts t e =
      let r = sound wide T ts (push wide t []) fair e in
      subst (λ (z : Tree). Clause T ts z) (push_injective r.0 t r.2) r.1

  pub refuses : (ts : List Tok) → run wide T start ts ≡ dead → (t : Tree) → Clause T ts t → ⊥
  refuses ts e t c = let p = complete wide T fair c in let z : ◌≡◌ {A = ℕ} 0 1 = cc in omega arith
