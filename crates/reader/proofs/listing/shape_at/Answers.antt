-- `reader::listing::shape_at` meets its contract. Assumes nothing.
use Rattle.std.proofs.Common.{rules, arith, ◌≡◌, ◌∙◌, ap, sym, ◌<◌, ◌/◌, ℕ, Result, Ok, Err}
use Rattle.std.proofs.lemmas.Result.{MatchResult-at_ok, MatchResult-at_err}
use borrow.Author.Tests.{ne_eqb}
use Rattle.reader.specs.Tree.{kind_number}
use Rattle.reader.specs.Kinds.{kind_as, number_of, KindOf}
use Rattle.reader.specs.Listing.{kind_of, shape_of, shape_at}
use Rattle.reader.specs.declared.kinds.NodeKind.{NodeKind}
use Rattle.reader.specs.declared.kinds.UnknownKind.{UnknownKind}
use Rattle.reader.specs.declared.listing.Shape.{Shape}
use Rattle.reader.specs.declared.listing.Shape.TheVariants as Shapes
use Rattle.reader.proofs.Terms.{kind_of-number}
use Rattle.reader.proofs.listing.shape_at.Goals as goal

beyond : (n : ℕ) → 9 < n → Shapes.Curly ≡ shape_of (kind_of n)
unfolding shape_of kind_of kind_number
beyond n h =
    cc (
      ne_eqb n 0 (λ e. omega arith),
      ne_eqb n 1 (λ e. omega arith),
      ne_eqb n 2 (λ e. omega arith),
      ne_eqb n 3 (λ e. omega arith),
      ne_eqb n 4 (λ e. omega arith),
      ne_eqb n 5 (λ e. omega arith),
      ne_eqb n 6 (λ e. omega arith),
      ne_eqb n 7 (λ e. omega arith),
      ne_eqb n 8 (λ e. omega arith),
    )

module _ (p n : ℕ) (r : Result NodeKind UnknownKind) (m : n ≡ p / 1024) (given : KindOf n r) where
  known : (z : Shape) (k : NodeKind) → r ≡ Ok k → z ≡ shape_of (kind_as k) → z ≡ shape_at p
  known z k e f =
      let g : number_of k ≡ n = MatchResult-at_ok (λ v. number_of v ≡ n) (λ u. 9 < n) k e given in
      f ∙ ap shape_of (sym (kind_of-number (kind_as k)) ∙ ap kind_of (g ∙ m))

  unknown : (w : UnknownKind) → r ≡ Err w → Shapes.Curly ≡ shape_at p
  unknown w e = beyond n (MatchResult-at_err (λ v. number_of v ≡ n) (λ u. 9 < n) w e given) ∙ ap (λ i. shape_of (kind_of i)) m

ruleset ways = (known, unknown, rules)

pub returns-in-Ok : goal.returns-in-Ok
returns-in-Ok c = search ways

pub returns-in-Err : goal.returns-in-Err
returns-in-Err c = search ways
