-- `pack::kinds::can_have` meets its contract. Assumes nothing.
use Rattle.std.proofs.Common.{rules, arith, ◌≡◌, ◌<◌, ℕ, Result, false}
use Rattle.std.proofs.lemmas.Result.{MatchResult-at_err}
use Rattle.std.specs.declared.result.Result.TheVariants.{Err}
use borrow.Author.Tests.{ne_eqb}
use Rattle.reader.specs.Tree.{kind_number}
use Rattle.reader.specs.Kinds.{number_of, KindOf}
use Rattle.pack.specs.Node.{can_have}
use Rattle.reader.specs.declared.kinds.NodeKind.{NodeKind}
use Rattle.reader.specs.declared.kinds.UnknownKind.{UnknownKind}
use Rattle.pack.proofs.kinds.can_have.Goals as goal

beyond : (n a : ℕ) → 9 < n → false ≡ can_have n a
unfolding can_have kind_number
beyond n a h =
    cc (
      ne_eqb n 0 (λ e. omega arith),
      ne_eqb n 1 (λ e. omega arith),
      ne_eqb n 2 (λ e. omega arith),
      ne_eqb n 3 (λ e. omega arith),
      ne_eqb n 4 (λ e. omega arith),
      ne_eqb n 5 (λ e. omega arith),
      ne_eqb n 6 (λ e. omega arith),
      ne_eqb n 7 (λ e. omega arith),
      ne_eqb n 8 (λ e. omega arith),
      ne_eqb n 9 (λ e. omega arith),
    )

unknown : (n a : ℕ) (r : Result NodeKind UnknownKind) (w : UnknownKind) → KindOf n r → r ≡ Err w → false ≡ can_have n a
unknown n a r w k e = beyond n a (MatchResult-at_err (λ v. number_of v ≡ n) (λ u. 9 < n) w e k)

ruleset ways = (unknown, rules)

pub returns-in-Err : goal.returns-in-Err
returns-in-Err c = search ways
