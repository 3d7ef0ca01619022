-- What a `?` hands on. Assumes nothing.
use Rattle.std.proofs.Common.{◌≡◌, ◌∙◌, ap, Result, Err, IsErrAnd}
use Rattle.std.proofs.lemmas.Result.{err_from_is_err_and}

-- an error that a `?` hands on as it is
pub handed_on : {T E : Type 0} {r z : Result T E} {w : E} → IsErrAnd r (λ x. x ≡ w) → Err w ≡ z → r ≡ z
handed_on h e = let p = err_from_is_err_and _ h in p.1 ∙ ap Err p.2 ∙ e
