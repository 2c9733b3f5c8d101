-- What a `?` hands on.
use Rattle.std.proofs.Common.{◌≡◌, ◌∙◌, Result, Err, IsErrAnd, ap}
use Rattle.std.proofs.lemmas.Result.{err_from_is_err_and}

pub err_is : {T E : Type 0} {fault : E} (r : Result T E) → IsErrAnd r (λ e. e ≡ fault) → r ≡ Err fault
err_is r ends = let told = err_from_is_err_and r ends in told.1 ∙ ap (λ e. Err e) told.2
