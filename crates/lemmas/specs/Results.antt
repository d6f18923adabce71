-- What an error says that is passed on.
use Rattle.std.proofs.Common.{◌≡◌, ap}
use Rattle.std.specs.Prelude.{Ok, Err, IfErr}
use Rattle.std.specs.Result.{IsErrAnd}
use Rattle.std.specs.declared.result.Result.{Result}

-- what follows of it
pub through : {T E : Type 0} {P Q : E → Type 0} (result : Result T E) → IsErrAnd result P
    → ((error : E) → P error → Q error) → IfErr result Q
through (Ok done) says to = absurd says
through (Err error) says to = to error says

-- which one it is
pub passed_on : {T E : Type 0} (result : Result T E) (error : E) → IsErrAnd result (λ told. told ≡ error)
    → result ≡ Err error
passed_on (Ok done) error is = absurd is
passed_on {T} {E} (Err told) error is = ap (λ (e : E). Err e) is
