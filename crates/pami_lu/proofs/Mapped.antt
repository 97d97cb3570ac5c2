-- What an answer was before `map_err` made another fault of its fault.
use Rattle.std.proofs.Common.{◌≡◌, refl, Result, Ok, Err, MatchResult, IsErrAnd}

pub ok_before : {A E F : Type 0} (r : Result A E) (x : A) (P : E → F → Type 0) → MatchResult r (λ (y : A). ◌≡◌ {A = Result A F} (Ok x) (Ok y)) (λ e. IsErrAnd {T = A} (Ok x) (P e)) → r ≡ Ok x
ok_before (Ok y) x P h = cc
ok_before (Err e) x P h = absurd h

pub err_before : {A E F : Type 0} (r : Result A E) (d : F) (P : E → F → Type 0) → MatchResult r (λ (y : A). ◌≡◌ {A = Result A F} (Err d) (Ok y)) (λ e. IsErrAnd {T = A} (Err d) (P e)) → (e : E) × (r ≡ Err e) × P e d
err_before (Ok y) d P h = absurd (cc)
err_before (Err e) d P h = (e, refl, h)
