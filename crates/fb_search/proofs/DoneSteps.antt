-- A value beside the result of the step that changed it (`and`): what holds of it if the step is done.
use Rattle.std.proofs.Common.{◌≡◌, ap}
use Rattle.std.specs.Prelude.{Result, Ok, Err, IfOk, OnOk}
use Rattle.std.specs.Result.{result_and}
use Rattle.fb_half.proofs.DoneSteps.{done_with}

pub done_weaker : {T U E : Type 0} (P : U → Type 0) (done : Result T E) (given : U) (result : Result U E)
    → IfOk result (λ value. Ok value ≡ result_and done (Ok given)) → OnOk done (P given) → IfOk result P
done_weaker P done given (Ok value) is has = done_with P done given value is has
done_weaker P done given (Err e) is has = tt

pub done_same : {T U V E : Type 0} (f : U → V) (done : Result T E) (given value : U) → Ok value ≡ result_and done (Ok given)
    → Ok (f value) ≡ result_and done (Ok (f given))
done_same f (Ok x) given value same = let h : value ≡ given = cc in ap (λ v. Ok (f v)) h
done_same f (Err e) given value same = absurd (let h : ⊥ = cc in h)
