-- A value beside the result of the step that changed it (`and`, `both`): what holds of it if the step is done.
use Rattle.std.proofs.Common.{◌≡◌, subst}
use Rattle.std.specs.Prelude.{Result, Ok, Err, IfOk, OnOk}
use Rattle.std.specs.Result.{result_and}

pub done_with : {T U E : Type 0} (P : U → Type 0) (done : Result T E) (given value : U)
    → Ok value ≡ result_and done (Ok given) → OnOk done (P given) → P value
done_with P (Ok x) given value same has = let h : given ≡ value = cc in subst P h has
done_with P (Err e) given value same has = absurd (let h : ⊥ = cc in h)

pub both_with : {T U E : Type 0} (P : U → Type 0) (done : Result T E) (made : T) (given value : U) → done ≡ Ok made → given ≡ value
    → OnOk done (P given) → P value
both_with P done made given value is same has = subst P same (subst (λ r. OnOk r (P given)) is has)

pub made_holds : {T E : Type 0} (P : T → Type 0) (done : Result T E) (made : T) → done ≡ Ok made → IfOk done P → P made
made_holds P done made is has = subst (λ r. IfOk r P) is has

-- what holds if a step is done follows from another such fact
pub on_ok : {T E A B : Type 0} (r : Result T E) → (A → B) → OnOk r A → OnOk r B
on_ok (Ok x) follows a = follows a
on_ok (Err e) follows a = tt

pub always_ok : {T E A : Type 0} (r : Result T E) → A → OnOk r A
always_ok (Ok x) a = a
always_ok (Err e) a = tt

-- so does one of its value
pub each_ok : {T E : Type 0} {P Q : T → Type 0} (r : Result T E) → ((x : T) → P x → Q x) → IfOk r P → IfOk r Q
each_ok (Ok x) follows a = follows x a
each_ok (Err e) follows a = tt
