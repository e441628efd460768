-- Where a walk ends, read at its last place.
use Rattle.std.proofs.Common.{ℕ, zero, suc, ◌+◌, ◌-◌, ◌≡◌, List, [], ◌∷◌, length, Some, arith, ap, sym}
use Rattle.std.specs.List.{slice_get}
use Rattle.std.proofs.lemmas.Option.{none-some, same_Some}
use Rattle.fb_links.specs.declared.walk.Step.{Step}
use Rattle.fb_links.specs.Walks.{end_from, end_of}

last_from : (w : List Step) (n at : ℕ) (s : Step) → length w ≡ n + 1 → slice_get w n ≡ Some s → s.to ≡ end_from at w
last_from [] n at s long last = absurd (omega arith)
last_from (x ∷ []) zero at s long last = ap (λ y. y.to) (sym (same_Some x s last))
last_from (x ∷ y ∷ ys) zero at s long last = absurd (omega arith)
last_from (x ∷ ss) (suc n) at s long last = last_from ss n x.to s (omega arith) last

pub last_end : (w : List Step) (s : Step) → slice_get w (length w - 1) ≡ Some s → s.to ≡ end_of w
last_end [] s last = absurd (none-some s last)
last_end (x ∷ ss) s last = last_from (x ∷ ss) (length (x ∷ ss) - 1) 0 s (omega arith) last
