-- Cuts that have a value.
use Rattle.std.proofs.Common.{◌≡◌, cond, nat_lt, List, [], ◌∷◌, filter, refl, ap, ◌∙◌, arith}
use Rattle.std.proofs.lemmas.List.Sums.{sum_by-cons}
use Rattle.fb_graph.specs.Certificate.{total_value}
use Rattle.fb_graph.specs.Printed.{is_positive}
use Rattle.fb_graph.specs.declared.parts.Cut.{Cut}

-- cuts whose values sum up to 0 have none
pub positive-zero : (cuts : List Cut) → total_value cuts ≡ 0 → filter is_positive cuts ≡ []
positive-zero [] none = refl
positive-zero (c ∷ cs) none =
    let sum = sum_by-cons (λ d. d.value) c cs in
    let bare : c.value ≡ 0 = omega (arith, none, sum) in
    ap (λ n. cond (nat_lt 0 n) (c ∷ filter is_positive cs) (filter is_positive cs)) bare
    ∙ positive-zero cs (omega (arith, none, sum))
