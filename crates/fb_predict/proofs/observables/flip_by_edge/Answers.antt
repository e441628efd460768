use Rattle.std.proofs.Common.{ℕ, ◌<◌, false, [], List, All, get_or, ◌∙◌, sym, ap, subst}
use Rattle.std.proofs.lemmas.List.{get_or_past}
use Rattle.fb_graph.specs.Parity.{differ}
use Rattle.fb_graph.proofs.ParitySums.{differ-false}
use Rattle.fb_predict.specs.ObservableText.{most_observables}
use Rattle.fb_predict.specs.InternalHolders.{occurs_oddly}
use Rattle.fb_predict.proofs.observables.flip_by_edge.Goals as goal

pub flip_each-requires-clause-below : goal.flip_each-requires-clause-below
flip_each-requires-clause-below c =
    subst (All (λ (h : ℕ). h < most_observables)) (sym (c.as_slice.ensures ∙ c.in-Some.ensures.lookup.3.1 [])) (c.requires.numbers c.args.edge)

pub returns-in-Some-clause-each : goal.returns-in-Some-clause-each
returns-in-Some-clause-each c = λ i.
    c.flip_each.ensures.each i ∙ ap (λ (l : List ℕ). differ (get_or c.args.bits.now i false) (occurs_oddly l i)) (c.as_slice.ensures ∙ c.in-Some.ensures.lookup.3.1 [])

pub returns-in_default-clause-each : goal.returns-in_default-clause-each
returns-in_default-clause-each c = λ i.
    sym (differ-false (get_or c.args.bits.now i false))
    ∙ ap (λ (l : List ℕ). differ (get_or c.args.bits.now i false) (occurs_oddly l i)) (sym (get_or_past c.args.holders.now c.args.edge [] c.in_default.ensures.lookup.3))
