use Rattle.std.proofs.Common.{◌<◌, All, ◌∙◌, sym, ap, subst, not}
use Rattle.std.specs.List.{find}
use Rattle.fb_graph.specs.Parity.{is_in, is_odd_count}
use Rattle.fb_verify.proofs.Marked.{marks_below, odd-below, least_wrong}
use Rattle.fb_verify.proofs.parities.wrong_parity.Goals as goal

pub first_real-requires : goal.first_real-requires
first_real-requires c =
    let below = marks_below c.args.graph.now c.args.shot.now c.args.edges.now c.limits.ensures c.requires.shot c.requires.within in
    subst (All (λ v. v < c.args.graph.now.vertices)) (sym c.as_slice.ensures)
    (odd-below c.odd_ones-odd.result _ c.args.graph.now.vertices c.odd_ones-odd.ensures.inside
    (subst (All (λ v. v < c.args.graph.now.vertices)) (sym c.in_ok-marks.ensures) below))

pub returns : goal.returns
returns c =
    let below = marks_below c.args.graph.now c.args.shot.now c.args.edges.now c.limits.ensures c.requires.shot c.requires.within in
    let low : All (λ v. v < c.args.graph.now.vertices) c.odd_ones-odd.result =
    odd-below c.odd_ones-odd.result _ c.args.graph.now.vertices c.odd_ones-odd.ensures.inside
    (subst (All (λ v. v < c.args.graph.now.vertices)) (sym c.in_ok-marks.ensures) below) in
    c.first_real.ensures
    ∙ (ap (find (λ v. not (is_in c.args.graph.now.virtuals v))) c.as_slice.ensures
    ∙ least_wrong c.args.graph.now c.args.shot.now c.args.edges.now c.odd_ones-odd.result c.requires.shot
    c.odd_ones-odd.ensures.rising low
    (λ test. c.odd_ones-odd.ensures.parity test ∙ ap (is_odd_count test) c.in_ok-marks.ensures))
