use Rattle.std.proofs.Common.{◌+◌, ◌∙◌, ◌<◌, length, take, sym, ap, arith}
use Rattle.std.proofs.lemmas.List.Sums.{sum_by_more}
use Rattle.fb_graph.specs.Certificate.{total_value}
use Rattle.fb_graph.specs.CutLists.{no_cut}
use Rattle.fb_graph.specs.declared.parts.Cut.{Cut}
use Rattle.fb_resolve.proofs.rows.total_of.Goals as goal

pub loop-place-preserved : goal.loop-place-preserved
loop-place-preserved c =
    let place = c.loop-place.place in
    let cuts = c.args.cuts.now in
    let less : place < length cuts = omega arith in
    ap (λ t. t + c.value-total.result) c.loop-place.invariant
    ∙ (ap (λ v. total_value (take place cuts) + v) c.value-total.ensures
    ∙ sym (sum_by_more (λ (cut : Cut). cut.value) cuts place no_cut less))
