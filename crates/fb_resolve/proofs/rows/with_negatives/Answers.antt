use Rattle.std.proofs.Common.{◌≡◌, ◌∙◌, ◌++◌, ◌<◌, length, get_or, ap, sym, subst}
use Rattle.fb_graph.specs.Limits.{no_shot}
use Rattle.fb_graph.specs.Parity.{differ, is_odd_count}
use Rattle.fb_graph.specs.ShotGraphs.{shot_graph}
use Rattle.fb_graph.proofs.ParitySums.{odd-append}
use Rattle.fb_half.specs.Parts.{graph_in, shot_of}
use Rattle.fb_half.proofs.BegunParts.{shot_read}
use Rattle.fb_resolve.proofs.rows.with_negatives.Goals as goal

pub returns-clause-parity : goal.returns-clause-parity
returns-clause-parity c =
    let graph_is : c.graph.result.now ≡ c.args.half.now.job.graph = c.graph.ensures ∙ ap (λ j. j.graph) c.job-job.ensures in
    let job = c.args.half.now.job in
    let within = subst (λ s. s < length job.shots) (sym c.slot-slot.ensures) c.keeps.ensures.part.slot in
    let shot_is : c.index-shots-slot.result ≡ shot_of c.args.half.now =
    shot_read job c.slot-slot.result c.shots.result.now c.index-shots-slot.result (c.shots.ensures ∙ ap (λ j. j.shots) c.job-job.ensures) within
    c.index-shots-slot.is
    ∙ ap (λ s. get_or job.shots s no_shot) c.slot-slot.ensures in
    λ test.
    c.in_ok-edges.ensures.parity test
    ∙ (odd-append test c.args.walked.items c.deref.result.now
    ∙ (ap (differ (is_odd_count test c.args.walked.items))
    (ap (is_odd_count test) c.deref.ensures.value
    ∙ (c.in_ok-add_negatives.ensures test
    ∙ (λ i. is_odd_count test (c.new-negatives.ensures.items i ++ (shot_graph (graph_is i) (shot_is i)).negatives))))
    ∙ sym (odd-append test c.args.walked.items (graph_in c.args.half.now).negatives)))
