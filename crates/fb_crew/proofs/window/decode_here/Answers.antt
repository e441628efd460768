use Rattle.std.proofs.Common.{All, sym, subst}
use Rattle.fb_graph.specs.Limits.{DecodingGraph, IsShot}
use Rattle.fb_crew.specs.InternalWindows.{IsSorted}
use Rattle.fb_crew.proofs.Joined.{at_most_none, only_one, window_of}
use Rattle.fb_crew.proofs.Rooted.{even_of_even, even_of_few, even_of_shots}
use Rattle.fb_crew.proofs.window.decode_here.Goals as goal
use Rattle.fb_crew.proofs.window.decode_here.Goals.{In_ok-odd}

sorted_at : (c : In_ok-odd)
    → IsSorted c.args.graph.now c.args.shots.now c.in_ok-odd.field-0.odd.items c.in_ok-odd.field-0.even.items c.in_ok-odd.field-0.places.items
sorted_at c = subst (λ (graph : DecodingGraph). IsSorted graph c.args.shots.now c.in_ok-odd.field-0.odd.items c.in_ok-odd.field-0.even.items
    c.in_ok-odd.field-0.places.items) c.requires.parts c.in_ok-odd.ensures.sorted

pub sort_out-requires-clause-shots : goal.sort_out-requires-clause-shots
sort_out-requires-clause-shots c = subst (λ (graph : DecodingGraph). All (IsShot graph) c.args.shots.now) (sym c.requires.parts) c.requires.shots

pub new-job-requires-clause-count : goal.new-job-requires-clause-count
new-job-requires-clause-count c =
    even_of_few c.args.graph.now c.args.plan.now c.requires.plan c.args.shots.now _ _ _ (sorted_at c) c.requires.few

pub new-job-requires-clause-shots : goal.new-job-requires-clause-shots
new-job-requires-clause-shots c =
    even_of_shots c.args.graph.now c.args.plan.now c.requires.plan c.args.shots.now _ _ _ (sorted_at c) c.requires.shots

pub new-job-requires-clause-even : goal.new-job-requires-clause-even
new-job-requires-clause-even c = even_of_even c.args.graph.now c.args.plan.now c.requires.plan c.args.shots.now _ _ _ (sorted_at c)

pub returns-clause-rows : goal.returns-clause-rows
returns-clause-rows c =
    (window_of c.args.shots.now 0 c.new-job.result _ c.join_window.result c.new-job.ensures
    (c.join_window.ensures.made 0 (at_most_none c.in_ok-run.field-0.run.history c.in_ok-run.ensures.workers)
    (only_one _ c.in_ok-run.field-0.run.history c.in_ok-run.ensures.workers))).0

pub returns-clause-history : goal.returns-clause-history
returns-clause-history c =
    (window_of c.args.shots.now 0 c.new-job.result _ c.join_window.result c.new-job.ensures
    (c.join_window.ensures.made 0 (at_most_none c.in_ok-run.field-0.run.history c.in_ok-run.ensures.workers)
    (only_one _ c.in_ok-run.field-0.run.history c.in_ok-run.ensures.workers))).1
