use Rattle.fb_graph.specs.Limits.{most_vertices}
use Rattle.std.proofs.Common.{◌≡◌, ◌*◌, ◌-◌, ◌^◌, ◌≤◌, length}
use Rattle.fb_gen.specs.Drawing.{state_after}
use Rattle.fb_run.specs.InternalSums.{IsLow}
use Rattle.fb_run.specs.Samples.{HaveSums}
use Rattle.fb_run.proofs.sampling.sample_with.Given as goal

abbrev pub invariant-loop-drawn : goal.invariant-loop-drawn
invariant-loop-drawn g l = record {
  sums : HaveSums l.graph l.request.rate l.request.start l.drawn l.sums.defects l.sums.weight;
  state : l.draws ≡ state_after l.request.start (l.drawn * length l.graph.edges);
  crew : l.crew ≡ l.initial.crew;
  drawn : l.drawn ≤ l.request.shots;
  defects : l.sums.defects ≤ most_vertices * l.drawn;
  weight : IsLow (2 ^ 64 * l.drawn) l.sums.weight;
}

abbrev pub decreases-loop-drawn : goal.decreases-loop-drawn
decreases-loop-drawn g l = l.request.shots - l.drawn
