use Rattle.std.proofs.Common.{◌≡◌, ◌*◌, length, All}
use Rattle.fb_gen.specs.Drawing.{state_after}
use Rattle.fb_graph.specs.Limits.{IsShot}
use Rattle.fb_run.specs.Samples.{drawn_shots}
use Rattle.fb_run.proofs.sampling.draw_window.Given as goal

abbrev pub invariant-loop : goal.invariant-loop
invariant-loop l = record {
  shots : l.shots.items ≡ drawn_shots l.graph l.rate l.initial.draws l.counter;
  each : All (IsShot l.graph) l.shots.items;
  many : length l.shots.items ≡ l.counter;
  state : l.draws ≡ state_after l.initial.draws (l.counter * length l.graph.edges);
}
