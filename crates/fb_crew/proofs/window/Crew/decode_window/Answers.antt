use Rattle.std.proofs.Common.{All, ap, subst, sym}
use Rattle.fb_graph.specs.Limits.{DecodingGraph, IsShot}
use Rattle.fb_crew.specs.Crews.{CrewValue}
use Rattle.fb_crew.proofs.window.Crew.decode_window.Goals as goal

pub solve_window-requires-clause-shots : goal.solve_window-requires-clause-shots
solve_window-requires-clause-shots g c κs within =
    subst (λ (graph : DecodingGraph). All (IsShot graph) c.args.shots.now) (sym (ap (λ (v : CrewValue). v.graph) c.self.view_is)) c.requires.shots
