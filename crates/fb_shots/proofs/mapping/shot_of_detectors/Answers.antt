use Rattle.std.proofs.Common.{ℕ, List, sym, subst}
use Rattle.fb_graph.specs.Limits.{IsShot, plain_shot}
use Rattle.fb_shots.proofs.Detectors.{vertices_are_shot}
use Rattle.fb_shots.proofs.mapping.shot_of_detectors.Goals as goal

pub from_rising-requires : goal.from_rising-requires
from_rising-requires c =
    let g = c.args.graph.now in
    subst (λ (vertices : List ℕ). IsShot g (plain_shot vertices)) (sym c.vertices_of.ensures) (vertices_are_shot g c.args.detectors.items c.requires.rising c.requires.below)
