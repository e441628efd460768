use Rattle.std.proofs.Common.{◌∙◌, sym}
use Rattle.fb_obstacles.proofs.SingleEdges.{single_top}
use Rattle.fb_obstacles.proofs.singles.single_vertex.Goals as goal

pub returns : goal.returns
returns g c =
    single_top (g.S.Scope.problem c.args.regions.now.scope) c.args.regions.now.nodes c.args.node c.first_vertex.result
    c.keeps.ensures.nest c.requires (sym c.is_single.ensures ∙ c.if-not-is_single.false)
    c.first_vertex.ensures
