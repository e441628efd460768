use Rattle.std.proofs.Common.{◌∙◌, ap}
use Rattle.fb_search.proofs.NearGrowth.{node_grown, node_may}
use Rattle.fb_search.proofs.near_ends.grow_node.Goals as goal

pub grow-requires : goal.grow-requires
grow-requires g c =
    let may =
    node_may (g.S.Scope.problem c.args.regions.now.scope) c.args.node c.args.length c.args.regions.now.nodes c.requires.tree
    c.requires.may in
    record { live = may.0; outer = may.1; leaves = may.2; room = may.3 }

pub returns : goal.returns
returns g c =
    c.grow.ensures
    ∙ ap (λ nodes. record c.args.regions.now { nodes = nodes })
    (node_grown (g.S.Scope.problem c.args.regions.now.scope) c.args.node c.args.length c.args.regions.now.nodes c.requires.tree
    c.requires.may)
