use Rattle.std.proofs.Common.{◌≡◌, ◌<◌, ap, length, refl, subst, sym}
use Rattle.std.proofs.lemmas.List.{get_or_read_under}
use Rattle.fb_graph.specs.Problem.{edge_at, no_edge}
use Rattle.fb_graph.proofs.graph.Graph.ends.Goals as goal

pub returns-clause-first : goal.returns-clause-first
returns-clause-first c =
    let edges = c.self.inside.edges.items in
    let within : c.args.e < length edges = subst (λ g. c.args.e < length g.edges) (sym c.self.view_is) c.requires in
    subst (λ g. c.index-edge.result.now.first ≡ (edge_at g.edges c.args.e).first) c.self.view_is
    (ap (λ edge. edge.first) (get_or_read_under edges c.args.e (length edges) c.index-edge.result.now no_edge c.index-edge.ensures within refl))

pub returns-clause-second : goal.returns-clause-second
returns-clause-second c =
    let edges = c.self.inside.edges.items in
    let within : c.args.e < length edges = subst (λ g. c.args.e < length g.edges) (sym c.self.view_is) c.requires in
    subst (λ g. c.index-edge.result.now.second ≡ (edge_at g.edges c.args.e).second) c.self.view_is
    (ap (λ edge. edge.second) (get_or_read_under edges c.args.e (length edges) c.index-edge.result.now no_edge c.index-edge.ensures within refl))
