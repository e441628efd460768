use Rattle.std.proofs.Common.{◌++◌, length, get_or, sym, ap, subst, ◌∙◌}
use Rattle.fb_graph.specs.Adjacency.{edges_at}
use Rattle.fb_verify.specs.InternalLoads.{IsCrossing, shares_of}
use Rattle.fb_verify.proofs.Sharing.{crossing_one, one_number}
use Rattle.fb_verify.proofs.loads.add_cut.Goals as goal

pub returns-in-len1 : goal.returns-in-len1
returns-in-len1 c =
    let edges = c.args.graph.now.edges in
    let vertices = c.args.vertices.now in
    let crossing = edges_at edges (length edges) (get_or vertices 0 0) in (
      crossing,
      subst (λ vs. IsCrossing edges vs crossing) (sym (one_number vertices c.in-len1.len_at_least c.in-len1.len_below)) (crossing_one edges (get_or vertices 0 0)),
      c.in_ok-add_shares.ensures ∙ ap (λ ks. c.args.shares.now.items ++ shares_of c.args.value ks) c.edges_at.ensures,
    )
