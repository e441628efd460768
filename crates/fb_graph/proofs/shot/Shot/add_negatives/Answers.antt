use Rattle.std.proofs.Common.{◌++◌, ap, ◌∙◌}
use Rattle.fb_graph.specs.Limits.{ShotValue, turned_edges}
use Rattle.fb_graph.proofs.SignTurns.{odd_with_turns}
use Rattle.fb_graph.proofs.shot.Shot.add_negatives.Goals as goal

pub returns : goal.returns
returns c =
    let turned = c.in_ok-turned.ensures
    ∙ ap (turned_edges c.args.graph.now) (c.as_slice.ensures.changes ∙ ap (λ (s : ShotValue). s.changes) c.self.view_is) in
    odd_with_turns c.args.graph.now c.args.self.now c.limits.ensures c.requires _ _ _
    (c.in_ok-extend_from_slice.ensures.items ∙ ap (λ ks. c.args.list.now.items ++ ks) c.negatives.ensures.edges)
    (c.in_ok-extend_from_slice-2.ensures.items ∙ ap (λ ks. c.extend_from_slice.new.self.items ++ ks) (c.as_slice-2.ensures ∙ turned))
