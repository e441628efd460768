use Rattle.std.proofs.Common.{◌<◌, ◌∙◌, ◌++◌, ◌∷◌, [], length, map, take, sym, ap, arith}
use Rattle.std.proofs.lemmas.List.{map_more}
use Rattle.fb_graph.specs.Dual.{Node, no_node}
use Rattle.fb_resolve.proofs.rows.names_of.Goals as goal

pub loop-place-preserved : goal.loop-place-preserved
loop-place-preserved g c =
    let less : c.loop-place.place < length c.args.regions.now.nodes = omega arith in
    c.in_ok-push.ensures.items
    ∙ (ap (λ l. l ++ c.name_at.result ∷ []) c.loop-place.invariant
    ∙ (ap (λ name. map (λ (n : Node). n.name) (take c.loop-place.place c.args.regions.now.nodes) ++ name ∷ []) c.name_at.ensures
    ∙ sym (map_more (λ (n : Node). n.name) c.args.regions.now.nodes c.loop-place.place no_node less)))
