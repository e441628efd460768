use Rattle.std.proofs.Common.{ℕ, ◌∙◌, ◌++◌, [], List, flat_map, get_or, map, take, sym, ap}
use Rattle.std.proofs.lemmas.List.{flat_map_more, take_more}
use Rattle.fb_links.specs.Table.{walk_at}
use Rattle.fb_resolve.proofs.rows.edges_of.Goals as goal

pub loop-id-preserved : goal.loop-id-preserved
loop-id-preserved c =
    let edges : ℕ → List ℕ = λ id. map (λ s. s.edge) (walk_at c.args.links.now id) in
    let id : ℕ = get_or c.args.ids.now c.loop-id.id-index 0 in
    c.in_ok-push_walk.ensures
    ∙ (ap (λ l. l ++ edges id) c.loop-id.invariant
    ∙ (flat_map_more edges [] (take c.loop-id.id-index c.args.ids.now) id
    ∙ ap (flat_map edges) (sym (take_more c.args.ids.now c.loop-id.id-index 0 c.loop-id-test.true))))
