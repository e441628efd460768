use Rattle.std.proofs.Common.{◌≡◌, map, take, flat_map}
use Rattle.fb_links.specs.Table.{walk_at}
use Rattle.fb_resolve.proofs.rows.edges_of.Given as goal

abbrev pub invariant-loop-id : goal.invariant-loop-id
invariant-loop-id l = l.edges.items ≡ flat_map (λ id. map (λ s. s.edge) (walk_at l.links id)) (take l.id-index l.ids)
