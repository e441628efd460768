use Rattle.std.proofs.Common.{◌≡◌, ◌∙◌, ap, sym, subst, arith, rules}
use Rattle.std.specs.List.Sorted.{IsStrictlyIncreasing}
use Rattle.fb_graph.specs.Parity.{is_odd_count}
use mir.Syntax.{w128, w64}
use mir.Val.{SFits, of_z, to_z}
use Rattle.std.proofs.lemmas.Int.{ints}
use Rattle.fb_graph.specs.Limits.{IsGraph}
use Rattle.fb_blossoms.specs.Nodes.{IsNested}
use Rattle.fb_resolve.proofs.Halves.{cuts_differ, cuts_fit, ids_live, ids_read, names_cover, right_row, rings_live}
use Rattle.fb_resolve.proofs.rows.resolve.Goals as goal

pub opened-requires-clause-names : goal.opened-requires-clause-names
opened-requires-clause-names c =
    names_cover c.args.half.now c.blossoms-2.result.now c.regions.result.now.nodes c.in_ok-names.names.items c.deref.result.now c.keeps.ensures.part
    c.blossoms-2.ensures c.regions.ensures.nodes c.in_ok-names.ensures c.deref.ensures.value

pub opened-requires-clause-rings : goal.opened-requires-clause-rings
opened-requires-clause-rings c =
    rings_live c.args.half.now c.blossoms-2.result.now c.links.result.now c.keeps.ensures.part c.blossoms-2.ensures c.links.ensures

pub edges_of-requires : goal.edges_of-requires
edges_of-requires c =
    ids_live c.args.half.now c.links-2.result.now c.in_ok-ids.ids.items c.deref-2.result.now c.keeps.ensures.part c.links-2.ensures c.deref-2.ensures.value
    (ids_read c.args.half.now c.blossoms-2.result.now c.links.result.now c.regions.result.now.nodes c.matches.result.now c.deref.result.now c.in_ok-ids.ids.items
    record { store_is = c.blossoms-2.ensures; links_are = c.links.ensures; nodes_are = c.regions.ensures.nodes; matches_are = c.matches.ensures; names_are = c.deref.ensures.value ∙ c.in_ok-names.ensures; ids_are = c.in_ok-ids.ensures })

pub printed_cuts-requires : goal.printed_cuts-requires
printed_cuts-requires c =
    cuts_differ c.args.half.now c.regions-2.result.now.nodes c.in_ok-cuts.cuts c.keeps.ensures.part c.regions-2.ensures.nodes c.in_ok-cuts.ensures

pub total_of-total-requires : goal.total_of-total-requires
total_of-total-requires c =
    cuts_fit c.args.half.now c.regions-2.result.now.nodes c.in_ok-cuts.cuts c.keeps.ensures.part c.regions-2.ensures.nodes
    c.in_ok-cuts.ensures

pub returns : goal.returns
returns c =
    let fits : SFits w64 c.in_ok-edges.base = search rules in
    let same : c.from-base.result ≡ c.in_ok-edges.base = omega (arith, ints, fits, c.from-base.ensures) in
    let wide : to_z w128 (of_z w128 c.from-base.result) ≡ c.from-base.result = omega (arith, ints, fits, same) in
    right_row c.args.half.now c.regions-2.result.now.nodes c.links-2.result.now c.in_ok-ids.ids.items c.deref-2.result.now c.in_ok-walked.walked.items
    c.in_ok-edges.edges.items c.from_vec.result c.in_ok-cuts.cuts c.printed_cuts.result _ _ c.total_of-total.result
    (subst IsGraph (c.graph.ensures ∙ ap (λ j. j.graph) c.job.ensures) c.limits.ensures) c.keeps.ensures.part
    (subst IsNested c.blossoms.ensures c.keeps-2.ensures) c.requires c.keeps.ensures.matched c.regions-2.ensures.nodes c.links-2.ensures c.deref-2.ensures.value
    (ids_read c.args.half.now c.blossoms-2.result.now c.links.result.now c.regions.result.now.nodes c.matches.result.now c.deref.result.now c.in_ok-ids.ids.items
    record { store_is = c.blossoms-2.ensures; links_are = c.links.ensures; nodes_are = c.regions.ensures.nodes; matches_are = c.matches.ensures; names_are = c.deref.ensures.value ∙ c.in_ok-names.ensures; ids_are = c.in_ok-ids.ensures })
    c.in_ok-walked.ensures c.in_ok-cuts.ensures c.in_ok-edges.ensures.parity (subst IsStrictlyIncreasing (sym c.from_vec.ensures) c.in_ok-edges.ensures.rising) (λ test. ap (is_odd_count test) c.from_vec.ensures) c.printed_cuts.ensures.kept
    c.printed_cuts.ensures.rising (wide ∙ (same ∙ c.in_ok-edges.ensures.base)) c.total_of-total.ensures
    (omega (arith, ints, fits, same, c.from.ensures))
