use Rattle.std.proofs.Common.{◌<◌, ◌∙◌, Bool, get_or, length, map, ap, sym, subst, arith}
use Rattle.std.proofs.lemmas.List.{take_all}
use Rattle.fb_graph.specs.Parity.{is_in}
use Rattle.fb_graph.proofs.Sets.{is_in_at}
use Rattle.fb_half.specs.declared.matches.Match.{Match}
use Rattle.fb_half.specs.InternalSeams.{meets_seam}
use Rattle.fb_half.specs.InternalStandings.{no_match}
use Rattle.fb_half.proofs.SeamPlaces.{placed, placed_more}
use Rattle.fb_half.proofs.merging.freed_nodes.Goals as goal

pub loop-place-init : goal.loop-place-init
loop-place-init c = c.new-freed.ensures.items

pub bounds-matches-place : goal.bounds-matches-place
bounds-matches-place c =
    subst (λ l. get_or c.deref-place-items.result.now c.loop-place.place-index 0 < length l) (sym c.matches.ensures)
    (c.in_ok-places.ensures.meets (get_or c.deref-place-items.result.now c.loop-place.place-index 0)
    (ap (λ l. is_in l (get_or c.deref-place-items.result.now c.loop-place.place-index 0)) (sym c.deref-place-items.ensures.value)
    ∙ is_in_at c.deref-place-items.result.now c.loop-place.place-index 0 c.loop-place-test.true)).0

pub offset_bounds-matches-place : goal.offset_bounds-matches-place
offset_bounds-matches-place c =
    let less : get_or c.deref-place-items.result.now c.loop-place.place-index 0 < length c.matches.result.now =
    subst (λ l. get_or c.deref-place-items.result.now c.loop-place.place-index 0 < length l) (sym c.matches.ensures)
    (c.in_ok-places.ensures.meets (get_or c.deref-place-items.result.now c.loop-place.place-index 0)
    (ap (λ l. is_in l (get_or c.deref-place-items.result.now c.loop-place.place-index 0)) (sym c.deref-place-items.ensures.value)
    ∙ is_in_at c.deref-place-items.result.now c.loop-place.place-index 0 c.loop-place-test.true)).0 in
    record { fits = omega (arith, less, c.matches.type_inv.1) }

pub loop-place-preserved : goal.loop-place-preserved
loop-place-preserved c =
    placed_more c.args.matching.now.matches c.matches.result.now _ c.deref-place-items.result.now c.loop-place.freed.items c.push.new.self.items
    c.loop-place.place-index c.loop-place-test.true c.matches.ensures
    (subst (λ l. get_or c.deref-place-items.result.now c.loop-place.place-index 0 < length l) (sym c.matches.ensures)
    (c.in_ok-places.ensures.meets (get_or c.deref-place-items.result.now c.loop-place.place-index 0)
    (ap (λ l. is_in l (get_or c.deref-place-items.result.now c.loop-place.place-index 0)) (sym c.deref-place-items.ensures.value)
    ∙ is_in_at c.deref-place-items.result.now c.loop-place.place-index 0 c.loop-place-test.true)).0)
    c.loop-place.invariant c.in_ok-push.ensures.items

pub returns : goal.returns
returns c =
    let test : Match → Bool = meets_seam c.args.seam.now.plan.now c.args.seam.now.node c.args.links.now in
    c.loop-place.invariant
    ∙ (ap (map (λ i. (get_or c.args.matching.now.matches i no_match).first)) (take_all c.loop-place.place-index c.deref-place-items.result.now c.loop-place-test.false ∙ c.deref-place-items.ensures.value)
    ∙ placed (λ m. m.first) test c.args.matching.now.matches no_match c.in_ok-places.places.items c.in_ok-places.ensures.rising c.in_ok-places.ensures.meets c.in_ok-places.ensures.all)
