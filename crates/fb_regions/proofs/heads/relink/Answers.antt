use Rattle.std.proofs.Common.{◌+◌, drop, get_or, map, Some, None, sym, ap, ◌∙◌, subst}
use Rattle.std.specs.List.{All}
use Rattle.fb_graph.proofs.Among.{All_among}
use Rattle.fb_graph.specs.Certificate.{AreDistinct}
use Rattle.fb_regions.specs.InternalHeads.{IsInTime, link_under, relinked_all, relinked_region}
use Rattle.fb_regions.specs.InternalPlaces.{IsIndex}
use Rattle.fb_regions.proofs.HeadClimbs.{named_among}
use Rattle.fb_regions.proofs.Linking.{named_at, named_none}
use Rattle.fb_regions.proofs.Relinked.{relinked_distinct, relinked_in_time, relinked_index, relinked_next}
use Rattle.fb_regions.proofs.heads.relink.Goals as goal
use Rattle.fb_regions.proofs.heads.relink.Goals.{in-Some, in_default}

pub link_to-link-requires-clause-begun : goal.link_to-link-requires-clause-begun
link_to-link-requires-clause-begun c =
    let name = get_or c.args.names.now c.loop-name.name-index 0 in
    let there = named_at c.loop-name.regions name c.in-Some.place _ (sym (c.loop-name.invariant.1.entry name) ∙ (sym c.place_of.ensures ∙ c.in-Some.is)) c.index-regions-place.is in
    (All_among (IsInTime c.args.clock) c.loop-name.regions c.loop-name.invariant.3 _
    (named_among c.loop-name.regions name _ (there ∙ ap Some c.index-regions-place.is))).begun

pub link_to-link-requires-clause-fits : goal.link_to-link-requires-clause-fits
link_to-link-requires-clause-fits c =
    let name = get_or c.args.names.now c.loop-name.name-index 0 in
    let there = named_at c.loop-name.regions name c.in-Some.place _ (sym (c.loop-name.invariant.1.entry name) ∙ (sym c.place_of.ensures ∙ c.in-Some.is)) c.index-regions-place.is in
    (All_among (IsInTime c.args.clock) c.loop-name.regions c.loop-name.invariant.3 _
    (named_among c.loop-name.regions name _ (there ∙ ap Some c.index-regions-place.is))).fits

pub loop-name-preserved : goal.loop-name-preserved
loop-name-preserved c =
    let rs = c.loop-name.regions in
    let i = c.loop-name.name-index in
    let name = get_or c.args.names.now i 0 in
    let f = link_under c.args.clock c.args.joint in
    elim c.match-place_of.branch [
      | in-Some w ↦
          let r = get_or rs w.in-Some.place w.index-regions-place.result in
          let there =
          named_at rs name w.in-Some.place w.index-regions-place.result (sym (c.loop-name.invariant.1.entry name) ∙ (sym c.place_of.ensures ∙ w.in-Some.is)) w.index-regions-place.is
          ∙ ap Some w.index-regions-place.is in
          let is = w.regions-is ∙ (w.set_link.ensures ∙ ap (λ l. map (relinked_region r.head l) rs) w.link_to-link.ensures) in (
            ap (relinked_all f (drop (i + 1) c.args.names.now)) is
                ∙ (sym (relinked_next f c.args.names.now i rs (Some r) c.loop-name-test.true there) ∙ c.loop-name.invariant.0),
            subst (λ l. IsIndex l c.args.places.now) (sym is) (relinked_index c.args.places.now r.head (f r) rs c.loop-name.invariant.1),
            subst (λ l. AreDistinct (map (λ s. s.name) l)) (sym is) (relinked_distinct r.head (f r) rs c.loop-name.invariant.2),
            subst (All (IsInTime c.args.clock)) (sym is) (relinked_in_time c.args.clock r.head (f r) rs c.loop-name.invariant.3),
          )
      | in_default w ↦
          let out = named_none rs name (sym (c.loop-name.invariant.1.entry name) ∙ (sym c.place_of.ensures ∙ w.in_default.is)) in (
            ap (relinked_all f (drop (i + 1) c.args.names.now)) w.regions-is
                ∙ (sym (relinked_next f c.args.names.now i rs None c.loop-name-test.true out) ∙ c.loop-name.invariant.0),
            subst (λ l. IsIndex l c.args.places.now) (sym w.regions-is) c.loop-name.invariant.1,
            subst (λ l. AreDistinct (map (λ s. s.name) l)) (sym w.regions-is) c.loop-name.invariant.2,
            subst (All (IsInTime c.args.clock)) (sym w.regions-is) c.loop-name.invariant.3,
          )
    ]
