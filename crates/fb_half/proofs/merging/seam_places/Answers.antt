use Rattle.std.proofs.Common.{◌≡◌, true, Bool, get_or, take, ap, refl, sym, ◌∙◌}
use Rattle.std.proofs.lemmas.Bool.{false≢true}
use Rattle.std.proofs.lemmas.List.{take_all}
use Rattle.std.proofs.lemmas.List.Filters.{dedup_is}
use Rattle.std.proofs.lemmas.Map.Keys.{IsStrictlyIncreasing-dedup}
use Rattle.fb_graph.specs.Parity.{is_in}
use Rattle.fb_graph.proofs.Among.{All_among}
use Rattle.fb_half.specs.declared.matches.Match.{Match}
use Rattle.fb_half.specs.InternalSeams.{meets_seam}
use Rattle.fb_half.specs.InternalStandings.{no_match}
use Rattle.fb_half.proofs.FreedMatches.{at_among}
use Rattle.fb_half.proofs.SeamPlaces.{found_more, sorted_found}
use Rattle.fb_half.proofs.merging.seam_places.Goals as goal

pub loop-name-init : goal.loop-name-init
loop-name-init c = (
  λ i h. absurd (false≢true (sym (ap (λ l. is_in l i) c.new-places.ensures.items) ∙ h)),
  λ i less passes h. absurd (false≢true h),
)

pub loop-name-preserved : goal.loop-name-preserved
loop-name-preserved c =
    let test : Match → Bool = meets_seam c.args.seam.now.plan.now c.args.seam.now.node c.args.links.now in
    found_more test c.args.matching.now.matches c.args.listed.now c.loop-name.places.items c.push_place.new.places.items c.loop-name.name-index
    (get_or c.args.listed.now c.loop-name.name-index 0) c.seam_place.result c.loop-name-test.true refl c.seam_place.ensures.some c.seam_place.ensures.all
    c.in_ok-push_place.ensures c.loop-name.invariant

pub returns-clause-rising : goal.returns-clause-rising
returns-clause-rising c =
    rw (dedup_is _ _ _ c.dedup.ensures.filtered) (IsStrictlyIncreasing-dedup _ c.sort_unstable.ensures.sorted)

pub returns-clause-meets : goal.returns-clause-meets
returns-clause-meets c =
    let test : Match → Bool = meets_seam c.args.seam.now.plan.now c.args.seam.now.node c.args.links.now in
    (sorted_found test c.args.matching.now.matches (take c.loop-name.name-index c.args.listed.now) c.loop-name.places.items _ _ c.loop-name.invariant
    c.sort_unstable.ensures.permutation (dedup_is _ _ _ c.dedup.ensures.filtered)).0

pub returns-clause-all : goal.returns-clause-all
returns-clause-all c i less passes =
    let test : Match → Bool = meets_seam c.args.seam.now.plan.now c.args.seam.now.node c.args.links.now in
    (sorted_found test c.args.matching.now.matches (take c.loop-name.name-index c.args.listed.now) c.loop-name.places.items _ _ c.loop-name.invariant
    c.sort_unstable.ensures.permutation (dedup_is _ _ _ c.dedup.ensures.filtered)).1 i less passes
    (ap (λ l. is_in l (get_or c.args.matching.now.matches i no_match).first) (take_all c.loop-name.name-index c.args.listed.now c.loop-name-test.false)
    ∙ All_among (λ m. test m ≡ true → is_in c.args.listed.now m.first ≡ true) c.args.matching.now.matches c.requires.listed (get_or c.args.matching.now.matches i no_match)
    (at_among c.args.matching.now.matches i no_match less) passes)
