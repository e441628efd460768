use Rattle.std.proofs.Common.{◌≡◌, ◌+◌, ◌++◌, ◌∷◌, [], map, set, take, get_or, sym, ap, ◌∙◌}
use Rattle.std.proofs.lemmas.List.{take_more}
use Rattle.fb_regions.specs.InternalNodes.{reparented_region}
use Rattle.fb_regions.proofs.Adopted.{adopted_at, adopted_no_names, adopted_none}
use Rattle.fb_regions.proofs.region.adopt.Goals as goal
use Rattle.fb_regions.proofs.region.adopt.Goals.{in-Some, in_default}

pub loop-name-init : goal.loop-name-init
loop-name-init c = sym (adopted_no_names c.args.parent c.args.regions.now)

pub loop-name-preserved : goal.loop-name-preserved
loop-name-preserved c =
    let name = get_or c.args.names.now c.loop-name.name-index 0 in
    let before = take c.loop-name.name-index c.args.names.now in
    let more : map (reparented_region (before ++ name ∷ []) c.args.parent) c.args.regions.now
    ≡ map (reparented_region (take (c.loop-name.name-index + 1) c.args.names.now) c.args.parent) c.args.regions.now =
    ap (λ l. map (reparented_region l c.args.parent) c.args.regions.now) (sym (take_more c.args.names.now c.loop-name.name-index 0 c.loop-name-test.true)) in
    elim c.match-place_of.branch [
      | in-Some w ↦
          (w.regions-is
          ∙ ap (λ r. set c.loop-name.regions w.in-Some.place (record r { parent = c.args.parent })) (sym w.index-regions-place.is))
          ∙ (ap (λ l. set l w.in-Some.place (record w.index-regions-place.result { parent = c.args.parent })) c.loop-name.invariant
          ∙ (adopted_at c.args.regions.now before name c.args.parent w.in-Some.place w.index-regions-place.result c.requires.distinct
          (sym (c.requires.index.entry name) ∙ (sym c.place_of.ensures ∙ w.in-Some.is))
          (w.index-regions-place.is ∙ ap (λ l. get_or l w.in-Some.place w.index-regions-place.result) c.loop-name.invariant)
          ∙ more))
      | in_default w ↦
          w.regions-is
          ∙ (c.loop-name.invariant
          ∙ (sym (adopted_none c.args.regions.now before name c.args.parent (sym (c.requires.index.entry name) ∙ (sym c.place_of.ensures ∙ w.in_default.is)))
          ∙ more))
    ]
