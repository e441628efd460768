use Rattle.std.proofs.Common.{◌∙◌, ap}
use Rattle.std.proofs.lemmas.List.{take_all}
use Rattle.fb_regions.specs.InternalPlaces.{place_in}
use Rattle.fb_trees.specs.Branches.{entries_of}
use Rattle.fb_trees.specs.InternalPlaces.{place_of, place_or}
use Rattle.fb_trees.proofs.Marking.{entered_next}
use Rattle.fb_trees.proofs.places.enter_all.Goals as goal

pub loop-at-preserved : goal.loop-at-preserved
loop-at-preserved c = (
  entered_next c.args.branches.now c.loop-at.at _ c.loop-at-test.true c.args.places.now.items c.loop-at.places.items
      c.enter.new.places.items c.loop-at.invariant.0 c.enter.ensures.places,
  c.enter.ensures.count ∙ c.loop-at.invariant.1,
)

pub returns : goal.returns
returns c name =
    c.loop-at.invariant.0 name
    ∙ ap (λ bs. place_or (place_of (entries_of bs) name) (place_in c.args.places.now.items name))
    (take_all c.loop-at.at c.args.branches.now c.loop-at-test.false)
