use Rattle.std.proofs.Common.{◌∙◌, ap, None, if◌then◌else◌}
use Rattle.std.proofs.lemmas.List.{take_all}
use Rattle.fb_regions.specs.InternalPlaces.{place_in}
use Rattle.fb_trees.specs.Branches.{entries_of}
use Rattle.fb_trees.specs.InternalPlaces.{has_branch}
use Rattle.fb_trees.proofs.Marking.{removed_next}
use Rattle.fb_trees.proofs.places.take_out_all.Goals as goal

pub loop-branch-preserved : goal.loop-branch-preserved
loop-branch-preserved c = (
  removed_next c.args.branches.now c.loop-branch.branch-index _ c.loop-branch-test.true c.args.places.now.items c.loop-branch.places.items
      c.remove.new.places.items c.remove-in-loop-branch.new.places.items c.loop-branch.invariant.0 c.remove.ensures.places
      c.remove-in-loop-branch.ensures.places,
  c.remove-in-loop-branch.ensures.count ∙ (c.remove.ensures.count ∙ c.loop-branch.invariant.1),
)

pub returns-clause-entries : goal.returns-clause-entries
returns-clause-entries c name =
    c.loop-branch.invariant.0 name
    ∙ ap (λ bs. if has_branch (entries_of bs) name then None else place_in c.args.places.now.items name)
    (take_all c.loop-branch.branch-index c.args.branches.now c.loop-branch-test.false)
