use Rattle.std.proofs.Common.{◌∙◌, ap, Some, if◌then◌else◌}
use Rattle.std.proofs.lemmas.List.{take_all}
use Rattle.fb_regions.specs.InternalPlaces.{place_in}
use Rattle.fb_trees.specs.Branches.{entries_of}
use Rattle.fb_trees.specs.InternalPlaces.{has_branch}
use Rattle.fb_trees.proofs.Marking.{marked_next}
use Rattle.fb_trees.proofs.places.enter_owner.Goals as goal

pub loop-branch-preserved : goal.loop-branch-preserved
loop-branch-preserved c = (
  marked_next c.args.branches.now c.loop-branch.branch-index _ c.loop-branch-test.true (Some c.args.tree) c.args.owners.now.items
      c.loop-branch.owners.items c.enter.new.places.items c.loop-branch.invariant.0 c.enter.ensures.places,
  c.enter.ensures.count ∙ c.loop-branch.invariant.1,
)

pub returns-clause-entries : goal.returns-clause-entries
returns-clause-entries c name =
    c.loop-branch.invariant.0 name
    ∙ ap (λ bs. if has_branch (entries_of bs) name then Some c.args.tree else place_in c.args.owners.now.items name)
    (take_all c.loop-branch.branch-index c.args.branches.now c.loop-branch-test.false)
