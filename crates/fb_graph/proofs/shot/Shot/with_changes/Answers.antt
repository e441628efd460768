use Rattle.std.proofs.Common.{◌≡◌}
use Rattle.fb_graph.specs.Limits.{IsShot, turned_by}
use Rattle.fb_graph.proofs.ShiftedShots.{kept_rise}
use Rattle.fb_graph.proofs.Shots.{length-shot, shot_from_sort}
use Rattle.fb_graph.proofs.shot.Shot.with_changes.Goals as goal
use Rattle.fb_graph.proofs.shot.Shot.with_changes.Goals.{After-from_vec-2}

turned_are : (c : After-from_vec-2) → c.in_ok-turned.turned ≡ turned_by c.args.graph.now c.args.changes.items
turned_are c = rw c.deref.ensures.value at c.in_ok-turned.ensures

is_shot : (c : After-from_vec-2) → IsShot c.args.graph.now
    (record { defects = c.from_vec.result; changes = c.from_vec-2.result; turned = c.in_ok-turned.turned })
is_shot c =
    rw (c.from_vec.ensures, c.from_vec-2.ensures, turned_are c)
    (shot_from_sort _ c.args.defects.items _ c.requires.distinct c.requires.real c.sort_unstable.ensures.permutation
    c.sort_unstable.ensures.sorted _ c.requires.changes)

pub invariant_of-result : goal.invariant_of-result
invariant_of-result c =
    let shot = is_shot c in (
      shot.rising,
      length-shot c.args.graph.now _ c.limits.ensures shot.rising shot.real,
      rw (turned_are c) (kept_rise c.args.graph.now _),
    )

pub returns-clause-shot : goal.returns-clause-shot
returns-clause-shot c = is_shot c

pub returns-clause-members : goal.returns-clause-members
returns-clause-members c = rw c.from_vec.ensures c.sort_unstable.ensures.permutation
