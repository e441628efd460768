use Rattle.std.proofs.Common.{ap, Ok}
use Rattle.fb_graph.proofs.Sets.{distinct_from_rising}
use Rattle.fb_shots_json.proofs.ListedShots.{listed_shot}
use Rattle.fb_shots_json.proofs.judging.shot_in.Goals as goal

pub with_changes-requires-clause-distinct : goal.with_changes-requires-clause-distinct
with_changes-requires-clause-distinct c = distinct_from_rising c.in_ok-defects.defects.items c.in_ok-defects.ensures.shot.rising

pub returns-clause-ok : goal.returns-clause-ok
returns-clause-ok c =
    rw (c.in_ok-defects.ensures.ok, c.in_ok-changes.ensures.ok)
    (ap Ok
    (listed_shot c.args.graph.now c.in_ok-defects.defects.items c.in_ok-changes.changes.items c.in_ok-with_changes.field-0
    c.in_ok-defects.ensures.shot.rising c.in_ok-with_changes.ensures.shot c.in_ok-with_changes.ensures.members
    c.in_ok-with_changes.ensures.changes))
