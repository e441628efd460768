use Rattle.fb_laws.proofs.SingleDefects.{defect_height, ends_meet_under, links_through, one_defect}
use Rattle.fb_tree_laws.proofs.met_links.links_through_defect.Goals as goal

pub returns-clause-one : goal.returns-clause-one
returns-clause-one c = one_defect

pub returns-clause-height : goal.returns-clause-height
returns-clause-height c = defect_height

pub returns-clause-through : goal.returns-clause-through
returns-clause-through c = links_through

pub returns-clause-meet : goal.returns-clause-meet
returns-clause-meet c = ends_meet_under
