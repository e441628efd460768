use Rattle.fb_laws.proofs.MatchLinks.{match_of, match_of_met, mate_outside}
use Rattle.fb_tree_laws.proofs.met_links.match_found.Goals as goal

pub returns-clause-one : goal.returns-clause-one
returns-clause-one c = match_of

pub returns-clause-met : goal.returns-clause-met
returns-clause-met c = match_of_met

pub returns-clause-mate : goal.returns-clause-mate
returns-clause-mate c = mate_outside
