use Rattle.fb_laws.proofs.SearchEnds.{search_ended, search_met, search_released}
use Rattle.fb_tree_laws.proofs.searches.search_ended.Goals as goal

pub returns-clause-boundary : goal.returns-clause-boundary
returns-clause-boundary c = search_ended

pub returns-clause-met : goal.returns-clause-met
returns-clause-met c = search_met

pub returns-clause-released : goal.returns-clause-released
returns-clause-released c = search_released
