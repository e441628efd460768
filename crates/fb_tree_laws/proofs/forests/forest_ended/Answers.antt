use Rattle.fb_laws.proofs.ForestEnds.{forest_done, forest_ended, forest_met, forest_released, matching_rerooted}
use Rattle.fb_tree_laws.proofs.forests.forest_ended.Goals as goal

pub returns-clause-rerooted : goal.returns-clause-rerooted
returns-clause-rerooted c = matching_rerooted

pub returns-clause-met : goal.returns-clause-met
returns-clause-met c = forest_met

pub returns-clause-boundary : goal.returns-clause-boundary
returns-clause-boundary c = forest_ended

pub returns-clause-done : goal.returns-clause-done
returns-clause-done c = forest_done

pub returns-clause-released : goal.returns-clause-released
returns-clause-released c = forest_released
