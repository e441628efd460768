use Rattle.fb_laws.proofs.MatchedNodes.{matching_augmented, matching_met, matching_released}
use Rattle.fb_laws.proofs.works.matching_augmented.Goals as goal

pub returns-clause-boundary : goal.returns-clause-boundary
returns-clause-boundary c = matching_augmented

pub returns-clause-met : goal.returns-clause-met
returns-clause-met c = matching_met

pub returns-clause-released : goal.returns-clause-released
returns-clause-released c = matching_released
