use Rattle.fb_laws.proofs.ForestParts.{forest_match_of_met, forest_mate_outside, forest_tight}
use Rattle.fb_tree_laws.proofs.forest_states.forest_state_links.Goals as goal

pub returns-clause-tight : goal.returns-clause-tight
returns-clause-tight c = forest_tight

pub returns-clause-met : goal.returns-clause-met
returns-clause-met c = forest_match_of_met

pub returns-clause-mate : goal.returns-clause-mate
returns-clause-mate c = forest_mate_outside
