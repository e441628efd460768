use Rattle.fb_laws.proofs.ForestEnds.{forest_first}
use Rattle.fb_laws.proofs.ForestSteps.{forest_begins}
use Rattle.fb_laws.proofs.ForestWakes.{forest_woken}
use Rattle.fb_tree_laws.proofs.forests.forest_begins.Goals as goal

pub returns-clause-begins : goal.returns-clause-begins
returns-clause-begins c = forest_begins

pub returns-clause-first : goal.returns-clause-first
returns-clause-first c = forest_first

pub returns-clause-woken : goal.returns-clause-woken
returns-clause-woken c = forest_woken
