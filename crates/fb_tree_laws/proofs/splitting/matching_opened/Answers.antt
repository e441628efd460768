use Rattle.fb_laws.proofs.LoweredParts.{opened_lowers}
use Rattle.fb_laws.proofs.OpenedSearches.{matching_opened}
use Rattle.fb_tree_laws.proofs.splitting.matching_opened.Goals as goal

pub returns-clause-kept : goal.returns-clause-kept
returns-clause-kept c = matching_opened

pub returns-clause-lowers : goal.returns-clause-lowers
returns-clause-lowers c = opened_lowers
