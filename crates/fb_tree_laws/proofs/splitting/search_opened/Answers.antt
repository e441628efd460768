use Rattle.fb_laws.proofs.OpenedTrees.{search_opened}
use Rattle.fb_tree_laws.proofs.splitting.search_opened.Goals as goal

pub returns : goal.returns
returns c = search_opened
