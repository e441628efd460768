use Rattle.fb_laws.proofs.StateOrders as lemma
use Rattle.fb_tree_laws.proofs.state_orders.state_reordered.Goals as goal

pub returns-clause-between : goal.returns-clause-between
returns-clause-between c = lemma.part_reordered

pub returns-clause-growing : goal.returns-clause-growing
returns-clause-growing c = lemma.search_reordered
