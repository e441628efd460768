use Rattle.fb_laws.proofs.StateOrders as lemma
use Rattle.fb_tree_laws.proofs.state_orders.others_stay.Goals as goal

pub returns : goal.returns
returns c = lemma.others_stay
