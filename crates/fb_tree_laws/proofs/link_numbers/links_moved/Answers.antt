use Rattle.fb_laws.proofs.LinkNumbers as lemma
use Rattle.fb_tree_laws.proofs.link_numbers.links_moved.Goals as goal

pub returns-clause-counted : goal.returns-clause-counted
returns-clause-counted c = lemma.cycle_counted

pub returns-clause-ended : goal.returns-clause-ended
returns-clause-ended c = lemma.links_ended

pub returns-clause-joined : goal.returns-clause-joined
returns-clause-joined c = lemma.links_joined_in

pub returns-clause-opened : goal.returns-clause-opened
returns-clause-opened c = lemma.links_opened

pub returns-clause-numbered : goal.returns-clause-numbered
returns-clause-numbered c = lemma.branches_counted
