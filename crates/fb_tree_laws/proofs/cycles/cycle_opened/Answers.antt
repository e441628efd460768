use Rattle.fb_laws.proofs.CycleWays.{way_round}
use Rattle.fb_laws.proofs.OpenedBlossoms.{blossom_opened}
use Rattle.fb_laws.proofs.OpenedCycles.{cycle_opened, still_plus}
use Rattle.fb_laws.proofs.SplitStates.{split_off, end_under_child}
use Rattle.fb_tree_laws.proofs.cycles.cycle_opened.Goals as goal

pub returns-clause-blossom : goal.returns-clause-blossom
returns-clause-blossom c = blossom_opened

pub returns-clause-child : goal.returns-clause-child
returns-clause-child c = end_under_child

pub returns-clause-opened : goal.returns-clause-opened
returns-clause-opened c = cycle_opened

pub returns-clause-plus : goal.returns-clause-plus
returns-clause-plus c = still_plus

pub returns-clause-split : goal.returns-clause-split
returns-clause-split c = split_off

pub returns-clause-way : goal.returns-clause-way
returns-clause-way c = way_round
