use Rattle.fb_laws.proofs.HalvesKept.{positive_packing, positive_loads, positive_total, cut_under_one, half_level, half_solved}
use Rattle.fb_laws.proofs.works.half_opened.Goals as goal

pub returns-clause-packing : goal.returns-clause-packing
returns-clause-packing c = positive_packing

pub returns-clause-loads : goal.returns-clause-loads
returns-clause-loads c = positive_loads

pub returns-clause-total : goal.returns-clause-total
returns-clause-total c = positive_total

pub returns-clause-under : goal.returns-clause-under
returns-clause-under c = cut_under_one

pub returns-clause-level : goal.returns-clause-level
returns-clause-level c = half_level

pub returns-clause-solved : goal.returns-clause-solved
returns-clause-solved c = half_solved
