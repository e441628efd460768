use Rattle.fb_laws.proofs.HalvesKept.{matching_stepped, matching_permuted}
use Rattle.fb_laws.proofs.works.matching_kept.Goals as goal

pub returns-clause-stepped : goal.returns-clause-stepped
returns-clause-stepped c = matching_stepped

pub returns-clause-permuted : goal.returns-clause-permuted
returns-clause-permuted c = matching_permuted
