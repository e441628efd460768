use Rattle.fb_laws.proofs.DifferingCuts.{layers_differ, apart_differ, inner_differs}
use Rattle.fb_laws.proofs.differences.cuts_differ.Goals as goal

pub returns-clause-layers : goal.returns-clause-layers
returns-clause-layers c = layers_differ

pub returns-clause-apart : goal.returns-clause-apart
returns-clause-apart c = apart_differ

pub returns-clause-inner : goal.returns-clause-inner
returns-clause-inner c = inner_differs
