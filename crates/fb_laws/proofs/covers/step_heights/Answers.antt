use Rattle.fb_graph.proofs.StepHeights.{cover_stepped, leaves_stepped, height_stepped}
use Rattle.fb_laws.proofs.covers.step_heights.Goals as goal

pub returns-clause-cover : goal.returns-clause-cover
returns-clause-cover c = cover_stepped

pub returns-clause-leaves : goal.returns-clause-leaves
returns-clause-leaves c = leaves_stepped

pub returns-clause-height : goal.returns-clause-height
returns-clause-height c = height_stepped
