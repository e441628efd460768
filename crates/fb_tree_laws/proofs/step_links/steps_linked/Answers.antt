use Rattle.fb_laws.specs.StepLinks.{PlainStep}
use Rattle.fb_laws.proofs.StepLinks.{edges_turned, steps_are_link, steps_joined, steps_through, steps_turned}
use Rattle.fb_tree_laws.proofs.step_links.steps_linked.Goals as goal

pub returns-clause-link : goal.returns-clause-link
returns-clause-link c = steps_are_link PlainStep

pub returns-clause-edges : goal.returns-clause-edges
returns-clause-edges c = edges_turned PlainStep

pub returns-clause-turned : goal.returns-clause-turned
returns-clause-turned c = steps_turned PlainStep

pub returns-clause-joined : goal.returns-clause-joined
returns-clause-joined c = steps_joined PlainStep

pub returns-clause-through : goal.returns-clause-through
returns-clause-through c = steps_through PlainStep
