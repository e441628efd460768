use Rattle.fb_graph.proofs.ClosedComponents.{no_odd_closed_set}
use Rattle.fb_graph.proofs.ClosedComponents.{no_odd_component}
use Rattle.fb_graph.proofs.laws.no_odd_component.Goals as goal

pub returns-clause-closed : goal.returns-clause-closed
returns-clause-closed c = no_odd_component

pub returns-clause-component : goal.returns-clause-component
returns-clause-component c = no_odd_closed_set
