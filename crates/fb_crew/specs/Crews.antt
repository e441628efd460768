-- A crew.
use Rattle.std.specs.Prelude.{ℕ}
use Rattle.fb_graph.specs.Limits.{DecodingGraph}
use Rattle.fb_plan.specs.Plans.{PlanTree}

-- what a crew is for: the shots of this graph, by this plan, with this number of workers
pub record CrewValue : Type 0 where
  pub graph : DecodingGraph
  pub plan : PlanTree
  pub workers : ℕ
