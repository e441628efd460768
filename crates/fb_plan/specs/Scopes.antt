-- The sub-problem of a node of a plan with the weights of a shot, without their signs.
use Rattle.fb_graph.specs.Limits.{DecodingGraph, no_shot}
use Rattle.fb_graph.specs.Problem.{Problem}
use Rattle.fb_graph.specs.ShotGraphs.{shot_graph}
use Rattle.fb_plan.specs.Plans.{problem_at}
use Rattle.fb_plan.specs.declared.scope.NodeScope.{NodeScope}

-- the graph with the weights of the scope's shot
abbrev pub scope_graph : NodeScope → DecodingGraph
scope_graph s = shot_graph s.graph.now s.shot.now

-- what is solved in the scope, without its defects
abbrev pub scope_problem : NodeScope → Problem
scope_problem s = problem_at (scope_graph s) s.plan.now s.node no_shot
