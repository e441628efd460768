-- The value of the parts of a half-solved part, and what its pieces have to do with it.
use Rattle.std.specs.Prelude.{◌≡◌}
use Rattle.fb_plan.specs.Scopes.{scope_graph}
use Rattle.fb_plan.specs.declared.scope.NodeScope.{NodeScope}
use Rattle.fb_regions.specs.Paces.{IsAtRest}
use Rattle.fb_half.specs.Beginnings.{shot_defects}
use Rattle.fb_half.specs.Parts.{PartValue, graph_in, problem_in}
use Rattle.fb_half.specs.Seams.{AreListed}
use Rattle.fb_half.specs.declared.parts.Parts.{Parts}

abbrev pub part_of : Parts → PartValue
part_of parts = record {
  job = parts.job.0.now;
  slot = parts.slot;
  node = parts.node;
  nodes = parts.regions.nodes;
  links = parts.links;
  store = parts.blossoms;
  matching = parts.matching;
}

-- the sub-problem of the part's node, with the weights of its slot's shot
pub record IsScopeOf (scope : NodeScope) (w : PartValue) : Type 0 where
  pub graph : scope_graph scope ≡ graph_in w
  pub plan : scope.plan.now ≡ w.job.plan
  pub node : scope.node ≡ w.node

-- The regions are those of the part's node of the plan, with the weights of its slot's shot, and none of them moves; the index
-- has all matches to the boundary, and the list has the shot's defects at the part's real vertices.
pub record HasScope (parts : Parts) : Type 0 where
  pub graph : scope_graph parts.regions.scope ≡ graph_in (part_of parts)
  pub plan : parts.regions.scope.plan.now ≡ parts.job.0.now.plan
  pub node : parts.regions.scope.node ≡ parts.node
  pub listed : AreListed (problem_in (part_of parts)).is_real parts.job.0.now.plan parts.seams parts.links parts.matching.matches
  pub defects : parts.defects.items ≡ shot_defects (part_of parts)
  pub rest : IsAtRest parts.regions
