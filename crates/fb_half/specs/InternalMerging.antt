-- The pieces of two children's parts while they become those of one part.
use Rattle.std.specs.Prelude.{ℕ, ◌≡◌, true, List, [], ◌++◌, map, All, Some}
use Rattle.fb_graph.specs.Limits.{IsWithinLimits, no_shot}
use Rattle.fb_graph.specs.Parity.{is_in}
use Rattle.fb_graph.specs.RenamedNodes.{renamed_nodes}
use Rattle.fb_plan.specs.Plans.{JobValue, children_of, problem_at}
use Rattle.fb_plan.specs.Scopes.{scope_graph}
use Rattle.fb_plan.specs.declared.scope.NodeScope.{NodeScope}
use Rattle.fb_links.specs.Merged.{AreMerged}
use Rattle.fb_links.specs.Names.{name_by}
use Rattle.fb_blossoms.specs.Merged as merged
use Rattle.fb_regions.specs.Paces.{IsAtRest}
use Rattle.fb_half.specs.declared.parts.Parts.{Parts}
use Rattle.fb_half.specs.InternalUnions.{IsRisingUnion}
use Rattle.fb_half.specs.Merged.{renamed_match}
use Rattle.fb_half.specs.Parts.{IsPart, PartValue, graph_in}
use Rattle.fb_half.specs.Seams.{names_under}
use Rattle.fb_half.specs.Values.{HasScope, part_of}

-- Two solved parts of the job's children of this node, for the same slot.
pub record AreHalves (j : JobValue) (left right : PartValue) (n : ℕ) : Type 0 where
  pub job : left.job ≡ j
  pub same_job : right.job ≡ left.job
  pub same_slot : right.slot ≡ left.slot
  pub limits : IsWithinLimits (problem_at (graph_in left) left.job.plan n no_shot)
  pub children : children_of left.job.plan n ≡ Some (left.node, right.node)
  pub one : IsPart left
  pub two : IsPart (record right { job = left.job; slot = left.slot })
  pub matched : left.matching.unmatched ≡ []
  pub also : right.matching.unmatched ≡ []

-- The pieces of such parts, and the scope of their parent.
pub record AreSiblings (scope : NodeScope) (left right : Parts) : Type 0 where
  pub halves : AreHalves left.job.0.now (part_of left) (part_of right) scope.node
  pub left_scope : HasScope left
  pub right_scope : HasScope right
  pub graph : scope_graph scope ≡ graph_in (part_of left)
  pub plan : scope.plan.now ≡ left.job.0.now.plan

-- The pieces moved to a larger scope, with the defects of others too.
pub record IsExtended (scope : NodeScope) (parts others after : Parts) : Type 0 where
  pub regions : after.regions ≡ record parts.regions { scope = scope }
  pub links : after.links ≡ parts.links
  pub blossoms : after.blossoms ≡ parts.blossoms
  pub matching : after.matching ≡ parts.matching
  pub seams : after.seams ≡ parts.seams
  pub defects : IsRisingUnion parts.defects.items others.defects.items after.defects.items
  pub job : after.job.0.now ≡ parts.job.0.now
  pub slot : after.slot ≡ parts.slot
  pub node : after.node ≡ scope.node

-- The pieces of both as those of one part: the nodes, links and matches of the left part, and those of the right one under
-- new numbers. The index lists what both indexes list for these matches.
pub record IsJoined (scope : NodeScope) (left right joined : Parts) : Type 0 where
  pub links : List (ℕ × ℕ)
  pub names : List (ℕ × ℕ)
  pub tables : AreMerged left.links right.links links joined.links
  pub stores : merged.IsMerged left.blossoms right.blossoms joined.blossoms links names
  pub scope_is : joined.regions.scope ≡ scope
  pub nodes : joined.regions.nodes ≡ left.regions.nodes ++ renamed_nodes (name_by names) right.regions.nodes
  pub rest : IsAtRest joined.regions
  pub matching : joined.matching
      ≡ record { matches = left.matching.matches ++ map (renamed_match (name_by links) (name_by names)) right.matching.matches; unmatched = [] }
  pub left_seams : All (λ m. (o : ℕ) → is_in (names_under left.seams o) m.first ≡ true → is_in (names_under joined.seams o) m.first ≡ true) left.matching.matches
  pub right_seams : All (λ m. (o : ℕ) → is_in (names_under right.seams o) m.first ≡ true
      → is_in (names_under joined.seams o) (name_by names m.first) ≡ true) right.matching.matches
  pub defects : IsRisingUnion left.defects.items right.defects.items joined.defects.items
  pub job : joined.job.0.now ≡ left.job.0.now
  pub slot : joined.slot ≡ left.slot
  pub node : joined.node ≡ scope.node
