-- A part has fewer than 2^32 matches: each has a node of its own, and nodes are defects or join three others.
use Rattle.std.proofs.Common.{ℕ, ◌≤◌, ◌<◌, ◌^◌, ◌++◌, List, [], ◌∷◌, map, length, arith, ◌∙◌}
use Rattle.std.proofs.lemmas.List.{length-append, length-map}
use Rattle.fb_graph.specs.Limits.{IsGraph}
use Rattle.fb_graph.proofs.NestParts.{names_live}
use Rattle.fb_graph.proofs.Sets.{length-le_from_within}
use Rattle.fb_laws.proofs.PartBounds.{few_blossoms, few_leaves, nodes_counted}
use Rattle.fb_half.specs.declared.matches.Match.{Match}
use Rattle.fb_half.specs.Matchings.{listed_names, matched_names, names_of}
use Rattle.fb_half.specs.Parts.{IsPart, PartValue, problem_in}
use Rattle.fb_search.proofs.Runs.{real_below}

-- each match has a name at least
named : (ms : List Match) → length ms ≤ length (matched_names ms)
named [] = omega arith
named (m ∷ ms) = omega (arith, named ms, length-append (names_of m) (matched_names ms))

module _ (w : PartValue) (part : IsPart w) where
  matches_have_nodes : length (listed_names w.matching ++ []) ≤ length w.nodes
  matches_have_nodes =
      omega (
        arith,
        length-map w.nodes (λ n. n.name),
        length-le_from_within (listed_names w.matching ++ []) (map (λ n. n.name) w.nodes) part.matching.distinct
            part.state.work.nest.dual.names
            (λ name listed. names_live w.nodes name ∙ (part.matching.live name listed).0),
      )

  pub few_matches : IsGraph w.job.graph → length w.matching.matches < 2 ^ 32
  few_matches graph =
      omega (
        arith,
        graph.vertices,
        named w.matching.matches,
        length-append w.matching.unmatched (matched_names w.matching.matches),
        length-append {A = ℕ} (listed_names w.matching) [],
        matches_have_nodes,
        nodes_counted w.nodes part.state.work.nest.forest.formed,
        few_leaves (problem_in w) w.nodes (real_below w) part.state.work.nest,
        few_blossoms (problem_in w) w.nodes part.state.work.nest,
      )
