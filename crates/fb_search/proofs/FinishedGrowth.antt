-- Trees that have all ended leave a part between searches, whose unmatched nodes are those that wait.
use Rattle.std.proofs.Common.{◌≡◌, [], ◌++◌, map, ap, subst}
use Rattle.fb_laws.proofs.ForestParts.{forest_state_done}
use Rattle.fb_half.specs.Matchings.{IsMatchingOf}
use Rattle.fb_half.specs.Parts.{AreLinksOf, IsPart, kept_links, problem_in}
use Rattle.fb_trees.specs.Forests.{trees_in}
use Rattle.fb_search.specs.InternalGrowing.{GrowingValue, IsGrowing, all_along, forest_state_at, grown_ids, tree_by}

pub finished_part : (w : GrowingValue) → IsGrowing w → trees_in w.forest ≡ [] → IsPart w.part
finished_part w are none = record {
  job = are.job;
  slot = are.slot;
  node = are.node;
  state =
      (forest_state_done (problem_in w.part) (forest_state_at w are.state.0) (ap (map (tree_by w.part.links)) none)
      are.state.1).0;
  agreed = are.agreed;
  links = subst (λ gs. AreLinksOf (problem_in w.part) w.part.links (grown_ids gs ++ kept_links w.part)) none are.links;
  matching =
      subst (λ gs. IsMatchingOf (problem_in w.part) w.part.nodes w.part.links w.part.matching (all_along gs)) none
      are.matching;
}
