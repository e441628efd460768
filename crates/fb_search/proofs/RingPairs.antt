-- A tight edge between two plus nodes of one of several trees: the link that is made over it closes a cycle.
use Rattle.std.proofs.Common.{ℕ, ◌≡◌, ◌≢◌, List, [], ◌∷◌, Option, Some, unwrap_or, sym, ap, ◌∙◌, subst}
use Rattle.fb_graph.proofs.Floods.{is_in-left, is_in-right}
use Rattle.fb_laws.specs.Trees.{Connects}
use Rattle.fb_laws.specs.Works.{AreMatchedLinks}
use Rattle.fb_links.specs.declared.walk.Step.{Step}
use Rattle.fb_links.specs.Table.{Adds}
use Rattle.fb_half.specs.declared.seams.Seams.{Seams}
use Rattle.fb_half.specs.Matchings.{match_links}
use Rattle.fb_half.specs.Parts.{kept_links, problem_in}
use Rattle.fb_half.specs.Seams.{AreListed}
use Rattle.fb_half.specs.Translations.{link_by, link_of, ring_links}
use Rattle.fb_half.proofs.FreedMatches.{link_in}
use Rattle.fb_trees.specs.Forests.{ArePlusTogether, trees_in}
use Rattle.fb_trees.specs.InternalMetWalks.{IsMetWalk}
use Rattle.fb_search.specs.InternalGrowing.{GrowingValue, IsGrowing, forest_links, grown_ids}
use Rattle.fb_search.specs.InternalTreeMeetings.{IsGrowingPair}
use Rattle.fb_search.specs.InternalGrowingRings.{ClosesIn}
use Rattle.fb_search.specs.InternalGrowth.{GrowsOn}
use Rattle.fb_search.proofs.ListedSteps.{Lists, listed_kept, made_stays}
use Rattle.fb_search.proofs.RelinkedForests.{growing_linked, relinked_growing}
use Rattle.fb_search.proofs.ScopeWalks.{IsBetweenThem, between_them}

module _ (w : GrowingValue) (k a b : ℕ) (pair : IsGrowingPair w k a b) where
  apart : a ≢ b
  apart same = pair.obstacle.apart (a, pair.covered, pair.other ∙ ap Some (sym same))

  pub ring_between : IsBetweenThem (problem_in w.part) w.part.nodes k a b
  ring_between =
      between_them (problem_in w.part) w.part.nodes k pair.inner pair.outer a b
      (record {
        within = pair.obstacle.edge.within;
        leads = pair.obstacle.edge.leads;
        tight = pair.obstacle.edge.tight;
      })
      pair.covered pair.other apart

  pub ring_link : (walk : List Step) (id : ℕ) (links : List (Option (List Step))) → IsGrowing w
      → Adds w.part.links links id walk → IsMetWalk (problem_in w.part) w.part.nodes a b walk
      → ArePlusTogether w.forest a b → ClosesIn (relinked_growing links w) a b id
  ring_link walk id links are adds met both = record {
    growing = growing_linked w id walk links are adds met.walk_is.steps;
    tree = both.tree;
    grown = both.grown;
    at = both.at;
    first = both.first;
    second = both.second;
    apart = apart;
    connects = subst (λ l. Connects w.part.nodes l a b) (sym link_is) met.connects;
    tight = subst (λ l. AreMatchedLinks (problem_in w.part) w.part.nodes (l ∷ [])) (sym link_is) met.walk_is.tight;
  }
    where
      link_is : link_by links id ≡ link_of walk
      link_is = ap (λ o. link_of (unwrap_or o [])) adds.added

-- a link is made, and all matches to the boundary are still listed
pub ring_listed : (w : GrowingValue) (s : Seams) (new : List (Option (List Step))) (link : ℕ) (walk : List Step) → IsGrowing w
    → Adds w.part.links new link walk → Lists s w.part
    → AreListed (problem_in w.part).is_real w.part.job.plan s new w.part.matching.matches
ring_listed w s new link walk are adds listed =
    listed_kept (problem_in w.part).is_real w.part.job.plan s w.part.links new w.part.matching.matches w.part.matching.matches listed
    (λ m a none. (
      a,
      made_stays (problem_in w.part) w.part.links new (forest_links w) link walk are.links adds m.link
          (is_in-right (grown_ids (trees_in w.forest)) (kept_links w.part) m.link
          (is_in-left (match_links w.part.matching.matches) (ring_links w.part.nodes w.part.store) m.link
          (link_in w.part.matching.matches m a))),
    ))

-- what is left to do does not depend on links
pub grows_on_relinked : (w after : GrowingValue) (new : List (Option (List Step))) → GrowsOn (relinked_growing new w) after
    → GrowsOn w after
grows_on_relinked w after new on = record {
  grown = record {
    part = record { job = on.grown.part.job; slot = on.grown.part.slot; node = on.grown.part.node };
    waits = on.grown.waits;
    kept = on.grown.kept;
    least = on.grown.least;
    most = on.grown.most;
  };
  less = on.less;
}
