-- A tree of several that meets a matched node: the link to it is made, and its match is taken out.
use Rattle.std.proofs.Common.{ℕ, ◌≡◌, true, List, ◌∷◌, Option, sym, ap, ◌∙◌}
use Rattle.std.specs.List.Sorted.{IsPermutation}
use Rattle.std.proofs.lemmas.Bool.{false≢true}
use Rattle.fb_graph.specs.Covers.{passes}
use Rattle.fb_graph.proofs.Among.{IsAmong}
use Rattle.fb_graph.proofs.Floods.{is_in-left, is_in-right}
use Rattle.fb_links.specs.declared.walk.Step.{Step}
use Rattle.fb_links.specs.Table.{Adds}
use Rattle.fb_links.proofs.MovedLinks.{Table}
use Rattle.fb_half.specs.declared.matches.Match.{Match}
use Rattle.fb_half.specs.declared.seams.Seams.{Seams}
use Rattle.fb_half.specs.Matchings.{MatchingValue, match_links}
use Rattle.fb_half.specs.Parts.{kept_links, problem_in}
use Rattle.fb_half.specs.Seams.{AreListed}
use Rattle.fb_half.specs.Translations.{ring_links}
use Rattle.fb_half.proofs.FreedMatches.{link_in}
use Rattle.fb_trees.specs.Forests.{trees_in}
use Rattle.fb_trees.specs.InternalMetWalks.{IsMetWalk}
use Rattle.fb_search.specs.InternalGrowing.{GrowingValue, IsGrowing, forest_links, grown_ids, roles_among}
use Rattle.fb_search.specs.InternalTreeMeetings.{HasMetTree, MeetsOutside}
use Rattle.fb_search.proofs.BegunForests.{plus_named}
use Rattle.fb_search.proofs.ListedSteps.{Lists, listed_kept, made_stays}
use Rattle.fb_search.proofs.ScopeWalks.{IsBetweenThem, between_them}
use Rattle.fb_search.proofs.SplitForests.{plus_node}

-- the plus node over the inner end
outside_plus : (w : GrowingValue) (k plus other : ℕ) → MeetsOutside w k plus other → (roles_among w.forest).is_plus plus ≡ true
outside_plus w k plus other meets = sym (ap (passes (roles_among w.forest).is_plus) meets.covered) ∙ meets.obstacle.edge.plus

pub outside_between : (w : GrowingValue) (k plus other : ℕ) → MeetsOutside w k plus other
    → IsBetweenThem (problem_in w.part) w.part.nodes k plus other
outside_between w k plus other meets =
    between_them (problem_in w.part) w.part.nodes k meets.inner meets.outer plus other
    (record {
      within = meets.obstacle.edge.within;
      leads = meets.obstacle.edge.leads;
      tight = meets.obstacle.edge.tight;
    })
    meets.covered meets.obstacle.covered
    (λ same.
    false≢true (sym meets.obstacle.not_plus ∙ (ap (roles_among w.forest).is_plus (sym same) ∙ outside_plus w k plus other meets)))

-- the link is made and the match taken out
pub has_met_tree : (w : GrowingValue) (k plus other link : ℕ) (taken : Match) (walk : List Step) (links : List (Option (List Step)))
    (m : MatchingValue) → IsGrowing w → MeetsOutside w k plus other → IsMetWalk (problem_in w.part) w.part.nodes plus other walk
    → Adds w.part.links links link walk → IsPermutation w.part.matching.matches (taken ∷ m.matches)
    → m.unmatched ≡ w.part.matching.unmatched
    → HasMetTree w (record { plus = plus; other = other; link = link; taken = taken })
    (record w { part = record w.part { links = links; matching = m } })
has_met_tree w k plus other link taken walk links m are meets walk_is adds moved same = record {
  was = are;
  is = (λ i. record w { part = record w.part { links = links; matching = record { matches = m.matches; unmatched = same i } } });
  plus = plus_node w.forest plus (plus_named w.forest plus (outside_plus w k plus other meets));
  walk = walk;
  walk_is = walk_is;
  adds = adds;
  matches = moved;
}

-- A link is made while trees grow, and some of the matches stay.
pub listed_linked : (w : GrowingValue) (s : Seams) (new : Table) (link : ℕ) (walk : List Step) (after : List Match) → IsGrowing w
    → Adds w.part.links new link walk → ((m : Match) → IsAmong m after → IsAmong m w.part.matching.matches) → Lists s w.part
    → AreListed (problem_in w.part).is_real w.part.job.plan s new after
listed_linked w s new link walk after are adds among listed =
    listed_kept (problem_in w.part).is_real w.part.job.plan s w.part.links new w.part.matching.matches after listed
    (λ m a none. (
      among m a,
      made_stays (problem_in w.part) w.part.links new (forest_links w) link walk are.links adds m.link
          (is_in-right (grown_ids (trees_in w.forest)) (kept_links w.part) m.link
          (is_in-left (match_links w.part.matching.matches) (ring_links w.part.nodes w.part.store) m.link
          (link_in w.part.matching.matches m (among m a)))),
    ))
