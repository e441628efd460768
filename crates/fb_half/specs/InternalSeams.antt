-- A part of a fusion while its seam is opened: both children's parts beside one another, the matches to the seam
-- forgotten one after another, and then each defect on the seam made a node.
use Rattle.std.specs.Prelude.{ℕ, ◌≡◌, ◌<◌, ◌&&◌, ◌||◌, ◌⊎◌, Bool, true, false, List, [], ◌++◌, map, filter, length, Option, None}
use Rattle.std.specs.List.Sorted.{IsPermutation}
use Rattle.fb_graph.specs.Parity.{is_in}
use Rattle.fb_graph.specs.Problem.{Problem}
use Rattle.fb_graph.specs.Certificate.{AreDistinct}
use Rattle.fb_graph.specs.Dual.{Node}
use Rattle.fb_graph.specs.Laws.{Link}
use Rattle.fb_graph.specs.Nests.{IsNest}
use Rattle.fb_plan.specs.Plans.{PlanTree, node_count}
use Rattle.fb_links.specs.declared.walk.Step.{Step}
use Rattle.fb_links.specs.Table.{link_at}
use Rattle.fb_blossoms.specs.Nodes as blossoms
use Rattle.fb_half.specs.declared.matches.Match.{Match}
use Rattle.fb_half.specs.Beginnings.{leaves_by}
use Rattle.fb_half.specs.InternalBeginnings.{leaf_at}
use Rattle.fb_half.specs.Matchings.{IsMatchingOf, MatchingValue, match_links}
use Rattle.fb_half.specs.Merged.{is_alone, is_owned_by, seam_defects}
use Rattle.fb_half.specs.Parts.{AreAgreed, AreLinksOf, PartValue, graph_in, kept_links, problem_in}
use Rattle.fb_half.specs.Seams.{AreListed}
use Rattle.fb_half.specs.Translations.{link_by}
use Rattle.fb_half.specs.declared.seams.Seams.{Seams}

-- the node of the plan owns an end of the link
abbrev pub ends_at_seam : PlanTree → ℕ → Link → Bool
ends_at_seam t n l = is_owned_by t n l.from || is_owned_by t n l.to

-- the match leads to the boundary, by a link with an end that the node of the plan owns
abbrev pub meets_seam : PlanTree → ℕ → List (Option (List Step)) → Match → Bool
meets_seam t n links m = is_alone m.second && ends_at_seam t n (link_by links m.link)

-- such matches of the part, for its own node, and the nodes that they match
abbrev pub met_matches : PartValue → List Match
met_matches w = filter (meets_seam w.job.plan w.node w.links) w.matching.matches

abbrev pub met_nodes : PartValue → List ℕ
met_nodes w = map (λ m. m.first) (met_matches w)

-- These matches are taken out and their links forgotten, and the first node of each is unmatched; all else is as it was.
pub record IsFreed (taken : List Match) (before after : MatchingValue) (links new : List (Option (List Step))) : Type 0 where
  pub matches : IsPermutation before.matches (taken ++ after.matches)
  pub unmatched : after.unmatched ≡ before.unmatched ++ map (λ m. m.first) taken
  pub gone : (id : ℕ) → is_in (match_links taken) id ≡ true → link_at new id ≡ None
  pub others : (id : ℕ) → is_in (match_links taken) id ≡ false → link_at new id ≡ link_at links id

-- These defects have become nodes under these names, unmatched; all else is as it was.
pub record AddsSingles (names done : List ℕ) (nodes new_nodes : List Node) (store new_store : List (Option blossoms.Node))
    (before after : MatchingValue) : Type 0 where
  pub nodes_are : new_nodes ≡ nodes ++ leaves_by names done
  pub matching : after ≡ record { matches = before.matches; unmatched = before.unmatched ++ names }
  pub count : length names ≡ length done
  pub distinct : AreDistinct names
  pub fresh : (x : ℕ) → is_in names x ≡ true → blossoms.node_at store x ≡ None
  pub added : (x : ℕ) → is_in names x ≡ true → blossoms.node_at new_store x ≡ leaf_at names done x
  pub others : (x : ℕ) → is_in names x ≡ false → blossoms.node_at new_store x ≡ blossoms.node_at store x

-- Two children's parts beside one another, as a part of a problem in which no vertex of the seam is real.
pub record IsBeside (w : PartValue) : Type 0 where
  pub slot : w.slot < length w.job.shots
  pub node : w.node < node_count w.job.plan
  -- the seam is real in the part's own problem
  pub real : (v : ℕ) → is_owned_by w.job.plan w.node v ≡ true → (problem_in w).is_real v ≡ true
  pub problem : Problem
  pub edges : problem.edges ≡ (graph_in w).edges
  pub apart : (v : ℕ) → is_owned_by w.job.plan w.node v ≡ true → problem.is_real v ≡ false
  -- and it is all that becomes real
  pub part : (v : ℕ) → problem.is_real v ≡ true → (problem_in w).is_real v ≡ true
  pub covered : (v : ℕ) → (problem_in w).is_real v ≡ true → (problem.is_real v ≡ true) ⊎ (is_owned_by w.job.plan w.node v ≡ true)
  pub nest : IsNest problem w.nodes
  pub agreed : AreAgreed w.nodes w.store
  pub links : AreLinksOf problem w.links (kept_links w)
  pub matching : IsMatchingOf problem w.nodes w.links w.matching []

-- the part with the matches to the seam forgotten, before its defects become nodes
abbrev pub freed_matching : PartValue → PartValue → MatchingValue
freed_matching before after = record {
  matches = after.matching.matches;
  unmatched = before.matching.unmatched ++ met_nodes before;
}

-- The part whose seam is opened, with these names for the defects on it.
pub record IsOpened (names : List ℕ) (before after : PartValue) : Type 0 where
  pub job : after.job ≡ before.job
  pub slot : after.slot ≡ before.slot
  pub node : after.node ≡ before.node
  pub freed : IsFreed (met_matches before) before.matching (freed_matching before after) before.links after.links
  pub singles_added : AddsSingles names (seam_defects before.job before.slot before.node) before.nodes after.nodes before.store after.store (freed_matching before after) after.matching

-- They are beside one another, and the index has all their matches to the boundary.
pub record AreBesideListed (s : Seams) (w : PartValue) : Type 0 where
  pub beside : IsBeside w
  pub listed : AreListed beside.problem.is_real w.job.plan s w.links w.matching.matches
