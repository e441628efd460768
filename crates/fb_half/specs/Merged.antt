-- The part of a fusion as it begins, made of its children's solved parts (Wu and Zhong 2023).
use Rattle.std.specs.Prelude.{ℕ, ◌≡◌, ◌<◌, ◌&&◌, Bool, true, false, not, List, ◌++◌, map, filter, length, get_or, Option, Some, None}
use Rattle.std.specs.List.Sorted.{IsPermutation}
use Rattle.fb_graph.specs.Laws.{Link}
use Rattle.fb_graph.specs.Limits.{no_shot}
use Rattle.fb_graph.specs.Parity.{is_in}
use Rattle.fb_graph.specs.RenamedNodes.{renamed_nodes}
use Rattle.fb_graph.specs.Signs.{shifted_shot}
use Rattle.fb_plan.specs.Plans.{JobValue, PlanTree, owner_of}
use Rattle.fb_links.specs.declared.walk.Step.{Step}
use Rattle.fb_links.specs.Table.{link_at}
use Rattle.fb_half.specs.declared.matches.Match.{Match}
use Rattle.fb_half.specs.Beginnings.{leaves_by}
use Rattle.fb_half.specs.Matchings.{match_links}
use Rattle.fb_half.specs.Parts.{PartValue, problem_in}
use Rattle.fb_half.specs.Seams.{far_end}
use Rattle.fb_half.specs.Translations.{link_by, ring_links}
use Rattle.fb_plan.specs.Vertices.{is_node}

-- both ends of the link are vertices of the plan
abbrev pub IsPlanned : PlanTree → Link → Type 0
IsPlanned t l = (l.from < length t.owners) × (l.to < length t.owners)

-- the node of the plan owns the vertex
abbrev pub is_owned_by : PlanTree → ℕ → ℕ → Bool
is_owned_by t n v = is_node n (owner_of t v)

abbrev pub is_alone : Option ℕ → Bool
is_alone None = true
is_alone (Some b) = false

-- the match leads to the boundary, and the node of the plan owns the vertex there
abbrev pub leads_to_seam : (ℕ → Bool) → PlanTree → ℕ → List (Option (List Step)) → Match → Bool
leads_to_seam is_real t n links m = is_alone m.second && is_owned_by t n (far_end is_real (link_by links m.link))

-- the same of a match of the part
abbrev pub is_freed : PartValue → ℕ → Match → Bool
is_freed w n = leads_to_seam (problem_in w).is_real w.job.plan n w.links

-- the matches to boundary vertices that the node owns, and all others
abbrev pub seam_matches : PartValue → ℕ → List Match
seam_matches w n = filter (is_freed w n) w.matching.matches

abbrev pub other_matches : PartValue → ℕ → List Match
other_matches w n = filter (λ m. not (is_freed w n m)) w.matching.matches

-- the nodes that are matched to such a vertex
abbrev pub freed_in : PartValue → ℕ → List ℕ
freed_in w n = map (λ m. m.first) (seam_matches w n)

-- the defects of the shot that the node owns
abbrev pub shot_seam : JobValue → ℕ → ℕ → List ℕ
shot_seam j s n = filter (is_owned_by j.plan n) (get_or j.shots s no_shot).defects

-- the shifted defects that the node owns, which are solved
abbrev pub seam_defects : JobValue → ℕ → ℕ → List ℕ
seam_defects j s n = filter (is_owned_by j.plan n) (shifted_shot j.graph (get_or j.shots s no_shot)).defects

-- the links that stay
abbrev pub staying_links : PartValue → ℕ → List ℕ
staying_links w n = match_links (other_matches w n) ++ ring_links w.nodes w.store

abbrev pub renamed_second : (ℕ → ℕ) → Option ℕ → Option ℕ
renamed_second f None = None
renamed_second f (Some b) = Some (f b)

-- the match, its link renamed by the one function and its nodes by the other
abbrev pub renamed_match : (ℕ → ℕ) → (ℕ → ℕ) → Match → Match
renamed_match g f m = record { link = g m.link; first = f m.first; second = renamed_second f m.second }

-- The part of the job's node n: all nodes of both children, all links but those of matches to vertices that n owns, and
-- each shifted defect that n owns as a node of radius 0. Unmatched are the nodes of the forgotten links and these defects.
pub record IsMerged (j : JobValue) (n : ℕ) (left right after : PartValue) : Type 0 where
  pub job : after.job ≡ j
  pub slot : after.slot ≡ left.slot
  pub node : after.node ≡ n
  -- the new numbers of the right part's nodes and links, and the names of n's defects
  pub name : ℕ → ℕ
  pub link : ℕ → ℕ
  pub own : List ℕ
  pub count : length own ≡ length (seam_defects j left.slot n)
  pub nodes : after.nodes ≡ (left.nodes ++ renamed_nodes name right.nodes) ++ leaves_by own (seam_defects j left.slot n)
  pub unmatched : after.matching.unmatched ≡ (freed_in left n ++ map name (freed_in right n)) ++ own
  pub matches : IsPermutation after.matching.matches (other_matches left n ++ map (renamed_match link name) (other_matches right n))
  pub left_links : (id : ℕ) → is_in (staying_links left n) id ≡ true → link_at after.links id ≡ link_at left.links id
  pub right_links : (id : ℕ) → is_in (staying_links right n) id ≡ true → link_at after.links (link id) ≡ link_at right.links id
