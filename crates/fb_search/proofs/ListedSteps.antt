-- The index of a part's matches to the boundary has them all after each step of a search: only the steps that match a node to
-- the boundary list one more, and the links of the matches that stay do so too.
use Rattle.std.proofs.Common.{ℕ, ◌≡◌, ◌<◌, ◌⊎◌, inl, inr, true, false, List, [], ◌∷◌, ◌++◌, if◌then◌else◌, length, map, get_or, Bool, Option, Some, None, is_some, unwrap_or, refl, sym, ap, ◌∙◌, subst}
use Rattle.std.specs.List.Sorted.{IsPermutation}
use Rattle.std.proofs.lemmas.Bool.{eq-eqb, false≢true}
use Rattle.fb_graph.specs.Components.{Leads}
use Rattle.fb_graph.specs.Laws.{Link}
use Rattle.fb_graph.specs.Limits.{IsWithinLimits, no_shot}
use Rattle.fb_graph.specs.Parity.{is_in}
use Rattle.fb_graph.specs.Problem.{Problem, edge_at, no_edge}
use Rattle.fb_graph.proofs.Among.{IsAmong, All_among, among_All, among_either, among_map}
use Rattle.fb_graph.proofs.Floods.{is_in-left}
use Rattle.fb_graph.proofs.Members.{is_in_pushed}
use Rattle.fb_laws.specs.Trees.{EntryOf, branches_beside, path_to}
use Rattle.fb_plan.specs.Laws.{IsJob}
use Rattle.fb_plan.specs.Plans.{PlanTree, owner_of, problem_at}
use Rattle.fb_plan.specs.Vertices.{is_node}
use Rattle.fb_plan.specs.declared.scope.NodeScope.{NodeScope}
use Rattle.fb_plan.specs.Scopes.{scope_problem}
use Rattle.fb_links.specs.declared.walk.Step.{Step}
use Rattle.fb_links.specs.Table.{Adds, link_at, walk_at}
use Rattle.fb_links.specs.Walks.{end_of, start_of}
use Rattle.fb_links.proofs.MovedLinks.{Table}
use Rattle.fb_half.specs.declared.matches.Match.{Match}
use Rattle.fb_half.specs.declared.parts.Parts.{Parts}
use Rattle.fb_half.specs.declared.seams.Seams.{Seams}
use Rattle.fb_half.specs.Matchings.{match_links}
use Rattle.fb_half.specs.Merged.{IsPlanned}
use Rattle.fb_half.specs.Parts.{AreLinksOf, AreStepsOf, IsPart, PartValue, kept_links, problem_in}
use Rattle.fb_half.specs.Seams.{AreListed, IsListed, far_end, names_under}
use Rattle.fb_half.specs.Translations.{link_by, link_of, ring_links}
use Rattle.fb_half.specs.Values.{HasScope, IsScopeOf, part_of}
use Rattle.fb_half.proofs.FreedMatches.{among_permuted, link_in}
use Rattle.fb_half.proofs.SeamOpenings.{walk_below}
use Rattle.fb_search.specs.InternalEndings.{all_matches, beside_match, ended_matches, path_match}
use Rattle.fb_search.proofs.EndedWays.{boundary_match, met_match}

pub scope_is : (parts : Parts) → HasScope parts → IsScopeOf parts.regions.scope (part_of parts)
scope_is parts has = record { graph = has.graph; plan = has.plan; node = has.node }

-- the index has all matches of the part to the boundary
abbrev pub Lists : Seams → PartValue → Type 0
Lists s w = AreListed (problem_in w).is_real w.job.plan s w.links w.matching.matches

-- Matches to the boundary that stay, with their links, are still listed.
pub listed_kept : (real : ℕ → Bool) (t : PlanTree) (s : Seams) (old new : Table) (before after : List Match) → AreListed real t s old before
    → ((m : Match) → IsAmong m after → m.second ≡ None → IsAmong m before × (link_by new m.link ≡ link_by old m.link))
    → AreListed real t s new after
listed_kept real t s old new before after listed stays = among_All (IsListed real t s new) after each
  where
    each : (m : Match) → IsAmong m after → IsListed real t s new m
    each m a owner none at =
        let (was, same) = stays m a none in
        All_among (IsListed real t s old) before listed m was owner none (sym (ap (λ l. owner_of t (far_end real l)) same) ∙ at)

by_link : (old new : Table) (id : ℕ) → link_at new id ≡ link_at old id → link_by new id ≡ link_by old id
by_link old new id same = ap (λ o. link_of (unwrap_or o [])) same

-- a link that is made leaves all others
pub made_stays : (p : Problem) (old new : Table) (ids : List ℕ) (link : ℕ) (walk : List Step) → AreLinksOf p old ids → Adds old new link walk
    → (id : ℕ) → is_in ids id ≡ true → link_by new id ≡ link_by old id
made_stays p old new ids link walk are adds id within = by_link old new id (adds.others id other)
  where
    other : id ≡ link → ⊥
    other same =
        false≢true (sym (sym (are.live link) ∙ ap is_some adds.fresh) ∙ (ap (is_in ids) (sym same) ∙ within))

-- the match of one node is taken out
pub taken_among : (before after : List Match) (taken m : Match) → IsPermutation before (taken ∷ after) → IsAmong m after → IsAmong m before
taken_among before after taken m moved a = among_permuted before (taken ∷ after) m moved (inr a)

pub no_second : (m : Match) (b : ℕ) → Some b ≡ m.second → m.second ≡ None → ⊥
no_second m b is none = let clash : Some b ≡ None = is ∙ none in cc

-- no match of a tree's nodes leads to the boundary
pub ended_paired : (tree : List (EntryOf ℕ)) (name : ℕ) (m : Match) → IsAmong m (ended_matches tree name) → m.second ≡ None → ⊥
ended_paired tree name m a none = by (among_either (map path_match (path_to tree name)) (map beside_match (branches_beside tree name)) m a)
  where
    by : IsAmong m (map path_match (path_to tree name)) ⊎ IsAmong m (map beside_match (branches_beside tree name)) → ⊥
    by (inl up) =
        let (e, there, is) = among_map path_match (path_to tree name) m up in
        no_second m e.minus (ap (λ x. x.second) is) none
    by (inr off) =
        let (e, there, is) = among_map beside_match (branches_beside tree name) m off in
        no_second m e.plus (ap (λ x. x.second) is) none

-- The matches where a search has ended: those that stay, those of the tree's nodes, and the last one.
pub listed_ended : (real : ℕ → Bool) (t : PlanTree) (s : Seams) (old new : Table) (before kept : List Match) (tree : List (EntryOf ℕ)) (name : ℕ)
    (out : Match) → AreListed real t s old before
    → ((m : Match) → IsAmong m kept → IsAmong m before × (link_by new m.link ≡ link_by old m.link)) → IsListed real t s new out
    → AreListed real t s new (all_matches kept tree name out)
listed_ended real t s old new before kept tree name out listed stays last =
    among_All (IsListed real t s new) (all_matches kept tree name out)
    (λ m a. by m (among_either kept (ended_matches tree name ++ out ∷ []) m a))
  where
    kept_listed : AreListed real t s new kept
    kept_listed = listed_kept real t s old new before kept listed (λ m a none. stays m a)

    ends : (m : Match) → IsAmong m (ended_matches tree name) ⊎ IsAmong m (out ∷ []) → IsListed real t s new m
    ends m (inl a) = λ owner none at. absurd (ended_paired tree name m a none)
    ends m (inr (inl same)) = subst (IsListed real t s new) same last
    ends m (inr (inr none)) = absurd none

    by : (m : Match) → IsAmong m kept ⊎ IsAmong m (ended_matches tree name ++ out ∷ []) → IsListed real t s new m
    by m (inl a) = All_among (IsListed real t s new) kept kept_listed m a
    by m (inr a) = ends m (among_either (ended_matches tree name) (out ∷ []) m a)

-- the other node of a match that ends a search
pub paired_listed : (real : ℕ → Bool) (t : PlanTree) (s : Seams) (new : Table) (link name other : ℕ) → IsListed real t s new (met_match link name other)
paired_listed real t s new link name other owner none at = absurd (let clash : Some other ≡ None = none in cc)

-- the index lists this name under this owner too
abbrev pub AddsName : Option ℕ → ℕ → Seams → Seams → Type 0
AddsName owner name old new = (o : ℕ) → names_under new o ≡ (if is_node o owner then names_under old o ++ name ∷ [] else names_under old o)

grown : (b : Bool) (old now : List ℕ) (name x : ℕ) → now ≡ (if b then old ++ name ∷ [] else old) → is_in old x ≡ true → is_in now x ≡ true
grown true old now name x is h = ap (λ l. is_in l x) is ∙ is_in-left old (name ∷ []) x h
grown false old now name x is h = ap (λ l. is_in l x) is ∙ h

pub listed_more : (real : ℕ → Bool) (t : PlanTree) (s new : Seams) (links : Table) (matches : List Match) (owner : Option ℕ) (name : ℕ)
    → AddsName owner name s new → AreListed real t s links matches → AreListed real t new links matches
listed_more real t s new links matches owner name adds listed =
    among_All (IsListed real t new links) matches
    (λ m a o none at.
    grown (is_node o owner) (names_under s o) (names_under new o) name m.first (adds o) (All_among (IsListed real t s links) matches listed m a o none at))

pub last_listed : (real : ℕ → Bool) (t : PlanTree) (s new : Seams) (links : Table) (owner : Option ℕ) (link name : ℕ)
    → AddsName owner name s new → owner ≡ owner_of t (far_end real (link_by links link)) → IsListed real t new links (boundary_match link name)
last_listed real t s new links owner link name adds is o none at =
    ap (λ l. is_in l name)
    (adds o ∙ ap (λ b. if b then names_under s o ++ name ∷ [] else names_under s o) (ap (is_node o) (is ∙ at) ∙ eq-eqb o o refl))
    ∙ is_in_pushed (names_under s o) name

-- the owner that is read by the scope
pub owner_scoped : (scope : NodeScope) (w : PartValue) (l : Link) → IsScopeOf scope w
    → owner_of scope.plan.now (far_end (scope_problem scope).is_real l)
    ≡ owner_of w.job.plan (far_end (problem_in w).is_real l)
owner_scoped scope w l is = (λ i. owner_of (is.plan i) (far_end (problem_at (is.graph i) (is.plan i) (is.node i) no_shot).is_real l))

-- a single defect is matched at once: one link is made, and one match
module _ (w : PartValue) (link : ℕ) (walk : List Step) (new : Table) (are : IsPart w) (adds : Adds w.links new link walk) where
  near_stays : (m : Match) → IsAmong m w.matching.matches → IsAmong m w.matching.matches × (link_by new m.link ≡ link_by w.links m.link)
  near_stays m a = (
    a,
    made_stays (problem_in w) w.links new (kept_links w) link walk are.links adds m.link
        (is_in-left (match_links w.matching.matches) (ring_links w.nodes w.store) m.link (link_in w.matching.matches m a)),
  )

  pub near_met_listed : (name other : ℕ) (s : Seams) → Lists s w
      → AreListed (problem_in w).is_real w.job.plan s new (w.matching.matches ++ met_match link name other ∷ [])
  near_met_listed name other s listed =
      listed_ended (problem_in w).is_real w.job.plan s w.links new w.matching.matches w.matching.matches [] name (met_match link name other) listed near_stays
      (paired_listed (problem_in w).is_real w.job.plan s new link name other)

  pub near_out_listed : (name : ℕ) (s after : Seams) (owner : Option ℕ) → Lists s w → AddsName owner name s after
      → owner ≡ owner_of w.job.plan (far_end (problem_in w).is_real (link_by new link))
      → AreListed (problem_in w).is_real w.job.plan after new (w.matching.matches ++ boundary_match link name ∷ [])
  near_out_listed name s after owner listed lists is =
      listed_ended (problem_in w).is_real w.job.plan after w.links new w.matching.matches w.matching.matches [] name (boundary_match link name)
      (listed_more (problem_in w).is_real w.job.plan s after w.links w.matching.matches owner name lists listed) near_stays
      (last_listed (problem_in w).is_real w.job.plan s after new owner link name lists is)

-- a step along an edge of the problem has both its ends among the vertices
step_within : (p : Problem) → IsWithinLimits p → (s : Step) → s.edge < length p.edges → Leads (edge_at p.edges s.edge) s.from s.to
    → (s.from < p.vertices) × (s.to < p.vertices)
step_within p limits s less (inl (first, second)) =
    let e = limits.each_edge s.edge no_edge less in
    (subst (λ v. v < p.vertices) first e.first, subst (λ v. v < p.vertices) second e.second)
step_within p limits s less (inr (second, first)) =
    let e = limits.each_edge s.edge no_edge less in
    (subst (λ v. v < p.vertices) second e.second, subst (λ v. v < p.vertices) first e.first)

pub made_planned : (t : PlanTree) (p : Problem) (old new : Table) (link : ℕ) (walk : List Step) → IsWithinLimits p → length t.owners ≡ p.vertices
    → Adds old new link walk → 0 < length walk → AreStepsOf p walk → IsPlanned t (link_by new link)
made_planned t p old new link walk limits count adds some steps =
    subst (λ k. (start_of (walk_at new link) < k) × (end_of (walk_at new link) < k)) (sym count)
    (subst (λ o. (start_of (unwrap_or o []) < p.vertices) × (end_of (unwrap_or o []) < p.vertices)) (sym adds.added)
    (walk_below p.vertices walk some
    (λ i d less. let is = (steps i d less).0 in step_within p limits (get_or walk i d) is.within is.leads)))

-- what is asked where the owner of a new link's end is read
pub far_asked : (w : PartValue) (scope : NodeScope) (old new : Table) (link : ℕ) (walk : List Step) → IsScopeOf scope w → IsJob w.job
    → IsWithinLimits (problem_in w) → Adds old new link walk → 0 < length walk → AreStepsOf (problem_in w) walk
    → IsPlanned scope.plan.now (link_by new link) × (length scope.plan.now.owners ≡ scope.graph.now.vertices)
far_asked w scope old new link walk is job limits adds some steps = (
  subst (λ t. IsPlanned t (link_by new link)) (sym is.plan)
      (made_planned w.job.plan (problem_in w) old new link walk limits job.plan.count adds some steps),
  ap (λ t. length t.owners) is.plan ∙ (job.plan.count ∙ sym (ap (λ g. g.vertices) is.graph)),
)
