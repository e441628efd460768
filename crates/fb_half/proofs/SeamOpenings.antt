-- What is asked as the seam of a fusion is opened: its defects lie under no node, and the links' ends are vertices of
-- the plan.
use Rattle.std.proofs.Common.{ℕ, ◌≡◌, ◌≢◌, ◌<◌, ◌||◌, ◌⊎◌, inl, inr, true, false, List, [], ◌∷◌, ◌++◌, map, length, drop, get_or, All, Option, Some, None, is_some, unwrap_or, refl, sym, ap, ◌∙◌, subst, arith}
use Rattle.std.specs.List.{filter}
use Rattle.std.specs.Prelude.{Result, Ok, Err, OnOk}
use Rattle.std.specs.List.Sorted.{IsStrictlyIncreasing}
use Rattle.std.proofs.lemmas.Bool.{both_ways, false_from_ne_true, false≢true, or_cases, or_left, or_right}
use Rattle.std.proofs.lemmas.Grind.{flat_map-append}
use Rattle.std.proofs.lemmas.List.Elements.{All-head, All-tail}
use Rattle.std.proofs.lemmas.List.Kept.{IsStrictlyIncreasing-filter}
use Rattle.fb_graph.specs.Parity.{is_in}
use Rattle.fb_graph.specs.Problem.{edge_at, no_edge}
use Rattle.fb_graph.specs.Certificate.{AreDistinct}
use Rattle.fb_graph.specs.Components.{Leads}
use Rattle.fb_graph.specs.Dual.{Node, cover_of, defects_of, is_empty, is_live, leaves}
use Rattle.fb_graph.specs.Limits.{DecodingGraph, IsGraph, IsShot, no_shot}
use Rattle.fb_graph.proofs.ShiftedShots.{shot_graph_is_graph}
use Rattle.fb_graph.proofs.Among.{IsAmong, All_among, among_All, live_among}
use Rattle.fb_graph.proofs.Members.{is_in-append, distinct_left}
use Rattle.fb_graph.proofs.Sets.{distinct-filter, distinct_from_rising, is_in-head}
use Rattle.fb_laws.proofs.OpenedBlossoms.{same_permuted}
use Rattle.fb_plan.specs.Plans.{PlanTree}
use Rattle.fb_plan.specs.Laws.{IsJob}
use Rattle.fb_links.specs.declared.walk.Step.{Step}
use Rattle.fb_links.specs.Table.{IsLink, is_live as is_link, link_at, walk_at}
use Rattle.fb_links.specs.Walks.{end_from, end_of, start_of}
use Rattle.fb_blossoms.specs.Nodes as blossoms
use Rattle.fb_half.specs.declared.matches.Match.{Match}
use Rattle.fb_half.specs.InternalSeams.{AddsSingles, IsBeside, IsFreed, IsOpened, meets_seam, met_matches, met_nodes}
use Rattle.fb_half.specs.Matchings.{MatchingValue, listed_names, match_links, matched_names, names_of}
use Rattle.fb_half.specs.Merged.{IsPlanned, is_owned_by, seam_defects, shot_seam}
use Rattle.fb_half.specs.Parts.{AreAgreed, PartValue, graph_in, problem_in, shot_of, solved_shot}
use Rattle.fb_half.specs.Translations.{children_at, link_by, ring_links}
use Rattle.fb_half.proofs.BegunParts.{kept_real}
use Rattle.fb_half.proofs.ShiftedLists.{shifted_rises}
use Rattle.fb_half.proofs.FlatPermutations.{flat_permuted}
use Rattle.fb_half.proofs.FreedMatches.{first_listed, firsts, link_in}
use Rattle.fb_links.proofs.MovedLinks.{Table}

-- a step along an edge of the graph has both its ends among the vertices
pub step_below : (g : DecodingGraph) → IsGraph g → (s : Step) → s.edge < length g.edges → Leads (edge_at g.edges s.edge) s.from s.to
    → (s.from < g.vertices) × (s.to < g.vertices)
step_below g is s less (inl (first, second)) =
    let e = is.each_edge s.edge no_edge less in
    (subst (λ v. v < g.vertices) first e.first, subst (λ v. v < g.vertices) second e.second)
step_below g is s less (inr (second, first)) =
    let e = is.each_edge s.edge no_edge less in
    (subst (λ v. v < g.vertices) second e.second, subst (λ v. v < g.vertices) first e.first)

end_below : (n at : ℕ) (walk : List Step) → at < n → All (λ s. (s.from < n) × (s.to < n)) walk → end_from at walk < n
end_below n at [] less all = less
end_below n at (s ∷ ss) less all = end_below n s.to ss (All-head (λ x. (x.from < n) × (x.to < n)) s ss all).1 (All-tail (λ x. (x.from < n) × (x.to < n)) s ss all)

-- so do the ends of a walk
pub walk_below : (n : ℕ) (walk : List Step) → 0 < length walk → All (λ s. (s.from < n) × (s.to < n)) walk → (start_of walk < n) × (end_of walk < n)
walk_below n [] some all = absurd (omega (arith, some))
walk_below n (s ∷ ss) some all =
    let first = All-head (λ x. (x.from < n) × (x.to < n)) s ss all in
    (first.0, end_below n s.to ss first.1 (All-tail (λ x. (x.from < n) × (x.to < n)) s ss all))

some_link : (table : Table) (id : ℕ) → is_link table id ≡ true → (walk : List Step) × (link_at table id ≡ Some walk)
some_link table id live = step (link_at table id) refl live
  where
    step : (o : Option (List Step)) → link_at table id ≡ o → is_some o ≡ true → (walk : List Step) × (link_at table id ≡ Some walk)
    step None e h = absurd (false≢true h)
    step (Some walk) e h = (walk, e)

defect_in : (ns : List Node) (m : Node) (v : ℕ) → IsAmong m ns → is_in (defects_of m) v ≡ true → is_in (leaves ns) v ≡ true
defect_in [] m v a h = absurd a
defect_in (n ∷ ns) m v (inl e) h =
    is_in-append (defects_of n) (leaves ns) v ∙ or_left (is_in (defects_of n) v) (is_in (leaves ns) v) (ap (λ y. is_in (defects_of y) v) e ∙ h)
defect_in (n ∷ ns) m v (inr a) h =
    is_in-append (defects_of n) (leaves ns) v ∙ or_right (is_in (defects_of n) v) (is_in (leaves ns) v) (defect_in ns m v a h)

-- a leaf of the store is a defect of the nodes
pub leaf_held : (nodes : List Node) (store : List (Option blossoms.Node)) (x v : ℕ) → AreAgreed nodes store
    → blossoms.node_at store x ≡ Some (blossoms.leaf v) → is_in (leaves nodes) v ≡ true
leaf_held nodes store x v agreed at =
    let (m, a, named) = live_among nodes x (agreed.live x ∙ ap is_some at) in
    let childless : m.children ≡ [] =
    All_among (λ n. n.children ≡ children_at store n.name) nodes agreed.children m a
    ∙ (ap (children_at store) named ∙ ap (λ o. map (λ s. s.node) (blossoms.cycle_of o)) at) in
    let defect : defects_of m ≡ v ∷ [] =
    All_among (λ n. is_empty n.children ≡ true → defects_of n ≡ blossoms.defects_at store n.name) nodes agreed.leaves m a (ap is_empty childless)
    ∙ (ap (blossoms.defects_at store) named ∙ ap blossoms.defects_of at) in
    defect_in nodes m v a (ap (λ l. is_in l v) defect ∙ is_in-head v [])

-- the matches to the seam forgotten, then its defects added
pub seam_opened : {U E : Type 0} (r : Result U E) (before : PartValue) (mid m : MatchingValue) (links : Table) (nodes : List Node)
    (store : List (Option blossoms.Node)) (plan : PlanTree) (read : List ℕ) → plan ≡ before.job.plan → read ≡ seam_defects before.job before.slot before.node
    → IsFreed (filter (meets_seam plan before.node before.links) before.matching.matches) before.matching mid before.links links
    → OnOk r (AddsSingles (drop (length mid.unmatched) m.unmatched) read before.nodes nodes before.store store mid m)
    → OnOk r (IsOpened (drop (length (before.matching.unmatched ++ met_nodes before)) m.unmatched) before
    (record { job = before.job; slot = before.slot; node = before.node; nodes = nodes; links = links; store = store; matching = m }))
seam_opened (Err e) before mid m links nodes store plan read same is freed added = tt
seam_opened (Ok x) before mid m links nodes store plan read same is freed added =
    let taken = subst (λ t. IsFreed (filter (meets_seam t before.node before.links) before.matching.matches) before.matching mid before.links links) same freed in
    let after : MatchingValue = record { matches = m.matches; unmatched = before.matching.unmatched ++ met_nodes before } in
    let mid_is : mid ≡ after =
    ap (λ ms. record { matches = ms; unmatched = mid.unmatched }) (sym (ap (λ n. n.matches) added.matching))
    ∙ ap (λ names. record { matches = m.matches; unmatched = names }) taken.unmatched in record {
      job = refl;
      slot = refl;
      node = refl;
      freed = subst (λ n. IsFreed (met_matches before) before.matching n before.links links) mid_is taken;
      singles_added =
          subst (λ n. AddsSingles (drop (length n.unmatched) m.unmatched) (seam_defects before.job before.slot before.node) before.nodes nodes before.store store n m) mid_is
          (subst (λ l. AddsSingles (drop (length mid.unmatched) m.unmatched) l before.nodes nodes before.store store mid m) is added);
    }

module _ (w : PartValue) (job : IsJob w.job) (graph : IsGraph w.job.graph) (b : IsBeside w) where
  shot : IsShot w.job.graph (shot_of w)
  shot = job.shots w.slot no_shot b.slot

  pub own_links : AreDistinct (match_links w.matching.matches)
  own_links = distinct_left (match_links w.matching.matches) (ring_links w.nodes w.store) b.links.distinct

  live_match : (m : Match) → IsAmong m w.matching.matches → is_link w.links m.link ≡ true
  live_match m a =
      b.links.live m.link
      ∙ (is_in-append (match_links w.matching.matches) (ring_links w.nodes w.store) m.link
      ∙ or_left (is_in (match_links w.matching.matches) m.link) (is_in (ring_links w.nodes w.store) m.link) (link_in w.matching.matches m a))

  pub live_matches : All (λ m. is_link w.links m.link ≡ true) w.matching.matches
  live_matches = among_All (λ m. is_link w.links m.link ≡ true) w.matching.matches live_match

  pub owners_are : length w.job.plan.owners ≡ w.job.graph.vertices
  owners_are = job.plan.count

  pub planned : ((id : ℕ) (walk : List Step) → link_at w.links id ≡ Some walk → IsLink walk)
      → All (λ m. IsPlanned w.job.plan (link_by w.links m.link)) w.matching.matches
  planned are = among_All (λ m. IsPlanned w.job.plan (link_by w.links m.link)) w.matching.matches each
    where
      each : (m : Match) → IsAmong m w.matching.matches → IsPlanned w.job.plan (link_by w.links m.link)
      each m a =
          let (walk, at) = some_link w.links m.link (live_match m a) in
          let n : ℕ = w.job.graph.vertices in
          let steps = b.links.steps m.link walk at in
          subst (λ k. (start_of (walk_at w.links m.link) < k) × (end_of (walk_at w.links m.link) < k)) (sym owners_are)
          (subst (λ o. (start_of (unwrap_or o []) < n) × (end_of (unwrap_or o []) < n)) (sym at)
          (walk_below n walk (are m.link walk at).some
          (λ i d less.
          let s : Step = get_or walk i d in
          let is = (steps i d less).0 in
          step_below (graph_in w) (shot_graph_is_graph w.job.graph (shot_of w) graph shot).0 s (subst (λ es. s.edge < length es) b.edges is.within)
          (subst (λ es. Leads (edge_at es s.edge) s.from s.to) b.edges is.leads))))

  pub given_rises : IsStrictlyIncreasing (shot_seam w.job w.slot w.node)
  given_rises = IsStrictlyIncreasing-filter (is_owned_by w.job.plan w.node) (shot_of w).defects shot.rising

  abbrev pub seam : List ℕ
  seam = seam_defects w.job w.slot w.node

  pub seam_distinct : AreDistinct seam
  seam_distinct =
      distinct-filter (is_owned_by w.job.plan w.node) (solved_shot w).defects
      (distinct_from_rising (solved_shot w).defects (shifted_rises w.job.graph (shot_of w)))

  pub seam_owned : All (λ v. is_owned_by w.job.plan w.node v ≡ true) seam
  seam_owned = kept_real (is_owned_by w.job.plan w.node) (solved_shot w).defects

  pub bare : (v : ℕ) → is_owned_by w.job.plan w.node v ≡ true → cover_of w.nodes v ≡ None
  bare v owned = step (cover_of w.nodes v) refl
    where
      step : (o : Option ℕ) → cover_of w.nodes v ≡ o → cover_of w.nodes v ≡ None
      step None e = e
      step (Some name) e = absurd (both_ways (b.problem.is_real v) (b.apart v owned) (b.nest.dual.real v (ap is_some e)))

  -- no leaf of the store is on the seam
  pub leafless : (v : ℕ) → is_owned_by w.job.plan w.node v ≡ true → (x : ℕ) → blossoms.node_at w.store x ≢ Some (blossoms.leaf v)
  leafless v owned x at =
      both_ways (is_some (cover_of w.nodes v)) (ap is_some (bare v owned)) (b.nest.dual.defects v (leaf_held w.nodes w.store x v b.agreed at))

  pub seam_real : All (λ v. (problem_in w).is_real v ≡ true) seam
  seam_real i d less = b.real (get_or seam i d) (seam_owned i d less)

  pub seam_bare : All (λ v. cover_of w.nodes v ≡ None) seam
  seam_bare i d less = bare (get_or seam i d) (seam_owned i d less)

  pub seam_leafless : All (λ v. (x : ℕ) → blossoms.node_at w.store x ≢ Some (blossoms.leaf v)) seam
  seam_leafless i d less = leafless (get_or seam i d) (seam_owned i d less)

  -- a name that the store doesn't have is listed nowhere
  pub absent_unlisted : (name : ℕ) → blossoms.node_at w.store name ≡ None → is_in (listed_names w.matching) name ≡ false
  absent_unlisted name none =
      false_from_ne_true (is_in (listed_names w.matching) name)
      (λ within.
      both_ways (is_live w.nodes name) (b.agreed.live name ∙ ap is_some none)
      (b.matching.live name
      (is_in-append (listed_names w.matching) [] name ∙ or_left (is_in (listed_names w.matching) name) (is_in [] name) within)).0)

  -- nor where some matches are taken out and their first nodes unmatched
  pub freed_unlisted : (taken : List Match) (after : MatchingValue) (new : Table) → IsFreed taken w.matching after w.links new
      → (name : ℕ) → blossoms.node_at w.store name ≡ None → is_in (listed_names after) name ≡ false
  freed_unlisted taken after new freed name none =
      false_from_ne_true (is_in (listed_names after) name)
      (λ within.
      both_ways (is_in (listed_names w.matching) name) (absent_unlisted name none)
      (by (or_cases (is_in after.unmatched name) (is_in (matched_names after.matches) name)
      (sym (is_in-append after.unmatched (matched_names after.matches) name) ∙ within))))
    where
      among : is_in (matched_names (taken ++ after.matches)) name ≡ true → is_in (listed_names w.matching) name ≡ true
      among h =
          is_in-append w.matching.unmatched (matched_names w.matching.matches) name
          ∙ or_right (is_in w.matching.unmatched name) (is_in (matched_names w.matching.matches) name)
          (sym (same_permuted _ _ (flat_permuted names_of w.matching.matches (taken ++ after.matches) freed.matches) name) ∙ h)

      merged : is_in (matched_names (taken ++ after.matches)) name ≡ (is_in (matched_names taken) name || is_in (matched_names after.matches) name)
      merged = ap (λ l. is_in l name) (flat_map-append names_of taken after.matches) ∙ is_in-append (matched_names taken) (matched_names after.matches) name

      by : (is_in after.unmatched name ≡ true) ⊎ (is_in (matched_names after.matches) name ≡ true) → is_in (listed_names w.matching) name ≡ true
      by (inr h) = among (merged ∙ or_right (is_in (matched_names taken) name) (is_in (matched_names after.matches) name) h)
      by (inl h) =
          open_or (or_cases (is_in w.matching.unmatched name) (is_in (firsts taken) name)
          (sym (is_in-append w.matching.unmatched (firsts taken) name) ∙ (sym (ap (λ l. is_in l name) freed.unmatched) ∙ h)))
        where
          open_or : (is_in w.matching.unmatched name ≡ true) ⊎ (is_in (firsts taken) name ≡ true) → is_in (listed_names w.matching) name ≡ true
          open_or (inl k) =
              is_in-append w.matching.unmatched (matched_names w.matching.matches) name
              ∙ or_left (is_in w.matching.unmatched name) (is_in (matched_names w.matching.matches) name) k
          open_or (inr k) = among (merged ∙ or_left (is_in (matched_names taken) name) (is_in (matched_names after.matches) name) (first_listed taken name k))
