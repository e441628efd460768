-- The solved parts of a fusion's two children beside one another.
use Rattle.std.proofs.Common.{ℕ, ◌≡◌, ◌<◌, ◌||◌, ◌⊎◌, inl, inr, true, false, List, [], ◌++◌, map, Option, Some, None, is_some, refl, sym, ap, ◌∙◌, subst, arith}
use Rattle.std.specs.List.Sorted.{IsPermutation}
use Rattle.std.proofs.lemmas.Bool.{and_from, and_parts, both_ways, eq-eqb, eqb-true, false≢true, or_cases, or_from, or_left, or_right}
use Rattle.std.proofs.lemmas.Grind.{flat_map-append}
use Rattle.std.proofs.lemmas.List.{map-append}
use Rattle.fb_graph.specs.Parity.{is_in}
use Rattle.fb_graph.specs.Problem.{Problem}
use Rattle.fb_graph.specs.Certificate.{AreDistinct}
use Rattle.fb_graph.specs.Dual.{Node}
use Rattle.fb_graph.specs.Laws.{IsPart as IsPartOfProblem}
use Rattle.fb_graph.specs.Limits.{DecodingGraph, IsWithinLimits, is_real_in, no_shot}
use Rattle.fb_graph.specs.Nests.{IsNest}
use Rattle.fb_graph.specs.NestUnions.{AreParts, HaveOwnNames}
use Rattle.fb_graph.specs.RenamedNodes.{AreRenamedApart, renamed_nodes}
use Rattle.fb_graph.proofs.Among.{IsAmong, All_among, among_live, map_among}
use Rattle.fb_graph.proofs.Members.{is_in-append}
use Rattle.fb_graph.proofs.MergedNests.{nests_merged}
use Rattle.fb_graph.proofs.NestParts.{leaf_real}
use Rattle.fb_graph.proofs.RenamedNodes.{nest_renamed}
use Rattle.fb_laws.specs.FusedStates.{without_seam}
use Rattle.fb_laws.specs.Fusion.{IsLinkOf}
use Rattle.fb_plan.specs.Plans.{IsPlan, JobValue, PlanTree, children_of, node_count, owner_of, problem_at}
use Rattle.fb_plan.specs.Seams.{is_own, is_owner}
use Rattle.fb_plan.proofs.FusionSeams.{fusion_is_parts, seam_is_apart}
use Rattle.fb_plan.proofs.ShotPlans.{shot_plan}
use Rattle.fb_plan.proofs.SubProblems.{child_is_part, children_are_separated, fusion_of}
use Rattle.fb_links.specs.Merged.{AreMerged}
use Rattle.fb_links.specs.Names.{name_by}
use Rattle.fb_links.specs.Table.{is_live as is_link}
use Rattle.fb_blossoms.specs.Nodes as blossoms
use Rattle.fb_blossoms.specs.Merged as merged
use Rattle.fb_half.specs.declared.matches.Match.{Match}
use Rattle.fb_half.specs.InternalSeams.{IsBeside}
use Rattle.fb_half.specs.Matchings.{MatchingValue, listed_names, match_links, matched_names}
use Rattle.fb_half.specs.Merged.{is_owned_by, renamed_match}
use Rattle.fb_half.specs.Parts.{IsPart, PartValue, graph_in, kept_links, problem_in, shot_of, solved_shot}
use Rattle.fb_half.specs.Translations.{link_by, ring_links}
use Rattle.fb_half.proofs.BesideLinks.{link_left, link_right, links_beside, links_renamed, rings_renamed, rings_same}
use Rattle.fb_half.proofs.BesideMatchings.{listed_beside, matching_beside, names_renamed}
use Rattle.fb_half.proofs.BesideNodes.{agreed_beside, apart, own_names, ring_left, ring_right}
use Rattle.fb_half.proofs.FreedMatches.{link_in}
use Rattle.fb_half.proofs.SeamOpenings.{leaf_held}
use Rattle.fb_half.proofs.AddedSingles.{Store}
use Rattle.fb_laws.proofs.LinkNumbers.{crossed}
use Rattle.fb_links.proofs.MovedLinks.{Table}
use Rattle.fb_plan.specs.Vertices.{is_node}

-- who owns a real vertex by one definition owns it by the other
pub owned_is_own : (g : DecodingGraph) (t : PlanTree) (n v : ℕ) → IsPlan g t → is_owned_by t n v ≡ true → is_own g t n v ≡ true
owned_is_own g t n v plan owned = step (owner_of t v) refl owned
  where
    step : (o : Option ℕ) → owner_of t v ≡ o → is_node n o ≡ true → is_own g t n v ≡ true
    step None e h = absurd (false≢true h)
    step (Some m) e h =
        and_from (is_real_in g v) (is_owner n (owner_of t v)) (sym (plan.owned v) ∙ ap is_some e)
        (ap (is_owner n) e ∙ eq-eqb n m (sym (eqb-true m n h)))

pub own_is_owned : (g : DecodingGraph) (t : PlanTree) (n v : ℕ) → is_own g t n v ≡ true → is_owned_by t n v ≡ true
own_is_owned g t n v own = step (owner_of t v) refl (and_parts (is_real_in g v) (is_owner n (owner_of t v)) own).1
  where
    step : (o : Option ℕ) → owner_of t v ≡ o → is_owner n (owner_of t v) ≡ true → is_owned_by t n v ≡ true
    step None e h = absurd (false≢true (sym (ap (is_owner n) e) ∙ h))
    step (Some m) e h = ap (is_node n) e ∙ eq-eqb m n (sym (eqb-true n m (sym (ap (is_owner n) e) ∙ h)))

pub same_part : (v w : PartValue) → v.job ≡ w.job → v.slot ≡ w.slot → v.node ≡ w.node → v.nodes ≡ w.nodes → v.links ≡ w.links
    → v.store ≡ w.store → v.matching ≡ w.matching → v ≡ w
same_part v w job slot node nodes links store matching =
    ap (λ x. record v { job = x }) job
    ∙ (ap (λ x. record v { job = w.job; slot = x }) slot
    ∙ (ap (λ x. record v { job = w.job; slot = w.slot; node = x }) node
    ∙ (ap (λ x. record v { job = w.job; slot = w.slot; node = w.node; nodes = x }) nodes
    ∙ (ap (λ x. record v { job = w.job; slot = w.slot; node = w.node; nodes = w.nodes; links = x }) links
    ∙ (ap (λ x. record v { job = w.job; slot = w.slot; node = w.node; nodes = w.nodes; links = w.links; store = x }) store
    ∙ ap (λ x. record w { matching = x }) matching)))))

-- the sub-problems of the children are parts of the parent's, whichever copies of the graph and of the plan they are read from
pub scoped_parts : (j : JobValue) (n left right l r : ℕ) (g h k : DecodingGraph) (t u w : PlanTree) → IsPlan j.graph j.plan
    → children_of j.plan n ≡ Some (left, right) → g ≡ j.graph → h ≡ j.graph → k ≡ j.graph → t ≡ j.plan → u ≡ j.plan → w ≡ j.plan
    → l ≡ left → r ≡ right → AreParts (problem_at g t l no_shot) (problem_at h u r no_shot) (problem_at k w n no_shot)
scoped_parts j n left right l r g h k t u w plan children eg eh ek et eu ew el er =
    subst (λ x. AreParts x (problem_at h u r no_shot) (problem_at k w n no_shot)) (sym (at g t l left eg et el))
    (subst (λ x. AreParts (problem_at j.graph j.plan left no_shot) x (problem_at k w n no_shot)) (sym (at h u r right eh eu er))
    (subst (AreParts (problem_at j.graph j.plan left no_shot) (problem_at j.graph j.plan right no_shot)) (sym (at k w n n ek ew refl))
    (record {
      left_part = (child_is_part j.graph j.plan n left right no_shot plan children).0;
      right_part = (child_is_part j.graph j.plan n left right no_shot plan children).1;
      separated = children_are_separated j.graph j.plan n left right no_shot plan children;
    })))
  where
    at : (g : DecodingGraph) (t : PlanTree) (m k : ℕ) → g ≡ j.graph → t ≡ j.plan → m ≡ k → problem_at g t m no_shot ≡ problem_at j.graph j.plan k no_shot
    at g t m k a b c = ap (λ x. problem_at x t m no_shot) a ∙ (ap (λ x. problem_at j.graph x m no_shot) b ∙ ap (λ x. problem_at j.graph j.plan x no_shot) c)

module _ (left right : PartValue) (n : ℕ) (limits : IsWithinLimits (problem_at (graph_in left) left.job.plan n no_shot))
    (children : children_of left.job.plan n ≡ Some (left.node, right.node)) (one : IsPart left)
    (two : IsPart (record right { job = left.job; slot = left.slot })) (matched : left.matching.unmatched ≡ []) (also : right.matching.unmatched ≡ []) where
  abbrev pub p : Problem
  p = problem_in left

  abbrev pub q : Problem
  q = problem_at (graph_in left) left.job.plan right.node (solved_shot left)

  abbrev pub whole : Problem
  whole = problem_at (graph_in left) left.job.plan n (solved_shot left)

  abbrev pub middle : Problem
  middle = without_seam p q whole

  pub node_below : n < node_count left.job.plan
  node_below =
      let (i, less, is, join) = fusion_of left.job.plan n left.node right.node children in
      omega (arith, less, is)

  plan : IsPlan (graph_in left) left.job.plan
  plan = shot_plan left.job.graph left.job.plan (shot_of left) one.job.plan

  pub parts : AreParts p q whole
  parts = record {
    left_part = (child_is_part (graph_in left) left.job.plan n left.node right.node (solved_shot left) plan children).0;
    right_part = (child_is_part (graph_in left) left.job.plan n left.node right.node (solved_shot left) plan children).1;
    separated = children_are_separated (graph_in left) left.job.plan n left.node right.node (solved_shot left) plan children;
  }

  pub parts_middle : AreParts p q middle
  parts_middle = record {
    left_part = record { edges = refl; real = λ v h. or_left (p.is_real v) (q.is_real v) h; defects = λ v h. refl };
    right_part = record { edges = refl; real = λ v h. or_right (p.is_real v) (q.is_real v) h; defects = λ v h. refl };
    separated = parts.separated;
  }

  pub whole_limits : IsWithinLimits whole
  whole_limits = record { vertices = limits.vertices; edges = limits.edges; each_edge = limits.each_edge; real_below = limits.real_below }

  pub middle_real : (v : ℕ) → middle.is_real v ≡ true → whole.is_real v ≡ true
  middle_real v h = step (or_cases (p.is_real v) (q.is_real v) h)
    where
      step : (p.is_real v ≡ true) ⊎ (q.is_real v ≡ true) → whole.is_real v ≡ true
      step (inl k) = parts.left_part.real v k
      step (inr k) = parts.right_part.real v k

  pub middle_part : IsPartOfProblem middle whole
  middle_part = record { edges = refl; real = middle_real; defects = λ v h. refl }

  middle_limits : IsWithinLimits middle
  middle_limits = record {
    vertices = limits.vertices;
    edges = limits.edges;
    each_edge = limits.each_edge;
    real_below = λ v h. limits.real_below v (middle_real v h);
  }

  -- the seam is real in neither child, and in the whole
  pub seam_unreal : (v : ℕ) → is_owned_by left.job.plan n v ≡ true → middle.is_real v ≡ false
  seam_unreal v owned =
      let both = seam_is_apart left.job.graph left.job.plan n left.node right.node v (solved_shot left) one.job.plan children
      (owned_is_own left.job.graph left.job.plan n v one.job.plan owned) in
      or_from (p.is_real v) (q.is_real v) both.0 both.1

  pub real_either : (v : ℕ) → whole.is_real v ≡ (middle.is_real v || is_own left.job.graph left.job.plan n v)
  real_either v = fusion_is_parts left.job.graph left.job.plan n left.node right.node v (solved_shot left) one.job.plan children

  pub seam_real : (v : ℕ) → is_owned_by left.job.plan n v ≡ true → whole.is_real v ≡ true
  seam_real v owned =
      real_either v
      ∙ or_right (middle.is_real v) (is_own left.job.graph left.job.plan n v) (owned_is_own left.job.graph left.job.plan n v one.job.plan owned)

  pub real_covered : (v : ℕ) → whole.is_real v ≡ true → (middle.is_real v ≡ true) ⊎ (is_owned_by left.job.plan n v ≡ true)
  real_covered v real = step (or_cases (middle.is_real v) (is_own left.job.graph left.job.plan n v) (sym (real_either v) ∙ real))
    where
      step : (middle.is_real v ≡ true) ⊎ (is_own left.job.graph left.job.plan n v ≡ true)
          → (middle.is_real v ≡ true) ⊎ (is_owned_by left.job.plan n v ≡ true)
      step (inl h) = inl h
      step (inr h) = inr (own_is_owned left.job.graph left.job.plan n v h)

  pub leaves_apart : merged.AreLeavesApart left.store right.store
  leaves_apart d x y here there =
      both_ways (q.is_real d)
      (parts.separated.vertices d (leaf_real p left.nodes d one.state.work.nest.dual (leaf_held left.nodes left.store x d one.agreed here)))
      (leaf_real q right.nodes d two.state.work.nest.dual (leaf_held right.nodes right.store y d two.agreed there))

  module _ (links names : List (ℕ × ℕ)) (table : Table) (store : Store) (tables : AreMerged left.links right.links links table)
      (stores : merged.IsMerged left.store right.store store links names) where
    abbrev pub name : ℕ → ℕ
    name = name_by names

    abbrev pub link : ℕ → ℕ
    link = name_by links

    abbrev pub others : List Node
    others = renamed_nodes name right.nodes

    pub names_apart : AreRenamedApart name right.nodes
    names_apart = apart left.nodes right.nodes left.store right.store store links names one.agreed two.agreed stores

    pub names_own : HaveOwnNames left.nodes others
    names_own = own_names left.nodes right.nodes left.store right.store store links names one.agreed two.agreed stores

    pub nest_beside : IsNest middle (left.nodes ++ others)
    nest_beside =
        nests_merged p q middle left.nodes others middle_limits parts_middle names_own one.state.work.nest
        (nest_renamed q right.nodes name names_apart two.state.work.nest)

    -- the right part's matches are listed nowhere in the left one
    pub matches_distinct : AreDistinct (listed_names left.matching ++ matched_names (map (renamed_match link name) right.matching.matches))
    matches_distinct =
        subst AreDistinct
        (ap (λ l. (l ++ matched_names left.matching.matches) ++ map name (matched_names right.matching.matches)) (sym matched)
        ∙ ap (λ l. listed_names left.matching ++ l) (sym (names_renamed link name right.matching.matches)))
        (listed_beside p q whole left.nodes right.nodes name parts names_apart names_own one.state.work.nest two.state.work.nest
        nest_beside.dual.apart left.links right.links table link left.matching right.matching matched also one.matching two.matching)

    abbrev pub both_matched : MatchingValue
    both_matched = record { matches = left.matching.matches ++ map (renamed_match link name) right.matching.matches; unmatched = [] }

    abbrev pub before : PartValue
    before = record {
      job = left.job;
      slot = left.slot;
      node = n;
      nodes = left.nodes ++ others;
      links = table;
      store = store;
      matching = both_matched;
    }

    pub links_are : match_links both_matched.matches ≡ match_links left.matching.matches ++ map link (match_links right.matching.matches)
    links_are =
        map-append (λ m. m.link) left.matching.matches (map (renamed_match link name) right.matching.matches)
        ∙ ap (λ l. match_links left.matching.matches ++ l) (links_renamed link name right.matching.matches)

    pub rings_are : ring_links (left.nodes ++ others) store ≡ ring_links left.nodes left.store ++ map link (ring_links right.nodes right.store)
    rings_are =
        flat_map-append (λ m. map (λ s. s.link) (blossoms.cycle_at store m.name)) left.nodes others
        ∙ (ap (λ l. l ++ ring_links others store)
        (rings_same left.nodes left.store store
        (λ m a. ring_left left.nodes right.nodes left.store right.store store links names one.agreed two.agreed stores m.name (among_live left.nodes m m.name a refl)))
        ∙ ap (λ l. ring_links left.nodes left.store ++ l)
        (rings_renamed name link right.nodes right.store store
        (λ m a. ring_right left.nodes right.nodes left.store right.store store links names one.agreed two.agreed stores m.name (among_live right.nodes m m.name a refl))))

    pub kept_are : IsPermutation (kept_links left ++ map link (kept_links right)) (kept_links before)
    kept_are =
        subst (λ l. IsPermutation (kept_links left ++ l) (kept_links before))
        (sym (map-append link (match_links right.matching.matches) (ring_links right.nodes right.store)))
        (subst (λ l. IsPermutation (kept_links left ++ (map link (match_links right.matching.matches) ++ map link (ring_links right.nodes right.store))) (l ++ ring_links (left.nodes ++ others) store)) (sym links_are)
        (subst (λ l. IsPermutation (kept_links left ++ (map link (match_links right.matching.matches) ++ map link (ring_links right.nodes right.store)))
        ((match_links left.matching.matches ++ map link (match_links right.matching.matches)) ++ l)) (sym rings_are)
        (crossed (match_links left.matching.matches) (ring_links left.nodes left.store) (map link (match_links right.matching.matches))
        (map link (ring_links right.nodes right.store)))))

    pub live_left : (e : Match) → IsAmong e left.matching.matches → is_link left.links e.link ≡ true
    live_left e a =
        one.links.live e.link
        ∙ (is_in-append (match_links left.matching.matches) (ring_links left.nodes left.store) e.link
        ∙ or_left (is_in (match_links left.matching.matches) e.link) (is_in (ring_links left.nodes left.store) e.link) (link_in left.matching.matches e a))

    pub live_right : (e : Match) → IsAmong e right.matching.matches → is_link right.links e.link ≡ true
    live_right e a =
        two.links.live e.link
        ∙ (is_in-append (match_links right.matching.matches) (ring_links right.nodes right.store) e.link
        ∙ or_left (is_in (match_links right.matching.matches) e.link) (is_in (ring_links right.nodes right.store) e.link) (link_in right.matching.matches e a))

    -- Both are a part of the problem in which the seam is not real yet.
    abbrev pub beside : IsBeside before
    beside = record {
      slot = one.slot;
      node = node_below;
      real = seam_real;
      problem = middle;
      edges = refl;
      apart = seam_unreal;
      part = middle_real;
      covered = real_covered;
      nest = nest_beside;
      agreed = agreed_beside left.nodes right.nodes left.store right.store store links names one.agreed two.agreed stores;
      links = links_beside left.links right.links table links tables (kept_links left) (kept_links right) (kept_links before) one.links.live two.links.live
          one.links.distinct two.links.distinct kept_are p q middle refl refl parts_middle.left_part.real parts_middle.right_part.real one.links.steps two.links.steps;
      matching =
          matching_beside p q whole left.nodes right.nodes name parts names_apart names_own one.state.work.nest two.state.work.nest nest_beside.dual.apart
          left.links right.links table link left.matching right.matching matched also one.matching two.matching
          (λ e a. All_among (IsLinkOf p) (map (link_by left.links) (match_links left.matching.matches)) one.state.work.work.matching.links_are.own (link_by left.links e.link)
          (map_among (link_by left.links) (match_links left.matching.matches) e.link (map_among (λ m. m.link) left.matching.matches e a)))
          (λ e a. All_among (IsLinkOf q) (map (link_by right.links) (match_links right.matching.matches)) two.state.work.work.matching.links_are.own (link_by right.links e.link)
          (map_among (link_by right.links) (match_links right.matching.matches) e.link (map_among (λ m. m.link) right.matching.matches e a)))
          (λ e a. link_left left.links right.links table links tables e.link (live_left e a))
          (λ e a. link_right left.links right.links table links tables e.link (live_right e a));
    }
