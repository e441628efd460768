-- A tree among others ends: they are growing trees still, without it.
use Rattle.std.proofs.Common.{ℕ, ◌≡◌, ◌+◌, ◌*◌, ◌≤◌, ◌<◌, ◌⊎◌, inl, inr, true, All, List, [], ◌∷◌, ◌++◌, map, length, get_or, Option, Some, refl, sym, ap, subst, ◌∙◌, append_assoc, append-nil, arith}
use Rattle.std.specs.List.Sorted.{IsPermutation}
use Rattle.std.proofs.lemmas.Grind.{flat_map-append}
use Rattle.std.proofs.lemmas.List.{map-append}
use Rattle.std.proofs.lemmas.List.Sorted.{IsPermutation-append_left, IsPermutation-append_right, IsPermutation-trans, length_permutation}
use Rattle.fb_graph.specs.Certificate.{AreDistinct}
use Rattle.fb_graph.specs.Parity.{is_in}
use Rattle.fb_graph.specs.Laws.{Link}
use Rattle.fb_graph.proofs.Among.{IsAmong, All_among, among_either}
use Rattle.fb_laws.specs.ForestStates.{IsForestState, among_trees, tree_of}
use Rattle.fb_laws.specs.LinkNumbers.{links_dropped}
use Rattle.fb_laws.specs.Searches.{IsSearch}
use Rattle.fb_laws.specs.TreeCycles.{nodes_along}
use Rattle.fb_laws.specs.Trees.{branches_beside, grown_links, paired_links, path_to}
use Rattle.fb_laws.specs.Forests.{forest_paired}
use Rattle.fb_laws.proofs.ForestStates.{forest_tree}
use Rattle.fb_laws.proofs.OpenedBlossoms.{distinct_permuted}
use Rattle.fb_graph.proofs.Members.{distinct_left}
use Rattle.fb_links.proofs.MovedLinks.{Table}
use Rattle.fb_trees.specs.Branches.{Grown}
use Rattle.fb_trees.specs.Forests.{all_minus, all_plus, all_roles, tree_at, trees_in}
use Rattle.fb_trees.specs.Rooted.{AreHung, IsPlus}
use Rattle.fb_trees.proofs.Mapped.{beside_moved, grown_moved, paired_moved, path_moved}
use Rattle.fb_half.specs.declared.matches.Match.{Match}
use Rattle.fb_half.specs.Matchings.{IsMatchingOf, MatchingValue, listed_names, match_links, matched_names, names_of}
use Rattle.fb_half.specs.Parts.{AreLinksOf, problem_in}
use Rattle.fb_half.specs.Translations.{cycles_by, entry_by, link_by, ring_links}
use Rattle.fb_obstacles.specs.Obstacles.{AreMinusBounded, IsWatched, slack_at}
use Rattle.fb_obstacles.specs.Watched.{AreBounded, Watched, has_bound}
use Rattle.fb_search.specs.InternalEndings.{ended_matches}
use Rattle.fb_search.specs.InternalGrowing.{GrowingValue, IsGrowing, all_along, forest_state_at, grown_ids, roles_among, tree_by, waiting_in}
use Rattle.fb_search.specs.InternalGrowth.{GrowsOn}
use Rattle.fb_search.specs.InternalGrowingEnds.{WatchesEach}
use Rattle.fb_search.proofs.DissolvedForests.{IsLeft, links_left, matching_left}
use Rattle.fb_search.proofs.DissolvedWatches.{bounds_fewer, watch_fewer}
use Rattle.fb_search.proofs.EndedAmong.{counted_step}
use Rattle.fb_search.proofs.EndedLinks.{names_listed}
use Rattle.fb_search.proofs.EndedMatches.{AreTaken, LeadsBy, tree_matches_lead}
use Rattle.fb_search.proofs.EndedParts.{reordered}
use Rattle.fb_search.proofs.EndedTrees.{matches_linked}
use Rattle.fb_search.proofs.ForestPlaces.{after_by, before_by, own_state, state_among, trees_beside}
use Rattle.fb_search.proofs.GrowingRoles.{roles_are_all}
use Rattle.fb_search.proofs.MinusBounds.{minus_fewer}
use Rattle.fb_search.proofs.TreeEnds.{hung_of}
use Rattle.fb_search.proofs.TreesBeside.{along_beside, first_beside, ids_beside}
use Rattle.fb_search.proofs.WaitingStates.{waiting_among}

-- the trees that are left, with these matches
abbrev pub left_growth : GrowingValue → Table → MatchingValue → List (Option Grown) → Watched → GrowingValue
left_growth w new m forest watched = record {
  part = record w.part { links = new; matching = m };
  forest = forest;
  watched = watched;
}

-- Some trees are gone, each with one or two unmatched nodes, and no node waits that did not.
pub record AreGone (w : GrowingValue) (left : List Grown) (unmatched : List ℕ) : Type 0 where
  pub taken : ℕ
  pub ended : ℕ
  pub some : 1 ≤ ended
  pub least : ended ≤ taken
  pub most : taken ≤ 2 * ended
  pub nodes : length w.part.matching.unmatched ≡ length unmatched + taken
  pub trees : length (trees_in w.forest) ≡ length left + ended
  pub waits : (n : ℕ) → is_in (waiting_among left unmatched) n ≡ true → is_in (waiting_in w) n ≡ true

module _ (w : GrowingValue) (left : List Grown) (new : Table) (unmatched : List ℕ) (kept ends : List Match) (out : Match)
    (are : IsGrowing w) (is : IsLeft w left new unmatched kept ends out) (forest : List (Option Grown))
    (same : trees_in forest ≡ left) (watched : Watched) (names : List ℕ)
    (plus : (n : ℕ) → is_in (all_plus left) n ≡ true → is_in (all_plus (trees_in w.forest)) n ≡ true)
    (minus : (n : ℕ) → is_in (all_minus (trees_in w.forest)) n ≡ true
    → (is_in names n ≡ true) ⊎ (is_in (all_minus left) n ≡ true))
    (watches : WatchesEach (problem_in w.part) w.part.nodes names w.watched watched)
    (within : All (λ k. k < watched.edge_count) watched.edges) where
  room : watched.edge_count ≡ length (problem_in w.part).edges
  room = watches.room ∙ are.room

  -- they keep what growing trees keep
  pub growing_left : ((n : ℕ) → is_in (all_minus left) n ≡ true → is_in (all_minus (trees_in w.forest)) n ≡ true) → (parity : ℕ)
      → IsForestState (problem_in w.part)
      (record {
        nodes = w.part.nodes;
        cycles = cycles_by new w.part.store;
        trees = map (tree_by new) left;
        rest = map (link_by new) (match_links (kept ++ (ends ++ out ∷ [])));
        unmatched = unmatched;
        waiting = waiting_among left unmatched;
        parity = parity;
      })
      → IsGrowing (left_growth w new (record { matches = kept ++ (ends ++ out ∷ []); unmatched = unmatched }) forest watched)
  growing_left stayed parity law = record {
    job = are.job;
    slot = are.slot;
    node = are.node;
    state = (parity, state);
    agreed = are.agreed;
    links =
        subst
        (λ l. AreLinks l) (sym same) (links_left w left new unmatched kept ends out are is);
    matching =
        subst (λ l. AreMatched l) (sym same) (matching_left w left new unmatched kept ends out are is);
    room = room;
    watch =
        subst (λ r. IsWatched (problem_in w.part) r w.part.nodes watched.edges) (sym now)
        (watch_fewer (problem_in w.part) (all_roles (trees_in w.forest)) (all_roles (trees_in forest)) w.part.nodes names w.watched
        watched more less watches (subst (λ n. All (λ k. k < n) watched.edges) room within)
        (subst (λ r. IsWatched (problem_in w.part) r w.part.nodes w.watched.edges) was are.watch));
    bounds =
        subst (λ r. AreBounded (slack_at (problem_in w.part) r w.part.nodes) watched) (sym now)
        (bounds_fewer (problem_in w.part) (all_roles (trees_in w.forest)) (all_roles (trees_in forest)) w.part.nodes names w.watched
        watched more less watches are.state.1.nest.dual.names
        (subst (λ r. AreBounded (slack_at (problem_in w.part) r w.part.nodes) w.watched) was are.bounds));
    minus =
        subst (λ r. AreMinusBounded r w.part.nodes watched) (sym now)
        (minus_fewer (all_roles (trees_in w.forest)) (all_roles (trees_in forest)) w.part.nodes w.watched watched
        (λ name limit is. subst (λ bs. has_bound bs name limit ≡ true) (sym watches.minus) is)
        (λ i d less minus.
        let name = (get_or w.part.nodes i d).name in
        inl (stayed name (ap (λ l. is_in (all_minus l) name) (sym same) ∙ minus)))
        (subst (λ r. AreMinusBounded r w.part.nodes w.watched) was are.minus));
  }
    where
      AreLinks : List Grown → Type 0
      AreLinks l =
          AreLinksOf (problem_in w.part) new
          (grown_ids l ++ (match_links (kept ++ (ends ++ out ∷ [])) ++ ring_links w.part.nodes w.part.store))

      AreMatched : List Grown → Type 0
      AreMatched l =
          IsMatchingOf (problem_in w.part) w.part.nodes new
          (record { matches = kept ++ (ends ++ out ∷ []); unmatched = unmatched }) (all_along l)

      state : IsForestState (problem_in w.part)
          (forest_state_at (left_growth w new (record { matches = kept ++ (ends ++ out ∷ []); unmatched = unmatched }) forest watched) parity)
      state =
          subst
          (λ l.
          IsForestState (problem_in w.part)
          (record {
            nodes = w.part.nodes;
            cycles = cycles_by new w.part.store;
            trees = map (tree_by new) l;
            rest = map (link_by new) (match_links (kept ++ (ends ++ out ∷ [])));
            unmatched = unmatched;
            waiting = waiting_among l unmatched;
            parity = parity;
          }))
          (sym same) law

      was : roles_among w.forest ≡ all_roles (trees_in w.forest)
      was = roles_are_all w are.state.0 are.state.1

      now : roles_among forest ≡ all_roles (trees_in forest)
      now =
          roles_are_all
          (left_growth w new (record { matches = kept ++ (ends ++ out ∷ []); unmatched = unmatched }) forest watched) parity state

      more : (n : ℕ) → is_in (all_plus (trees_in forest)) n ≡ true → is_in (all_plus (trees_in w.forest)) n ≡ true
      more n h = plus n (ap (λ l. is_in (all_plus l) n) (sym same) ∙ h)

      less : (n : ℕ) → is_in (all_minus (trees_in w.forest)) n ≡ true
          → (is_in names n ≡ true) ⊎ (is_in (all_minus (trees_in forest)) n ≡ true)
      less n h = subst (λ l. (is_in names n ≡ true) ⊎ (is_in (all_minus l) n ≡ true)) (sym same) (minus n h)

  -- and less is left to do
  pub grows_left : AreGone w left unmatched
      → GrowsOn w (left_growth w new (record { matches = kept ++ (ends ++ out ∷ []); unmatched = unmatched }) forest watched)
  grows_left gone = record {
    grown = record {
      part = record { job = refl; slot = refl; node = refl };
      waits = λ n h. gone.waits n (ap (λ l. is_in (waiting_among l unmatched) n) (sym same) ∙ h);
      kept = λ n h. refl;
      least = omega (arith, gone.least, gone.nodes, gone.trees, counted);
      most = omega (arith, gone.most, gone.nodes, gone.trees, counted);
    };
    less = inl (omega (arith, gone.some, gone.least, gone.nodes));
  }
    where
      counted : length (trees_in forest) ≡ length left
      counted = ap length same

-- one of the trees
module _ (w : GrowingValue) (t : ℕ) (g : Grown) (name : ℕ) (are : IsGrowing w) (at : tree_at w.forest t ≡ Some g)
    (plus : IsPlus g name) where
  pub state_of_one : IsForestState (problem_in w.part) (among_trees (before_by w t) (after_by w t) (waiting_in w) (own_state w g are.state.0))
  state_of_one = subst (IsForestState (problem_in w.part)) (state_among w t g are.state.0 at) are.state.1

  own_search : IsSearch (problem_in w.part) w.part.nodes (map (entry_by w.part.links) g.branches)
      (forest_paired (before_by w t ++ after_by w t) ++ map (link_by w.part.links) (match_links w.part.matching.matches))
      w.part.matching.unmatched g.root are.state.0
  own_search =
      forest_tree (problem_in w.part) w.part.nodes (before_by w t) (after_by w t) (tree_of (own_state w g are.state.0))
      (map (link_by w.part.links) (match_links w.part.matching.matches)) w.part.matching.unmatched (waiting_in w) are.state.0
      state_of_one.forest

  pub root_unmatched : is_in w.part.matching.unmatched g.root ≡ true
  root_unmatched = own_search.open_root

  pub tree_hung_in : AreHung g.root g.branches
  tree_hung_in = hung_of w.part.nodes g.root w.part.links g.branches own_search.joined

  abbrev left : List Grown
  left = trees_beside w.forest t

  abbrev ends : List Match
  ends = ended_matches g.branches name

  abbrev rings : List ℕ
  rings = ring_links w.part.nodes w.part.store

  -- its root is gone with it
  pub gone_one : (unmatched : List ℕ) → IsPermutation w.part.matching.unmatched (g.root ∷ unmatched)
      → ((n : ℕ) → is_in (waiting_among (trees_beside w.forest t) unmatched) n ≡ is_in (waiting_in w) n)
      → AreGone w (trees_beside w.forest t) unmatched
  gone_one unmatched moved waits = record {
    taken = 1;
    ended = 1;
    some = omega arith;
    least = omega arith;
    most = omega arith;
    nodes = omega (arith, length_permutation w.part.matching.unmatched (g.root ∷ unmatched) moved);
    trees = omega (arith, length_permutation (trees_in w.forest) (g ∷ trees_beside w.forest t) (first_beside w.forest t g at));
    waits = λ n h. sym (waits n) ∙ h;
  }

  -- each link is kept or dropped
  pub counted_one : (kept : List Match)
      → IsPermutation (grown_ids (trees_in w.forest) ++ (match_links kept ++ ring_links w.part.nodes w.part.store))
      ((match_links (kept ++ ended_matches g.branches name) ++ (grown_ids (trees_beside w.forest t) ++ ring_links w.part.nodes w.part.store))
      ++ links_dropped g.branches name)
  counted_one kept =
      IsPermutation-trans _ _ _ (IsPermutation-append_left (match_links kept ++ rings) _ _ (ids_beside w.forest t g at))
      (counted_step g name left kept rings)

  -- and each node is listed once
  pub listed_one : (unmatched : List ℕ) (kept : List Match) (out : Match)
      → AreTaken w.part.matching g.root name unmatched kept out
      → IsPermutation (listed_names w.part.matching ++ all_along (trees_in w.forest))
      ((unmatched ++ matched_names (kept ++ (ended_matches g.branches name ++ out ∷ []))) ++ all_along (trees_beside w.forest t))
  listed_one unmatched kept out takes =
      IsPermutation-trans _ _ _
      (IsPermutation-append_right (listed_names w.part.matching) _ _ (along_beside w.forest t g at))
      (subst (λ l. IsPermutation l ((unmatched ++ matched_names (kept ++ (ends ++ out ∷ []))) ++ all_along left))
      (append_assoc (listed_names w.part.matching) (nodes_along g.branches) (all_along left))
      (IsPermutation-append_left (all_along left) _ _
      (subst (IsPermutation (listed_names w.part.matching ++ nodes_along g.branches)) (sym whole)
      (names_listed w.part.matching g.root name g.branches takes.taken unmatched kept tree_hung_in plus takes.listed))))
    where
      whole : unmatched ++ matched_names (kept ++ (ends ++ out ∷ []))
          ≡ (unmatched ++ matched_names kept) ++ (matched_names ends ++ name ∷ takes.taken)
      whole =
          ap (λ l. unmatched ++ l)
          (flat_map-append names_of kept (ends ++ out ∷ [])
          ∙ ap (λ l. matched_names kept ++ l)
          (flat_map-append names_of ends (out ∷ [])
          ∙ ap (λ l. matched_names ends ++ l) (append-nil (names_of out) ∙ takes.names)))
          ∙ sym (append_assoc unmatched (matched_names kept) (matched_names ends ++ name ∷ takes.taken))

  -- so no name is matched twice
  pub apart_one : (unmatched : List ℕ) (kept : List Match) (out : Match)
      → AreTaken w.part.matching g.root name unmatched kept out
      → AreDistinct ((unmatched ++ matched_names kept) ++ matched_names (ended_matches g.branches name ++ out ∷ []))
  apart_one unmatched kept out takes =
      subst AreDistinct
      (ap (λ l. unmatched ++ l) (flat_map-append names_of kept (ends ++ out ∷ []))
      ∙ sym (append_assoc unmatched (matched_names kept) (matched_names (ends ++ out ∷ []))))
      (distinct_left (unmatched ++ matched_names (kept ++ (ends ++ out ∷ []))) (all_along left)
      (distinct_permuted _ _ (listed_one unmatched kept out takes) are.matching.distinct))

  pub lead_one : (kept : List Match) → ((e : Match) → IsAmong e kept → IsAmong e w.part.matching.matches) → (e : Match)
      → IsAmong e (kept ++ ended_matches g.branches name) → LeadsBy (problem_in w.part) w.part.nodes w.part.links e
  lead_one kept kept_are e a = by (among_either kept ends e a)
    where
      by : IsAmong e kept ⊎ IsAmong e ends → LeadsBy (problem_in w.part) w.part.nodes w.part.links e
      by (inl b) =
          All_among (LeadsBy (problem_in w.part) w.part.nodes w.part.links) w.part.matching.matches are.matching.connects e
          (kept_are e b)
      by (inr b) =
          tree_matches_lead (problem_in w.part) w.part.nodes g.root name w.part.links g.branches own_search.joined e b

  -- the links that the law gives are those of the matches
  pub rest_one : (kept : List Match) (o : Link)
      → IsPermutation
      (grown_links (path_to (map (entry_by w.part.links) g.branches) name)
      ++ o ∷ (paired_links (branches_beside (map (entry_by w.part.links) g.branches) name) ++ map (link_by w.part.links) (match_links kept)))
      (map (link_by w.part.links) (match_links (kept ++ ended_matches g.branches name)) ++ o ∷ [])
  rest_one kept o =
      subst (IsPermutation _) (ap (λ l. l ++ o ∷ []) (sym apart))
      (subst (λ l. IsPermutation l ((others ++ (up ++ off)) ++ o ∷ [])) (sym law) (reordered up off others o))
    where
      by : ℕ → Link
      by = link_by w.part.links

      up : List Link
      up = map by (grown_links (path_to g.branches name))

      off : List Link
      off = map by (paired_links (branches_beside g.branches name))

      others : List Link
      others = map by (match_links kept)

      law : grown_links (path_to (map (entry_by w.part.links) g.branches) name)
          ++ o ∷ (paired_links (branches_beside (map (entry_by w.part.links) g.branches) name) ++ others)
          ≡ up ++ o ∷ (off ++ others)
      law =
          (λ k. (ap grown_links (path_moved by g.branches name) ∙ grown_moved by (path_to g.branches name)) k
          ++ o
          ∷ ((ap paired_links (beside_moved by g.branches name) ∙ paired_moved by (branches_beside g.branches name)) k ++ others))

      apart : map by (match_links (kept ++ ends)) ≡ others ++ (up ++ off)
      apart =
          ap (map by) (map-append (λ (m : Match). m.link) kept ends)
          ∙ map-append by (match_links kept) (match_links ends)
          ∙ ap (λ l. others ++ map by l) (matches_linked g.branches name)
          ∙ ap (λ l. others ++ l)
          (map-append by (grown_links (path_to g.branches name)) (paired_links (branches_beside g.branches name)))
