-- Trees one of which has taken in a node that it has met and this node's mate keep what they kept, and have less to do.
use Rattle.std.proofs.Common.{ℕ, ◌≡◌, ◌==◌, ◌*◌, ◌<◌, ◌||◌, ◌⊎◌, inl, inr, Bool, true, false, All, List, [], ◌∷◌, ◌++◌, map, filter, not, set, length, Option, Some, unwrap_or, refl, sym, ap, subst, ◌∙◌, arith, le_refl, if◌then◌else◌}
use Rattle.std.specs.List.Sorted.{IsPermutation}
use Rattle.std.specs.Option.{is_some}
use Rattle.std.proofs.lemmas.Bool.{ne_eqb, false≢true}
use Rattle.std.proofs.lemmas.List.Sorted.{IsPermutation-append_left, IsPermutation-append_right, IsPermutation-cons, IsPermutation-map, IsPermutation-middle, IsPermutation-sym, IsPermutation-trans}
use Rattle.fb_graph.specs.Parity.{is_in}
use Rattle.fb_graph.specs.Problem.{Problem}
use Rattle.fb_graph.specs.Dual.{Node, top_at}
use Rattle.fb_graph.specs.Laws.{Link}
use Rattle.fb_graph.specs.Limits.{IsWithinLimits}
use Rattle.fb_graph.proofs.Floods.{is_in-left, is_in-right}
use Rattle.fb_graph.proofs.Sets.{is_in-cases, is_in-head, is_in-tail}
use Rattle.fb_graph.proofs.TightLinks.{all_even}
use Rattle.fb_laws.specs.Forests.{forest_roles}
use Rattle.fb_laws.specs.ForestStates.{ForestState, IsForestState, among_trees}
use Rattle.fb_laws.specs.LinkNumbers.{tree_links}
use Rattle.fb_laws.specs.Measures.{IsLower}
use Rattle.fb_laws.specs.SearchLayers.{left_to_do}
use Rattle.fb_laws.specs.StateMoves.{MayAttach, attached_state}
use Rattle.fb_laws.specs.TreeCycles.{nodes_along}
use Rattle.fb_laws.specs.Trees.{EntryOf, Connects, grown_links, minus_names, paired_links, plus_names}
use Rattle.fb_laws.specs.Works.{AreMatchedLinks}
use Rattle.fb_laws.proofs.ForestMeasures.{forest_attached_less}
use Rattle.fb_laws.proofs.ForestMoves.{forest_state_attached}
use Rattle.fb_laws.proofs.OpenedBlossoms.{distinct_permuted, same_permuted}
use Rattle.fb_links.specs.Table as table
use Rattle.fb_links.specs.declared.walk.Step.{Step}
use Rattle.fb_half.specs.declared.matches.Match.{Match}
use Rattle.fb_half.specs.Matchings.{IsMatchingOf, MatchingValue, listed_names, match_links}
use Rattle.fb_half.specs.Parts.{AreLinksOf, problem_in}
use Rattle.fb_half.specs.Translations.{entry_by, link_by, link_of, ring_links}
use Rattle.fb_regions.specs.Paces.{grows, shrinks}
use Rattle.fb_obstacles.specs.Obstacles.{IsWatched, slack_at}
use Rattle.fb_obstacles.specs.Watched.{AreBounded, Watched}
use Rattle.fb_obstacles.specs.InternalWatching.{EntersNode, Watches}
use Rattle.fb_regions.specs.Moves.{node_named}
use Rattle.fb_regions.specs.declared.roles.Role.TheVariants.{Plus, Minus, Out}
use Rattle.fb_trees.specs.Branches.{Grown}
use Rattle.fb_trees.specs.Forests.{all_minus, all_plus, all_roles, tree_at, trees_in}
use Rattle.fb_trees.specs.Rooted.{attached_grown}
use Rattle.fb_trees.proofs.ForestsCounted.{as_many}
use Rattle.fb_trees.proofs.Mapped.{plus_moved}
use Rattle.fb_search.specs.declared.growing_meets.Met.{Met}
use Rattle.fb_search.specs.InternalGrowing.{GrowingValue, IsGrowing, IsGrowingBeside, all_along, forest_state_at, grown_ids, roles_among, tree_by, waiting_in}
use Rattle.fb_search.specs.InternalGrowth.{GrowsOn}
use Rattle.fb_search.specs.InternalMeetings.{IsCouple}
use Rattle.fb_search.specs.InternalTreeMeetings.{HasMetTree, rematched_growing}
use Rattle.fb_search.proofs.AttachedMatches.{matching_attached}
use Rattle.fb_search.proofs.AttachedRoles.{TakesPlus, bounded_taking, watch_taking}
use Rattle.fb_search.proofs.AttachedSearches.{branch_met}
use Rattle.fb_search.proofs.BegunForests.{plus_named}
use Rattle.fb_search.proofs.GrowingMinus.{minus_entered, minus_taken}
use Rattle.fb_search.proofs.GrowingRoles.{roles_numbers}
use Rattle.fb_search.proofs.Linked.{links_reordered}
use Rattle.fb_search.proofs.MetMatches.{couple_names}
use Rattle.fb_search.proofs.RelinkedForests.{growing_linked, relinked_growing}
use Rattle.fb_search.proofs.SplitForests.{IsAmongTrees, along_append, among_others, beside_by, ids_append, minus_append, plus_append, state_among, tree_state}
use Rattle.fb_search.proofs.TreeMatches.{couple_joins, names_without}
use Rattle.fb_search.proofs.WaitingNames.{roots_kept}

-- a list in the middle of two others gets new heads
moved_out : (before mid after : List ℕ) (x : ℕ) → IsPermutation (before ++ ((x ∷ mid) ++ after)) (x ∷ (before ++ (mid ++ after)))
moved_out before mid after x = IsPermutation-middle before x (mid ++ after)

-- a link of the tree, and one of the matches, which goes into the tree, come in front
numbers_grown : (link matched : ℕ) (before grown paired after old matches rings : List ℕ) → IsPermutation old (matched ∷ matches)
    → IsPermutation (link ∷ ((before ++ ((grown ++ paired) ++ after)) ++ (old ++ rings)))
    ((before ++ (((link ∷ grown) ++ (matched ∷ paired)) ++ after)) ++ (matches ++ rings))
numbers_grown link matched before grown paired after old matches rings moved =
    IsPermutation-trans _ _ _
    (IsPermutation-cons link _ _
    (IsPermutation-trans _ _ _
    (IsPermutation-append_right (before ++ ((grown ++ paired) ++ after)) _ _ (IsPermutation-append_left rings old (matched ∷ matches) moved))
    (IsPermutation-middle (before ++ ((grown ++ paired) ++ after)) matched (matches ++ rings))))
    (IsPermutation-append_left (matches ++ rings) (link ∷ matched ∷ (before ++ ((grown ++ paired) ++ after))) _
    (IsPermutation-sym _ _
    (IsPermutation-trans _ _ _ (moved_out before (grown ++ (matched ∷ paired)) after link)
    (IsPermutation-cons link _ _
    (IsPermutation-trans _ _ _
    (IsPermutation-append_right before ((grown ++ (matched ∷ paired)) ++ after) ((matched ∷ (grown ++ paired)) ++ after)
    (IsPermutation-append_left after (grown ++ matched ∷ paired) (matched ∷ (grown ++ paired)) (IsPermutation-middle grown matched paired)))
    (moved_out before (grown ++ paired) after matched))))))

-- the nodes beside a matching in another order
listed_permuted : (p : Problem) (nodes : List Node) (links : List (Option (List Step))) (m : MatchingValue) (others more : List ℕ)
    → IsPermutation others more → IsMatchingOf p nodes links m others → IsMatchingOf p nodes links m more
listed_permuted p nodes links m others more moved are =
    let all = IsPermutation-append_right (listed_names m) others more moved in
    record {
      distinct = distinct_permuted (listed_names m ++ others) (listed_names m ++ more) all are.distinct;
      live = λ n h. are.live n (sym (same_permuted (listed_names m ++ others) (listed_names m ++ more) all n) ∙ h);
      all = λ n live outer. same_permuted (listed_names m ++ others) (listed_names m ++ more) all n ∙ are.all n live outer;
      connects = are.connects;
    }

-- the trees with this branch, and with these edges watched
abbrev pub with_grown : ℕ → Grown → EntryOf ℕ → Watched → GrowingValue → GrowingValue
with_grown t g e watched w = record { part = w.part; forest = set w.forest t (Some (attached_grown g e)); watched = watched }

-- the roles that the branch adds
module _ (f : List (Option Grown)) (t : ℕ) (g : Grown) (at : tree_at f t ≡ Some g) (e : EntryOf ℕ) where
  abbrev now : List (Option Grown)
  now = set f t (Some (attached_grown g e))

  split : IsAmongTrees f t g
  split = among_others f t g at

  plus_was : (n : ℕ) → is_in (all_plus (trees_in f)) n
      ≡ is_in (all_plus split.before ++ (plus_names g.root g.branches ++ all_plus split.after)) n
  plus_was n = ap (λ ts. is_in (all_plus ts) n) split.there ∙ ap (λ l. is_in l n) (plus_append split.before (g ∷ split.after))

  plus_is : (n : ℕ) → is_in (all_plus (trees_in now)) n ≡ is_in (e.plus ∷ all_plus (trees_in f)) n
  plus_is n =
      ap (λ ts. is_in (all_plus ts) n) (split.put (attached_grown g e))
      ∙ (ap (λ l. is_in l n) (plus_append split.before (attached_grown g e ∷ split.after))
      ∙ (sym (same_permuted (all_plus split.before ++ ((e.plus ∷ plus_names g.root g.branches) ++ all_plus split.after))
      (e.plus ∷ (all_plus split.before ++ (plus_names g.root g.branches ++ all_plus split.after)))
      (moved_out (all_plus split.before) (plus_names g.root g.branches) (all_plus split.after) e.plus) n)
      ∙ ap (λ b. (e.plus == n) || b) (sym (plus_was n))))

  minus_was : (n : ℕ) → is_in (all_minus (trees_in f)) n
      ≡ is_in (all_minus split.before ++ (minus_names g.branches ++ all_minus split.after)) n
  minus_was n = ap (λ ts. is_in (all_minus ts) n) split.there ∙ ap (λ l. is_in l n) (minus_append split.before (g ∷ split.after))

  minus_is : (n : ℕ) → is_in (all_minus (trees_in now)) n ≡ is_in (e.minus ∷ all_minus (trees_in f)) n
  minus_is n =
      ap (λ ts. is_in (all_minus ts) n) (split.put (attached_grown g e))
      ∙ (ap (λ l. is_in l n) (minus_append split.before (attached_grown g e ∷ split.after))
      ∙ (sym (same_permuted (all_minus split.before ++ ((e.minus ∷ minus_names g.branches) ++ all_minus split.after))
      (e.minus ∷ (all_minus split.before ++ (minus_names g.branches ++ all_minus split.after)))
      (moved_out (all_minus split.before) (minus_names g.branches) (all_minus split.after) e.minus) n)
      ∙ ap (λ b. (e.minus == n) || b) (sym (minus_was n))))

  takes_plus : TakesPlus (roles_among f) (roles_among now) e.plus
  takes_plus = record {
    plus = λ n plus. by n (is_in-cases e.plus (all_plus (trees_in f)) n (sym (plus_is n) ∙ plus_named now n plus));
    minus = λ n other minus.
        still (is_in (all_plus (trees_in now)) n) (is_in (all_minus (trees_in now)) n)
        (plus_is n ∙ (ap (λ b. b || is_in (all_plus (trees_in f)) n) (ne_eqb e.plus n other)
        ∙ no_plus (is_in (all_plus (trees_in f)) n) (is_in (all_minus (trees_in f)) n) minus))
        (minus_is n ∙ is_in-tail e.minus (all_minus (trees_in f)) n
        (some_minus (is_in (all_plus (trees_in f)) n) (is_in (all_minus (trees_in f)) n) minus));
  }
    where
      grown : (plus minus : Bool) → plus ≡ true → grows (if plus then Plus else (if minus then Minus else Out)) ≡ true
      grown plus minus h = ap (λ b. grows (if b then Plus else (if minus then Minus else Out))) h

      by : (n : ℕ) → (e.plus ≡ n) ⊎ (is_in (all_plus (trees_in f)) n ≡ true) → (e.plus ≡ n) ⊎ ((roles_among f).is_plus n ≡ true)
      by n (inl same) = inl same
      by n (inr old) = inr (grown (is_in (all_plus (trees_in f)) n) (is_in (all_minus (trees_in f)) n) old)

      no_plus : (plus minus : Bool) → shrinks (if plus then Plus else (if minus then Minus else Out)) ≡ true → plus ≡ false
      no_plus true minus h = absurd (false≢true h)
      no_plus false minus h = refl

      some_minus : (plus minus : Bool) → shrinks (if plus then Plus else (if minus then Minus else Out)) ≡ true → minus ≡ true
      some_minus true minus h = absurd (false≢true h)
      some_minus false true h = refl
      some_minus false false h = h

      still : (plus minus : Bool) → plus ≡ false → minus ≡ true → shrinks (if plus then Plus else (if minus then Minus else Out)) ≡ true
      still plus minus none some =
          ap (λ b. shrinks (if b then Plus else (if minus then Minus else Out))) none ∙ ap (λ b. shrinks (if b then Minus else Out)) some

  -- and the only node that is minus from now on
  minus_more : (n : ℕ) → (roles_among now).is_minus n ≡ true → (e.minus ≡ n) ⊎ ((roles_among f).is_minus n ≡ true)
  minus_more =
      minus_taken f now e.minus
      (λ n none. later (e.plus == n) (is_in (all_plus (trees_in f)) n) (sym (plus_is n) ∙ none))
      (λ n there. is_in-cases e.minus (all_minus (trees_in f)) n (sym (minus_is n) ∙ there))
    where
      later : (a b : Bool) → (a || b) ≡ false → b ≡ false
      later true b none = absurd (false≢true (sym none))
      later false b none = none

module _ (w : GrowingValue) (met : Met) (now : GrowingValue) (h : HasMetTree w met now) (mate : ℕ) (couple : IsCouple met.taken met.other mate)
    (t : ℕ) (g : Grown) (at : tree_at w.forest t ≡ Some g) (parent : is_in (plus_names g.root g.branches) met.plus ≡ true) where
  abbrev made_growing : GrowingValue
  made_growing = relinked_growing now.part.links w

  made : IsGrowingBeside (met.link ∷ []) made_growing
  made = growing_linked w met.link h.walk now.part.links h.was h.adds h.walk_is.walk_is.steps

  abbrev by : ℕ → Link
  by = link_by now.part.links

  abbrev rest : List Link
  rest = map by (match_links now.part.matching.matches)

  abbrev e : EntryOf ℕ
  e = branch_met met mate

  abbrev p : Problem
  p = problem_in w.part

  split_at : IsAmongTrees w.forest t g
  split_at = among_others w.forest t g at

  abbrev now_trees : List (Option Grown)
  now_trees = set w.forest t (Some (attached_grown g e))

  new_link : by met.link ≡ link_of h.walk
  new_link = ap (λ o. link_of (unwrap_or o [])) h.adds.added

  may : MayAttach p (tree_state made_growing g made.state.0) (entry_by now.part.links e) rest
  may = record {
    links = IsPermutation-map by _ _ (IsPermutation-map (λ (m : Match). m.link) _ _ h.matches);
    parent = ap (λ names. is_in names met.plus) (plus_moved by g.root g.branches) ∙ parent;
    tree = subst (λ l. Connects w.part.nodes l met.plus met.other) (sym new_link) h.walk_is.connects;
    matched = couple_joins p w.part.nodes now.part.links w.part.matching (all_along (trees_in w.forest)) made.matching met.taken
        now.part.matching.matches h.matches met.other mate couple;
    tight = subst (λ l. AreMatchedLinks p w.part.nodes (l ∷ [])) (sym new_link) h.walk_is.walk_is.tight;
  }

  ids_split : grown_ids (trees_in w.forest) ≡ grown_ids split_at.before ++ (tree_links g.branches ++ grown_ids split_at.after)
  ids_split = ap grown_ids split_at.there ∙ ids_append split_at.before (g ∷ split_at.after)

  ids_now : grown_ids (trees_in now_trees) ≡ grown_ids split_at.before ++ (tree_links (e ∷ g.branches) ++ grown_ids split_at.after)
  ids_now = ap grown_ids (split_at.put (attached_grown g e)) ∙ ids_append split_at.before (attached_grown g e ∷ split_at.after)

  links : AreLinksOf p now.part.links
      (grown_ids (trees_in now_trees) ++ (match_links now.part.matching.matches ++ ring_links w.part.nodes w.part.store))
  links =
      subst (λ ids. AreLinksOf p now.part.links (ids ++ (match_links now.part.matching.matches ++ ring_links w.part.nodes w.part.store))) (sym ids_now)
      (links_reordered p now.part.links _ _
      (numbers_grown met.link met.taken.link (grown_ids split_at.before) (grown_links g.branches) (paired_links g.branches)
      (grown_ids split_at.after) (match_links w.part.matching.matches) (match_links now.part.matching.matches) (ring_links w.part.nodes w.part.store)
      (IsPermutation-map (λ (m : Match). m.link) _ _ h.matches))
      (subst (λ ids. AreLinksOf p now.part.links (met.link ∷ (ids ++ (match_links w.part.matching.matches ++ ring_links w.part.nodes w.part.store)))) ids_split made.links))

  pub link_is_live : table.is_live now.part.links met.link ≡ true
  link_is_live = ap is_some h.adds.added

  pub taken_is_live : table.is_live now.part.links met.taken.link ≡ true
  taken_is_live =
      links.live met.taken.link
      ∙ is_in-left (grown_ids (trees_in now_trees))
      (match_links now.part.matching.matches ++ ring_links w.part.nodes w.part.store) met.taken.link
      (ap (λ ids. is_in ids met.taken.link) ids_now
      ∙ is_in-right (grown_ids split_at.before) (tree_links (e ∷ g.branches) ++ grown_ids split_at.after) met.taken.link
      (is_in-left (tree_links (e ∷ g.branches)) (grown_ids split_at.after) met.taken.link
      (is_in-right (met.link ∷ grown_links g.branches) (met.taken.link ∷ paired_links g.branches) met.taken.link
      (is_in-head met.taken.link (paired_links g.branches)))))

  -- the nodes beside the matching
  along_was : all_along (trees_in w.forest) ≡ all_along split_at.before ++ (nodes_along g.branches ++ all_along split_at.after)
  along_was = ap all_along split_at.there ∙ along_append split_at.before (g ∷ split_at.after)

  along_now : IsPermutation (met.other ∷ mate ∷ all_along (trees_in w.forest)) (all_along (trees_in now_trees))
  along_now =
      subst (IsPermutation (met.other ∷ mate ∷ all_along (trees_in w.forest)))
      (sym (ap all_along (split_at.put (attached_grown g e)) ∙ along_append split_at.before (attached_grown g e ∷ split_at.after)))
      (subst (λ l. IsPermutation (met.other ∷ mate ∷ l) (all_along split_at.before ++ ((met.other ∷ mate ∷ nodes_along g.branches) ++ all_along split_at.after)))
      (sym along_was)
      (IsPermutation-sym _ _
      (IsPermutation-trans _ _ _ (moved_out (all_along split_at.before) (mate ∷ nodes_along g.branches) (all_along split_at.after) met.other)
      (IsPermutation-cons met.other _ _ (moved_out (all_along split_at.before) (nodes_along g.branches) (all_along split_at.after) mate)))))

  -- the trees as the laws see them
  state_was : forest_state_at made_growing made.state.0
      ≡ among_trees (beside_by made_growing split_at.before) (beside_by made_growing split_at.after) (waiting_in w)
      (tree_state made_growing g made.state.0)
  state_was = state_among made_growing made.state.0 split_at.before split_at.after g split_at.there

  abbrev attached_growing : Watched → GrowingValue
  attached_growing new = with_grown t g e new (rematched_growing now.part.links now.part.matching.matches w)

  -- the same nodes wait
  same_waiting : waiting_in (attached_growing w.watched) ≡ waiting_in w
  same_waiting =
      ap (λ roots. filter (λ n. not (is_in roots n)) w.part.matching.unmatched) (roots_kept w.forest t g at (attached_grown g e) refl)

  abbrev attached_among : List ℕ → ForestState
  attached_among waiting =
      among_trees (beside_by made_growing split_at.before) (beside_by made_growing split_at.after) waiting
      (attached_state (entry_by now.part.links e) rest (tree_state made_growing g made.state.0))

  state_now : forest_state_at (attached_growing w.watched) made.state.0 ≡ attached_among (waiting_in w)
  state_now =
      state_among (attached_growing w.watched) made.state.0 split_at.before split_at.after (attached_grown g e)
      (split_at.put (attached_grown g e))
      ∙ ap attached_among same_waiting

  among_made : IsForestState p
      (among_trees (beside_by made_growing split_at.before) (beside_by made_growing split_at.after) (waiting_in w)
      (tree_state made_growing g made.state.0))
  among_made = subst (IsForestState p) state_was made.state.1

  module _ (limits : IsWithinLimits p) (between new : Watched) where
    rematched_keeps : All (λ j. j < new.edge_count) new.edges
        → EntersNode met.other (2 * (node_named w.part.nodes met.other).top.value) w.watched between
        → Watches p (top_at w.part.nodes mate) between new → IsGrowing (attached_growing new)
    rematched_keeps within enters watched = record {
      job = h.was.job;
      slot = h.was.slot;
      node = h.was.node;
      state = (
        made.state.0,
        subst (IsForestState p) (sym state_now)
            (forest_state_attached p (beside_by made_growing split_at.before) (beside_by made_growing split_at.after) (waiting_in w)
            (tree_state made_growing g made.state.0) (entry_by now.part.links e) rest (all_even p limits) may among_made),
      );
      agreed = h.was.agreed;
      links = links;
      matching =
          listed_permuted p w.part.nodes now.part.links (record { matches = now.part.matching.matches; unmatched = w.part.matching.unmatched })
          (met.other ∷ mate ∷ all_along (trees_in w.forest)) (all_along (trees_in now_trees)) along_now
          (matching_attached p w.part.nodes now.part.links w.part.matching
          (record { matches = now.part.matching.matches; unmatched = w.part.matching.unmatched }) met.taken met.other mate
          (all_along (trees_in w.forest)) h.matches
          (names_without p w.part.nodes now.part.links w.part.matching (all_along (trees_in w.forest)) made.matching met.taken now.part.matching.matches h.matches)
          refl (couple_names met.taken met.other mate couple) made.matching);
      room = room;
      watch =
          watch_taking p (roles_among w.forest) (roles_among now_trees) mate (takes_plus w.forest t g at e) w.part.nodes limits
          h.was.state.1.nest.dual.names between new (subst (λ n. All (λ j. j < n) new.edges) room within) watched watch;
      bounds =
          bounded_taking p (roles_among w.forest) (roles_among now_trees) mate (takes_plus w.forest t g at e) w.part.nodes limits
          h.was.state.1.nest.dual.names between new (subst (λ n. All (λ j. j < n) new.edges) room within) watched watch
          (subst (AreBounded (slack_at p (roles_among w.forest) w.part.nodes)) (sym enters.same) h.was.bounds);
      minus =
          minus_entered (roles_among w.forest) (roles_among now_trees) met.other w.part.nodes w.watched between new
          (minus_more w.forest t g at e) h.was.state.1.nest.dual.names enters watched.minus h.was.minus;
    }
      where
        room : new.edge_count ≡ length p.edges
        room = watched.room ∙ (ap (λ s. s.edge_count) enters.same ∙ h.was.room)

        watch : IsWatched p (roles_among w.forest) w.part.nodes between.edges
        watch = subst (IsWatched p (roles_among w.forest) w.part.nodes) (sym (ap (λ s. s.edges) enters.same)) h.was.watch

    rematched_grows : GrowsOn w (attached_growing new)
    rematched_grows = record {
      grown = record {
        part = record { job = refl; slot = refl; node = refl };
        waits = λ n waits. ap (λ ns. is_in ns n) (sym same_waiting) ∙ waits;
        kept = λ n waits. refl;
        least = let count = as_many w.forest t g (attached_grown g e) at in omega (arith, count);
        most = let count = as_many w.forest t g (attached_grown g e) at in omega (arith, count);
      };
      less = inr (
        le_refl (length w.part.matching.unmatched),
        subst (λ roles. IsLower (left_to_do p w.part.nodes roles true) (left_to_do p w.part.nodes (all_roles (trees_in w.forest)) false))
            (roles_numbers now.part.links (trees_in now_trees))
            (subst
            (λ roles. IsLower (left_to_do p w.part.nodes (forest_roles (map (tree_by now.part.links) (trees_in now_trees))) true) (left_to_do p w.part.nodes roles false))
            (roles_numbers now.part.links (trees_in w.forest))
            (subst
            (λ s. IsLower (left_to_do p w.part.nodes (forest_roles s.trees) true) (left_to_do p w.part.nodes (forest_roles (map (tree_by now.part.links) (trees_in w.forest))) false))
            (sym state_now)
            (subst
            (λ s.
            IsLower
            (left_to_do p w.part.nodes
            (forest_roles (attached_among (waiting_in w)).trees) true)
            (left_to_do p w.part.nodes (forest_roles s.trees) false))
            (sym state_was)
            (forest_attached_less p (beside_by made_growing split_at.before) (beside_by made_growing split_at.after) (waiting_in w)
            (tree_state made_growing g made.state.0) (entry_by now.part.links e) rest false true (all_even p limits) may among_made)))),
      );
    }

  -- The same of the trees that have met the node.
  pub attached_keeps : IsWithinLimits (problem_in now.part) → (between new : Watched) → All (λ j. j < new.edge_count) new.edges
      → EntersNode met.other (2 * (node_named now.part.nodes met.other).top.value) now.watched between
      → Watches (problem_in now.part) (top_at now.part.nodes mate) between new → IsGrowing (with_grown t g e new now)
  attached_keeps limits between new within enters watched =
      subst (λ s. IsGrowing (with_grown t g e new s)) (sym h.is)
      (rematched_keeps (subst (λ s. IsWithinLimits (problem_in s.part)) h.is limits) between new within
      (subst (λ s. EntersNode met.other (2 * (node_named s.part.nodes met.other).top.value) s.watched between) h.is enters)
      (subst (λ s. Watches (problem_in s.part) (top_at s.part.nodes mate) between new) h.is watched))

  pub attached_grows : IsWithinLimits (problem_in now.part) → (new : Watched) → GrowsOn w (with_grown t g e new now)
  attached_grows limits new =
      subst (λ s. GrowsOn w (with_grown t g e new s)) (sym h.is)
      (rematched_grows (subst (λ s. IsWithinLimits (problem_in s.part)) h.is limits) new new)
