-- The matching of a search after a minus blossom of its tree is opened: the children beside the way are matched in pairs.
use Rattle.std.proofs.Common.{ℕ, ◌≡◌, ◌≢◌, ◌==◌, ◌⊎◌, inl, inr, true, List, [], ◌∷◌, ◌++◌, map, Option, Some, None, refl, sym, ap, ◌∙◌, subst, option_to_list}
use Rattle.std.specs.List.Sorted.{IsPermutation}
use Rattle.std.proofs.lemmas.Bool.{both_ways, eq-eqb, false_from_ne_true}
use Rattle.std.proofs.lemmas.List.Concat.{flat_map-append}
use Rattle.std.proofs.lemmas.List.Sorted.{IsPermutation-append_right, IsPermutation-middle, IsPermutation-trans}
use Rattle.fb_graph.specs.Parity.{is_in}
use Rattle.fb_graph.specs.Certificate.{AreDistinct}
use Rattle.fb_graph.specs.Problem.{Problem}
use Rattle.fb_graph.specs.Laws.{Link}
use Rattle.fb_graph.specs.Dual.{Node, cover_of, is_live, is_outer}
use Rattle.fb_graph.specs.Moves.{split_nodes}
use Rattle.fb_graph.proofs.Among.{IsAmong, All_among, among_All, among_any, among_either, map_among}
use Rattle.fb_graph.proofs.Sets.{is_in-cases, is_in-head, is_in-tail}
use Rattle.fb_graph.proofs.Unions.{distinct_append}
use Rattle.fb_links.specs.declared.cycle.CycleStep.{CycleStep}
use Rattle.fb_blossoms.specs.Nodes as blossoms
use Rattle.fb_laws.specs.LinkNumbers.{tree_links}
use Rattle.fb_laws.specs.Searches.{LeavesNode}
use Rattle.fb_laws.specs.TreeCycles.{nodes_along}
use Rattle.fb_laws.specs.Trees.{Connects, EntryOf}
use Rattle.fb_laws.proofs.OpenedBlossoms.{distinct_permuted, same_permuted}
use Rattle.fb_laws.proofs.OpenedParts.{flat_among, in_among}
use Rattle.fb_half.specs.declared.matches.Match.{Match}
use Rattle.fb_half.specs.Matchings.{IsMatchOf, IsMatchingOf, listed_names, match_links, matched_names, names_of}
use Rattle.fb_half.specs.Translations.{link_by, ring_links}
use Rattle.fb_trees.specs.Branches.{Grown}
use Rattle.fb_trees.specs.Replacements.{way_of}
use Rattle.fb_obstacles.specs.Watched.{Watched}
use Rattle.fb_search.specs.InternalOpenings.{couples_on}
use Rattle.fb_search.specs.InternalSearching.{SearchValue, problem_of}
use Rattle.fb_search.proofs.Agreed.{nodes_of}
use Rattle.fb_search.proofs.OpenedConditions.{children_are, couples_named, cycle, many, nest, not_child, parted, rest, way, way_named}
use Rattle.fb_search.proofs.OpenedNames.{along_before, along_beside, along_way, names_opened}
use Rattle.fb_search.proofs.OpenedNumbers.{branches_are, links_kept}
use Rattle.fb_search.proofs.OpenedSplits.{child_live, child_outer, cover_stays, outer_back, stays_live, stays_outer}
use Rattle.fb_search.proofs.OpenedStates.{law_cycle}
use Rattle.fb_search.proofs.OpenedWays.{couple_by, mate_of}
use Rattle.fb_search.proofs.Openings.{HasOpened, IsOpening, Opens}
use Rattle.fb_graph.proofs.Floods.{is_in-both, is_in-left, is_in-right}
use Rattle.fb_links.proofs.MovedLinks.{Table}
use Rattle.fb_half.specs.declared.seams.Seams.{Seams}
use Rattle.fb_half.specs.Seams.{AreListed}
use Rattle.fb_half.proofs.FreedMatches.{link_in}
use Rattle.fb_search.proofs.ListedSteps.{Lists, listed_kept, no_second}

-- a link under other nodes than the one that is split leads where it led
match_stays : (p : Problem) (nodes others : List Node) (name : ℕ)
    → ((v n : ℕ) → cover_of nodes v ≡ Some n → n ≢ name → cover_of others v ≡ Some n) → (l : Link) (a : ℕ) (b : Option ℕ)
    → a ≢ name → ((c : ℕ) → is_in (option_to_list b) c ≡ true → c ≢ name) → IsMatchOf p nodes l a b → IsMatchOf p others l a b
match_stays p nodes others name cover l a None first second (v, leaves, real) = (v, on leaves, real)
  where
    on : LeavesNode nodes l a v → LeavesNode others l a v
    on (inl (c, end)) = inl (cover l.from a c first, end)
    on (inr (c, end)) = inr (cover l.to a c first, end)
match_stays p nodes others name cover l a (Some b) first second connects = on connects
  where
    other : b ≢ name
    other = second b (is_in-head b [])

    on : Connects nodes l a b → Connects others l a b
    on (inl (c, d)) = inl (cover l.from a c first, cover l.to b d other)
    on (inr (c, d)) = inr (cover l.to a c first, cover l.from b d other)

-- each couple has a second node
second_is : (steps : List CycleStep) (m : Match) → IsAmong m (couples_on steps) → m.second ≡ Some (mate_of m.second)
second_is [] m a = absurd a
second_is (s ∷ []) m a = absurd a
second_is (s ∷ t ∷ ss) m (inl same) = subst (λ x. x.second ≡ Some (mate_of x.second)) same refl
second_is (s ∷ t ∷ ss) m (inr a) = second_is ss m a

module _ {more : List ℕ} (w : SearchValue) (name : ℕ) (e : EntryOf ℕ) (above below : ℕ) (are : IsOpening more w)
    (opens : Opens w name e above below) (links : Table) (store : List (Option blossoms.Node)) (tree : Grown) (watched : Watched)
    (has : HasOpened w name above below links store tree watched) where
  abbrev Cycle : List ℕ
  Cycle = nodes_of (cycle w name e above below are opens)

  abbrev Way : List CycleStep
  Way = way w name e above below are opens

  abbrev Rest : List CycleStep
  Rest = rest w name e above below are opens

  abbrev Others : List Node
  Others = split_nodes name w.part.nodes

  abbrev listed : List ℕ
  listed = listed_names w.part.matching

  abbrev beside : List ℕ
  beside = along_beside opens.branch.newer e opens.branch.older

  abbrev matches_after : List Match
  matches_after = w.part.matching.matches ++ couples_on Rest

  abbrev listed_after : List ℕ
  listed_after = w.part.matching.unmatched ++ matched_names matches_after

  was_listed : IsPermutation (listed ++ nodes_along w.tree.branches) (name ∷ (listed ++ beside))
  was_listed =
      subst (λ n. IsPermutation (listed ++ nodes_along w.tree.branches) (n ∷ (listed ++ beside))) opens.branch.minus
      (subst (λ t. IsPermutation (listed ++ nodes_along t) (e.minus ∷ (listed ++ beside))) (sym opens.branch.there)
      (IsPermutation-trans (listed ++ nodes_along (opens.branch.newer ++ e ∷ opens.branch.older)) (listed ++ e.minus ∷ beside)
      (e.minus ∷ (listed ++ beside))
      (IsPermutation-append_right listed (nodes_along (opens.branch.newer ++ e ∷ opens.branch.older)) (e.minus ∷ beside)
      (along_before opens.branch.newer e opens.branch.older))
      (IsPermutation-middle listed e.minus beside)))

  children_listed : IsPermutation Cycle (along_way above (way_of Way) ++ matched_names (couples_on Rest))
  children_listed =
      subst (λ l. IsPermutation Cycle (along_way above (way_of Way) ++ l)) (sym (couples_named w name e above below are opens))
      (subst (λ l. IsPermutation Cycle (l ++ nodes_of Rest))
      (way_named w name e above below are opens)
      (parted w name e above below are opens))

  now_listed : IsPermutation (Cycle ++ (listed ++ beside)) (listed_after ++ nodes_along tree.branches)
  now_listed =
      subst (λ l. IsPermutation (Cycle ++ (listed ++ beside)) ((w.part.matching.unmatched ++ l) ++ nodes_along tree.branches))
      (sym (flat_map-append names_of w.part.matching.matches (couples_on Rest)))
      (subst
      (λ t.
      IsPermutation (Cycle ++ (listed ++ beside))
      ((w.part.matching.unmatched ++ (matched_names w.part.matching.matches ++ matched_names (couples_on Rest))) ++ nodes_along t))
      (sym (branches_are w name e above below are opens links store tree watched has))
      (names_opened Cycle w.part.matching.unmatched (matched_names w.part.matching.matches) (matched_names (couples_on Rest))
      opens.branch.newer e opens.branch.older above (way_of Way) children_listed))

  distinct_was : AreDistinct (name ∷ (listed ++ beside))
  distinct_was =
      distinct_permuted (listed ++ nodes_along w.tree.branches) (name ∷ (listed ++ beside)) was_listed are.matching.distinct

  listed_was : (n : ℕ) → is_in (listed ++ beside) n ≡ true → is_in (listed ++ nodes_along w.tree.branches) n ≡ true
  listed_was n there =
      sym (same_permuted (listed ++ nodes_along w.tree.branches) (name ∷ (listed ++ beside)) was_listed n)
      ∙ is_in-tail name (listed ++ beside) n there

  other_name : (n : ℕ) → is_in (listed ++ beside) n ≡ true → n ≢ name
  other_name n there same =
      both_ways (is_in (listed ++ beside) name) distinct_was.0 (ap (is_in (listed ++ beside)) (sym same) ∙ there)

  each : (n : ℕ) → is_in (Cycle ++ (listed ++ beside)) n ≡ true → (is_live Others n ≡ true) × (is_outer Others n ≡ true)
  each n there = by (is_in-both Cycle (listed ++ beside) n there)
    where
      by : (is_in Cycle n ≡ true) ⊎ (is_in (listed ++ beside) n ≡ true) → (is_live Others n ≡ true) × (is_outer Others n ≡ true)
      by (inl child) = (
        child_live (problem_of w) w.part.nodes name Cycle opens.may_split (nest w name e above below are opens)
            (children_are w name e above below are opens) n child,
        child_outer (problem_of w) w.part.nodes name Cycle opens.may_split (nest w name e above below are opens)
            (children_are w name e above below are opens) n child,
      )
      by (inr h) =
          let was = are.matching.live n (listed_was n h) in (
            stays_live (problem_of w) w.part.nodes name Cycle opens.may_split (nest w name e above below are opens)
                (children_are w name e above below are opens) n was.0 (other_name n h),
            stays_outer (problem_of w) w.part.nodes name Cycle opens.may_split (nest w name e above below are opens)
                (children_are w name e above below are opens) n was.1,
          )

  every : (n : ℕ) → is_live Others n ≡ true → is_outer Others n ≡ true → is_in (Cycle ++ (listed ++ beside)) n ≡ true
  every n live outer =
      by (outer_back (problem_of w) w.part.nodes name Cycle opens.may_split (nest w name e above below are opens)
      (children_are w name e above below are opens) n live outer)
    where
      later : n ≢ name → (name ≡ n) ⊎ (is_in (listed ++ beside) n ≡ true) → is_in (listed ++ beside) n ≡ true
      later other (inl same) = absurd (other (sym same))
      later other (inr h) = h

      by : ((is_live w.part.nodes n ≡ true) × (is_outer w.part.nodes n ≡ true) × (n ≢ name)) ⊎ (is_in Cycle n ≡ true)
          → is_in (Cycle ++ (listed ++ beside)) n ≡ true
      by (inl (was, out, other)) =
          is_in-right Cycle (listed ++ beside) n
          (later other
          (is_in-cases name (listed ++ beside) n
          (same_permuted (listed ++ nodes_along w.tree.branches) (name ∷ (listed ++ beside)) was_listed n
          ∙ are.matching.all n was out)))
      by (inr child) = is_in-left Cycle (listed ++ beside) n child

  -- the links of matches stay
  same_link : (m : Match) → IsAmong m matches_after → link_by links m.link ≡ link_by w.part.links m.link
  same_link m a =
      links_kept w name e above below are opens links store tree watched has m.link
      (is_in-right (tree_links tree.branches) (match_links matches_after ++ ring_links Others store) m.link
      (is_in-left (match_links matches_after) (ring_links Others store) m.link (link_in matches_after m a)))

  -- so the index still has those to the boundary
  pub opened_listed : (s : Seams) → Lists s w.part → AreListed (problem_of w).is_real w.part.job.plan s links matches_after
  opened_listed s was =
      listed_kept (problem_of w).is_real w.part.job.plan s w.part.links links w.part.matching.matches matches_after was
      (λ m a none. (by m none (among_either w.part.matching.matches (couples_on Rest) m a), same_link m a))
    where
      by : (m : Match) → m.second ≡ None → IsAmong m w.part.matching.matches ⊎ IsAmong m (couples_on Rest)
          → IsAmong m w.part.matching.matches
      by m none (inl a) = a
      by m none (inr a) = absurd (no_second m (mate_of m.second) (sym (second_is Rest m a)) none)

  old_match : (m : Match) → IsAmong m w.part.matching.matches
      → IsMatchOf (problem_of w) Others (link_by w.part.links m.link) m.first m.second
  old_match m a =
      match_stays (problem_of w) w.part.nodes Others name
      (cover_stays (problem_of w) w.part.nodes name Cycle opens.may_split (nest w name e above below are opens)
      (children_are w name e above below are opens))
      (link_by w.part.links m.link) m.first m.second (free m.first (is_in-head m.first (option_to_list m.second)))
      (λ c there. free c (is_in-tail m.first (option_to_list m.second) c there))
      (All_among (λ x. IsMatchOf (problem_of w) w.part.nodes (link_by w.part.links x.link) x.first x.second)
      w.part.matching.matches are.matching.connects m a)
    where
      free : (c : ℕ) → is_in (names_of m) c ≡ true → c ≢ name
      free c there =
          other_name c
          (is_in-left listed beside c
          (is_in-right w.part.matching.unmatched (matched_names w.part.matching.matches) c
          (among_any (λ u. u == c) (matched_names w.part.matching.matches) c
          (flat_among names_of w.part.matching.matches m c a (in_among (names_of m) c there)) (eq-eqb c c refl))))

  new_match : (m : Match) → IsAmong m (couples_on Rest)
      → IsMatchOf (problem_of w) Others (link_by w.part.links m.link) m.first m.second
  new_match m a =
      subst (IsMatchOf (problem_of w) Others (link_by w.part.links m.link) m.first) (sym (second_is Rest m a))
      (subst (λ n. Connects (split_nodes n w.part.nodes) (link_by w.part.links m.link) m.first (mate_of m.second)) opens.branch.minus
      (All_among (λ c. Connects (split_nodes e.minus w.part.nodes) c.link c.first c.second)
      (map (couple_by (link_by w.part.links)) (couples_on Rest)) (law_cycle w name e above below are opens).coupled
      (couple_by (link_by w.part.links) m) (map_among (couple_by (link_by w.part.links)) (couples_on Rest) m a)))

  pub matching_opened : IsMatchingOf (problem_of w) Others links
      (record { matches = matches_after; unmatched = w.part.matching.unmatched }) (nodes_along tree.branches)
  matching_opened = record {
    distinct = distinct_permuted (Cycle ++ (listed ++ beside)) (listed_after ++ nodes_along tree.branches) now_listed
        (distinct_append Cycle (listed ++ beside) (many w name e above below are opens).distinct distinct_was.1
        (λ n child.
        false_from_ne_true (is_in (listed ++ beside) n)
        (λ there. both_ways (is_in Cycle n) (not_child w name e above below are opens n (listed_was n there)) child)));
    live = λ n there.
        each n (sym (same_permuted (Cycle ++ (listed ++ beside)) (listed_after ++ nodes_along tree.branches) now_listed n) ∙ there);
    all = λ n live outer.
        same_permuted (Cycle ++ (listed ++ beside)) (listed_after ++ nodes_along tree.branches) now_listed n ∙ every n live outer;
    connects =
        among_All (λ m. IsMatchOf (problem_of w) Others (link_by links m.link) m.first m.second) matches_after
        (λ m a.
        subst (λ l. IsMatchOf (problem_of w) Others l m.first m.second) (sym (same_link m a))
        (by m (among_either w.part.matching.matches (couples_on Rest) m a)));
  }
    where
      by : (m : Match) → IsAmong m w.part.matching.matches ⊎ IsAmong m (couples_on Rest)
          → IsMatchOf (problem_of w) Others (link_by w.part.links m.link) m.first m.second
      by m (inl a) = old_match m a
      by m (inr a) = new_match m a
