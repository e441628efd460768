-- Which edges are watched after a minus blossom is opened, and which bounds stay right: all edges at its vertices come
-- under watch.
use Rattle.std.proofs.Common.{ℕ, ◌≡◌, ◌≢◌, ◌<◌, ◌⊎◌, inl, inr, true, false, List, [], ◌∷◌, ◌++◌, map, length, All, Option, Some, None, is_some, refl, sym, ap, ◌∙◌, subst, append_assoc}
use Rattle.std.proofs.lemmas.Bool.{both_ways, cases_Bool, false≢true}
use Rattle.std.proofs.lemmas.List.{map-append}
use Rattle.fb_graph.specs.Parity.{is_in}
use Rattle.fb_graph.specs.Problem.{Problem, edge_at, touches}
use Rattle.fb_graph.specs.Covers.{is_covered_by, passes}
use Rattle.fb_graph.specs.Dual.{AreUnderOne, Node, cover_of, is_outer, top_at}
use Rattle.fb_graph.specs.Limits.{IsWithinLimits}
use Rattle.fb_graph.specs.Moves.{split_nodes}
use Rattle.fb_graph.specs.Steps.{Roles}
use Rattle.fb_graph.proofs.Sets.{is_in-cases, is_in-head, is_in-tail}
use Rattle.fb_links.specs.declared.cycle.CycleStep.{CycleStep}
use Rattle.fb_blossoms.specs.Nodes as blossoms
use Rattle.fb_graph.proofs.SplitNests.{height}
use Rattle.fb_laws.specs.OpenedCycles.{PassOf, last_of, opened_branches, opened_tree, paired_on}
use Rattle.fb_laws.specs.Trees.{EntryOf, minus_names, plus_names}
use Rattle.fb_laws.proofs.SearchTrees.{cover_place, cover_set}
use Rattle.fb_trees.specs.Branches.{Grown}
use Rattle.fb_trees.specs.Replacements.{way_of}
use Rattle.fb_regions.specs.declared.roles.Role.{Role}
use Rattle.fb_regions.specs.Paces.{grows, shrinks}
use Rattle.fb_obstacles.specs.Obstacles.{IsWatched, roles_by, slack_at}
use Rattle.fb_obstacles.specs.Watched.{AreBounded, Watched}
use Rattle.fb_search.specs.InternalSearching.{SearchValue, problem_of}
use Rattle.fb_search.proofs.Agreed.{nodes_of}
use Rattle.fb_search.proofs.BegunSearches.{touches_first, touches_second}
use Rattle.fb_search.proofs.CoversBefore.{covered_unsplit}
use Rattle.fb_search.proofs.KeptBounds.{IsMilder, milder_under, slack_away}
use Rattle.fb_search.proofs.KeptWatches.{IsWatchedAt}
use Rattle.fb_search.proofs.OpenedConditions.{children_are, cycle, inner, nest, way, way_named, way_within}
use Rattle.fb_search.proofs.OpenedNumbers.{branches_are}
use Rattle.fb_search.proofs.OpenedSplits.{cover_stays}
use Rattle.fb_search.proofs.Openings.{HasOpened, IsOpening, Opens}
use Rattle.fb_search.proofs.RolesInTree.{not_both}
use Rattle.fb_links.proofs.MovedLinks.{Table}
use Rattle.fb_graph.proofs.Floods.{is_in-left, is_in-right}

-- Where all edges stay watched, plus nodes keep their vertices, and the edges at each vertex that is newly under a plus
-- node enter.
pub watch_kept_over : (p : Problem) (roles new_roles : Roles) (nodes new_nodes : List Node) (edges new_edges : List ℕ)
    → IsWatched p roles nodes edges → All (λ k. k < length p.edges) new_edges
    → ((k : ℕ) → is_in edges k ≡ true → is_in new_edges k ≡ true)
    → ((v : ℕ) → is_covered_by new_roles.is_plus new_nodes v ≡ true
    → (is_covered_by roles.is_plus nodes v ≡ true) ⊎ IsWatchedAt p new_nodes new_edges v)
    → ((u v : ℕ) → is_covered_by roles.is_plus nodes u ≡ true → AreUnderOne nodes u v → AreUnderOne new_nodes u v)
    → IsWatched p new_roles new_nodes new_edges
watch_kept_over p roles new_roles nodes new_nodes edges new_edges was within kept over together = record {
  within = within;
  near = λ k less ends apart. by k less apart ends;
}
  where
    turned : (ns : List Node) (u v : ℕ) → AreUnderOne ns u v → AreUnderOne ns v u
    turned ns u v (m, at_u, at_v) = (m, at_v, at_u)

    first : (k : ℕ) → k < length p.edges
        → ¬ AreUnderOne new_nodes (edge_at p.edges k).first (edge_at p.edges k).second
        → (is_covered_by roles.is_plus nodes (edge_at p.edges k).first ≡ true)
        ⊎ IsWatchedAt p new_nodes new_edges (edge_at p.edges k).first → is_in new_edges k ≡ true
    first k less apart (inl old) =
        kept k
        (was.near k less (inl old)
        (λ one. apart (together (edge_at p.edges k).first (edge_at p.edges k).second old one)))
    first k less apart (inr at) = at k less (inl refl) apart

    second : (k : ℕ) → k < length p.edges
        → ¬ AreUnderOne new_nodes (edge_at p.edges k).first (edge_at p.edges k).second
        → (is_covered_by roles.is_plus nodes (edge_at p.edges k).second ≡ true)
        ⊎ IsWatchedAt p new_nodes new_edges (edge_at p.edges k).second → is_in new_edges k ≡ true
    second k less apart (inl old) =
        kept k
        (was.near k less (inr old)
        (λ one.
        apart
        (turned new_nodes (edge_at p.edges k).second (edge_at p.edges k).first
        (together (edge_at p.edges k).second (edge_at p.edges k).first old
        (turned nodes (edge_at p.edges k).first (edge_at p.edges k).second one)))))
    second k less apart (inr at) = at k less (inr refl) apart

    by : (k : ℕ) → k < length p.edges
        → ¬ AreUnderOne new_nodes (edge_at p.edges k).first (edge_at p.edges k).second
        → (is_covered_by new_roles.is_plus new_nodes (edge_at p.edges k).first ≡ true)
        ⊎ (is_covered_by new_roles.is_plus new_nodes (edge_at p.edges k).second ≡ true) → is_in new_edges k ≡ true
    by k less apart (inl u) = first k less apart (over (edge_at p.edges k).first u)
    by k less apart (inr v) = second k less apart (over (edge_at p.edges k).second v)

-- the plus nodes of a tree whose blossom is opened
plus_along : (root parent tree minus : ℕ) (way : List (PassOf ℕ)) (matched plus : ℕ) (older : List (EntryOf ℕ)) (n : ℕ)
    → is_in (plus_names root (opened_branches parent tree minus way matched plus ++ older)) n ≡ true
    → (is_in (plus ∷ plus_names root older) n ≡ true) ⊎ (is_in (map (λ s. s.plus) way) n ≡ true)
plus_along root parent tree minus [] matched plus older n there = inl there
plus_along root parent tree minus (s ∷ ss) matched plus older n there =
    by (plus_along root s.plus s.tree s.minus ss matched plus (first ∷ older) n
    (ap (λ t. is_in (plus_names root t) n)
    (sym (append_assoc (opened_branches s.plus s.tree s.minus ss matched plus) (first ∷ []) older)) ∙ there))
  where
    first : EntryOf ℕ
    first = record { parent = parent; tree = tree; minus = minus; matched = s.matched; plus = s.plus }

    later : (s.plus ≡ n) ⊎ (is_in (plus_names root older) n ≡ true)
        → (is_in (plus ∷ plus_names root older) n ≡ true) ⊎ (is_in (map (λ s. s.plus) (s ∷ ss)) n ≡ true)
    later (inl same) =
        inr
        (subst (λ x. is_in (s.plus ∷ map (λ s. s.plus) ss) x ≡ true) same (is_in-head s.plus (map (λ s. s.plus) ss)))
    later (inr h) = inl (is_in-tail plus (plus_names root older) n h)

    head : (plus ≡ n) ⊎ (is_in (s.plus ∷ plus_names root older) n ≡ true)
        → (is_in (plus ∷ plus_names root older) n ≡ true) ⊎ (is_in (map (λ s. s.plus) (s ∷ ss)) n ≡ true)
    head (inl same) =
        inl
        (subst (λ x. is_in (plus ∷ plus_names root older) x ≡ true) same (is_in-head plus (plus_names root older)))
    head (inr h) = later (is_in-cases s.plus (plus_names root older) n h)

    by : (is_in (plus ∷ s.plus ∷ plus_names root older) n ≡ true) ⊎ (is_in (map (λ s. s.plus) ss) n ≡ true)
        → (is_in (plus ∷ plus_names root older) n ≡ true) ⊎ (is_in (map (λ s. s.plus) (s ∷ ss)) n ≡ true)
    by (inl h) = head (is_in-cases plus (s.plus ∷ plus_names root older) n h)
    by (inr h) = inr (is_in-tail s.plus (map (λ s. s.plus) ss) n h)

plus_opened : (root : ℕ) (newer : List (EntryOf ℕ)) (e : EntryOf ℕ) (older : List (EntryOf ℕ)) (from : ℕ)
    (way : List (PassOf ℕ)) (n : ℕ)
    → is_in (plus_names root (opened_tree newer e older from way)) n ≡ true
    → (is_in (plus_names root (newer ++ e ∷ older)) n ≡ true) ⊎ (is_in (map (λ s. s.plus) way) n ≡ true)
plus_opened root [] e older from way n there = plus_along root e.parent e.tree from way e.matched e.plus older n there
plus_opened root (x ∷ xs) e older from way n there =
    by (is_in-cases x.plus (plus_names root (opened_tree xs e older from way)) n there) (plus_opened root xs e older from way n)
  where
    step : (is_in (plus_names root (xs ++ e ∷ older)) n ≡ true) ⊎ (is_in (map (λ s. s.plus) way) n ≡ true)
        → (is_in (plus_names root (x ∷ (xs ++ e ∷ older))) n ≡ true) ⊎ (is_in (map (λ s. s.plus) way) n ≡ true)
    step (inl h) = inl (is_in-tail x.plus (plus_names root (xs ++ e ∷ older)) n h)
    step (inr h) = inr h

    by : (x.plus ≡ n) ⊎ (is_in (plus_names root (opened_tree xs e older from way)) n ≡ true)
        → (is_in (plus_names root (opened_tree xs e older from way)) n ≡ true
        → (is_in (plus_names root (xs ++ e ∷ older)) n ≡ true) ⊎ (is_in (map (λ s. s.plus) way) n ≡ true))
        → (is_in (plus_names root (x ∷ (xs ++ e ∷ older))) n ≡ true) ⊎ (is_in (map (λ s. s.plus) way) n ≡ true)
    by (inl same) rest =
        inl
        (subst (λ y. is_in (x.plus ∷ plus_names root (xs ++ e ∷ older)) y ≡ true) same
        (is_in-head x.plus (plus_names root (xs ++ e ∷ older))))
    by (inr h) rest = step (rest h)

-- nodes along the way that become plus
plus_on_way : (from : ℕ) (way : List (PassOf ℕ)) (n : ℕ) → is_in (map (λ s. s.plus) way) n ≡ true
    → is_in (paired_on from way) n ≡ true
plus_on_way from [] n there = there
plus_on_way from (s ∷ ss) n there =
    is_in-tail from (s.plus ∷ paired_on s.minus ss) n
    (by (is_in-cases s.plus (map (λ s. s.plus) ss) n there) (plus_on_way s.minus ss n))
  where
    by : (s.plus ≡ n) ⊎ (is_in (map (λ s. s.plus) ss) n ≡ true)
        → (is_in (map (λ s. s.plus) ss) n ≡ true → is_in (paired_on s.minus ss) n ≡ true)
        → is_in (s.plus ∷ paired_on s.minus ss) n ≡ true
    by (inl same) rest =
        subst (λ x. is_in (s.plus ∷ paired_on s.minus ss) x ≡ true) same (is_in-head s.plus (paired_on s.minus ss))
    by (inr h) rest = is_in-tail s.plus (paired_on s.minus ss) n (rest h)

-- the minus nodes beside the blossom stay minus
minus_opened : (newer : List (EntryOf ℕ)) (e : EntryOf ℕ) (older : List (EntryOf ℕ)) (from : ℕ) (way : List (PassOf ℕ))
    (n : ℕ) → n ≢ e.minus → is_in (minus_names (newer ++ e ∷ older)) n ≡ true
    → is_in (minus_names (opened_tree newer e older from way)) n ≡ true
minus_opened [] e older from way n other there = by (is_in-cases e.minus (minus_names older) n there)
  where
    along : List (EntryOf ℕ)
    along = opened_branches e.parent e.tree from way e.matched e.plus

    by : (e.minus ≡ n) ⊎ (is_in (minus_names older) n ≡ true) → is_in (minus_names (along ++ older)) n ≡ true
    by (inl same) = absurd (other (sym same))
    by (inr h) =
        ap (λ l. is_in l n) (map-append (λ x. x.minus) along older) ∙ is_in-right (minus_names along) (minus_names older) n h
minus_opened (x ∷ xs) e older from way n other there =
    by (is_in-cases x.minus (minus_names (xs ++ e ∷ older)) n there) (minus_opened xs e older from way n other)
  where
    by : (x.minus ≡ n) ⊎ (is_in (minus_names (xs ++ e ∷ older)) n ≡ true)
        → (is_in (minus_names (xs ++ e ∷ older)) n ≡ true → is_in (minus_names (opened_tree xs e older from way)) n ≡ true)
        → is_in (x.minus ∷ minus_names (opened_tree xs e older from way)) n ≡ true
    by (inl same) rest =
        subst (λ y. is_in (x.minus ∷ minus_names (opened_tree xs e older from way)) y ≡ true) same
        (is_in-head x.minus (minus_names (opened_tree xs e older from way)))
    by (inr h) rest = is_in-tail x.minus (minus_names (opened_tree xs e older from way)) n (rest h)

module _ {more : List ℕ} (w : SearchValue) (name : ℕ) (e : EntryOf ℕ) (above below : ℕ) (are : IsOpening more w)
    (opens : Opens w name e above below) (links : Table) (store : List (Option blossoms.Node)) (tree : Grown) (watched : Watched)
    (has : HasOpened w name above below links store tree watched) where
  abbrev Way : List CycleStep
  Way = way w name e above below are opens

  -- an outer node that is plus now was plus before
  pub plus_was : (n : ℕ) → is_outer w.part.nodes n ≡ true → is_in (plus_names tree.root tree.branches) n ≡ true
      → is_in (plus_names w.tree.root w.tree.branches) n ≡ true
  plus_was n outer plus =
      by
      (plus_opened w.tree.root opens.branch.newer e opens.branch.older above (way_of Way) n
      (ap (λ t. is_in (plus_names w.tree.root t) n)
      (sym (branches_are w name e above below are opens links store tree watched has))
      ∙ (ap (λ r. is_in (plus_names r tree.branches) n) (sym has.grown.root) ∙ plus)))
    where
      by : (is_in (plus_names w.tree.root (opens.branch.newer ++ e ∷ opens.branch.older)) n ≡ true)
          ⊎ (is_in (map (λ s. s.plus) (way_of Way)) n ≡ true) → is_in (plus_names w.tree.root w.tree.branches) n ≡ true
      by (inl h) = ap (λ t. is_in (plus_names w.tree.root t) n) opens.branch.there ∙ h
      by (inr h) =
          absurd
          (both_ways (is_outer w.part.nodes n)
          (inner w name e above below are opens n
          (way_within w name e above below are opens n
          (ap (λ l. is_in l n) (way_named w name e above below are opens)
          ∙ is_in-left (paired_on above (way_of Way)) (last_of above (way_of Way) ∷ []) n (plus_on_way above (way_of Way) n h))))
          outer)

  -- one that was minus still is, but for the blossom
  pub minus_now : (n : ℕ) → n ≢ name → is_in (minus_names w.tree.branches) n ≡ true → is_in (minus_names tree.branches) n ≡ true
  minus_now n other minus =
      ap (λ t. is_in (minus_names t) n) (branches_are w name e above below are opens links store tree watched has)
      ∙ minus_opened opens.branch.newer e opens.branch.older above (way_of Way) n (λ same. other (same ∙ opens.branch.minus))
      (ap (λ t. is_in (minus_names t) n) (sym opens.branch.there) ∙ minus)

-- The roles of nodes before and after the blossom is opened: no outer node becomes plus, and those that are minus stay so.
module _ {more : List ℕ} (w : SearchValue) (name : ℕ) (e : EntryOf ℕ) (above below : ℕ) (are : IsOpening more w)
    (opens : Opens w name e above below) (links : Table) (store : List (Option blossoms.Node)) (tree : Grown) (watched : Watched)
    (has : HasOpened w name above below links store tree watched) (before after_it : ℕ → Role)
    (plus_from : (n : ℕ) → is_outer w.part.nodes n ≡ true → grows (after_it n) ≡ true → grows (before n) ≡ true)
    (minus_stays : (n : ℕ) → is_outer w.part.nodes n ≡ true → n ≢ name → shrinks (before n) ≡ true
    → shrinks (after_it n) ≡ true)
    (minus : shrinks (before name) ≡ true) where
  abbrev Cycle : List ℕ
  Cycle = nodes_of (cycle w name e above below are opens)

  abbrev Others : List Node
  Others = split_nodes name w.part.nodes

  -- the blossom held the vertex
  abbrev WasHeld : ℕ → Type 0
  WasHeld v = is_in (top_at w.part.nodes name) v ≡ true

  held_by : (v n : ℕ) → cover_of w.part.nodes v ≡ Some n → n ≡ name → WasHeld v
  held_by v n cover same =
      (cover_set w.part.nodes v name (nest w name e above below are opens).dual.names (cover ∙ ap (λ x. Some x) same)).1

  -- over a vertex beside it is the same node as before
  same_cover : (v : ℕ) → ¬ WasHeld v → cover_of Others v ≡ cover_of w.part.nodes v
  same_cover v away = by (cover_of w.part.nodes v) refl
    where
      by : (o : Option ℕ) → cover_of w.part.nodes v ≡ o → cover_of Others v ≡ cover_of w.part.nodes v
      by None cover = none (cover_of Others v) refl ∙ sym cover
        where
          none : (o : Option ℕ) → cover_of Others v ≡ o → cover_of Others v ≡ None
          none None is = is
          none (Some m) is =
              absurd (false≢true (sym (ap (λ o. is_some o) cover)
              ∙ covered_unsplit (problem_of w) w.part.nodes name (nest w name e above below are opens) v
              (ap (λ o. is_some o) is)))
      by (Some n) cover =
          cover_stays (problem_of w) w.part.nodes name Cycle opens.may_split (nest w name e above below are opens)
          (children_are w name e above below are opens) v n cover (λ same. away (held_by v n cover same))
          ∙ sym cover

  outer_over : (v n : ℕ) → cover_of w.part.nodes v ≡ Some n → is_outer w.part.nodes n ≡ true
  outer_over v n cover = let (i, less, named, outer, within) = cover_place w.part.nodes v n cover in outer

  milder_opened : (v : ℕ) → ¬ WasHeld v → IsMilder (roles_by before) (roles_by after_it) w.part.nodes Others v
  milder_opened v away =
      milder_under (roles_by before) (roles_by after_it) w.part.nodes Others v (same_cover v away)
      (λ n cover plus. plus_from n (outer_over v n cover) plus)
      (λ n cover minus. minus_stays n (outer_over v n cover) (λ same. away (held_by v n cover same)) minus)

  together : (u v : ℕ) → is_covered_by (roles_by before).is_plus w.part.nodes u ≡ true → AreUnderOne w.part.nodes u v
      → AreUnderOne Others u v
  together u v over (m, at_u, at_v) = (m, stays u at_u, stays v at_v)
    where
      other : m ≢ name
      other same =
          not_both (before name) (ap (λ n. grows (before n)) (sym same) ∙ (sym (ap (passes (roles_by before).is_plus) at_u) ∙ over)) minus

      stays : (x : ℕ) → cover_of w.part.nodes x ≡ Some m → cover_of Others x ≡ Some m
      stays x at =
          cover_stays (problem_of w) w.part.nodes name Cycle opens.may_split (nest w name e above below are opens)
          (children_are w name e above below are opens) x m at other

  over_now : IsWithinLimits (problem_of w) → (v : ℕ) → is_covered_by (roles_by after_it).is_plus Others v ≡ true
      → (is_covered_by (roles_by before).is_plus w.part.nodes v ≡ true) ⊎ IsWatchedAt (problem_of w) Others watched.edges v
  over_now limits v over = by (cases_Bool (is_in (top_at w.part.nodes name) v))
    where
      touch : (k : ℕ) → k < length (problem_of w).edges
          → ((edge_at (problem_of w).edges k).first ≡ v) ⊎ ((edge_at (problem_of w).edges k).second ≡ v)
          → touches v (edge_at (problem_of w).edges k) ≡ true
      touch k less (inl same) =
          ap (λ u. touches u (edge_at (problem_of w).edges k)) (sym same) ∙ touches_first (problem_of w) k limits less
      touch k less (inr same) =
          ap (λ u. touches u (edge_at (problem_of w).edges k)) (sym same) ∙ touches_second (problem_of w) k limits less

      by : WasHeld v ⊎ (is_in (top_at w.part.nodes name) v ≡ false)
          → (is_covered_by (roles_by before).is_plus w.part.nodes v ≡ true)
          ⊎ IsWatchedAt (problem_of w) Others watched.edges v
      by (inl held) = inr (λ k less ends apart. has.watches.near v k held less (touch k less ends))
      by (inr out) = inl ((milder_opened v (λ held. both_ways (is_in (top_at w.part.nodes name) v) out held)).plus over)

  pub watch_split : IsWithinLimits (problem_of w) → w.watched.edge_count ≡ length (problem_of w).edges
      → IsWatched (problem_of w) (roles_by before) w.part.nodes w.watched.edges
      → IsWatched (problem_of w) (roles_by after_it) Others watched.edges
  watch_split limits room was =
      watch_kept_over (problem_of w) (roles_by before) (roles_by after_it) w.part.nodes Others w.watched.edges watched.edges was
      (subst (λ n. All (λ k. k < n) watched.edges) (has.watches.room ∙ room) has.within) has.watches.kept
      (over_now limits) together

  pub bounded_split : AreBounded (slack_at (problem_of w) (roles_by before) w.part.nodes) w.watched
      → AreBounded (slack_at (problem_of w) (roles_by after_it) Others) watched
  bounded_split =
      has.watches.bounds (slack_at (problem_of w) (roles_by before) w.part.nodes) (slack_at (problem_of w) (roles_by after_it) Others)
      (λ k away.
      slack_away (roles_by before) (roles_by after_it) w.part.nodes Others WasHeld (edge_at (problem_of w).edges k)
      (height (problem_of w) w.part.nodes name opens.may_split (nest w name e above below are opens)) milder_opened
      (λ u v at_u at_v one. (one.0, same_cover u at_u ∙ one.1, same_cover v at_v ∙ one.2)) away)
