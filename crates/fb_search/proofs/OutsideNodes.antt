-- A node that a tree of several meets is listed as matched or unmatched, beside all trees.
use Rattle.std.proofs.Common.{ℕ, ◌≡◌, ◌==◌, ◌⊎◌, inl, inr, true, List, [], ◌∷◌, ◌++◌, Some, sym, ap, ◌∙◌}
use Rattle.std.proofs.lemmas.Bool.{both_ways, eq-eqb, false≢true, or_cases}
use Rattle.std.proofs.lemmas.List.Folds.{list_any_at}
use Rattle.fb_graph.specs.Parity.{is_in}
use Rattle.fb_graph.specs.Dual.{cover_of, is_live, is_outer, no_node}
use Rattle.fb_graph.proofs.Floods.{is_in-left, is_in-right}
use Rattle.fb_graph.proofs.Members.{is_in-append}
use Rattle.fb_graph.proofs.Sets.{is_in-cases, is_in-head, is_in-tail}
use Rattle.fb_laws.specs.TreeCycles.{nodes_along}
use Rattle.fb_laws.specs.Trees.{EntryOf, minus_names, plus_names}
use Rattle.fb_laws.proofs.SearchTrees.{cover_place}
use Rattle.fb_half.specs.Matchings.{listed_names}
use Rattle.fb_trees.specs.Branches.{Grown}
use Rattle.fb_trees.specs.Forests.{all_minus, all_plus, trees_in}
use Rattle.fb_search.specs.InternalGrowing.{GrowingValue, IsGrowing, all_along, roles_among}
use Rattle.fb_search.specs.InternalTreeMeetings.{MeetsOutside}
use Rattle.fb_search.proofs.GrowingRoles.{roles_are_all}

-- a node of a branch is plus or minus
along_tree : (root : ℕ) (es : List (EntryOf ℕ)) (n : ℕ) → is_in (nodes_along es) n ≡ true
    → (is_in (plus_names root es) n ≡ true) ⊎ (is_in (minus_names es) n ≡ true)
along_tree root [] n has = absurd (false≢true has)
along_tree root (e ∷ es) n has = by (is_in-cases e.minus (e.plus ∷ nodes_along es) n has) (along_tree root es n)
  where
    Goal : Type 0
    Goal = (is_in (e.plus ∷ plus_names root es) n ≡ true) ⊎ (is_in (e.minus ∷ minus_names es) n ≡ true)

    deeper : (is_in (plus_names root es) n ≡ true) ⊎ (is_in (minus_names es) n ≡ true) → Goal
    deeper (inl plus) = inl (is_in-tail e.plus (plus_names root es) n plus)
    deeper (inr minus) = inr (is_in-tail e.minus (minus_names es) n minus)

    next : (e.plus ≡ n) ⊎ (is_in (nodes_along es) n ≡ true)
        → (is_in (nodes_along es) n ≡ true → (is_in (plus_names root es) n ≡ true) ⊎ (is_in (minus_names es) n ≡ true)) → Goal
    next (inl same) rest = inl (ap (is_in (e.plus ∷ plus_names root es)) (sym same) ∙ is_in-head e.plus (plus_names root es))
    next (inr there) rest = deeper (rest there)

    by : (e.minus ≡ n) ⊎ (is_in (e.plus ∷ nodes_along es) n ≡ true)
        → (is_in (nodes_along es) n ≡ true → (is_in (plus_names root es) n ≡ true) ⊎ (is_in (minus_names es) n ≡ true)) → Goal
    by (inl same) rest = inr (ap (is_in (e.minus ∷ minus_names es)) (sym same) ∙ is_in-head e.minus (minus_names es))
    by (inr there) rest = next (is_in-cases e.plus (nodes_along es) n there) rest

pub along_roles : (gs : List Grown) (n : ℕ) → is_in (all_along gs) n ≡ true
    → (is_in (all_plus gs) n ≡ true) ⊎ (is_in (all_minus gs) n ≡ true)
along_roles [] n has = absurd (false≢true has)
along_roles (g ∷ gs) n has =
    by (or_cases (is_in (nodes_along g.branches) n) (is_in (all_along gs) n) (sym (is_in-append (nodes_along g.branches) (all_along gs) n) ∙ has))
    (along_roles gs n)
  where
    Goal : Type 0
    Goal = (is_in (plus_names g.root g.branches ++ all_plus gs) n ≡ true) ⊎ (is_in (minus_names g.branches ++ all_minus gs) n ≡ true)

    here : (is_in (plus_names g.root g.branches) n ≡ true) ⊎ (is_in (minus_names g.branches) n ≡ true) → Goal
    here (inl plus) = inl (is_in-left (plus_names g.root g.branches) (all_plus gs) n plus)
    here (inr minus) = inr (is_in-left (minus_names g.branches) (all_minus gs) n minus)

    there : (is_in (all_plus gs) n ≡ true) ⊎ (is_in (all_minus gs) n ≡ true) → Goal
    there (inl plus) = inl (is_in-right (plus_names g.root g.branches) (all_plus gs) n plus)
    there (inr minus) = inr (is_in-right (minus_names g.branches) (all_minus gs) n minus)

    by : (is_in (nodes_along g.branches) n ≡ true) ⊎ (is_in (all_along gs) n ≡ true)
        → (is_in (all_along gs) n ≡ true → (is_in (all_plus gs) n ≡ true) ⊎ (is_in (all_minus gs) n ≡ true)) → Goal
    by (inl h) rest = here (along_tree g.root g.branches n h)
    by (inr h) rest = there (rest h)

module _ (w : GrowingValue) (are : IsGrowing w) where
  -- a node over a vertex is a live outer one
  held_live : (v name : ℕ) → cover_of w.part.nodes v ≡ Some name → (is_live w.part.nodes name ≡ true) × (is_outer w.part.nodes name ≡ true)
  held_live v name over =
      let (i, less, named, outer, within) = cover_place w.part.nodes v name over in
      (list_any_at (λ n. n.name == name) w.part.nodes i no_node less (eq-eqb _ _ named), outer)

  pub outside_listed : (k plus other : ℕ) → MeetsOutside w k plus other → is_in (listed_names w.part.matching) other ≡ true
  outside_listed k plus other meets =
      let (live, outer) = held_live meets.outer other meets.obstacle.covered in
      by
      (or_cases (is_in (listed_names w.part.matching) other) (is_in (all_along (trees_in w.forest)) other)
      (sym (is_in-append (listed_names w.part.matching) (all_along (trees_in w.forest)) other) ∙ are.matching.all other live outer))
    where
      no_plus : is_in (all_plus (trees_in w.forest)) other ≡ true → ⊥
      no_plus h =
          both_ways ((roles_among w.forest).is_plus other) meets.obstacle.not_plus
          (ap (λ rs. rs.is_plus other) (roles_are_all w are.state.0 are.state.1) ∙ h)

      no_minus : is_in (all_minus (trees_in w.forest)) other ≡ true → ⊥
      no_minus h =
          both_ways ((roles_among w.forest).is_minus other) meets.obstacle.not_minus
          (ap (λ rs. rs.is_minus other) (roles_are_all w are.state.0 are.state.1) ∙ h)

      no_role : (is_in (all_plus (trees_in w.forest)) other ≡ true) ⊎ (is_in (all_minus (trees_in w.forest)) other ≡ true) → ⊥
      no_role (inl plus) = no_plus plus
      no_role (inr minus) = no_minus minus

      by : (is_in (listed_names w.part.matching) other ≡ true) ⊎ (is_in (all_along (trees_in w.forest)) other ≡ true)
          → is_in (listed_names w.part.matching) other ≡ true
      by (inl h) = h
      by (inr h) = absurd (no_role (along_roles (trees_in w.forest) other h))
