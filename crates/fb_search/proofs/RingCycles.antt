-- A link that closes a cycle of one of several trees, as one that closes a cycle of this tree.
use Rattle.std.proofs.Common.{ℕ, ◌≡◌, ◌==◌, ◌≤◌, ◌<◌, refl, arith, ◌⊎◌, inl, inr, true, false, Some, length, get_or, List, [], ◌∷◌, ◌++◌, map, sym, ap, ◌∙◌, subst}
use Rattle.std.proofs.lemmas.Bool.{both_ways, eq-eqb, false_from_ne_true}
use Rattle.std.proofs.lemmas.List.Folds.{list_any_at}
use Rattle.fb_graph.specs.Parity.{is_in}
use Rattle.fb_graph.specs.Dual.{is_live, no_node, top_at}
use Rattle.fb_graph.proofs.Floods.{is_in-left}
use Rattle.fb_graph.proofs.Sets.{is_in-cases, is_in-head, is_in-tail}
use Rattle.fb_laws.specs.Forests.{forest_paired}
use Rattle.fb_laws.specs.ForestStates.{IsForestState, among_trees, tree_of}
use Rattle.fb_laws.specs.LinkNumbers.{tree_links}
use Rattle.fb_laws.specs.PartStates.{SearchState}
use Rattle.fb_laws.specs.Works.{IsSetOf}
use Rattle.fb_laws.proofs.ForestStates.{forest_tree}
use Rattle.fb_laws.proofs.SearchStates.{named_set}
use Rattle.fb_trees.proofs.Mapped.{names_moved}
use Rattle.fb_trees.specs.Replacements.{MayReplace}
use Rattle.fb_trees.specs.Rooted.{is_node}
use Rattle.fb_links.specs.Table as table
use Rattle.fb_half.specs.Matchings.{listed_names, match_links}
use Rattle.fb_half.specs.Parts.{kept_links, problem_in}
use Rattle.fb_half.specs.Translations.{link_by}
use Rattle.fb_trees.specs.Branches.{Grown}
use Rattle.fb_trees.specs.Forests.{IsInside, IsOutside, IsTreeOf, MayReplaceIn, first_name, tree_at, trees_in}
use Rattle.fb_search.specs.InternalGrowing.{GrowingValue, all_along, forest_state_at, grown_ids, waiting_in}
use Rattle.fb_search.specs.InternalGrowingRings.{ClosesIn}
use Rattle.fb_search.proofs.Agreed.{nodes_of}
use Rattle.fb_search.proofs.ClosedCycles.{ClosesTree, may_close, steps_join, steps_replaced}
use Rattle.fb_search.proofs.JoinConditions.{cycle_within}
use Rattle.fb_links.specs.declared.cycle.CycleStep.{CycleStep}
use Rattle.fb_trees.specs.TreeSteps.{IsCycle}
use Rattle.fb_search.proofs.ForestPlaces.{after_by, before_by, own_state, state_among}
use Rattle.fb_search.proofs.RingRoles.{ids_here}

-- every tree's nodes are live
pub live_in : (w : GrowingValue) (r : ℕ) → IsForestState (problem_in w.part) (forest_state_at w r) → (t : ℕ) (g : Grown)
    → tree_at w.forest t ≡ Some g → (n : ℕ) → is_node g n ≡ true → is_live w.part.nodes n ≡ true
live_in w r state t g at n within =
    by (named_set (problem_in w.part) w.part.nodes own.tree
    (forest_paired (before_by w t ++ after_by w t) ++ own.rest) w.part.matching.unmatched g.root r
    (forest_tree (problem_in w.part) w.part.nodes (before_by w t) (after_by w t) (tree_of own) own.rest w.part.matching.unmatched
    (waiting_in w) r
    (subst (IsForestState (problem_in w.part)) (state_among w t g r at) state).forest)
    n (ap (λ ns. is_in ns n) (names_moved (link_by w.part.links) g.root g.branches) ∙ within))
  where
    own : SearchState
    own = own_state w g r

    by : IsSetOf w.part.nodes n (top_at w.part.nodes n) → is_live w.part.nodes n ≡ true
    by (i, less, outer, named, set) = list_any_at (λ m. m.name == n) w.part.nodes i no_node less (eq-eqb _ _ named)

-- so a name that no node has is in no tree
pub new_outside : (w : GrowingValue) (r : ℕ) → IsForestState (problem_in w.part) (forest_state_at w r) → (name : ℕ)
    → is_live w.part.nodes name ≡ false → IsOutside w.forest name
new_outside w r state name fresh t g at =
    false_from_ne_true (is_node g name)
    (λ there. both_ways (is_live w.part.nodes name) fresh (live_in w r state t g at name there))

module _ (w : GrowingValue) (a b closing : ℕ) (closes : ClosesIn w a b closing) where
  abbrev g : Grown
  g = closes.grown

  abbrev parity : ℕ
  parity = closes.growing.state.0

  -- the tree among the others
  pub ring_among : IsForestState (problem_in w.part)
      (among_trees (before_by w closes.tree) (after_by w closes.tree) (waiting_in w) (own_state w closes.grown closes.growing.state.0))
  ring_among =
      subst (IsForestState (problem_in w.part)) (state_among w closes.tree g parity closes.at) closes.growing.state.1

  live : (id : ℕ) → is_in (closing ∷ tree_links closes.grown.branches) id ≡ true → table.is_live w.part.links id ≡ true
  live id there = closes.growing.links.live id ∙ by (is_in-cases closing (tree_links g.branches) id there)
    where
      others : List ℕ
      others = grown_ids (trees_in w.forest) ++ kept_links w.part

      by : (closing ≡ id) ⊎ (is_in (tree_links closes.grown.branches) id ≡ true)
          → is_in (closing ∷ (grown_ids (trees_in w.forest) ++ kept_links w.part)) id ≡ true
      by (inl same) = subst (λ n. is_in (closing ∷ others) n ≡ true) same (is_in-head closing others)
      by (inr own) =
          is_in-tail closing others id
          (is_in-left (grown_ids (trees_in w.forest)) (kept_links w.part) id (ids_here w.forest closes.tree g closes.at id own))

  pub ring_closes : ClosesTree w.part closes.grown closes.growing.state.0 a b closing
  ring_closes = record {
    rest =
        forest_paired (before_by w closes.tree ++ after_by w closes.tree)
        ++ map (link_by w.part.links) (match_links w.part.matching.matches);
    nest = closes.growing.state.1.nest;
    search =
        forest_tree (problem_in w.part) w.part.nodes (before_by w closes.tree) (after_by w closes.tree)
        (tree_of (own_state w g parity)) (map (link_by w.part.links) (match_links w.part.matching.matches))
        w.part.matching.unmatched (waiting_in w) parity ring_among.forest;
    agreed = closes.growing.agreed;
    live = live;
    listed = λ n there.
        (closes.growing.matching.live n (is_in-left (listed_names w.part.matching) (all_along (trees_in w.forest)) n there)).0;
    first = closes.first;
    second = closes.second;
    apart = closes.apart;
    connects = closes.connects;
    tight = closes.tight;
  }

  module _ (steps : List CycleStep) (is : IsCycle closes.grown a b closing steps) (name : ℕ)
      (fresh : is_live w.part.nodes name ≡ false) where
    steps_within : (n : ℕ) → is_in (nodes_of steps) n ≡ true → is_node closes.grown n ≡ true
    steps_within n on =
        cycle_within (problem_in w.part) (own_state w g parity) w.part.links g.branches refl name a b closing is.shared is.up is.down
        (may_close w.part g parity a b closing ring_closes name (own_state w g parity).rest fresh) is.paths ring_closes.rest ring_closes.nest
        ring_closes.search n
        (ap (λ ns. is_in ns n) (sym is.nodes) ∙ on)

    module _ (gone : List ℕ) (same : gone ≡ nodes_of steps) where
      many : 3 ≤ length gone
      many = subst (λ ns. 3 ≤ length ns) (sym same) (steps_join w.part g parity a b closing ring_closes steps is name fresh).many.three

      pub some_gone : 0 < length gone
      some_gone = let m = many in omega (arith, m)

      first_in : (ns : List ℕ) → 3 ≤ length ns → is_in ns (first_name ns) ≡ true
      first_in [] three = absurd (omega (arith, three))
      first_in (n ∷ ns) three = is_in-head n ns

      first_is : (ns : List ℕ) → 3 ≤ length ns → get_or ns 0 0 ≡ first_name ns
      first_is [] three = absurd (omega (arith, three))
      first_is (n ∷ ns) three = refl

      -- the first node is in the tree
      pub first_of : IsTreeOf w.forest (first_name gone) closes.tree closes.grown
      first_of = record {
        at = closes.at;
        has = steps_within (first_name gone) (ap (λ ns. is_in ns (first_name gone)) (sym same) ∙ first_in gone many);
      }

      pub first_at : IsTreeOf w.forest (get_or gone 0 0) closes.tree closes.grown
      first_at = subst (λ n. IsTreeOf w.forest n closes.tree closes.grown) (sym (first_is gone many)) first_of

      pub first_inside : IsInside w.forest (get_or gone 0 0)
      first_inside = record { tree = closes.tree; grown = closes.grown; is = first_at }

      -- the blossom may take the nodes' place
      pub ring_replaced : (link : ℕ) → MayReplaceIn w.forest gone (record { node = name; link = link } ∷ [])
      ring_replaced link = record {
        tree = closes.tree;
        grown = closes.grown;
        is = first_of;
        may =
            subst (λ ns. MayReplace closes.grown ns (record { node = name; link = link } ∷ [])) (sym same)
            (steps_replaced w.part g parity a b closing ring_closes steps is name link fresh);
        fresh = λ n there.
            subst (IsOutside w.forest) (one n (is_in-cases name [] n there))
            (new_outside w parity closes.growing.state.1 name fresh);
      }
        where
          one : (n : ℕ) → (name ≡ n) ⊎ (is_in [] n ≡ true) → name ≡ n
          one n (inl same) = same
          one n (inr none) = absurd (both_ways false refl none)
