-- A node that waits is in no tree, and stays as it is while the nodes of the trees change their layers.
use Rattle.std.proofs.Common.{ℕ, ◌≡◌, ◌≢◌, true, false, List, [], refl, sym, ap, ◌∙◌}
use Rattle.std.proofs.lemmas.Bool.{both_ways, false_from_ne_true}
use Rattle.fb_graph.specs.Dual.{taller_node}
use Rattle.fb_graph.specs.Moves.{absorbed_nodes, uncovered_nodes, without_top}
use Rattle.fb_graph.specs.Parity.{is_in}
use Rattle.fb_laws.specs.Forests.{forest_minus, forest_names, forest_plus}
use Rattle.fb_laws.proofs.ForestSteps.{minus_in_forest, plus_in_forest}
use Rattle.fb_trees.specs.Forests.{all_minus, all_plus, all_roles, trees_in}
use Rattle.fb_search.specs.InternalGrowing.{GrowingValue, IsGrowing, IsGrowingBeside, roles_among, waiting_in}
use Rattle.fb_search.specs.InternalGrowth.{grown_by}
use Rattle.fb_search.specs.Progress.{AreKept}
use Rattle.fb_search.proofs.GrowingRoles.{linked_trees, minus_numbers, plus_numbers, roles_are_all}
use Rattle.fb_search.proofs.KeptNodes.{named_changed, named_stepped}

module _ (more : List ℕ) (w : GrowingValue) (are : IsGrowingBeside more w) (n : ℕ) (waits : is_in (waiting_in w) n ≡ true) where
  pub waiting_outside : is_in (forest_names (linked_trees w)) n ≡ false
  waiting_outside = are.state.1.forest.apart n waits

  pub waiting_not_plus : is_in (all_plus (trees_in w.forest)) n ≡ false
  waiting_not_plus =
      ap (λ l. is_in l n) (sym (plus_numbers w.part.links (trees_in w.forest)))
      ∙ false_from_ne_true (is_in (forest_plus (linked_trees w)) n)
      (λ h. both_ways (is_in (forest_names (linked_trees w)) n) waiting_outside (plus_in_forest (linked_trees w) n h))

  pub waiting_not_minus : is_in (all_minus (trees_in w.forest)) n ≡ false
  waiting_not_minus =
      ap (λ l. is_in l n) (sym (minus_numbers w.part.links (trees_in w.forest)))
      ∙ false_from_ne_true (is_in (forest_minus (linked_trees w)) n)
      (λ h. both_ways (is_in (forest_names (linked_trees w)) n) waiting_outside (minus_in_forest (linked_trees w) n h))

  pub waiting_no_plus : (name : ℕ) → (roles_among w.forest).is_plus name ≡ true → n ≢ name
  waiting_no_plus name plus same =
      both_ways (is_in (all_plus (trees_in w.forest)) n) waiting_not_plus
      (sym (ap (λ rs. rs.is_plus n) (roles_are_all w are.state.0 are.state.1)) ∙ (ap (roles_among w.forest).is_plus same ∙ plus))

  pub waiting_no_minus : (name : ℕ) → (roles_among w.forest).is_minus name ≡ true → n ≢ name
  waiting_no_minus name minus same =
      both_ways (is_in (all_minus (trees_in w.forest)) n) waiting_not_minus
      (sym (ap (λ rs. rs.is_minus n) (roles_are_all w are.state.0 are.state.1)) ∙ (ap (roles_among w.forest).is_minus same ∙ minus))

-- the trees step
pub waiting_stepped : (w : GrowingValue) (k : ℕ) → IsGrowing w → AreKept (waiting_in w) w.part.nodes (grown_by k w).part.nodes
waiting_stepped w k are n waits =
    named_stepped (all_roles (trees_in w.forest)) k n (waiting_not_plus [] w are n waits) (waiting_not_minus [] w are n waits)
    w.part.nodes

-- a plus node absorbs a vertex
pub waiting_taller : (w : GrowingValue) (name v : ℕ) → IsGrowing w → (roles_among w.forest).is_plus name ≡ true
    → AreKept (waiting_in w) w.part.nodes (absorbed_nodes name v w.part.nodes)
waiting_taller w name v are plus n waits =
    named_changed name n (taller_node v) (λ m. refl) (waiting_no_plus [] w are n waits name plus) w.part.nodes

-- a minus node loses its top layer
pub waiting_lower : (w : GrowingValue) (name : ℕ) → IsGrowing w → (roles_among w.forest).is_minus name ≡ true
    → AreKept (waiting_in w) w.part.nodes (uncovered_nodes name w.part.nodes)
waiting_lower w name are minus n waits =
    named_changed name n without_top (λ m. refl) (waiting_no_minus [] w are n waits name minus) w.part.nodes
