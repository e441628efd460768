-- The unmatched nodes beside a search's root are outside its tree, and stay as they are while the tree's nodes change.
use Rattle.std.proofs.Common.{ℕ, ◌≡◌, ◌≢◌, ◌==◌, ◌+◌, ◌-◌, ◌||◌, not, Bool, true, false, cond, List, [], ◌∷◌, ◌++◌, refl, sym, ap, ◌∙◌}
use Rattle.std.proofs.lemmas.Bool.{both_ways, eqb-true, false_from_ne_true, false≢true, ne_eqb}
use Rattle.fb_graph.specs.Parity.{is_in}
use Rattle.fb_graph.specs.Dual.{Node, change_at, is_live}
use Rattle.fb_graph.specs.Moves.{split_nodes}
use Rattle.fb_graph.specs.Steps.{Roles, stepped_nodes, stepped_node}
use Rattle.fb_laws.specs.Trees.{minus_names, plus_names, roles_of, tree_names}
use Rattle.fb_laws.proofs.SearchStates.{unmatched_outside}
use Rattle.fb_laws.proofs.SearchTrees.{minus_in_tree, plus_in_tree}
use Rattle.fb_regions.specs.Moves.{node_named}
use Rattle.fb_trees.proofs.Mapped.{minus_moved, plus_moved}
use Rattle.fb_half.specs.Translations.{link_by}
use Rattle.fb_search.specs.InternalSearching.{stepped_by, unmatched_beside}
use Rattle.fb_search.specs.Progress.{AreKept}
use Rattle.fb_search.specs.InternalSearching.{IsSearching, IsSearchingBeside, SearchValue, problem_of, state_at}

-- another node is changed
pub named_changed : (name n : ℕ) (f : Node → Node) → ((m : Node) → (f m).name ≡ m.name) → n ≢ name → (nodes : List Node)
    → node_named (change_at name f nodes) n ≡ node_named nodes n
named_changed name n f same other [] = refl
named_changed name n f same other (m ∷ ms) = step (m.name == name) refl (named_changed name n f same other ms)
  where
    step : (b : Bool) → (m.name == name) ≡ b → node_named (change_at name f ms) n ≡ node_named ms n
        → node_named (cond b (f m) m ∷ change_at name f ms) n ≡ node_named (m ∷ ms) n
    step true e rest =
        let differs : m.name ≢ n = λ k. other (sym k ∙ eqb-true m.name name e) in
        ap (λ t. cond t (f m) (node_named (change_at name f ms) n)) (ne_eqb (f m).name n (λ k. differs (sym (same m) ∙ k)))
        ∙ (rest ∙ sym (ap (λ t. cond t m (node_named ms n)) (ne_eqb m.name n differs)))
    step false e rest = ap (λ (l : Node). cond (m.name == n) m l) rest

-- other nodes step
pub named_stepped : (roles : Roles) (k n : ℕ) → roles.is_plus n ≡ false → roles.is_minus n ≡ false → (nodes : List Node)
    → node_named (stepped_nodes roles k nodes) n ≡ node_named nodes n
named_stepped roles k n plus minus [] = refl
named_stepped roles k n plus minus (m ∷ ms) = step (m.name == n) refl (named_stepped roles k n plus minus ms)
  where
    still : m.name ≡ n → stepped_node roles k m ≡ m
    still named =
        ap (λ v. record m { top = record m.top { value = v } })
        (ap (λ t. cond t (m.top.value + k) (cond (roles.is_minus m.name) (m.top.value - k) m.top.value))
        (ap roles.is_plus named ∙ plus)
        ∙ ap (λ t. cond t (m.top.value - k) m.top.value) (ap roles.is_minus named ∙ minus))

    step : (b : Bool) → (m.name == n) ≡ b → node_named (stepped_nodes roles k ms) n ≡ node_named ms n
        → cond b (stepped_node roles k m) (node_named (stepped_nodes roles k ms) n) ≡ cond b m (node_named ms n)
    step true e rest = still (eqb-true m.name n e)
    step false e rest = rest

-- a node is added behind it
pub named_before : (n : ℕ) (new : Node) (nodes : List Node) → is_live nodes n ≡ true
    → node_named (nodes ++ new ∷ []) n ≡ node_named nodes n
named_before n new [] live = absurd (false≢true live)
named_before n new (m ∷ ms) live = step (m.name == n) live (named_before n new ms)
  where
    step : (b : Bool) → (b || is_live ms n) ≡ true
        → (is_live ms n ≡ true → node_named (ms ++ new ∷ []) n ≡ node_named ms n)
        → cond b m (node_named (ms ++ new ∷ []) n) ≡ cond b m (node_named ms n)
    step true there rest = refl
    step false there rest = rest there

-- another node is taken away
pub named_split : (name n : ℕ) → n ≢ name → (nodes : List Node) → node_named (split_nodes name nodes) n ≡ node_named nodes n
named_split name n other [] = refl
named_split name n other (m ∷ ms) = step (m.name == name) refl (named_split name n other ms)
  where
    step : (b : Bool) → (m.name == name) ≡ b → node_named (split_nodes name ms) n ≡ node_named ms n
        → node_named (cond (not b) (m ∷ split_nodes name ms) (split_nodes name ms)) n ≡ node_named (m ∷ ms) n
    step true e rest =
        rest
        ∙ sym (ap (λ t. cond t m (node_named ms n)) (ne_eqb m.name n (λ k. other (sym k ∙ eqb-true m.name name e))))
    step false e rest = ap (λ (l : Node). cond (m.name == n) m l) rest

-- a node that is unmatched beside the root
module _ (more : List ℕ) (w : SearchValue) (are : IsSearchingBeside more w) (n : ℕ)
    (beside : is_in (unmatched_beside w) n ≡ true) where
  outside : is_in (tree_names w.tree.root (state_at w are.state.0).tree) n ≡ false
  outside =
      let s = state_at w are.state.0 in
      unmatched_outside (problem_of w) w.part.nodes s.tree s.rest s.unmatched s.root are.state.0 are.state.1.search.search n
      beside

  beside_not_plus : is_in (plus_names w.tree.root w.tree.branches) n ≡ false
  beside_not_plus =
      let tree = (state_at w are.state.0).tree in
      ap (λ l. is_in l n) (sym (plus_moved (link_by w.part.links) w.tree.root w.tree.branches))
      ∙ false_from_ne_true (is_in (plus_names w.tree.root tree) n)
      (λ h. both_ways (is_in (tree_names w.tree.root tree) n) outside (plus_in_tree w.tree.root tree n h))

  beside_not_minus : is_in (minus_names w.tree.branches) n ≡ false
  beside_not_minus =
      let tree = (state_at w are.state.0).tree in
      ap (λ l. is_in l n) (sym (minus_moved (link_by w.part.links) w.tree.branches))
      ∙ false_from_ne_true (is_in (minus_names tree) n)
      (λ h. both_ways (is_in (tree_names w.tree.root tree) n) outside (minus_in_tree w.tree.root tree n h))

-- the tree steps
pub beside_stepped : (w : SearchValue) (k : ℕ) → IsSearching w
    → AreKept (unmatched_beside w) w.part.nodes (stepped_by k w).part.nodes
beside_stepped w k are n beside =
    named_stepped (roles_of w.tree.root w.tree.branches) k n (beside_not_plus [] w are n beside)
    (beside_not_minus [] w are n beside) w.part.nodes
