-- A step of a tree, node by node.
use Rattle.std.proofs.Common.{ℕ, ◌≡◌, ◌||◌, true, false, List, [], ◌∷◌, ◌++◌, refl, sym, ap, ◌∙◌, subst}
use Rattle.fb_graph.specs.Parity.{is_in}
use Rattle.fb_graph.specs.Problem.{Problem}
use Rattle.fb_graph.specs.Dual.{AllowsGrowth, IsCrossed, Node, change_at, is_live, is_outer, thicker_node, top_at}
use Rattle.fb_graph.specs.Steps.{MayStep, Roles, stepped_nodes, stepped_node}
use Rattle.fb_graph.specs.Turns.{with_plus}
use Rattle.fb_graph.proofs.Among.{All_among, live_among}
use Rattle.fb_graph.proofs.MappedNodes.{mapped_outer, mapped_live}
use Rattle.fb_graph.proofs.Members.{is_in_push}
use Rattle.fb_graph.proofs.Sets.{equal_sym}
use Rattle.fb_graph.proofs.StepTurns.{grown_next, growth_allowed, same_roles, top_stepped}
use Rattle.fb_trees.specs.TreesOver.{AreOver, roles_by_names}

-- one more node that grows
pub grown_turn : (done minus : List ℕ) (k name : ℕ) (nodes : List Node) → is_in done name ≡ false
    → is_in minus name ≡ false
    → change_at name (thicker_node k) (stepped_nodes (roles_by_names done minus) k nodes)
    ≡ stepped_nodes (roles_by_names (done ++ name ∷ []) minus) k nodes
grown_turn done minus k name nodes new out =
    grown_next (roles_by_names done minus) k name nodes new out
    ∙ same_roles (with_plus (roles_by_names done minus) name) (roles_by_names (done ++ name ∷ []) minus) k nodes
    (λ n. ap (λ b. is_in done n || b) (equal_sym n name) ∙ sym (is_in_push done name n)) (λ n. refl)

pub still_live : (roles : Roles) (k name : ℕ) (nodes : List Node) → is_live nodes name ≡ true
    → is_live (stepped_nodes roles k nodes) name ≡ true
still_live roles k name nodes live = mapped_live (stepped_node roles k) (λ n. refl) nodes name ∙ live

still_outer : (roles : Roles) (k name : ℕ) (nodes : List Node) → is_outer nodes name ≡ true
    → is_outer (stepped_nodes roles k nodes) name ≡ true
still_outer roles k name nodes outer = mapped_outer (stepped_node roles k) (λ n. refl) nodes name ∙ outer

module _ (p : Problem) (all_plus all_minus : List ℕ) (nodes : List Node) (are : AreOver p all_plus all_minus nodes) where
  plus_outer : (name : ℕ) → is_in all_plus name ≡ true → is_outer nodes name ≡ true
  plus_outer name plus =
      let (m, among, named) = live_among nodes name (are.plus_live name plus) in
      subst (λ x. is_outer nodes x ≡ true) named
      (All_among (λ n. (roles_by_names all_plus all_minus).is_plus n.name ≡ true → is_outer nodes n.name ≡ true) nodes are.roles.plus m among
      (ap (is_in all_plus) named ∙ plus))

  -- a plus node may grow in its turn
  pub plus_turn : (done minus : List ℕ) (k name : ℕ) → MayStep p (roles_by_names all_plus all_minus) nodes k
      → ((n : ℕ) → is_in minus n ≡ is_in all_minus n)
      → ((n : ℕ) → is_in done n ≡ true → is_in all_plus n ≡ true)
      → is_in all_plus name ≡ true → is_in done name ≡ false
      → (is_live (stepped_nodes (roles_by_names done minus) k nodes) name ≡ true)
      × (is_outer (stepped_nodes (roles_by_names done minus) k nodes) name ≡ true)
      × IsCrossed p (top_at (stepped_nodes (roles_by_names done minus) k nodes) name)
      × AllowsGrowth p (stepped_nodes (roles_by_names done minus) k nodes) (top_at (stepped_nodes (roles_by_names done minus) k nodes) name) k
  plus_turn done minus k name may same within plus new =
      let part = roles_by_names done minus in
      let top = sym (top_stepped part k name nodes) in (
        still_live part k name nodes (are.plus_live name plus),
        still_outer part k name nodes (plus_outer name plus),
        subst (IsCrossed p) top (are.crossed name plus),
        subst (λ set. AllowsGrowth p (stepped_nodes part k nodes) set k) top
            (growth_allowed p part (roles_by_names all_plus all_minus) nodes k name are.roles.exclusive may
            (record { minus = same; plus = within }) plus new),
      )
