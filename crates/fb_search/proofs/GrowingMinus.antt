-- The bounds of minus nodes stay right while several trees grow.
use Rattle.std.proofs.Common.{ℕ, ◌≡◌, ◌*◌, ◌⊎◌, inl, inr, true, false, List, [], ◌∷◌, get_or, map, Option, refl, sym, ap, ◌∙◌, subst}
use Rattle.std.proofs.lemmas.Bool.{false≢true}
use Rattle.fb_graph.specs.Certificate.{AreDistinct}
use Rattle.fb_graph.specs.Dual.{Node}
use Rattle.fb_graph.specs.Parity.{is_in}
use Rattle.fb_graph.specs.Steps.{Roles}
use Rattle.fb_graph.proofs.Among.{IsAmong, All_among, among_All}
use Rattle.fb_regions.specs.Moves.{node_named}
use Rattle.fb_trees.specs.Branches.{Grown}
use Rattle.fb_trees.specs.Forests.{all_minus, all_plus, bare_trees, trees_in}
use Rattle.fb_obstacles.specs.InternalWatching.{EntersNode}
use Rattle.fb_regions.specs.Paces.{shrinks}
use Rattle.fb_obstacles.specs.Obstacles.{AreMinusBounded}
use Rattle.fb_obstacles.specs.Watched.{Watched, has_bound}
use Rattle.fb_obstacles.proofs.NodeLooks.{named_only}
use Rattle.fb_search.specs.InternalGrowing.{roles_among}
use Rattle.fb_search.proofs.MinusBounds.{minus_fewer}
use Rattle.fb_search.proofs.RolesAmong.{minus_among, minus_not_plus_among, role_minus_among}

-- trees of their roots alone have no minus node
pub bare_minus : (names : List ℕ) → all_minus (trees_in (bare_trees names)) ≡ []
bare_minus [] = refl
bare_minus (n ∷ ns) = bare_minus ns

pub minus_bare : (names : List ℕ) (nodes : List Node) (w : Watched) → AreMinusBounded (roles_among (bare_trees names)) nodes w
minus_bare names nodes w i d less minus = none (get_or nodes i d).name minus
  where
    none : (n : ℕ) → (roles_among (bare_trees names)).is_minus n ≡ true → has_bound w.nodes n (2 * (get_or nodes i d).top.value) ≡ true
    none n is = absurd (false≢true (ap (λ l. is_in l n) (sym (bare_minus names)) ∙ minus_among (bare_trees names) n is))

-- one more node is minus, once it is entered
pub minus_entered : (before after : Roles) (name : ℕ) (nodes : List Node) (old between new : Watched)
    → ((n : ℕ) → after.is_minus n ≡ true → (name ≡ n) ⊎ (before.is_minus n ≡ true))
    → AreDistinct (map (λ n. n.name) nodes) → EntersNode name (2 * (node_named nodes name).top.value) old between
    → new.nodes ≡ between.nodes → AreMinusBounded before nodes old → AreMinusBounded after nodes new
minus_entered before after name nodes old between new were distinct enters same =
    minus_fewer before after nodes old new
    (λ n limit is. subst (λ bs. has_bound bs n limit ≡ true) (sym same) (enters.kept n limit is))
    (among_All (λ n. after.is_minus n.name ≡ true
    → (before.is_minus n.name ≡ true) ⊎ (has_bound new.nodes n.name (2 * n.top.value) ≡ true)) nodes
    (λ n a minus. by n a (were n.name minus)))
  where
    by : (n : Node) → IsAmong n nodes → (name ≡ n.name) ⊎ (before.is_minus n.name ≡ true)
        → (before.is_minus n.name ≡ true) ⊎ (has_bound new.nodes n.name (2 * n.top.value) ≡ true)
    by n a (inl here) =
        inr
        (subst (λ bs. has_bound bs n.name (2 * n.top.value) ≡ true) (sym same)
        (subst (λ m. has_bound between.nodes n.name (2 * m.top.value) ≡ true)
        (sym (All_among (λ m. m.name ≡ n.name → m ≡ node_named nodes n.name) nodes (named_only nodes n.name distinct) n a refl))
        (subst (λ x. has_bound between.nodes x (2 * (node_named nodes x).top.value) ≡ true) here enters.entered)))
    by n a (inr old) = inl old

-- so where the trees take it in, and no plus node of theirs is lost
pub minus_taken : (before after : List (Option Grown)) (name : ℕ)
    → ((n : ℕ) → is_in (all_plus (trees_in after)) n ≡ false → is_in (all_plus (trees_in before)) n ≡ false)
    → ((n : ℕ) → is_in (all_minus (trees_in after)) n ≡ true → (name ≡ n) ⊎ (is_in (all_minus (trees_in before)) n ≡ true))
    → (n : ℕ) → (roles_among after).is_minus n ≡ true → (name ≡ n) ⊎ ((roles_among before).is_minus n ≡ true)
minus_taken before after name plus minus n is = by (minus n (minus_among after n is))
  where
    by : (name ≡ n) ⊎ (is_in (all_minus (trees_in before)) n ≡ true) → (name ≡ n) ⊎ ((roles_among before).is_minus n ≡ true)
    by (inl here) = inl here
    by (inr old) = inr (ap shrinks (role_minus_among before n (plus n (minus_not_plus_among after n is)) old))
