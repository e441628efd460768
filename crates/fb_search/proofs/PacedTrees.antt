-- Nodes that move as their roles in the trees say.
use Rattle.std.proofs.Common.{ℕ, ◌≡◌, ◌∙◌, ◌&&◌, Bool, true, false, All, List, [], ◌∷◌, Option, refl, sym, ap, subst, if◌then◌else◌}
use Rattle.std.proofs.Math.Path.{fun_ext}
use Rattle.std.proofs.lemmas.Bool.{both_ways, false≢true}
use Rattle.fb_graph.specs.Parity.{is_in}
use Rattle.fb_graph.specs.Dual.{Node, is_live}
use Rattle.fb_graph.proofs.Sets.{is_in-All, is_in-head}
use Rattle.fb_plan.specs.declared.scope.NodeScope.{NodeScope}
use Rattle.fb_half.specs.declared.parts.Parts.{Parts}
use Rattle.fb_half.specs.Values.{HasScope}
use Rattle.fb_regions.specs.Paces.{IsAtRest, IsRepaced, Paced, grows, pace_in, rested, shrinks}
use Rattle.fb_regions.specs.declared.roles.Role.TheVariants.{Plus, Minus, Out}
use Rattle.fb_trees.specs.Branches.{Grown}
use Rattle.fb_trees.specs.Forests.{AreInPace, all_minus, all_plus, bare_trees, role_among, trees_in}
use Rattle.fb_search.specs.InternalPaces.{ArePaced, rested_parts}
use Rattle.fb_search.proofs.BegunForests.{bare_plus}
use Rattle.fb_search.proofs.GrowingMinus.{bare_minus}

-- the paces are the roles in the trees
pub paced_roles : {S : Type 0} (r : Paced S) (forest : List (Option Grown)) → AreInPace r forest
    → pace_in r ≡ role_among forest
paced_roles r forest paces = fun_ext paces

-- a node at rest
pub pace_at_rest : {S : Type 0} (r : Paced S) → IsAtRest r → (n : ℕ) → pace_in r n ≡ Out
pace_at_rest r rest n =
    ap (λ l. if is_in l n then Plus else (if is_in r.minus n then Minus else Out)) rest.plus
    ∙ ap (λ l. if is_in l n then Minus else Out) rest.minus

none_named : (xs : List ℕ) → ((n : ℕ) → is_in xs n ≡ false) → xs ≡ []
none_named [] none = refl
none_named (x ∷ xs) none = absurd (both_ways (is_in (x ∷ xs) x) (none x) (is_in-head x xs))

-- where each node is out none moves
pub rest_of_paces : {S : Type 0} (r : Paced S) → ((n : ℕ) → pace_in r n ≡ Out) → IsAtRest r
rest_of_paces r out = record {
  plus = none_named r.plus (λ n. (both (is_in r.plus n) (is_in r.minus n) (out n)).0);
  minus = none_named r.minus (λ n. (both (is_in r.plus n) (is_in r.minus n) (out n)).1);
}
  where
    both : (a b : Bool) → (if a then Plus else (if b then Minus else Out)) ≡ Out → (a ≡ false) × (b ≡ false)
    both true b h = absurd (false≢true (sym (ap grows h)))
    both false true h = absurd (false≢true (sym (ap shrinks h)))
    both false false h = (refl, refl)

-- where no tree is left no node moves
pub rest_of_none : {S : Type 0} (r : Paced S) (forest : List (Option Grown)) → AreInPace r forest → trees_in forest ≡ [] → IsAtRest r
rest_of_none r forest paces none =
    rest_of_paces r (λ n. paces n
    ∙ ap (λ ts. if is_in (all_plus ts) n then Plus else (if is_in (all_minus ts) n then Minus else Out)) none)

-- the pieces at rest
pub scope_at_rest : (parts : Parts) → HasScope parts → HasScope (rested_parts parts)
scope_at_rest parts has = record {
  graph = has.graph;
  plan = has.plan;
  node = has.node;
  listed = has.listed;
  defects = has.defects;
  rest = record { plus = refl; minus = refl };
}

pub scope_of_rest : (parts : Parts) → HasScope (rested_parts parts) → IsAtRest parts.regions → HasScope parts
scope_of_rest parts has rest = record {
  graph = has.graph;
  plan = has.plan;
  node = has.node;
  listed = has.listed;
  defects = has.defects;
  rest = rest;
}

-- other nodes move as those before them did
pub paced_moved : (parts : Parts) (forest : List (Option Grown)) (nodes : List Node) → ArePaced parts forest
    → ArePaced (record parts { regions = record parts.regions { nodes = nodes } }) forest
paced_moved parts forest nodes are = record {
  scope = record {
    graph = are.scope.graph;
    plan = are.scope.plan;
    node = are.scope.node;
    listed = are.scope.listed;
    defects = are.scope.defects;
    rest = record { plus = refl; minus = refl };
  };
  paces = are.paces;
}

-- the pieces with other paces
pub scope_repaced : (parts : Parts) (new : Paced NodeScope) → IsRepaced parts.regions new → HasScope (rested_parts parts)
    → HasScope (rested_parts (record parts { regions = new }))
scope_repaced parts new is has = subst (λ r. HasScope (record parts { regions = r })) (sym (ap rested is)) has

role_among_bare : (names : List ℕ) (n : ℕ) → role_among (bare_trees names) n ≡ (if is_in names n then Plus else Out)
role_among_bare names n =
    ap (λ l. if is_in l n then Plus else (if is_in (all_minus (trees_in (bare_trees names))) n then Minus else Out)) (bare_plus names)
    ∙ ap (λ l. if is_in names n then Plus else (if is_in l n then Minus else Out)) (bare_minus names)

-- the roots begin to grow
pub paces_begun : {S : Type 0} (names : List ℕ) (old new : Paced S) → IsAtRest old
    → All (λ n. is_live old.nodes n ≡ true) names
    → ((n : ℕ)
    → pace_in new n ≡ (if is_in names n && is_live old.nodes n then role_among (bare_trees names) n else pace_in old n))
    → AreInPace new (bare_trees names)
paces_begun names old new rest live paces n =
    paces n ∙ (ap (λ p. if is_in names n && is_live old.nodes n then role_among (bare_trees names) n else p) (pace_at_rest old rest n)
    ∙ by (is_in names n) refl)
  where
    by : (b : Bool) → is_in names n ≡ b
        → (if is_in names n && is_live old.nodes n then role_among (bare_trees names) n else Out) ≡ role_among (bare_trees names) n
    by true e =
        ap (λ b. if b && is_live old.nodes n then role_among (bare_trees names) n else Out) e
        ∙ ap (λ b. if b then role_among (bare_trees names) n else Out) (is_in-All (λ m. is_live old.nodes m ≡ true) names live n e)
    by false e =
        ap (λ b. if b && is_live old.nodes n then role_among (bare_trees names) n else Out) e
        ∙ sym (role_among_bare names n ∙ ap (λ b. if b then Plus else Out) e)
