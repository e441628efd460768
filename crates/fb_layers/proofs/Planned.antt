-- The plan by layers is a plan of its graph: each real vertex has a node, and no edge goes across.
use Rattle.std.proofs.Common.{ℕ, zero, suc, ◌+◌, ◌-◌, ◌*◌, ◌<◌, ◌≤◌, ◌≡◌, ◌⊎◌, inl, inr, ◌&&◌, ◌||◌, Bool, true, false, not, max, is_some, List, [], ◌∷◌, ◌++◌, length, map, get_or, refl, sym, ap, subst, ◌∙◌, arith, length-append}
use Rattle.std.specs.Prelude.{Option, Some, None, option_map}
use Rattle.std.proofs.lemmas.Bool.{cases_lt, cases_Bool}
use Rattle.std.proofs.lemmas.List.{length-map, get_or_past}
use Rattle.std.proofs.lemmas.List.Recursion.{max_bounds, max_least}
use Rattle.fb_graph.specs.Components.{Leads}
use Rattle.fb_graph.specs.Problem.{edge_at}
use Rattle.fb_graph.specs.Limits.{DecodingGraph, is_real_in}
use Rattle.fb_graph.specs.declared.parts.Edge.{Edge}
use Rattle.fb_plan.specs.Plans.{IsTree, IsPlan, most_units, node_count, is_within, are_unrelated, goes_across, owner_of}
use Rattle.fb_gen.specs.TimePlan.{IsRoundOf, time_fusions}
use Rattle.fb_gen.specs.InternalSharing.{IsShared}
use Rattle.fb_gen.specs.declared.levels.Fusion.{Fusion}
use Rattle.fb_gen.proofs.Acceptance.{joins_length, time_tree_is_tree}
use Rattle.fb_gen.proofs.Fusions.{length-fusions}
use Rattle.fb_gen.proofs.Owners.{related}
use Rattle.fb_layers.specs.Layers.{is_inner, IsInnerWalk, IsLayer, AreLayers, layer_at, depth_of, height_of}
use Rattle.fb_layers.specs.PlanByLayers.{IsLayerOwner, IsPlanByLayers}
use Rattle.fb_layers.specs.InternalCovers.{AreNodes, owners_by, tree_by_nodes}
use Rattle.fb_layers.proofs.Walking.{inner_walk-append}

or_comm : (a b : Bool) → (a || b) ≡ (b || a)
or_comm true true = refl
or_comm true false = refl
or_comm false true = refl
or_comm false false = refl

-- ---- heights

pub layer_below : (layers : List (Option ℕ)) (v k : ℕ) → layer_at layers v ≡ Some k → k < height_of layers
layer_below layers v k at = elim (cases_lt v (length layers)) [
  | inl inside ↦
      omega (
        arith,
        max_bounds height_of depth_of refl (λ x xs. refl) layers v None inside,
        ap depth_of at,
      )
  | inr past ↦ let none : ⊥ = cc (get_or_past layers v None past, at) in absurd none
]

pub height_bound : (layers : List (Option ℕ)) (n : ℕ) → ((v k : ℕ) → layer_at layers v ≡ Some k → k < n) → height_of layers ≤ n
height_bound layers n each =
    max_least height_of depth_of refl (λ x xs. refl) layers None n (λ v less. step v (layer_at layers v) refl)
  where
    step : (v : ℕ) (o : Option ℕ) → layer_at layers v ≡ o → depth_of (layer_at layers v) ≤ n
    step v None at = rw at (omega arith)
    step v (Some k) at = rw at (omega (arith, each v k at))

-- ---- owners

pub owner_by_layer : (nodes : List ℕ) (layers : List (Option ℕ)) (v : ℕ)
    → get_or (owners_by nodes layers) v None ≡ option_map (λ layer. get_or nodes layer 0) (layer_at layers v)
owner_by_layer nodes [] v = refl
owner_by_layer nodes (layer ∷ layers) zero = refl
owner_by_layer nodes (layer ∷ layers) (suc v) = owner_by_layer nodes layers v

-- ---- layers over an edge

over_edge : (g : DecodingGraph) (k v w m n : ℕ) → k < length g.edges → is_inner g (edge_at g.edges k) ≡ true
    → Leads (edge_at g.edges k) v w → IsLayer g v m → IsLayer g w n → n ≤ m + 1
over_edge g k v w m n within inner leads here there =
    let onward : IsInnerWalk g (k ∷ []) v w = (w, within, inner, leads, refl) in
    let back : IsInnerWalk g (k ∷ []) w v = (v, within, inner, flip leads, refl) in
    let low : there.root ≤ here.root =
    there.least here.root (here.walk ++ k ∷ []) (inner_walk-append g here.walk (k ∷ []) here.root v w here.leads onward) in
    let high : here.root ≤ there.root =
    here.least there.root (there.walk ++ k ∷ []) (inner_walk-append g there.walk (k ∷ []) there.root w v there.leads back) in
    let same : here.root ≡ there.root = omega arith in
    let walk : IsInnerWalk g (here.walk ++ k ∷ []) there.root w =
    subst (λ r. IsInnerWalk g (here.walk ++ k ∷ []) r w) same (inner_walk-append g here.walk (k ∷ []) here.root v w here.leads onward) in
    omega (arith, there.shortest (here.walk ++ k ∷ []) walk, length-append here.walk (k ∷ []), here.count)
  where
    flip : Leads (edge_at g.edges k) v w → Leads (edge_at g.edges k) w v
    flip (inl (a, b)) = inr (b, a)
    flip (inr (a, b)) = inl (b, a)

-- the ends of an edge with two real ends have layers at most one apart
pub near_by_edge : (g : DecodingGraph) (k m n : ℕ) → k < length g.edges → is_inner g (edge_at g.edges k) ≡ true
    → IsLayer g (edge_at g.edges k).first m → IsLayer g (edge_at g.edges k).second n → (n ≤ m + 1) × (m ≤ n + 1)
near_by_edge g k m n within inner first second = (
  over_edge g k (edge_at g.edges k).first (edge_at g.edges k).second m n within inner (inl (refl, refl)) first second,
  over_edge g k (edge_at g.edges k).second (edge_at g.edges k).first n m within inner (inr (refl, refl)) second first,
)

-- a vertex that has a layer in the list is real, and that is its layer
pub layer_known : (g : DecodingGraph) (layers : List (Option ℕ)) → AreLayers g layers → (v m : ℕ) → layer_at layers v ≡ Some m
    → (is_real_in g v ≡ true) × IsLayer g v m
layer_known g layers layering v m at = elim (cases_Bool (is_real_in g v)) [
  | inl real ↦
      let (n, there, layer) = layering.real v real in
      let same : n ≡ m = cc (there, at) in
      (real, subst (IsLayer g v) same layer)
  | inr virtual ↦ let none : ⊥ = cc (layering.virtual v virtual, at) in absurd none
]

-- ---- the plan

pub shared_rounds_are : (u h : ℕ) → 1 ≤ u → u ≤ most_units → (1 < u → 2 * u - 1 ≤ h) → IsShared (max 1 h) u
shared_rounds_are u h some few enough = record {
  positive = some;
  limit = few;
  enough = step (cases_lt 1 u);
}
  where
    step : (1 < u) ⊎ (u ≤ 1) → 2 * u ≤ max 1 h + 1
    step (inl more) = omega (arith, enough more)
    step (inr one) = omega arith

pub nodes_are : (t u : ℕ) (nodes : List ℕ) (layers : List (Option ℕ)) → 1 ≤ u → length nodes ≡ t → height_of layers ≤ t
    → ((k : ℕ) → k < t → IsRoundOf t u k (get_or nodes k 0))
    → AreNodes (length (time_fusions u) + 1 + length (time_fusions u)) nodes layers
nodes_are t u nodes layers some count high each = record {
  within = λ v k at. omega (arith, layer_below layers v k at, count, high);
  below = λ k less. below k (each k (omega (arith, less, count)));
}
  where
    below : (k : ℕ) → IsRoundOf t u k (get_or nodes k 0) → get_or nodes k 0 < length (time_fusions u) + 1 + length (time_fusions u)
    below k (inl unit) = omega (arith, unit.node, length-fusions u some)
    below k (inr seam) = omega (arith, seam.node, seam.within, length-fusions u some)

module _ (g : DecodingGraph) (t u : ℕ) (nodes : List ℕ) (layers : List (Option ℕ)) (shared : IsShared t u)
    (layering : AreLayers g layers) (count : length nodes ≡ t) (high : height_of layers ≤ t)
    (each : (k : ℕ) → k < t → IsRoundOf t u k (get_or nodes k 0)) where
  fusions : List Fusion
  fusions = time_fusions u

  units_are : length (time_fusions u) + 1 ≡ u
  units_are = length-fusions u shared.positive

  owner_at : (v : ℕ) → owner_of (tree_by_nodes (time_fusions u) nodes layers) v ≡ option_map (λ layer. get_or nodes layer 0) (layer_at layers v)
  owner_at v = owner_by_layer nodes layers v

  tree_is : IsTree (tree_by_nodes (time_fusions u) nodes layers)
  tree_is =
      let time = time_tree_is_tree 0 t u shared in
      subst IsTree (ap (λ n. record { units = n; joins = map (λ f. (f.left, f.right)) (time_fusions u); owners = owners_by nodes layers }) (sym units_are))
      (record { limit = time.limit; count = time.count; joins = time.joins; once = time.once })

  -- two layers at most one apart have nodes one below the other
  within_one : (a b m n : ℕ) → (b ≡ a) ⊎ (b ≡ a + 1) → IsRoundOf t u a m → IsRoundOf t u b n
      → (is_within (tree_by_nodes (time_fusions u) nodes layers) m n || is_within (tree_by_nodes (time_fusions u) nodes layers) n m) ≡ true
  within_one a b m n near here there =
      subst (λ k. (is_within (record { units = k; joins = map (λ f. (f.left, f.right)) (time_fusions u); owners = owners_by nodes layers }) m n
      || is_within (record { units = k; joins = map (λ f. (f.left, f.right)) (time_fusions u); owners = owners_by nodes layers }) n m) ≡ true)
      (sym units_are) (related 0 t u a b m n shared near here there)

  stays : (a b m n : ℕ) → b ≤ a + 1 → a ≤ b + 1 → IsRoundOf t u a m → IsRoundOf t u b n
      → are_unrelated (tree_by_nodes (time_fusions u) nodes layers) (Some m) (Some n) ≡ false
  stays a b m n up down here there = elim (cases_lt b a) [
    | inl below ↦
        ap not (or_comm (is_within (tree_by_nodes (time_fusions u) nodes layers) m n) (is_within (tree_by_nodes (time_fusions u) nodes layers) n m)
        ∙ within_one b a n m (inr (omega (arith, below, down))) there here)
    | inr above ↦ ap not (within_one a b m n (step above (cases_lt a b)) here there)
  ]
    where
      step : a ≤ b → (a < b) ⊎ (b ≤ a) → (b ≡ a) ⊎ (b ≡ a + 1)
      step above (inl more) = inr (omega (arith, more, up))
      step above (inr less) = inl (omega (arith, less, above))

  not_across : (k : ℕ) → k < length g.edges → goes_across (tree_by_nodes (time_fusions u) nodes layers) (edge_at g.edges k) ≡ false
  not_across k within =
      rw (owner_at (edge_at g.edges k).first, owner_at (edge_at g.edges k).second)
      (step (layer_at layers (edge_at g.edges k).first) (layer_at layers (edge_at g.edges k).second) refl refl)
    where
      step : (a b : Option ℕ) → layer_at layers (edge_at g.edges k).first ≡ a → layer_at layers (edge_at g.edges k).second ≡ b
          → are_unrelated (tree_by_nodes (time_fusions u) nodes layers) (option_map (λ layer. get_or nodes layer 0) a)
          (option_map (λ layer. get_or nodes layer 0) b) ≡ false
      step None b first second = refl
      step (Some a) None first second = refl
      step (Some a) (Some b) first second =
          let (is_first, here) = layer_known g layers layering (edge_at g.edges k).first a first in
          let (is_second, there) = layer_known g layers layering (edge_at g.edges k).second b second in
          let inner : is_inner g (edge_at g.edges k) ≡ true = both (is_real_in g (edge_at g.edges k).first) (is_real_in g (edge_at g.edges k).second) is_first is_second in
          let (up, down) = near_by_edge g k a b within inner here there in
          stays a b (get_or nodes a 0) (get_or nodes b 0) up down
          (each a (omega (arith, layer_below layers (edge_at g.edges k).first a first, high)))
          (each b (omega (arith, layer_below layers (edge_at g.edges k).second b second, high)))
        where
          both : (p q : Bool) → p ≡ true → q ≡ true → (p && q) ≡ true
          both p q x y = rw (x, y) refl

  owned_if_real : (v : ℕ) → is_some (owner_of (tree_by_nodes (time_fusions u) nodes layers) v) ≡ is_real_in g v
  owned_if_real v = ap is_some (owner_at v) ∙ step (cases_Bool (is_real_in g v))
    where
      step : (is_real_in g v ≡ true) ⊎ (is_real_in g v ≡ false)
          → is_some (option_map (λ layer. get_or nodes layer 0) (layer_at layers v)) ≡ is_real_in g v
      step (inl real) = let (n, there, layer) = layering.real v real in rw (there, real) refl
      step (inr virtual) = rw (layering.virtual v virtual, virtual) refl

  owner_below : (v n : ℕ) (o : Option ℕ) → layer_at layers v ≡ o → option_map (λ layer. get_or nodes layer 0) o ≡ Some n
      → n < node_count (tree_by_nodes (time_fusions u) nodes layers)
  owner_below v n None at is = let none : ⊥ = cc is in absurd none
  owner_below v n (Some k) at is =
      let same : get_or nodes k 0 ≡ n = cc is in
      omega (
        arith,
        same,
        (nodes_are t u nodes layers shared.positive count high each).below k (omega (arith, layer_below layers v k at, high, count)),
        joins_length 0 t u,
      )

  pub layer_tree_is_plan : IsPlan g (tree_by_nodes (time_fusions u) nodes layers)
  layer_tree_is_plan = record {
    tree = tree_is;
    count = length-map layers (option_map (λ layer. get_or nodes layer 0)) ∙ layering.count;
    owned = owned_if_real;
    owners = λ v n at. owner_below v n (layer_at layers v) refl (sym (owner_at v) ∙ at);
    edges = λ k d less. subst (λ e. goes_across (tree_by_nodes (time_fusions u) nodes layers) e ≡ false) (same_edge g.edges k d less) (not_across k less);
  }
    where
      same_edge : (es : List Edge) (k : ℕ) (d : Edge) → k < length es → edge_at es k ≡ get_or es k d
      same_edge [] k d less = absurd (omega arith)
      same_edge (e ∷ es) zero d less = refl
      same_edge (e ∷ es) (suc k) d less = same_edge es k d (omega arith)

  pub layer_tree_is_by_layers : t ≡ max 1 (height_of layers) → (1 < u → 2 * u - 1 ≤ height_of layers)
      → IsPlanByLayers g u (tree_by_nodes (time_fusions u) nodes layers)
  layer_tree_is_by_layers rounds enough = record {
    layers = layers;
    layering = layering;
    units = units_are;
    joins = refl;
    count = length-map layers (option_map (λ layer. get_or nodes layer 0)) ∙ layering.count;
    owners = λ v. owner v (layer_at layers v) refl;
    enough = enough;
  }
    where
      owner : (v : ℕ) (o : Option ℕ) → layer_at layers v ≡ o
          → IsLayerOwner (height_of layers) u (layer_at layers v) (owner_of (tree_by_nodes (time_fusions u) nodes layers) v)
      owner v None at = rw (owner_at v, at) refl
      owner v (Some k) at =
          let below : k < height_of layers = layer_below layers v k at in
          let all : t ≡ height_of layers = omega arith in
          rw (owner_at v, at) (get_or nodes k 0, refl, subst (λ h. IsRoundOf h u k (get_or nodes k 0)) all (each k (omega arith)))

pub record IsCut (g : DecodingGraph) (many : ℕ) (fusions : List Fusion) (nodes : List ℕ) (layers : List (Option ℕ)) : Type 0 where
  pub few : length fusions < most_units
  pub nodes_are : AreNodes (length fusions + 1 + length fusions) nodes layers
  pub valid : IsPlan g (tree_by_nodes fusions nodes layers)
  pub plan : IsPlanByLayers g many (tree_by_nodes fusions nodes layers)

pub cut_is : (g : DecodingGraph) (t u many : ℕ) (fusions : List Fusion) (nodes held : List ℕ) (layers : List (Option ℕ)) → u ≡ many
    → fusions ≡ time_fusions u → held ≡ nodes → t ≡ max 1 (height_of layers) → 1 ≤ many → many ≤ most_units
    → (1 < many → 2 * many - 1 ≤ height_of layers) → AreLayers g layers → length nodes ≡ t
    → ((k : ℕ) → k < t → IsRoundOf t u k (get_or nodes k 0)) → IsCut g many fusions held layers
cut_is g t u many fusions nodes held layers same made is rounds some few enough layering count each =
    let more : 1 < u → 2 * u - 1 ≤ height_of layers = λ h. omega (arith, same, enough (omega (arith, same, h))) in
    let shared : IsShared t u = subst (λ n. IsShared n u) (sym rounds) (shared_rounds_are u (height_of layers) (omega (arith, same, some)) (omega (arith, same, few)) more) in
    let high : height_of layers ≤ t = omega (arith, rounds) in
    let cut : IsCut g u (time_fusions u) nodes layers = record {
      few = omega (arith, length-fusions u shared.positive, shared.limit);
      nodes_are = nodes_are t u nodes layers shared.positive count high each;
      valid = layer_tree_is_plan g t u nodes layers shared layering count high each;
      plan = layer_tree_is_by_layers g t u nodes layers shared layering count high each rounds more;
    } in
    subst (λ n. IsCut g n fusions held layers) same
    (subst (λ fs. IsCut g u fs held layers) (sym made) (subst (λ ns. IsCut g u (time_fusions u) ns layers) (sym is) cut))
