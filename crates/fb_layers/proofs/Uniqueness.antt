-- A graph has one list of layers, so a plan by them or too few of them, and one plan for so many units.
use Rattle.std.proofs.Common.{ℕ, ◌+◌, ◌-◌, ◌*◌, ◌≡◌, ◌<◌, ◌≤◌, ◌⊎◌, inl, inr, max, true, false, get_or, refl, sym, ap, subst, ◌∙◌, arith}
use Rattle.std.specs.Prelude.{Option, Some, None}
use Rattle.std.proofs.lemmas.Bool.{cases_Bool}
use Rattle.std.proofs.lemmas.List.{ext_get_or}
use Rattle.fb_graph.specs.Problem.{edge_at}
use Rattle.fb_graph.specs.Limits.{DecodingGraph, is_real_in}
use Rattle.fb_plan.specs.Plans.{PlanTree, most_units, owner_of}
use Rattle.fb_gen.specs.TimePlan.{IsRoundOf, IsSeamRound, IsUnitRound, no_fusion, time_fusions}
use Rattle.fb_gen.specs.InternalSharing.{IsShared}
use Rattle.fb_gen.proofs.Owners.{one_by_seam, unit_order, unit_order_strict}
use Rattle.fb_layers.specs.Layers.{IsInnerWalk, IsLayer, height_of, layer_at}
use Rattle.fb_layers.specs.PlanByLayers.{IsLayerOwner}
use Rattle.fb_layers.specs.Laws.{NearLayers, OneLayer, OneLayering, OnePlan, PlannedOrTooFew}
use Rattle.fb_layers.proofs.Planned.{layer_below, layer_known, near_by_edge, shared_rounds_are}

no_more : (g : DecodingGraph) (v m n : ℕ) → IsLayer g v m → IsLayer g v n → m ≤ n
no_more g v m n one other =
    let low : one.root ≤ other.root = one.least other.root other.walk other.leads in
    let high : other.root ≤ one.root = other.least one.root one.walk one.leads in
    let same : other.root ≡ one.root = omega arith in
    let walk : IsInnerWalk g other.walk one.root v = subst (λ r. IsInnerWalk g other.walk r v) same other.leads in
    omega (arith, one.shortest other.walk walk, other.count)

pub one_layer : OneLayer
one_layer g v m n one other = omega (arith, no_more g v m n one other, no_more g v n m other one)

pub one_layering : OneLayering
one_layering g layers others one other =
    ext_get_or None layers others (one.count ∙ sym other.count) (λ v less. step v (cases_Bool (is_real_in g v)))
  where
    step : (v : ℕ) → (is_real_in g v ≡ true) ⊎ (is_real_in g v ≡ false) → layer_at layers v ≡ layer_at others v
    step v (inl real) =
        let (m, at, layer) = one.real v real in
        let (n, there, its) = other.real v real in
        at ∙ (ap Some (one_layer g v m n layer its) ∙ sym there)
    step v (inr virtual) = one.virtual v virtual ∙ sym (other.virtual v virtual)

pub planned_or_too_few : PlannedOrTooFew
planned_or_too_few g units h t plan few =
    omega (
      arith,
      few.height,
      few.few,
      plan.enough few.more,
      ap height_of (one_layering g plan.layers few.layers plan.layering few.layering),
    )

pub near_layers : NearLayers
near_layers g layers k m n layering within inner first second =
    let (up, down) = near_by_edge g k m n within inner (layer_known g layers layering (edge_at g.edges k).first m first).1
    (layer_known g layers layering (edge_at g.edges k).second n second).1 in
    (down, up)

-- ---- one plan

-- no round is a unit's and a seam
unit_or_seam : (t u k m n : ℕ) → IsShared t u → IsUnitRound t u k m → IsSeamRound t u k n → ⊥
unit_or_seam t u k m n shared a b =
    let seam : ℕ = (get_or (time_fusions u) b.place no_fusion).seam in
    let after : m < seam = unit_order_strict t u m seam shared (omega (arith, a.low, b.round)) in
    let before : seam < m + 1 = unit_order_strict t u seam (m + 1) shared (omega (arith, a.high, b.round)) in
    omega arith

-- a round has one node
one_node : (t u k m n : ℕ) → IsShared t u → IsRoundOf t u k m → IsRoundOf t u k n → m ≡ n
one_node t u k m n shared (inl a) (inl b) =
    let later : m < n + 1 = unit_order_strict t u m (n + 1) shared (omega (arith, a.low, b.high)) in
    let earlier : n < m + 1 = unit_order_strict t u n (m + 1) shared (omega (arith, b.low, a.high)) in
    omega arith
one_node t u k m n shared (inl a) (inr b) = absurd (unit_or_seam t u k m n shared a b)
one_node t u k m n shared (inr a) (inl b) = absurd (unit_or_seam t u k n m shared b a)
one_node t u k m n shared (inr a) (inr b) =
    let up : (get_or (time_fusions u) a.place no_fusion).seam ≤ (get_or (time_fusions u) b.place no_fusion).seam =
    unit_order t u _ _ shared (omega (arith, a.round, b.round)) in
    let down : (get_or (time_fusions u) b.place no_fusion).seam ≤ (get_or (time_fusions u) a.place no_fusion).seam =
    unit_order t u _ _ shared (omega (arith, a.round, b.round)) in
    let one : a.place ≡ b.place = one_by_seam t u a.place b.place shared a.within b.within (omega arith) in
    omega (arith, a.node, b.node, one)

-- the owner of a vertex of this layer
one_owner : (h u : ℕ) (layer first second : Option ℕ) → 1 ≤ u → u ≤ most_units → (1 < u → 2 * u - 1 ≤ h)
    → ((k : ℕ) → layer ≡ Some k → k < h) → IsLayerOwner h u layer first → IsLayerOwner h u layer second → first ≡ second
one_owner h u None first second some few enough low one other = one ∙ sym other
one_owner h u (Some k) first second some few enough low (m, is, here) (n, also, there) =
    let all : max 1 h ≡ h = omega (arith, low k refl) in
    let shared : IsShared h u = subst (λ t. IsShared t u) all (shared_rounds_are u h some few enough) in
    is ∙ (ap Some (one_node h u k m n shared here there) ∙ sym also)

same_tree : (t other : PlanTree) → t.units ≡ other.units → t.joins ≡ other.joins → t.owners ≡ other.owners → t ≡ other
same_tree t other units joins owners =
    ap (λ n. record { units = n; joins = t.joins; owners = t.owners }) units
    ∙ ap (λ js. record { units = other.units; joins = js; owners = t.owners }) joins
    ∙ ap (λ os. record { units = other.units; joins = other.joins; owners = os }) owners

pub one_plan : OnePlan
one_plan g units t other some few one its =
    same_tree t other (one.units ∙ sym its.units) (one.joins ∙ sym its.joins)
    (ext_get_or None t.owners other.owners (one.count ∙ sym its.count) (λ v less.
    one_owner (height_of one.layers) units (layer_at one.layers v) (owner_of t v) (owner_of other v) some few one.enough
    (λ k at. layer_below one.layers v k at) (one.owners v)
    (subst (λ layers. IsLayerOwner (height_of layers) units (layer_at layers v) (owner_of other v)) (sym same) (its.owners v))))
  where
    same : one.layers ≡ its.layers
    same = one_layering g one.layers its.layers one.layering its.layering
