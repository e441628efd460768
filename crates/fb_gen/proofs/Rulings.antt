-- The ranges and joins of a plan by time make that plan.
use Rattle.std.proofs.Common.{◌≡◌, ℕ, ◌+◌, ◌-◌, ◌*◌, ◌<◌, ◌≤◌, false, List, [], ◌∷◌, length, map, get_or, All, refl, sym, ap, ◌∙◌, arith}
use Rattle.std.proofs.Math.Bool.{and-false}
use Rattle.std.specs.Prelude.{None, option_map, Ok}
use Rattle.std.specs.List.{range_with_len, list_any}
use Rattle.std.proofs.Math.Nat.{mul-le-mul_right}
use Rattle.std.proofs.lemmas.Bool.{le-ltb}
use Rattle.std.proofs.lemmas.List.{length-map, get_or_default}
use Rattle.std.proofs.lemmas.List.Elements.{All-append, All-map}
use Rattle.std.proofs.lemmas.List.FromFn.{length-range_with_len}
use Rattle.std.proofs.lemmas.Simd.{map-map}
use Rattle.fb_graph.specs.Limits.{DecodingGraph, is_real_in}
use Rattle.fb_graph.specs.Problem.{edge_at, no_edge}
use Rattle.fb_graph.proofs.Sets.{range_below}
use Rattle.fb_plan.specs.Plans.{PlanTree, IsTree, goes_across}
use Rattle.fb_plan.specs.Rules.{claims_from, joins_of, seams_of, ranges_of, tree_by, plan_from, range_fault, unowned_fault, twice_fault, child_fault, use_fault, root_fault, edge_fault, is_bad_node, is_bad_range, is_unowned, is_owned_twice}
use Rattle.fb_plan.specs.declared.parts.Join.{Join}
use Rattle.fb_gen.specs.Lattice.{vertex_count, lattice_graph}
use Rattle.fb_gen.specs.TimePlan.{no_fusion, first_round, unit_range, seam_range, time_fusions, time_ranges, time_tree, time_plan_of}
use Rattle.fb_gen.specs.InternalSharing.{IsShared, plain_join, join_of}
use Rattle.fb_gen.specs.declared.levels.Fusion.{Fusion}
use Rattle.fb_gen.proofs.Acceptance.{time_tree_is_tree}
use Rattle.fb_gen.proofs.Owners.{time_claims, covered_once, no_edge_across, seam_bounds}
use Rattle.fb_gen.proofs.Rounds.{first_later, first_within, first_bound}
use Rattle.fb_gen.proofs.TreeRules.{no_units_fault, no_child_fault, no_use_fault, no_root_fault, no_faults}
use Rattle.fb_graph.proofs.Leasts.{least_none}

-- the one range of a node is no bad one
fine_range : (n : ℕ) (r : ℕ × ℕ) → r.0 ≤ r.1 → r.1 ≤ n → list_any (is_bad_range n) (r ∷ []) ≡ false
fine_range n r up within = rw (le-ltb r.1 r.0 up, le-ltb n r.1 within) refl

no_range_fault : (d t u : ℕ) → IsShared t u → range_fault (vertex_count d t) (time_ranges d t u) ≡ None
no_range_fault d t u shared =
    ap (option_map _) (least_none (length (time_ranges d t u)) (is_bad_node n (time_ranges d t u))
    (λ k less. all k [] less))
  where
    n : ℕ
    n = vertex_count d t

    P : List (ℕ × ℕ) → Type 0
    P rs = list_any (is_bad_range (vertex_count d t)) rs ≡ false

    w : ℕ
    w = d * (d + 1)

    whole : t * (d * (d + 1)) ≡ vertex_count d t
    whole = omega arith

    units : All P (map (λ j. unit_range d t u j ∷ []) (range_with_len 0 u))
    units =
        All-map P (λ j. unit_range d t u j ∷ []) (range_with_len 0 u) (λ k e less.
        let j : ℕ = get_or (range_with_len 0 u) k e in
        let inside : j < u = range_below u k e less in
        let later : first_round t u j + 2 ≤ first_round t u (j + 1) = first_later t u j (j + 1) shared (omega arith) in
        let last : first_round t u (j + 1) ≤ t + 1 = first_bound t u (j + 1) shared (omega arith) in
        fine_range n (unit_range d t u j)
        (mul-le-mul_right {m = first_round t u j} {n = first_round t u (j + 1) - 1} (d * (d + 1)) (omega arith))
        (omega (arith, whole, mul-le-mul_right {m = first_round t u (j + 1) - 1} {n = t} (d * (d + 1)) (omega arith))))

    seams : All P (map (λ f. seam_range d t u f.seam ∷ []) (time_fusions u))
    seams =
        All-map P (λ f. seam_range d t u f.seam ∷ []) (time_fusions u) (λ k e less.
        let s : ℕ = (get_or (time_fusions u) k e).seam in
        let same : get_or (time_fusions u) k e ≡ get_or (time_fusions u) k no_fusion = get_or_default (time_fusions u) k e no_fusion less in
        let inside : s < u = omega (arith, (seam_bounds t u k shared less).1, ap (λ (f : Fusion). f.seam) same) in
        let last : first_round t u s < t = first_within t u s shared inside in
        fine_range n (seam_range d t u s)
        (mul-le-mul_right {m = first_round t u s - 1} {n = first_round t u s} (d * (d + 1)) (omega arith))
        (omega (arith, whole, mul-le-mul_right {m = first_round t u s} {n = t} (d * (d + 1)) (omega arith))))

    all : All P (time_ranges d t u)
    all = All-append P (map (λ j. unit_range d t u j ∷ []) (range_with_len 0 u)) (map (λ f. seam_range d t u f.seam ∷ []) (time_fusions u)) units seams

no_unowned_fault : (d t u : ℕ) → IsShared t u → unowned_fault (lattice_graph d t) (time_claims d t u) ≡ None
no_unowned_fault d t u shared =
    ap (option_map _) (least_none (vertex_count d t) (is_unowned (lattice_graph d t) (time_claims d t u))
    (λ v below. rw (covered_once d t u v shared below) (and-false (is_real_in (lattice_graph d t) v))))

no_twice_fault : (d t u : ℕ) → IsShared t u → twice_fault (lattice_graph d t) (time_claims d t u) ≡ None
no_twice_fault d t u shared =
    ap (option_map _) (least_none (vertex_count d t) (is_owned_twice (lattice_graph d t) (time_claims d t u))
    (λ v below. rw (covered_once d t u v shared below) (and-false (is_real_in (lattice_graph d t) v))))

no_edge_fault : (d t u : ℕ) → IsShared t u → edge_fault (lattice_graph d t) (time_tree d t u) ≡ None
no_edge_fault d t u shared =
    ap (option_map _) (least_none (length (lattice_graph d t).edges) (λ e. goes_across (time_tree d t u) (edge_at (lattice_graph d t).edges e))
    (λ e less. no_edge_across d t u shared e no_edge less))

pub plan_is_time_tree : (d t u : ℕ) (g : DecodingGraph) (units : List (List (ℕ × ℕ))) (joins : List Join) → IsShared t u
    → g ≡ lattice_graph d t → units ≡ map (λ j. unit_range d t u j ∷ []) (range_with_len 0 u)
    → map plain_join joins ≡ map (join_of d t u) (time_fusions u) → plan_from g units joins ≡ Ok (time_tree d t u)
plan_is_time_tree d t u g units joins shared lattice made joined =
    rw (
      lattice,
      no_faults _ _ _ _ _ _ _ _ (no_units_fault units (omega (arith, shared.limit, count)))
          (ap (range_fault (vertex_count d t)) ranges ∙ no_range_fault d t u shared)
          (ap (λ rs. unowned_fault (lattice_graph d t) (claims_from 0 rs)) ranges ∙ no_unowned_fault d t u shared)
          (ap (λ rs. twice_fault (lattice_graph d t) (claims_from 0 rs)) ranges ∙ no_twice_fault d t u shared)
          (ap (λ n. child_fault n (joins_of joins)) count ∙ ap (child_fault u) nodes ∙ no_child_fault (time_tree d t u) tree_is_tree)
          (ap use_fault nodes ∙ no_use_fault (time_tree d t u) tree_is_tree)
          (ap (λ n. root_fault n (length (joins_of joins))) count ∙ ap (λ js. root_fault u (length js)) nodes ∙ no_root_fault (time_tree d t u) tree_is_tree)
          (ap (edge_fault (lattice_graph d t)) tree ∙ no_edge_fault d t u shared),
    )
    (ap Ok tree)
  where
    seam_part : ℕ × ℕ × List (ℕ × ℕ) → List (ℕ × ℕ)
    seam_part j = j.2

    node_part : ℕ × ℕ × List (ℕ × ℕ) → ℕ × ℕ
    node_part j = (j.0, j.1)

    count : length units ≡ u
    count = ap length made ∙ length-map (range_with_len 0 u) (λ j. unit_range d t u j ∷ []) ∙ length-range_with_len 0 u

    seams : map (λ j. j.seam.items) joins ≡ map (λ f. seam_range d t u f.seam ∷ []) (time_fusions u)
    seams = sym (map-map seam_part plain_join joins) ∙ ap (map seam_part) joined ∙ map-map seam_part (join_of d t u) (time_fusions u)

    nodes : joins_of joins ≡ (time_tree d t u).joins
    nodes = sym (map-map node_part plain_join joins) ∙ ap (map node_part) joined ∙ map-map node_part (join_of d t u) (time_fusions u)

    tree_is_tree : IsTree (time_tree d t u)
    tree_is_tree = time_tree_is_tree d t u shared

    ranges : ranges_of units joins ≡ time_ranges d t u
    ranges = rw (made, seams) refl

    tree : tree_by (lattice_graph d t) units (joins_of joins) (seams_of joins) ≡ time_tree d t u
    tree = rw (count, nodes, ranges) refl

-- the seams of all fusions are units' numbers
pub seams_below : (t n u v : ℕ) (fusions : List Fusion) → IsShared t n → u ≡ n → v ≡ n → fusions ≡ time_fusions v
    → All (λ f. f.seam < u) fusions
seams_below t n u v fusions shared one other made k e less =
    let all : fusions ≡ time_fusions n = made ∙ ap time_fusions other in
    let within : k < length (time_fusions n) = omega (arith, ap length all) in
    let same : get_or fusions k e ≡ get_or (time_fusions n) k no_fusion =
    ap (λ fs. get_or fs k e) all ∙ get_or_default (time_fusions n) k e no_fusion within in
    omega (arith, (seam_bounds t n k shared within).1, ap (λ (f : Fusion). f.seam) same)

-- the plan that is made is the one that is asked for
pub plan_is_made : (d t u e s v : ℕ) (p : PlanTree) → IsShared t u → e ≡ d → s ≡ t → v ≡ u → p ≡ time_tree e s v
    → time_plan_of d t u ≡ Ok p
plan_is_made d t u e s v p shared wide long many made =
    let enough : 2 * u - 1 ≤ t = omega (arith, shared.enough) in
    rw (le-ltb t (2 * u - 1) enough)
    (ap Ok (sym (made ∙ ap (λ x. time_tree x s v) wide ∙ ap (λ x. time_tree d x v) long ∙ ap (λ x. time_tree d t x) many)))
