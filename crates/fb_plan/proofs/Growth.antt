-- That ranges and fusions which break no rule make a plan.
use Rattle.std.proofs.Common.{ℕ, zero, suc, ◌+◌, ◌^◌, ◌<◌, ◌≤◌, ◌≡◌, ◌⊎◌, Bool, true, false, cond, eqb, ltb, List, [], ◌∷◌, ◌++◌, length, map, get_or, find, count_by, Option, Some, None, is_some, All, refl, sym, ap, ◌∙◌, subst, inl, inr, arith}
use Rattle.std.specs.List.{range_with_len}
use Rattle.std.specs.Option.{option_or}
use Rattle.std.specs.Prelude.{option_map}
use Rattle.std.proofs.lemmas.Bool.{and_cases, both_ways, cases_lt, cond-false, eqb-false, eqb-true, le-ltb, ltb-false}
use Rattle.std.proofs.lemmas.List.{get_or-map, get_or_default, length-map}
use Rattle.std.proofs.lemmas.List.Elements.{All-append, All-head, All-nil, All-tail}
use Rattle.std.proofs.lemmas.List.FromFn.{length-map-range_with_len}
use Rattle.std.proofs.lemmas.List.Sums.{sum_by-cons}
use Rattle.std.proofs.lemmas.Option.{same_Some}
use Rattle.fb_graph.specs.Problem.{edge_at, no_edge}
use Rattle.fb_graph.specs.Limits.{DecodingGraph, is_real_in}
use Rattle.fb_graph.specs.declared.parts.Edge.{Edge}
use Rattle.fb_plan.specs.InternalLayout.{given_owner, tree_of}
use Rattle.fb_plan.specs.InternalLoads.{load_at}
use Rattle.fb_plan.specs.Plans.{IsPlan, IsTree, PlanTree, goes_across, most_units, node_count, owner_of}
use Rattle.fb_plan.specs.Rules.{child_fault, claim_of, claims_from, edge_fault, holds, is_out_of_range, is_owned_twice, is_unowned, is_used_twice, joins_of, owner_in, plan_fault, range_fault, ranges_of, root_fault, seams_of, tree_by, twice_fault, units_fault, unowned_fault, use_fault, or_fault}
use Rattle.fb_graph.specs.Leasts.{least}
use Rattle.fb_plan.specs.declared.faults.PlanFault.TheVariants.{TooManyUnits, VertexUnowned, VertexTwice, ChildOutOfRange, ChildUsedTwice, NotOneRoot}
use Rattle.fb_plan.specs.declared.faults.PlanFault.{PlanFault}
use Rattle.fb_plan.specs.declared.loads.Measure.TheVariants.{Nodes}
use Rattle.fb_plan.specs.declared.parts.OwnedRange.{OwnedRange}
use Rattle.fb_plan.specs.declared.parts.Join.{Join}
use Rattle.fb_plan.proofs.Fusions.{join_of, length-joins_of, tree_of_rules}
use Rattle.fb_graph.proofs.Leasts.{least_failed}
use Rattle.fb_plan.proofs.Ownership.{owner_told, unreal_beyond}
use Rattle.fb_plan.proofs.Tables.{tree_with_owners, option_or-none}

-- the ranges of each node are of a node
claims_of_nodes : (n : ℕ) (ranges : List (List (ℕ × ℕ))) → All (λ c. c.node < n + length ranges) (claims_from n ranges)
claims_of_nodes n [] = All-nil (λ c. c.node < n + 0)
claims_of_nodes n (first ∷ ranges) =
    All-append (λ c. c.node < n + length (first ∷ ranges)) (map (claim_of n) first) (claims_from (n + 1) ranges)
    (λ k d less. subst (λ c. c.node < n + length (first ∷ ranges))
    (sym (get_or-map (claim_of n) first k (0, 0) d (omega (arith, less, length-map first (claim_of n))))) (omega arith))
    (λ k d less. let below : (get_or (claims_from (n + 1) ranges) k d).node < n + 1 + length ranges = claims_of_nodes (n + 1) ranges k d less in omega arith)

pub claims_below : (ranges : List (List (ℕ × ℕ))) (nodes : ℕ) → length ranges ≡ nodes
    → All (λ c. c.node < nodes) (claims_from 0 ranges)
claims_below ranges nodes count k d less =
    let below : (get_or (claims_from 0 ranges) k d).node < 0 + length ranges = claims_of_nodes 0 ranges k d less in omega (arith, below, count)

-- where no range passes, nothing is added up
none_counted : (claims : List OwnedRange) (v : ℕ) → count_by (holds v) claims ≡ 0 → load_at Nodes claims v ≡ 0
none_counted [] v none = refl
none_counted (c ∷ claims) v none = step (holds v c) refl (none_counted claims v)
  where
    step : (b : Bool) → holds v c ≡ b → (count_by (holds v) claims ≡ 0 → load_at Nodes claims v ≡ 0)
        → load_at Nodes (c ∷ claims) v ≡ 0
    step true e rest =
        absurd (omega (arith, none, sum_by-cons (λ x. cond (holds v x) 1 0) c claims, ap {B = ℕ} (λ b. cond b 1 0) e))
    step false e rest =
        omega (
          arith,
          sum_by-cons (λ x. cond (holds v x) x.node 0) c claims,
          ap {B = ℕ} (λ b. cond b c.node 0) e,
          rest (omega (arith, none, sum_by-cons (λ x. cond (holds v x) 1 0) c claims, ap {B = ℕ} (λ b. cond b 1 0) e)),
        )

-- the node of the one range that holds the vertex is what the nodes of all of them add up to
pub owner_found : (claims : List OwnedRange) (v : ℕ) → count_by (holds v) claims ≡ 1
    → option_map (λ c. c.node) (find (holds v) claims) ≡ Some (load_at Nodes claims v)
owner_found [] v one = absurd (omega (arith, one))
owner_found (c ∷ claims) v one = step (holds v c) refl (owner_found claims v)
  where
    step : (b : Bool) → holds v c ≡ b
        → (count_by (holds v) claims ≡ 1 → option_map (λ x. x.node) (find (holds v) claims) ≡ Some (load_at Nodes claims v))
        → option_map (λ x. x.node) (cond (holds v c) (Some c) (find (holds v) claims)) ≡ Some (load_at Nodes (c ∷ claims) v)
    step true e rest =
        ap (λ b. option_map (λ x. x.node) (cond b (Some c) (find (holds v) claims))) e
        ∙ ap Some (omega (
          arith,
          sum_by-cons (λ x. cond (holds v x) x.node 0) c claims,
          ap {B = ℕ} (λ b. cond b c.node 0) e,
          none_counted claims v (omega (arith, one, sum_by-cons (λ x. cond (holds v x) 1 0) c claims, ap {B = ℕ} (λ b. cond b 1 0) e)),
        ))
    step false e rest =
        ap (λ b. option_map (λ x. x.node) (cond b (Some c) (find (holds v) claims))) e
        ∙ rest (omega (arith, one, sum_by-cons (λ x. cond (holds v x) 1 0) c claims, ap {B = ℕ} (λ b. cond b 1 0) e))
        ∙ ap Some (omega (arith, sum_by-cons (λ x. cond (holds v x) x.node 0) c claims, ap {B = ℕ} (λ b. cond b c.node 0) e))

pub load_below : (claims : List OwnedRange) (v nodes : ℕ) → All (λ c. c.node < nodes) claims → count_by (holds v) claims ≡ 1
    → load_at Nodes claims v < nodes
load_below [] v nodes below one = absurd (omega (arith, one))
load_below (c ∷ claims) v nodes below one = step (holds v c) refl (load_below claims v nodes (All-tail (λ x. x.node < nodes) c claims below))
  where
    step : (b : Bool) → holds v c ≡ b → (count_by (holds v) claims ≡ 1 → load_at Nodes claims v < nodes)
        → load_at Nodes (c ∷ claims) v < nodes
    step true e rest =
        omega (
          arith,
          sum_by-cons (λ x. cond (holds v x) x.node 0) c claims,
          ap {B = ℕ} (λ b. cond b c.node 0) e,
          none_counted claims v (omega (arith, one, sum_by-cons (λ x. cond (holds v x) 1 0) c claims, ap {B = ℕ} (λ b. cond b 1 0) e)),
          All-head (λ x. x.node < nodes) c claims below,
        )
    step false e rest =
        omega (
          arith,
          sum_by-cons (λ x. cond (holds v x) x.node 0) c claims,
          ap {B = ℕ} (λ b. cond b c.node 0) e,
          rest (omega (arith, one, sum_by-cons (λ x. cond (holds v x) 1 0) c claims, ap {B = ℕ} (λ b. cond b 1 0) e)),
        )

-- a real vertex that is neither in no range nor in two is in one
pub held_once : (g : DecodingGraph) (claims : List OwnedRange) → least g.vertices (is_unowned g claims) ≡ None
    → least g.vertices (is_owned_twice g claims) ≡ None
    → (v : ℕ) → v < g.vertices → is_real_in g v ≡ true → count_by (holds v) claims ≡ 1
held_once g claims owned once v less real =
    omega (
      arith,
      eqb-false (count_by (holds v) claims) 0 (right (and_cases _ _ (least_failed g.vertices (is_unowned g claims) owned v less))),
      ltb-false 1 (count_by (holds v) claims) (right (and_cases _ _ (least_failed g.vertices (is_owned_twice g claims) once v less))),
    )
  where
    right : {b : Bool} → (is_real_in g v ≡ false) ⊎ (b ≡ false) → b ≡ false
    right (inl unreal) = absurd (both_ways (is_real_in g v) unreal real)
    right (inr fails) = fails

map_agree : {X : Type 0} (a n : ℕ) (f h : ℕ → X) → ((k : ℕ) → a ≤ k → k < a + n → f k ≡ h k)
    → map f (range_with_len a n) ≡ map h (range_with_len a n)
map_agree a zero f h same = refl
map_agree a (suc n) f h same =
    rw (same a (omega arith) (omega arith))
    (ap (λ xs. h a ∷ xs) (map_agree (a + 1) n f h (λ k low less. same k (omega arith) (omega arith))))

-- the owners as they are added up
pub owners_counted : (g : DecodingGraph) (claims : List OwnedRange) (nodes : List ℕ)
    → ((v : ℕ) → v < g.vertices → get_or nodes v 0 ≡ load_at Nodes claims v)
    → ((v : ℕ) → v < g.vertices → is_real_in g v ≡ true → count_by (holds v) claims ≡ 1)
    → map (given_owner g nodes) (range_with_len 0 g.vertices)
    ≡ map (owner_in g claims) (range_with_len 0 g.vertices)
owners_counted g claims nodes told once =
    map_agree 0 g.vertices (given_owner g nodes) (owner_in g claims)
    (λ v low less. at v (omega arith) (is_real_in g v) refl)
  where
    at : (v : ℕ) → v < g.vertices → (b : Bool) → is_real_in g v ≡ b
        → cond (is_real_in g v) (Some (get_or nodes v 0)) None ≡ owner_in g claims v
    at v less true e =
        ap (λ b. cond b (Some (get_or nodes v 0)) None) e ∙ ap Some (told v less) ∙ sym (owner_found claims v (once v less e))
        ∙ sym (ap (λ b. cond b (option_map (λ c. c.node) (find (holds v) claims)) None) e)
    at v less false e =
        ap (λ b. cond b (Some (get_or nodes v 0)) None) e
        ∙ sym (ap (λ b. cond b (option_map (λ c. c.node) (find (holds v) claims)) None) e)

pub given_below : (g : DecodingGraph) (claims : List OwnedRange) (nodes : List ℕ) (count : ℕ)
    → ((v : ℕ) → v < g.vertices → get_or nodes v 0 ≡ load_at Nodes claims v)
    → All (λ c. c.node < count) claims
    → ((v : ℕ) → v < g.vertices → is_real_in g v ≡ true → count_by (holds v) claims ≡ 1)
    → (v : ℕ) → v < g.vertices → is_real_in g v ≡ true → get_or nodes v 0 < count
given_below g claims nodes count told below once v less real =
    omega (arith, told v less, load_below claims v count below (once v less real))

pub given_owner_below : (g : DecodingGraph) (nodes : List ℕ) (count : ℕ)
    → ((v : ℕ) → v < g.vertices → is_real_in g v ≡ true → get_or nodes v 0 < count)
    → (v n : ℕ)
    → get_or (map (given_owner g nodes) (range_with_len 0 g.vertices)) v None ≡ Some n
    → n < count
given_owner_below g nodes count below v n is =
    step (is_real_in g v) refl
    (sym (owner_told (given_owner g nodes) g.vertices v
    (λ above. ap (λ b. cond b (Some (get_or nodes v 0)) None) (unreal_beyond g v above))) ∙ is)
  where
    node : is_real_in g v ≡ true → (v < g.vertices) ⊎ (g.vertices ≤ v) → v < g.vertices
    node real (inl less) = less
    node real (inr above) = absurd (both_ways (is_real_in g v) (unreal_beyond g v above) real)

    step : (b : Bool) → is_real_in g v ≡ b → cond (is_real_in g v) (Some (get_or nodes v 0)) None ≡ Some n → n < count
    step true e found =
        let same : get_or nodes v 0 ≡ n = same_Some _ _ (sym (ap (λ b. cond b (Some (get_or nodes v 0)) None) e) ∙ found) in
        subst (λ x. x < count) same (below v (node e (cases_lt v g.vertices)) e)
    step false e found =
        absurd (both_ways false refl (ap is_some (sym (ap (λ b. cond b (Some (get_or nodes v 0)) None) e) ∙ found)))

-- the tree of ranges and fusions that break no rule is a plan
pub is_plan_by : (g : DecodingGraph) (units : List (List (ℕ × ℕ))) (joins : List (ℕ × ℕ)) (seams : List (List (ℕ × ℕ)))
    → IsTree (tree_of (length units) joins)
    → length (units ++ seams) ≡ length units + length joins
    → ((v : ℕ) → v < g.vertices → is_real_in g v ≡ true → count_by (holds v) (claims_from 0 (units ++ seams)) ≡ 1)
    → least (length g.edges) (λ e. goes_across (tree_by g units joins seams) (edge_at g.edges e)) ≡ None
    → IsPlan g (tree_by g units joins seams)
is_plan_by g units joins seams tree range_count once across = record {
  tree = tree_with_owners (tree_of (length units) joins) (tree_by g units joins seams).owners tree;
  count = length-map-range_with_len (owner_in g (claims_from 0 (units ++ seams))) 0 g.vertices;
  owned = λ v. ap is_some (owner v) ∙ owned v (is_real_in g v) refl;
  owners = λ v n is. below v n (is_real_in g v) refl (sym (owner v) ∙ is);
  edges = λ k d less. ap (goes_across (tree_by g units joins seams)) (same_edge k d less)
      ∙ least_failed (length g.edges) (λ e. goes_across (tree_by g units joins seams) (edge_at g.edges e)) across k less;
}
  where
    owner : (v : ℕ) → owner_of (tree_by g units joins seams) v ≡ owner_in g (claims_from 0 (units ++ seams)) v
    owner v =
        owner_told (owner_in g (claims_from 0 (units ++ seams))) g.vertices v
        (λ above. ap (λ b. cond b (option_map (λ c. c.node) (find (holds v) (claims_from 0 (units ++ seams)))) None) (unreal_beyond g v above))

    node : (v : ℕ) → is_real_in g v ≡ true → (v < g.vertices) ⊎ (g.vertices ≤ v) → v < g.vertices
    node v real (inl less) = less
    node v real (inr above) = absurd (both_ways (is_real_in g v) (unreal_beyond g v above) real)

    found : (v : ℕ) → is_real_in g v ≡ true
        → owner_in g (claims_from 0 (units ++ seams)) v ≡ Some (load_at Nodes (claims_from 0 (units ++ seams)) v)
    found v real =
        ap (λ b. cond b (option_map (λ c. c.node) (find (holds v) (claims_from 0 (units ++ seams)))) None) real
        ∙ owner_found (claims_from 0 (units ++ seams)) v (once v (node v real (cases_lt v g.vertices)) real)

    none : (v : ℕ) → is_real_in g v ≡ false → owner_in g (claims_from 0 (units ++ seams)) v ≡ None
    none v unreal =
        ap (λ b. cond b (option_map (λ c. c.node) (find (holds v) (claims_from 0 (units ++ seams)))) None) unreal

    owned : (v : ℕ) (b : Bool) → is_real_in g v ≡ b → is_some (owner_in g (claims_from 0 (units ++ seams)) v) ≡ is_real_in g v
    owned v true real = ap is_some (found v real) ∙ sym real
    owned v false unreal = ap is_some (none v unreal) ∙ sym unreal

    below : (v n : ℕ) (b : Bool) → is_real_in g v ≡ b → owner_in g (claims_from 0 (units ++ seams)) v ≡ Some n
        → n < node_count (tree_by g units joins seams)
    below v n true real is =
        omega (
          arith,
          same_Some _ _ (sym (found v real) ∙ is),
          load_below (claims_from 0 (units ++ seams)) v (length units + length joins)
              (claims_below (units ++ seams) (length units + length joins) range_count)
              (once v (node v real (cases_lt v g.vertices)) real),
        )
    below v n false unreal is = absurd (both_ways false refl (ap is_some (sym (none v unreal) ∙ is)))

    same_edge : (k : ℕ) (d : Edge) → k < length g.edges → get_or g.edges k d ≡ edge_at g.edges k
    same_edge k d less = get_or_default g.edges k d no_edge less

pub children_small : (units : ℕ) (fusions : List Join) → IsTree (tree_of units (joins_of fusions))
    → All (λ join. (join.left < 2 ^ 32) × (join.right < 2 ^ 32)) fusions
children_small units fusions tree i d less =
    let facts = tree.joins i (omega (arith, less, length-joins_of fusions)) in
    let left : (get_or fusions i d).left < units + i = subst (λ j. j.0 < units + i) (join_of fusions i d less) facts.left in
    let right : (get_or fusions i d).right < units + i = subst (λ j. j.1 < units + i) (join_of fusions i d less) facts.right in
    (omega (arith, left, less, tree.limit, tree.count, length-joins_of fusions), omega (arith, right, less, tree.limit, tree.count, length-joins_of fusions))

pub same_tree : (units : ℕ) (joins joins' : List (ℕ × ℕ)) (owners owners' : List (Option ℕ)) → joins ≡ joins' → owners ≡ owners'
    → (let first : PlanTree = record { units = units; joins = joins; owners = owners } in first)
    ≡ record { units = units; joins = joins'; owners = owners' }
same_tree units joins joins' owners owners' first second = rw (first, second) refl

none_parts : {X : Type 0} (a b : Option X) → option_or a b ≡ None → (a ≡ None) × (b ≡ None)
none_parts None b none = (refl, none)
none_parts (Some x) b none = absurd (both_ways (is_some (Some x)) (ap is_some none) refl)

pub map_none : {X Y : Type 0} (f : X → Y) (o : Option X) → option_map f o ≡ None → o ≡ None
map_none f None none = refl
map_none f (Some x) none = absurd (both_ways (is_some (Some (f x))) (ap is_some none) refl)

-- where each real vertex is in one range, as far as the rules tell
pub once_from : (g : DecodingGraph) (claims : List OwnedRange) → option_or (unowned_fault g claims) (twice_fault g claims) ≡ None
    → (v : ℕ) → v < g.vertices → is_real_in g v ≡ true → count_by (holds v) claims ≡ 1
once_from g claims none =
    held_once g claims
    (map_none VertexUnowned (least g.vertices (is_unowned g claims)) (none_parts _ _ none).0)
    (map_none VertexTwice (least g.vertices (is_owned_twice g claims)) (none_parts _ _ none).1)

root_from : (units joins : ℕ) → root_fault units joins ≡ None → units ≡ joins + 1
root_from units joins none = step (eqb units (joins + 1)) refl none
  where
    step : (b : Bool) → eqb units (joins + 1) ≡ b → cond b None (Some NotOneRoot) ≡ None → units ≡ joins + 1
    step true e h = eqb-true units (joins + 1) e
    step false e h = absurd (both_ways (is_some (Some NotOneRoot)) (ap is_some h) refl)

pub tree_from_rules : (units : ℕ) (fusions : List Join) → units ≤ most_units
    → option_or (child_fault units (joins_of fusions)) (option_or (use_fault (joins_of fusions)) (root_fault units (length fusions))) ≡ None
    → IsTree (tree_of units (joins_of fusions))
tree_from_rules units fusions limit none =
    let rest = none_parts _ _ none in
    let last = none_parts _ _ rest.1 in
    tree_of_rules units (joins_of fusions) limit
    (root_from units (length fusions) last.1 ∙ ap (λ k. k + 1) (sym (length-joins_of fusions)))
    (least_failed (length (joins_of fusions)) (is_out_of_range units (joins_of fusions)) (map_none ChildOutOfRange _ rest.0))
    (least_failed (length (joins_of fusions)) (is_used_twice (joins_of fusions)) (map_none ChildUsedTwice _ last.0))

-- what is left to judge when all but the edges are good
pub all_but_edges : (g : DecodingGraph) (units : List (List (ℕ × ℕ))) (fusions : List Join) → length units ≤ most_units
    → range_fault g.vertices (ranges_of units fusions) ≡ None
    → option_or (unowned_fault g (claims_from 0 (ranges_of units fusions))) (twice_fault g (claims_from 0 (ranges_of units fusions))) ≡ None
    → option_or (child_fault (length units) (joins_of fusions)) (option_or (use_fault (joins_of fusions)) (root_fault (length units) (length fusions))) ≡ None
    → plan_fault g units (joins_of fusions) (seams_of fusions)
    ≡ edge_fault g (tree_by g units (joins_of fusions) (seams_of fusions))
all_but_edges g units fusions limit good cover children =
    seven (units_fault units) (range_fault g.vertices (ranges_of units fusions))
    (unowned_fault g (claims_from 0 (ranges_of units fusions))) (twice_fault g (claims_from 0 (ranges_of units fusions)))
    (child_fault (length units) (joins_of fusions)) (use_fault (joins_of fusions)) (root_fault (length units) (length (joins_of fusions)))
    (edge_fault g (tree_by g units (joins_of fusions) (seams_of fusions)))
    (cond-false (ltb most_units (length units)) (Some TooManyUnits) None (le-ltb most_units (length units) limit)) good
    (none_parts _ _ cover).0 (none_parts _ _ cover).1 (none_parts _ _ children).0
    (none_parts _ _ (none_parts _ _ children).1).0
    (ap (root_fault (length units)) (length-joins_of fusions) ∙ (none_parts _ _ (none_parts _ _ children).1).1)
  where
    seven : {X : Type 0} (a b c d e f h r : Option X) → a ≡ None → b ≡ None → c ≡ None → d ≡ None → e ≡ None → f ≡ None → h ≡ None
        → option_or a (option_or b (option_or c (option_or d (option_or e (option_or f (option_or h (option_or r None))))))) ≡ r
    seven a b c d e f h r ae be ce de ee fe he = rw (ae, be, ce, de, ee, fe, he) (option_or-none r)

pub same_plan : (g : DecodingGraph) (n m : ℕ) (fusions : List Join) (claims claims' : List OwnedRange) → n ≡ m → claims ≡ claims'
    → (let first : PlanTree = record { units = n; joins = joins_of fusions; owners = map (owner_in g claims) (range_with_len 0 g.vertices) } in first)
    ≡ record { units = m; joins = joins_of fusions; owners = map (owner_in g claims') (range_with_len 0 g.vertices) }
same_plan g n m fusions claims claims' first second = rw (first, second) refl

abbrev pub IsGrown : DecodingGraph → List OwnedRange → ℕ → List Join → PlanTree → Type 0
IsGrown g claims units fusions t =
    t ≡ record { units = units; joins = joins_of fusions; owners = map (owner_in g claims) (range_with_len 0 g.vertices) }

-- the first fault of parts that break no rule but that of the edges
pub fault_of_edges : (g : DecodingGraph) (units : List (List (ℕ × ℕ))) (fusions : List Join) (n : ℕ) (claims : List OwnedRange) (plan : PlanTree)
    → length units ≡ n → n ≤ most_units → claims ≡ claims_from 0 (ranges_of units fusions)
    → plan ≡ tree_by g units (joins_of fusions) (seams_of fusions)
    → range_fault g.vertices (ranges_of units fusions) ≡ None
    → option_or (unowned_fault g claims) (twice_fault g claims) ≡ None
    → option_or (child_fault n (joins_of fusions)) (option_or (use_fault (joins_of fusions)) (root_fault n (length fusions))) ≡ None
    → (fault : Option PlanFault) → edge_fault g plan ≡ fault
    → or_fault (plan_fault g units (joins_of fusions) (seams_of fusions)) (tree_by g units (joins_of fusions) (seams_of fusions))
    ≡ or_fault fault (tree_by g units (joins_of fusions) (seams_of fusions))
fault_of_edges g units fusions n claims plan count few is built ranges cover children fault edges =
    let tree : PlanTree = tree_by g units (joins_of fusions) (seams_of fusions) in
    ap (λ first. or_fault first tree)
    (all_but_edges g units fusions (omega (arith, count, few)) ranges
    (subst (λ cs. option_or (unowned_fault g cs) (twice_fault g cs) ≡ None) is cover)
    (subst (λ m. option_or (child_fault m (joins_of fusions)) (option_or (use_fault (joins_of fusions)) (root_fault m (length fusions))) ≡ None)
    (sym count) children)
    ∙ (ap (edge_fault g) (sym built) ∙ edges))
