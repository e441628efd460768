-- Ranges that hold the vertices that a plan's nodes own give the plan back.
use Rattle.std.proofs.Common.{ℕ, suc, ◌+◌, ◌<◌, ◌≤◌, ◌≡◌, ◌⊎◌, inl, inr, ◌==◌, ◌&&◌, Bool, true, false, cond, is_some, List, [], ◌∷◌, ◌++◌, length, map, get_or, count_by, All, refl, sym, ap, subst, ◌∙◌, arith, length-append}
use Rattle.std.specs.Prelude.{Option, Some, None, Ok, option_map, find}
use Rattle.std.specs.Option.{option_or}
use Rattle.std.specs.List.{range_with_len, list_any}
use Rattle.std.proofs.lemmas.Bool.{both_ways, cases_eq, cases_Bool, eq-eqb, ne_eqb, le-ltb, lt-ltb}
use Rattle.std.proofs.lemmas.List.{length-map, ext_get_or}
use Rattle.std.proofs.lemmas.List.Elements.{All-head, All-tail}
use Rattle.std.proofs.lemmas.List.Folds.{find-append}
use Rattle.std.proofs.lemmas.List.FromFn.{get_or-map-range_with_len, length-range_with_len}
use Rattle.fb_graph.specs.Counts.{as_count}
use Rattle.fb_graph.specs.Problem.{edge_at, no_edge}
use Rattle.fb_graph.specs.Limits.{DecodingGraph, is_real_in}
use Rattle.fb_graph.proofs.Leasts.{least_none}
use Rattle.fb_plan.specs.Plans.{PlanTree, IsPlan, goes_across, owner_of}
use Rattle.fb_plan.specs.Rules.{holds, claim_of, claims_from, is_bad_range, is_bad_node, is_unowned, is_owned_twice, owner_in, tree_by, range_fault, unowned_fault, twice_fault, child_fault, use_fault, root_fault, edge_fault, plan_by}
use Rattle.fb_plan.specs.Vertices.{is_node}
use Rattle.fb_plan.specs.declared.parts.OwnedRange.{OwnedRange}
use Rattle.fb_gen.proofs.Fusions.{count-cons, count-append, count-map}
use Rattle.fb_gen.proofs.TreeRules.{no_units_fault, no_child_fault, no_use_fault, no_root_fault, no_faults}
use Rattle.fb_gen.specs.declared.levels.Fusion.{Fusion}
use Rattle.fb_layers.specs.Runs.{is_held}
use Rattle.fb_layers.specs.InternalCovers.{IsRange, HoldOwned, Ranges, all_ranges, owners_by, tree_by_nodes}

-- ---- the ranges that hold a vertex

-- the node of the first range that holds the vertex
abbrev node_in : ℕ → List OwnedRange → Option ℕ
node_in v claims = option_map (λ c. c.node) (find (holds v) claims)

count-claims : (v a : ℕ) (r : List (ℕ × ℕ)) → count_by (holds v) (map (claim_of a) r) ≡ count_by (is_held v) r
count-claims v a r = count-map (holds v) (claim_of a) r

none_held : (v a : ℕ) (r : List (ℕ × ℕ)) → count_by (is_held v) r ≡ 0 → find (holds v) (map (claim_of a) r) ≡ None
none_held v a [] none = refl
none_held v a (x ∷ xs) none = step (is_held v x) refl (none_held v a xs)
  where
    step : (b : Bool) → is_held v x ≡ b → (count_by (is_held v) xs ≡ 0 → find (holds v) (map (claim_of a) xs) ≡ None)
        → cond b (Some (claim_of a x)) (find (holds v) (map (claim_of a) xs)) ≡ None
    step true e rest = absurd (omega (arith, count-cons (is_held v) x xs, ap as_count e, none))
    step false e rest = rest (omega (arith, count-cons (is_held v) x xs, none))

some_held : (v a : ℕ) (r : List (ℕ × ℕ)) → 1 ≤ count_by (is_held v) r → node_in v (map (claim_of a) r) ≡ Some a
some_held v a [] some = absurd (omega (arith, some))
some_held v a (x ∷ xs) some = step (is_held v x) refl (some_held v a xs)
  where
    step : (b : Bool) → is_held v x ≡ b → (1 ≤ count_by (is_held v) xs → node_in v (map (claim_of a) xs) ≡ Some a)
        → option_map (λ c. c.node) (cond b (Some (claim_of a x)) (find (holds v) (map (claim_of a) xs))) ≡ Some a
    step true e rest = refl
    step false e rest = rest (omega (arith, count-cons (is_held v) x xs, ap as_count e, some))

-- a node's ranges hold the vertex once if it is node m, and else not at all
abbrev HoldOnce : ℕ → ℕ → ℕ → List (List (ℕ × ℕ)) → Type 0
HoldOnce v m a rs = (k : ℕ) → k < length rs → count_by (is_held v) (get_or rs k []) ≡ as_count (m == a + k)

once_tail : (v m a : ℕ) (r : List (ℕ × ℕ)) (rs : List (List (ℕ × ℕ))) → HoldOnce v m a (r ∷ rs) → HoldOnce v m (a + 1) rs
once_tail v m a r rs each k less =
    let e : a + suc k ≡ a + 1 + k = omega arith in
    each (suc k) (omega arith) ∙ ap (λ n. as_count (m == n)) e

once_head : (v m a : ℕ) (r : List (ℕ × ℕ)) (rs : List (List (ℕ × ℕ))) → HoldOnce v m a (r ∷ rs)
    → count_by (is_held v) r ≡ as_count (m == a)
once_head v m a r rs each =
    let e : a + 0 ≡ a = omega arith in
    each 0 (omega arith) ∙ ap (λ n. as_count (m == n)) e

nothing_held : (v m a : ℕ) (rs : List (List (ℕ × ℕ))) → HoldOnce v m a rs → m < a → count_by (holds v) (claims_from a rs) ≡ 0
nothing_held v m a [] each before = refl
nothing_held v m a (r ∷ rs) each before =
    let apart : m ≡ a → ⊥ = λ same. absurd (omega (arith, same, before)) in
    omega (
      arith,
      count-append (holds v) (map (claim_of a) r) (claims_from (a + 1) rs),
      count-claims v a r,
      once_head v m a r rs each,
      ap as_count (ne_eqb m a apart),
      nothing_held v m (a + 1) rs (once_tail v m a r rs each) (omega arith),
    )

held_once : (v m a : ℕ) (rs : List (List (ℕ × ℕ))) → HoldOnce v m a rs → a ≤ m → m < a + length rs
    → (count_by (holds v) (claims_from a rs) ≡ 1) × (node_in v (claims_from a rs) ≡ Some m)
held_once v m a [] each from to = absurd (omega arith)
held_once v m a (r ∷ rs) each from to = step (cases_eq m a) (held_once v m (a + 1) rs (once_tail v m a r rs each))
  where
    here : count_by (is_held v) r ≡ as_count (m == a)
    here = once_head v m a r rs each

    found : (o : Option OwnedRange) → find (holds v) (map (claim_of a) r) ≡ o
        → find (holds v) (claims_from a (r ∷ rs)) ≡ option_or o (find (holds v) (claims_from (a + 1) rs))
    found o is =
        find-append (holds v) (map (claim_of a) r) (claims_from (a + 1) rs)
        ∙ ap (λ p. option_or p (find (holds v) (claims_from (a + 1) rs))) is

    own : (o : Option OwnedRange) → find (holds v) (map (claim_of a) r) ≡ o → option_map (λ c. c.node) o ≡ Some a
        → node_in v (claims_from a (r ∷ rs)) ≡ Some a
    own None is node = cc
    own (Some c) is node = ap (option_map (λ d. d.node)) (found (Some c) is) ∙ node

    step : (m ≡ a) ⊎ (m ≡ a → ⊥)
        → (a + 1 ≤ m → m < a + 1 + length rs
        → (count_by (holds v) (claims_from (a + 1) rs) ≡ 1) × (node_in v (claims_from (a + 1) rs) ≡ Some m))
        → (count_by (holds v) (claims_from a (r ∷ rs)) ≡ 1) × (node_in v (claims_from a (r ∷ rs)) ≡ Some m)
    step (inl same) rest =
        let one : count_by (is_held v) r ≡ 1 = here ∙ ap as_count (eq-eqb m a same) in (
          omega (
            arith,
            count-append (holds v) (map (claim_of a) r) (claims_from (a + 1) rs),
            count-claims v a r,
            one,
            nothing_held v m (a + 1) rs (once_tail v m a r rs each) (omega arith),
          ),
          own (find (holds v) (map (claim_of a) r)) refl (some_held v a r (omega (arith, one))) ∙ ap Some (sym same),
        )
    step (inr other) rest =
        let none : count_by (is_held v) r ≡ 0 = here ∙ ap as_count (ne_eqb m a other) in
        let later = rest (omega (arith, from, other)) (omega (arith, to)) in (
          omega (
            arith,
            count-append (holds v) (map (claim_of a) r) (claims_from (a + 1) rs),
            count-claims v a r,
            none,
            later.0,
          ),
          ap (option_map (λ c. c.node)) (found None (none_held v a r none)) ∙ later.1,
        )

-- ---- no rule is broken

no_bad_range : (n : ℕ) (rs : List (ℕ × ℕ)) → All (IsRange n) rs → list_any (is_bad_range n) rs ≡ false
no_bad_range n [] good = refl
no_bad_range n (r ∷ rs) good =
    let head : IsRange n r = All-head (IsRange n) r rs good in
    let up : r.0 ≤ r.1 = omega (arith, head.0) in
    rw (le-ltb r.1 r.0 up, le-ltb n r.1 head.1, no_bad_range n rs (All-tail (IsRange n) r rs good)) refl

module _ (g : DecodingGraph) (t : PlanTree) (plan : IsPlan g t) (units : List (List (ℕ × ℕ))) (joins : List (ℕ × ℕ))
    (seams : List (List (ℕ × ℕ))) (unit_count : length units ≡ t.units) (seam_count : length seams ≡ length t.joins)
    (same_joins : joins ≡ t.joins) (hold : HoldOwned g.vertices (length t.owners) t.owners (units ++ seams)) where
  held_by : (v m : ℕ) → v < g.vertices → owner_of t v ≡ Some m
      → (count_by (holds v) (claims_from 0 (units ++ seams)) ≡ 1) × (node_in v (claims_from 0 (units ++ seams)) ≡ Some m)
  held_by v m below at =
      held_once v m 0 (units ++ seams) (λ k less.
      let start : k ≡ 0 + k = omega arith in
      hold.each k v less
      ∙ ap (λ b. as_count (b && is_node k (get_or t.owners v None))) (lt-ltb v (length t.owners) (omega (arith, plan.count)))
      ∙ ap (λ o. as_count (is_node k o)) at
      ∙ ap (λ n. as_count (m == n)) start)
      (omega arith)
      (omega (arith, plan.owners v m at, length-append units seams, unit_count, seam_count))

  owner_is : (v : ℕ) → v < g.vertices → owner_in g (claims_from 0 (units ++ seams)) v ≡ owner_of t v
  owner_is v below = step (owner_of t v) refl
    where
      step : (o : Option ℕ) → owner_of t v ≡ o
          → cond (is_real_in g v) (node_in v (claims_from 0 (units ++ seams))) None ≡ o
      step None at = rw (sym (plan.owned v) ∙ ap is_some at) refl
      step (Some m) at = rw (sym (plan.owned v) ∙ ap is_some at) ((held_by v m below at).1)

  tree_is : tree_by g units joins seams ≡ t
  tree_is =
      ap (λ n. record { units = n; joins = joins; owners = map (owner_in g (claims_from 0 (units ++ seams))) (range_with_len 0 g.vertices) }) unit_count
      ∙ ap (λ js. record { units = t.units; joins = js; owners = map (owner_in g (claims_from 0 (units ++ seams))) (range_with_len 0 g.vertices) }) same_joins
      ∙ ap (λ os. record { units = t.units; joins = t.joins; owners = os }) owners
    where
      owners : map (owner_in g (claims_from 0 (units ++ seams))) (range_with_len 0 g.vertices) ≡ t.owners
      owners =
          ext_get_or None (map (owner_in g (claims_from 0 (units ++ seams))) (range_with_len 0 g.vertices)) t.owners
          (as_many ∙ sym plan.count)
          (λ v less.
          let below : v < g.vertices = omega (arith, less, as_many) in
          get_or-map-range_with_len (owner_in g (claims_from 0 (units ++ seams))) 0 g.vertices v v None below (omega arith) ∙ owner_is v below)
        where
          as_many : length (map (owner_in g (claims_from 0 (units ++ seams))) (range_with_len 0 g.vertices)) ≡ g.vertices
          as_many =
              length-map (range_with_len 0 g.vertices) (owner_in g (claims_from 0 (units ++ seams)))
              ∙ length-range_with_len 0 g.vertices

  real_held : (v : ℕ) → v < g.vertices → is_real_in g v ≡ true → count_by (holds v) (claims_from 0 (units ++ seams)) ≡ 1
  real_held v below real = step (owner_of t v) refl
    where
      step : (o : Option ℕ) → owner_of t v ≡ o → count_by (holds v) (claims_from 0 (units ++ seams)) ≡ 1
      step None at = absurd (both_ways (is_real_in g v) (sym (plan.owned v) ∙ ap is_some at) real)
      step (Some m) at = (held_by v m below at).0

  no_unowned : (v : ℕ) → v < g.vertices → is_unowned g (claims_from 0 (units ++ seams)) v ≡ false
  no_unowned v below = elim (cases_Bool (is_real_in g v)) [
    | inl real ↦ rw (real, real_held v below real) refl
    | inr virtual ↦ rw virtual refl
  ]

  no_twice : (v : ℕ) → v < g.vertices → is_owned_twice g (claims_from 0 (units ++ seams)) v ≡ false
  no_twice v below = elim (cases_Bool (is_real_in g v)) [
    | inl real ↦ rw (real, real_held v below real) refl
    | inr virtual ↦ rw virtual refl
  ]

  no_range_fault : range_fault g.vertices (units ++ seams) ≡ None
  no_range_fault =
      ap (option_map _) (least_none (length (units ++ seams)) (is_bad_node g.vertices (units ++ seams))
      (λ n less. no_bad_range g.vertices (get_or (units ++ seams) n []) (hold.good n)))

  no_unowned_fault : unowned_fault g (claims_from 0 (units ++ seams)) ≡ None
  no_unowned_fault = ap (option_map _) (least_none g.vertices (is_unowned g (claims_from 0 (units ++ seams))) no_unowned)

  no_twice_fault : twice_fault g (claims_from 0 (units ++ seams)) ≡ None
  no_twice_fault = ap (option_map _) (least_none g.vertices (is_owned_twice g (claims_from 0 (units ++ seams))) no_twice)

  no_edge_fault : edge_fault g t ≡ None
  no_edge_fault =
      ap (option_map _) (least_none (length g.edges) (λ e. goes_across t (edge_at g.edges e)) (λ e less. plan.edges e no_edge less))

  pub plan_of_cover : plan_by g units joins seams ≡ Ok t
  plan_of_cover =
      rw (no_faults _ _ _ _ _ _ _ _
      (no_units_fault units (omega (arith, unit_count, plan.tree.limit))) no_range_fault no_unowned_fault no_twice_fault
      (ap (λ n. child_fault n joins) unit_count ∙ ap (child_fault t.units) same_joins ∙ no_child_fault t plan.tree)
      (ap use_fault same_joins ∙ no_use_fault t plan.tree)
      (ap (λ n. root_fault n (length joins)) unit_count ∙ ap (λ js. root_fault t.units (length js)) same_joins ∙ no_root_fault t plan.tree)
      (ap (edge_fault g) tree_is ∙ no_edge_fault))
      (ap Ok tree_is)

-- ranges that were filled give the plan of their nodes
pub cover_of_ranges : (g : DecodingGraph) (fusions : List Fusion) (nodes : List ℕ) (layers : List (Option ℕ)) (r : Ranges)
    → length layers ≡ g.vertices → IsPlan g (tree_by_nodes fusions nodes layers) → length r.units ≡ length fusions + 1
    → length r.seams ≡ length fusions → r.joins ≡ (tree_by_nodes fusions nodes layers).joins
    → HoldOwned (length layers) (length layers) (owners_by nodes layers) (all_ranges r)
    → plan_by g r.units r.joins r.seams ≡ Ok (tree_by_nodes fusions nodes layers)
cover_of_ranges g fusions nodes layers r count plan units seams joins hold =
    plan_of_cover g (tree_by_nodes fusions nodes layers) plan r.units r.joins r.seams units
    (seams ∙ sym (length-map fusions pair)) joins
    (subst (λ n. HoldOwned n (length (owners_by nodes layers)) (owners_by nodes layers) (all_ranges r)) count
    (subst (λ n. HoldOwned (length layers) n (owners_by nodes layers) (all_ranges r))
    (sym (length-map layers (option_map (λ layer. get_or nodes layer 0)))) hold))
  where
    pair : Fusion → ℕ × ℕ
    pair f = (f.left, f.right)
