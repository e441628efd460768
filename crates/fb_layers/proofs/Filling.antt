-- The ranges of all nodes with one more vertex.
use Rattle.std.proofs.Common.{ℕ, ◌+◌, ◌-◌, ◌<◌, ◌≤◌, ◌≡◌, ◌⊎◌, inl, inr, ◌==◌, ◌&&◌, nat_lt, Bool, true, false, List, [], ◌++◌, length, map, get_or, set, count_by, All, refl, sym, ap, subst, ◌∙◌, arith, length-set}
use Rattle.std.specs.Prelude.{Option, Some, None, option_map}
use Rattle.std.proofs.lemmas.Bool.{cases_eq, cases_lt, eq-eqb, ne_eqb, le-ltb, lt-ltb}
use Rattle.std.proofs.lemmas.List.{get_or-append_right, get_or-map, get_or-set_same, get_or-set_other, get_or_append_left, length-map, map-set, set-append_left, set-append_right}
use Rattle.std.proofs.lemmas.List.Elements.{All-nil}
use Rattle.fb_graph.specs.Counts.{as_count}
use Rattle.fb_plan.specs.Vertices.{is_node}
use Rattle.fb_layers.specs.Layers.{layer_at}
use Rattle.fb_layers.specs.Runs.{add_vertex, is_held}
use Rattle.fb_layers.specs.InternalCovers.{IsRange, HoldOwned, owners_by}
use Rattle.fb_layers.proofs.Extending.{count-add_vertex, ranges-add_vertex}
use Rattle.fb_layers.proofs.Planned.{owner_by_layer}

-- what a node owns below one more vertex
owned_more : (i v : ℕ) (b : Bool) → (i ≡ v → b ≡ false)
    → as_count (nat_lt v i && b) ≡ as_count (nat_lt v (i + 1) && b)
owned_more i v b apart = elim (cases_lt v i) [
  | inl below ↦ let more : v < i + 1 = omega arith in rw (lt-ltb v i below, lt-ltb v (i + 1) more) refl
  | inr from ↦ elim (cases_eq i v) [
    | inl same ↦ let last : v < i + 1 = omega (arith, same) in rw (le-ltb v i from, lt-ltb v (i + 1) last, apart same) refl
    | inr other ↦ let past : i + 1 ≤ v = omega (arith, from, other) in rw (le-ltb v i from, le-ltb v (i + 1) past) refl
  ]
]

owned_here : (i v : ℕ) (b : Bool) → (i ≡ v → b ≡ true)
    → as_count (nat_lt v i && b) + as_count (i == v) ≡ as_count (nat_lt v (i + 1) && b)
owned_here i v b own = elim (cases_lt v i) [
  | inl below ↦
      let more : v < i + 1 = omega arith in
      let apart : i ≡ v → ⊥ = λ same. absurd (omega (arith, same, below)) in
      rw (lt-ltb v i below, lt-ltb v (i + 1) more, ne_eqb i v apart) (add_nothing (as_count (true && b)))
  | inr from ↦ elim (cases_eq i v) [
    | inl same ↦ let last : v < i + 1 = omega (arith, same) in rw (le-ltb v i from, lt-ltb v (i + 1) last, eq-eqb i v same, own same) refl
    | inr other ↦ let past : i + 1 ≤ v = omega (arith, from, other) in rw (le-ltb v i from, le-ltb v (i + 1) past, ne_eqb i v other) refl
  ]
]
  where
    add_nothing : (n : ℕ) → n + 0 ≡ n
    add_nothing n = omega arith

pub hold_more : (n i m : ℕ) (owners : List (Option ℕ)) (old new : List (List (ℕ × ℕ))) → i < n → m < length old
    → get_or owners i None ≡ Some m → HoldOwned n i owners old → new ≡ set old m (add_vertex (get_or old m []) i)
    → HoldOwned n (i + 1) owners new
hold_more n i m owners old new below room at hold is =
    subst (HoldOwned n (i + 1) owners) (sym is) (record {
      good = λ k. good k (cases_eq k m);
      each = λ k v less. each k v (cases_eq k m) (omega (arith, less, length-set old m (add_vertex (get_or old m []) i)));
    })
  where
    good : (k : ℕ) → (k ≡ m) ⊎ (k ≡ m → ⊥) → All (IsRange n) (get_or (set old m (add_vertex (get_or old m []) i)) k [])
    good k (inl same) =
        subst (All (IsRange n)) (sym (ap (λ j. get_or (set old m (add_vertex (get_or old m []) i)) j []) same
        ∙ get_or-set_same old m (add_vertex (get_or old m []) i) [] room))
        (ranges-add_vertex n (get_or old m []) i below (hold.good m))
    good k (inr other) =
        subst (All (IsRange n)) (sym (get_or-set_other old m k (add_vertex (get_or old m []) i) [] other)) (hold.good k)

    each : (k v : ℕ) → (k ≡ m) ⊎ (k ≡ m → ⊥) → k < length old
        → count_by (is_held v) (get_or (set old m (add_vertex (get_or old m []) i)) k [])
        ≡ as_count (nat_lt v (i + 1) && is_node k (get_or owners v None))
    each k v (inl same) less =
        ap (λ j. count_by (is_held v) (get_or (set old m (add_vertex (get_or old m []) i)) j [])) same
        ∙ ap (count_by (is_held v)) (get_or-set_same old m (add_vertex (get_or old m []) i) [] room)
        ∙ count-add_vertex n (get_or old m []) i v (hold.good m)
        ∙ ap (λ c. c + as_count (i == v)) (hold.each m v room ∙ ap (λ j. as_count (nat_lt v i && is_node j (get_or owners v None))) (sym same))
        ∙ owned_here i v (is_node k (get_or owners v None)) (λ here.
        ap (λ w. is_node k (get_or owners w None)) (sym here) ∙ ap (is_node k) at ∙ eq-eqb m k (sym same))
    each k v (inr other) less =
        ap (count_by (is_held v)) (get_or-set_other old m k (add_vertex (get_or old m []) i) [] other)
        ∙ hold.each k v less
        ∙ owned_more i v (is_node k (get_or owners v None)) (λ here.
        ap (λ w. is_node k (get_or owners w None)) (sym here) ∙ ap (is_node k) at ∙ ne_eqb m k (λ e. other (sym e)))

pub hold_same : (n i : ℕ) (owners : List (Option ℕ)) (ranges : List (List (ℕ × ℕ))) → get_or owners i None ≡ None
    → HoldOwned n i owners ranges → HoldOwned n (i + 1) owners ranges
hold_same n i owners ranges at hold = record {
  good = hold.good;
  each = λ k v less.
      hold.each k v less
      ∙ owned_more i v (is_node k (get_or owners v None)) (λ here. ap (λ w. is_node k (get_or owners w None)) (sym here) ∙ ap (is_node k) at);
}

pub hold_none : (n : ℕ) (owners : List (Option ℕ)) (ranges : List (List (ℕ × ℕ))) → ((k : ℕ) → get_or ranges k [] ≡ [])
    → HoldOwned n 0 owners ranges
hold_none n owners ranges none = record {
  good = λ k. subst (All (IsRange n)) (sym (none k)) (All-nil (IsRange n));
  each = λ k v less. ap (count_by (is_held v)) (none k) ∙ sym (ap (λ b. as_count (b && is_node k (get_or owners v None))) (nothing_below v));
}
  where
    nothing_below : (v : ℕ) → nat_lt v 0 ≡ false
    nothing_below v = le-ltb v 0 (omega arith)

-- one more vertex, by its layer
pub hold_real : (n i k : ℕ) (nodes : List ℕ) (layers : List (Option ℕ)) (old new : List (List (ℕ × ℕ))) → i < n
    → get_or nodes k 0 < length old → layer_at layers i ≡ Some k → HoldOwned n i (owners_by nodes layers) old
    → new ≡ set old (get_or nodes k 0) (add_vertex (get_or old (get_or nodes k 0) []) i)
    → HoldOwned n (i + 1) (owners_by nodes layers) new
hold_real n i k nodes layers old new below room at hold is =
    hold_more n i (get_or nodes k 0) (owners_by nodes layers) old new below room
    (owner_by_layer nodes layers i ∙ ap (option_map (λ layer. get_or nodes layer 0)) at) hold is

pub hold_virtual : (n i : ℕ) (nodes : List ℕ) (layers : List (Option ℕ)) (ranges : List (List (ℕ × ℕ)))
    → layer_at layers i ≡ None → HoldOwned n i (owners_by nodes layers) ranges → HoldOwned n (i + 1) (owners_by nodes layers) ranges
hold_virtual n i nodes layers ranges at hold =
    hold_same n i (owners_by nodes layers) ranges
    (owner_by_layer nodes layers i ∙ ap (option_map (λ layer. get_or nodes layer 0)) at) hold

-- ---- one node's ranges among those of all

pub unit_added : {X : Type 0} (g : X → List (ℕ × ℕ)) (units : List X) (seams : List (List (ℕ × ℕ))) (node v : ℕ) (old new : X)
    → node < length units → old ≡ get_or units node old → g new ≡ add_vertex (g old) v
    → map g (set units node new) ++ seams
    ≡ set (map g units ++ seams) node (add_vertex (get_or (map g units ++ seams) node []) v)
unit_added g units seams node v old new less read is =
    let within : node < length (map g units) = omega (arith, length-map units g, less) in
    let at : get_or (map g units ++ seams) node [] ≡ g old =
    get_or_append_left (map g units) seams [] node within ∙ get_or-map g units node old [] less ∙ ap g (sym read) in
    ap (λ xs. xs ++ seams) (map-set g units node new)
    ∙ sym (set-append_left (map g units) seams node (g new) within)
    ∙ ap (set (map g units ++ seams) node) (is ∙ ap (λ r. add_vertex r v) (sym at))

pub seam_added : {X : Type 0} (g : X → List (ℕ × ℕ)) (units : List (List (ℕ × ℕ))) (joins : List X) (node k v : ℕ) (old new : X)
    → length units ≡ k → k ≤ node → node - k < length joins → old ≡ get_or joins (node - k) old → g new ≡ add_vertex (g old) v
    → units ++ map g (set joins (node - k) new)
    ≡ set (units ++ map g joins) node (add_vertex (get_or (units ++ map g joins) node []) v)
seam_added g units joins node k v old new count above less read is =
    let at : get_or (units ++ map g joins) node [] ≡ g old =
    get_or-append_right units (map g joins) k node [] count above ∙ get_or-map g joins (node - k) old [] less ∙ ap g (sym read) in
    ap (λ xs. units ++ xs) (map-set g joins (node - k) new)
    ∙ sym (set-append_right units (map g joins) k node (g new) count above)
    ∙ ap (set (units ++ map g joins) node) (is ∙ ap (λ r. add_vertex r v) (sym at))
