-- Of the changes of each edge the last one: what a stable sort by edges of the reversed list keeps, and the first of each
-- run of it.
use Rattle.std.proofs.Common.{◌≡◌, ℕ, ℤ, pos, ◌+◌, ◌<◌, ◌≤◌, ◌==◌, Bool, true, false, ◌||◌, eqb, List, [], ◌∷◌, length, map, filter, get_or, All, reverse, refl, sym, ap, subst, ◌∙◌, inl, inr, arith}
use Rattle.std.specs.List.{dedup, dedup_from, range_with_len}
use Rattle.std.specs.List.Sorted.{IsPermutation, IsSorted, IsNonDecreasingBy, IsStableByKey, IsStrictlyIncreasing, ties}
use Rattle.std.specs.Ordering.{nat_cmp, is_lt}
use Rattle.std.proofs.lemmas.Bool.{cases_Bool, cases_lt, ne_eqb}
use Rattle.std.proofs.lemmas.Bool.Decides.{nat_tests}
use Rattle.std.proofs.lemmas.List.{get_or-map, length-map}
use Rattle.std.proofs.lemmas.List.Elements.{All-map}
use Rattle.std.proofs.lemmas.List.Filters.{All-dedup}
use Rattle.std.proofs.lemmas.List.Sorted.{All-permutation, IsPermutation-map, IsPermutation-reverse, IsPermutation-trans, list_any-IsPermutation}
use Rattle.std.proofs.lemmas.Map.Keys.{IsStrictlyIncreasing-dedup}
use Rattle.fb_graph.specs.Certificate.{AreDistinct}
use Rattle.fb_graph.specs.Limits.{IsChange, AreChanges}
use Rattle.fb_graph.specs.Parity.{is_in}
use Rattle.fb_graph.specs.ShotGraphs.{weight_by}
use Rattle.fb_graph.proofs.Ranges.{filter-range_below, filter-range_rises, is_in-filter-range, not_in_below}
use Rattle.fb_graph.proofs.Sets.{distinct_from_rising, is_in-head, rising_same}
use Rattle.fb_shots_json.specs.TextJson.{last_changes}

abbrev Changes : Type 0
Changes = List (ℕ × ℤ)

abbrev edge_of : ℕ × ℤ → ℕ
edge_of change = change.0

abbrev same_edge : ℕ × ℤ → ℕ × ℤ → Bool
same_edge a b = a.0 == b.0

-- ---- the weight of an edge

-- an edge's weight is looked up among its own changes
weight_by-filter : (test : ℕ × ℤ → Bool) (e : ℕ) (w : ℤ) → ((c : ℕ × ℤ) → test c ≡ (c.0 == e)) → (changes : Changes)
    → weight_by (filter test changes) e w ≡ weight_by changes e w
weight_by-filter test e w own [] = refl
weight_by-filter test e w own (c ∷ cs) = grind (arith, nat_tests, own c, weight_by-filter test e w own cs)

-- changes tie where they have the same edge
ties-edge : (e : ℕ) (c : ℕ × ℤ) → ties (λ (x y : ℕ × ℤ). is_lt (nat_cmp x.0 y.0)) (e, pos 0) c ≡ (c.0 == e)
ties-edge e c = grind (arith, nat_tests)

-- a stable sort by edges keeps all weights
weight_by-stable : (changes sorted : Changes) → IsStableByKey edge_of nat_cmp changes sorted → (e : ℕ) (w : ℤ)
    → weight_by sorted e w ≡ weight_by changes e w
weight_by-stable changes sorted stable e w =
    let test = ties (λ (x y : ℕ × ℤ). is_lt (nat_cmp x.0 y.0)) (e, pos 0) in
    sym (weight_by-filter test e w (ties-edge e) sorted)
    ∙ (ap (λ l. weight_by l e w) (stable (e, pos 0)) ∙ weight_by-filter test e w (ties-edge e) changes)

-- the first change of each run keeps all weights
weight_by-dedup_from : (c : ℕ × ℤ) (cs : Changes) (e : ℕ) (w : ℤ) → weight_by (dedup_from same_edge c cs) e w ≡ weight_by (c ∷ cs) e w
weight_by-dedup_from c [] e w = refl
weight_by-dedup_from c (d ∷ cs) e w = elim (cases_Bool (same_edge d c)) [
  | inl same ↦ rw same (weight_by-dedup_from c cs e w ∙ grind (arith, nat_tests, same))
  | inr other ↦ rw other (grind (arith, nat_tests, weight_by-dedup_from d cs e w))
]

weight_by-dedup : (cs : Changes) (e : ℕ) (w : ℤ) → weight_by (dedup same_edge cs) e w ≡ weight_by cs e w
weight_by-dedup [] e w = refl
weight_by-dedup (c ∷ cs) e w = weight_by-dedup_from c cs e w

-- ---- the edges

edges-dedup_from : (c : ℕ × ℤ) (cs : Changes) → map edge_of (dedup_from same_edge c cs) ≡ dedup_from eqb c.0 (map edge_of cs)
edges-dedup_from c [] = refl
edges-dedup_from c (d ∷ cs) = elim (cases_Bool (same_edge d c)) [
  | inl same ↦ rw same (edges-dedup_from c cs)
  | inr other ↦ rw other (ap (λ (l : List ℕ). c.0 ∷ l) (edges-dedup_from d cs))
]

edges-dedup : (cs : Changes) → map edge_of (dedup same_edge cs) ≡ dedup eqb (map edge_of cs)
edges-dedup [] = refl
edges-dedup (c ∷ cs) = edges-dedup_from c cs

is_in-dedup_from : (x : ℕ) (xs : List ℕ) (v : ℕ) → is_in (dedup_from eqb x xs) v ≡ is_in (x ∷ xs) v
is_in-dedup_from x [] v = refl
is_in-dedup_from x (y ∷ xs) v = elim (cases_Bool (eqb y x)) [
  | inl same ↦ rw same (is_in-dedup_from x xs v ∙ grind (arith, nat_tests, same))
  | inr other ↦ rw other (ap (λ (b : Bool). eqb x v || b) (is_in-dedup_from y xs v))
]

is_in-dedup : (xs : List ℕ) (v : ℕ) → is_in (dedup eqb xs) v ≡ is_in xs v
is_in-dedup [] v = refl
is_in-dedup (x ∷ xs) v = is_in-dedup_from x xs v

edges_sorted : (cs : Changes) → IsNonDecreasingBy edge_of cs → IsSorted nat_cmp (map edge_of cs)
edges_sorted cs ordered k d low less =
    let size : k + 1 < length cs = omega (arith, less, length-map cs edge_of) in
    let here : get_or (map edge_of cs) k d ≡ (get_or cs k (0, pos 0)).0 = get_or-map edge_of cs k (0, pos 0) d (omega arith) in
    let next : get_or (map edge_of cs) (k + 1) d ≡ (get_or cs (k + 1) (0, pos 0)).0 = get_or-map edge_of cs (k + 1) (0, pos 0) d size in
    let le : (get_or cs k (0, pos 0)).0 ≤ (get_or cs (k + 1) (0, pos 0)).0 = ordered k (k + 1) (0, pos 0) (omega arith) size in
    grind (arith, nat_tests, here, next, le)

edges_rise : (cs : Changes) → IsNonDecreasingBy edge_of cs → IsStrictlyIncreasing (map edge_of (dedup same_edge cs))
edges_rise cs ordered = subst IsStrictlyIncreasing (sym (edges-dedup cs)) (IsStrictlyIncreasing-dedup (map edge_of cs) (edges_sorted cs ordered))

-- ---- changes by their edges

by_edges : (cs : Changes) (f : ℕ → ℤ) → AreDistinct (map edge_of cs) → ((e : ℕ) → is_in (map edge_of cs) e ≡ true → weight_by cs e (pos 0) ≡ f e)
    → cs ≡ map (λ e. (e, f e)) (map edge_of cs)
by_edges [] f distinct weights = refl
by_edges (c ∷ cs) f distinct weights =
    let here : c.1 ≡ f c.0 = grind (arith, nat_tests, weights c.0 (is_in-head c.0 (map edge_of cs))) in
    ap (λ (w : ℤ). (c.0, w) ∷ cs) here
    ∙ ap (λ (l : Changes). (c.0, f c.0) ∷ l) (by_edges cs f distinct.1 (λ e held.
    let other : eqb c.0 e ≡ false = ne_eqb c.0 e (λ (z : c.0 ≡ e). absurd (let none = distinct.0 in let some = subst (λ (v : ℕ). is_in (map edge_of cs) v ≡ true) (sym z) held in cc)) in
    let all : is_in (c.0 ∷ map edge_of cs) e ≡ true = rw other held in
    let is = weights e all in
    rw other at is))

-- ---- the last change of each edge

module _ (listed sorted : Changes) (edge_count : ℕ) (permuted : IsPermutation (reverse listed) sorted)
    (stable : IsStableByKey edge_of nat_cmp (reverse listed) sorted) (ordered : IsNonDecreasingBy edge_of sorted) where
  same_edges : (v : ℕ) → is_in (map edge_of (dedup same_edge sorted)) v ≡ is_in (map edge_of listed) v
  same_edges v =
      ap (λ (l : List ℕ). is_in l v) (edges-dedup sorted)
      ∙ is_in-dedup (map edge_of sorted) v
      ∙ sym (list_any-IsPermutation (λ u. eqb u v) (map edge_of listed) (map edge_of sorted)
      (IsPermutation-map edge_of listed sorted (IsPermutation-trans listed (reverse listed) sorted (IsPermutation-reverse listed) permuted)))

  edges_are : All (λ (c : ℕ × ℤ). c.0 < edge_count) listed
      → map edge_of (dedup same_edge sorted) ≡ filter (is_in (map edge_of listed)) (range_with_len 0 edge_count)
  edges_are below =
      let edges = map edge_of (dedup same_edge sorted) in
      let all = filter (is_in (map edge_of listed)) (range_with_len 0 edge_count) in
      let under : All (λ v. v < edge_count) (map edge_of listed) = All-map (λ v. v < edge_count) edge_of listed below in
      let kept_below = filter-range_below (is_in (map edge_of listed)) edge_count in
      rising_same edges all (edges_rise sorted ordered) (filter-range_rises (is_in (map edge_of listed)) edge_count) (λ v. elim (cases_lt v edge_count) [
        | inl lt ↦ same_edges v ∙ sym (is_in-filter-range (is_in (map edge_of listed)) edge_count v lt)
        | inr ge ↦
            same_edges v
            ∙ not_in_below (map edge_of listed) v (λ k d lt. omega (arith, under k d lt))
            ∙ sym (not_in_below all v (λ k d lt. omega (arith, kept_below k d lt)))
      ])

  pub last_kept : All (λ (c : ℕ × ℤ). c.0 < edge_count) listed → dedup same_edge sorted ≡ last_changes edge_count listed
  last_kept below =
      by_edges (dedup same_edge sorted) (λ e. weight_by (reverse listed) e (pos 0)) (distinct_from_rising _ (edges_rise sorted ordered))
      (λ e held. weight_by-dedup sorted e (pos 0) ∙ weight_by-stable (reverse listed) sorted stable e (pos 0))
      ∙ ap (λ (es : List ℕ). map (λ e. (e, weight_by (reverse listed) e (pos 0))) es) (edges_are below)

  pub kept_are_changes : All (IsChange edge_count) listed → AreChanges edge_count (dedup same_edge sorted)
  kept_are_changes each = record {
    rising = edges_rise sorted ordered;
    each = All-dedup same_edge (IsChange edge_count) sorted
        (All-permutation (IsChange edge_count) (reverse listed) sorted permuted
        (All-permutation (IsChange edge_count) listed (reverse listed) (IsPermutation-reverse listed) each));
  }
