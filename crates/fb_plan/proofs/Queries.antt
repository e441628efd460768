-- What the calls on a plan answer.
use Rattle.std.proofs.Common.{ℕ, suc, ◌+◌, ◌-◌, ◌<◌, ◌≤◌, ◌≡◌, true, false, not, ◌&&◌, List, [], length, drop, get_or, Option, Some, None, refl, sym, ap, ◌∙◌, subst, inl, inr, arith, is_some, length-drop}
use Rattle.std.specs.List.{slice_range}
use Rattle.std.proofs.lemmas.Bool.{and_parts, both_ways, cases_lt, false_from_ne_true}
use Rattle.std.proofs.lemmas.List.{get_or-drop, get_or-take, get_or_past, get_or_read_under, length-take}
use Rattle.fb_graph.specs.Certificate.{AreDistinct}
use Rattle.fb_graph.specs.Limits.{DecodingGraph, is_real_in, most_vertices, no_shot}
use Rattle.fb_graph.specs.LocalPlaces.{ArePlaces}
use Rattle.fb_graph.specs.Parity.{is_in}
use Rattle.fb_plan.specs.InternalLayout.{IsExtent, IsOrdered, extent_at, sorted_by}
use Rattle.fb_plan.specs.Plans.{PlanTree, IsTree, IsPlan, is_owned_in, is_owner_within, is_pending, is_within, node_count, owner_of, problem_at, subtrees}
use Rattle.fb_plan.specs.Vertices.{place_in, vertices_in}
use Rattle.fb_plan.specs.declared.order.Extent.{Extent}
use Rattle.fb_plan.specs.declared.order.Order.{Order}
use Rattle.fb_plan.proofs.Sorting.{is_in-sorted, is_one_of, length-sorted, place_found, sorted_distinct}
use Rattle.fb_plan.proofs.Tables.{distinct-by}
use Rattle.fb_plan.proofs.Trees.{length-subtrees, sub_at, within-le, within_is_node}

pub not_within_beyond : (t : PlanTree) (n m : ℕ) → node_count t ≤ n → is_within t n m ≡ false
not_within_beyond t n m beyond =
    false_from_ne_true (is_within t n m) (λ within. omega (arith, within_is_node t n m within))

pub beyond_not_within : (t : PlanTree) (n m : ℕ) → IsTree t → node_count t ≤ m → is_within t n m ≡ false
beyond_not_within t n m tree beyond =
    false_from_ne_true (is_within t n m)
    (λ within. omega (arith, within_is_node t n m within, within-le t tree n m within))

pub not_owned_beyond : (t : PlanTree) (n v : ℕ) → length t.owners ≤ v → is_owned_in t n v ≡ false
not_owned_beyond t n v beyond = ap (is_owner_within t n) (get_or_past t.owners v None beyond)

pub pending_of_plan : (g : DecodingGraph) (t : PlanTree) (n v : ℕ) → IsPlan g t
    → (is_some (owner_of t v) && not (is_owned_in t n v)) ≡ is_pending t g n v
pending_of_plan g t n v plan = ap (λ b. b && not (is_owned_in t n v)) (plan.owned v)

-- the vertices of a subtree are those that are owned in it
pub is_in-vertices_in : (t : PlanTree) (n v : ℕ) → is_in (vertices_in t n) v ≡ is_owned_in t n v
is_in-vertices_in t n v = is_in-sorted t.owners (sub_at (subtrees t) n) v ∙ same (owner_of t v)
  where
    same : (o : Option ℕ) → is_one_of (sub_at (subtrees t) n) o ≡ is_owner_within t n o
    same None = refl
    same (Some m) = refl

subtree_distinct : (t : PlanTree) → IsTree t → (n : ℕ) → AreDistinct (sub_at (subtrees t) n)
subtree_distinct t tree n =
    elim (cases_lt n (node_count t)) [
      | inl node ↦ distinct-by (suc n) t tree n (omega arith) node
      | inr beyond ↦ subst AreDistinct (sym (get_or_past (subtrees t) n [] (omega (arith, beyond, length-subtrees t)))) tt
    ]

pub vertices_distinct : (t : PlanTree) → IsTree t → (n : ℕ) → AreDistinct (vertices_in t n)
vertices_distinct t tree n = sorted_distinct t.owners (sub_at (subtrees t) n) (subtree_distinct t tree n)

pub length-vertices_in : (t : PlanTree) → IsTree t → (n : ℕ) → length (vertices_in t n) ≤ length t.owners
length-vertices_in t tree n = length-sorted t.owners (sub_at (subtrees t) n) (subtree_distinct t tree n)

pub vertices_beyond : (t : PlanTree) (n : ℕ) → node_count t ≤ n → vertices_in t n ≡ []
vertices_beyond t n beyond = ap (sorted_by t.owners) (get_or_past (subtrees t) n [] (omega (arith, beyond, length-subtrees t)))

-- the place of a vertex among those of a subtree is one of them, and the vertex is there
pub place_of_owned : (t : PlanTree) (n v : ℕ) → is_owned_in t n v ≡ true
    → (place_in t n v < length (vertices_in t n)) × (get_or (vertices_in t n) (place_in t n v) 0 ≡ v)
place_of_owned t n v owned = place_found (vertices_in t n) v (is_in-vertices_in t n v ∙ owned)

pub owned_has_owner : (t : PlanTree) (n v : ℕ) → is_owned_in t n v ≡ true → (n < node_count t) × (v < length t.owners)
owned_has_owner t n v owned = (node (owner_of t v) owned, below)
  where
    node : (o : Option ℕ) → is_owner_within t n o ≡ true → n < node_count t
    node None e = absurd (both_ways false refl e)
    node (Some m) e = within_is_node t n m e

    below : v < length t.owners
    below =
        elim (cases_lt v (length t.owners)) [
          | inl less ↦ less
          | inr beyond ↦ absurd (both_ways (is_owned_in t n v) (not_owned_beyond t n v beyond) owned)
        ]

get_or-slice : (xs : List ℕ) (a b i : ℕ) → i < length (slice_range xs a b) → b ≤ length xs → get_or (slice_range xs a b) i 0 ≡ get_or xs (a + i) 0
get_or-slice xs a b i less low =
    get_or-take (b - a) (drop a xs) i 0 (omega (arith, less, length-take (b - a) (drop a xs)))
    ∙ get_or-drop a xs i 0

-- what the tables say of a vertex's place: that in the order, less where the subtree's vertices start
pub place_by_tables : (t : PlanTree) (order : Order) → IsOrdered t order → (n v : ℕ) → is_owned_in t n v ≡ true
    → get_or order.places.items v 0 ≡ (extent_at order.extents.items n).start + place_in t n v
place_by_tables t order is n v owned = told (is.each_extent n (owned_has_owner t n v owned).0)
  where
    e : Extent
    e = extent_at order.extents.items n

    told : IsExtent t order.vertices.items n e → get_or order.places.items v 0 ≡ e.start + place_in t n v
    told extent =
        let at = place_of_owned t n v owned in
        let less : place_in t n v < length (slice_range order.vertices.items e.start e.end) = omega (arith, at.0, ap length extent.subtree) in
        let here : get_or order.vertices.items (e.start + place_in t n v) 0 ≡ v =
        sym (get_or-slice order.vertices.items e.start e.end (place_in t n v) less extent.end)
        ∙ (ap (λ vs. get_or vs (place_in t n v) 0) extent.subtree ∙ at.1) in
        let low : e.start + place_in t n v < length order.vertices.items =
        omega (arith, less, extent.end, length-take (e.end - e.start) (drop e.start order.vertices.items), length-drop e.start order.vertices.items) in
        ap (λ u. get_or order.places.items u 0) (sym here) ∙ is.each_place (e.start + place_in t n v) low

-- the same of what is read from the tables, whose plan is known by another name
pub read_place : (inside t : PlanTree) (order : Order) (n v place : ℕ) (e : Extent) → inside ≡ t → IsOrdered inside order
    → is_owned_in t n v ≡ true → place ≡ get_or order.places.items v place → e ≡ get_or order.extents.items n e
    → place ≡ e.start + place_in t n v
read_place inside t order n v place e same is owned read_v read_n =
    get_or_read_under order.places.items v (length order.places.items) place 0 read_v (omega (arith, at.1, is.place_count)) refl
    ∙ place_by_tables inside order is n v here
    ∙ ap (λ b. b.start + place_in inside n v)
    (sym (get_or_read_under order.extents.items n (length order.extents.items) e (record { start = 0; own = 0; end = 0 }) read_n
    (omega (arith, at.0, is.extent_count)) refl))
    ∙ ap (λ p. e.start + place_in p n v) same
  where
    here : is_owned_in inside n v ≡ true
    here = subst (λ p. is_owned_in p n v ≡ true) (sym same) owned

    at : (n < node_count inside) × (v < length inside.owners)
    at = owned_has_owner inside n v here

-- what is read between the bounds of a node's subtree
pub read_subtree : (t : PlanTree) (order : Order) (n : ℕ) (e : Extent) (xs : List ℕ) → IsOrdered t order → n < node_count t
    → e ≡ extent_at order.extents.items n → xs ≡ order.vertices.items → slice_range xs e.start e.end ≡ vertices_in t n
read_subtree t order n e xs is node at same =
    ap (λ vs. slice_range vs e.start e.end) same
    ∙ ap (λ b. slice_range order.vertices.items b.start b.end) at
    ∙ (is.each_extent n node).subtree

-- a list of the vertices of a subtree
pub record AreVertices (t : PlanTree) (n : ℕ) (vs : List ℕ) : Type 0 where
  pub value : vs ≡ vertices_in t n
  pub members : (v : ℕ) → is_in vs v ≡ is_owned_in t n v
  pub distinct : AreDistinct vs
  pub few : length vs ≤ most_vertices

pub vertices_are : (t : PlanTree) (n : ℕ) (vs : List ℕ) → IsTree t → length t.owners ≤ most_vertices → vs ≡ vertices_in t n
    → AreVertices t n vs
vertices_are t n vs tree few same = record {
  value = same;
  members = λ v. ap (λ xs. is_in xs v) same ∙ is_in-vertices_in t n v;
  distinct = subst AreDistinct (sym same) (vertices_distinct t tree n);
  few = omega (arith, ap length same, length-vertices_in t tree n, few);
}

pub places_are : (g : DecodingGraph) (t : PlanTree) (n : ℕ) → length (vertices_in t n) ≤ most_vertices
    → ArePlaces (problem_at g t n no_shot) (place_in t n) (length (vertices_in t n))
places_are g t n few = record {
  below = λ v real. (place_of_owned t n v (owned v real)).0;
  apart = λ u v real_u real_v same.
      sym (place_of_owned t n u (owned u real_u)).1
      ∙ (ap (λ k. get_or (vertices_in t n) k 0) same ∙ (place_of_owned t n v (owned v real_v)).1);
  limit = few;
}
  where
    owned : (v : ℕ) → (is_real_in g v && is_owned_in t n v) ≡ true → is_owned_in t n v ≡ true
    owned v real = (and_parts (is_real_in g v) (is_owned_in t n v) real).1

pub ruleset within = (not_within_beyond, beyond_not_within)

pub ruleset owned = (not_owned_beyond)

pub ruleset pending = (pending_of_plan)
