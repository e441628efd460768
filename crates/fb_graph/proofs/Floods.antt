-- A search that gives each vertex the label of its component: one more vertex, one more edge, one more component.
use Rattle.std.proofs.Common.{ℕ, ◌+◌, ◌<◌, ◌≤◌, ◌≡◌, ◌≢◌, ◌==◌, ◌⊎◌, ◌||◌, Bool, true, false, cond, List, [], ◌∷◌, ◌++◌, length, take, drop, get_or, set, All, le_refl, le_trans, refl, sym, ap, subst, ◌∙◌, inl, inr, arith, length-set}
use Rattle.std.specs.List.{range_with_len}
use Rattle.std.proofs.lemmas.Bool.{false≢true, both_ways, cases_eq, cases_lt, cases_Bool, eq-eqb, eqb-true, ne_eqb, or_cases, or_left, or_right}
use Rattle.std.proofs.lemmas.List.{get_or-set_same, get_or-set_other, get_or_append_left, take-append-le, drop-append-le, take-append-drop, take_all, take_more, drop_all, drop_more, length_push}
use Rattle.std.proofs.lemmas.List.Elements.{All-from_get_or, All-nil, All-cons, All-append}
use Rattle.std.proofs.lemmas.List.Folds.{list_any-append}
use Rattle.std.proofs.lemmas.List.FromFn.{length-range_with_len}
use Rattle.fb_graph.specs.Parity.{differ, is_in}
use Rattle.fb_graph.specs.Problem.{Problem, edge_at, no_edge, touches}
use Rattle.fb_graph.specs.Components.{IsJoined}
use Rattle.fb_graph.specs.InternalFlooding.{Reached, IsReached, with_vertex, with_ends, Grows, IsSettled, IsFlooding}
use Rattle.fb_graph.specs.InternalLabelling.{IsLabelling, label_of}
use Rattle.fb_graph.specs.Adjacency.{edges_at}
use Rattle.fb_graph.specs.Limits.{IsWithinLimits}
use Rattle.fb_graph.specs.declared.parts.Edge.{Edge}
use Rattle.fb_graph.proofs.Ranges.{filter-range_below, is_in-filter-range}
use Rattle.fb_graph.proofs.Sets.{distinct_from_rising, is_in-All, is_in-cases, is_in-head, is_in-range, is_in-tail, is_in_at, length-le_from_within, range_rises}
use Rattle.fb_graph.proofs.Walks.{joined_ends, joined_self, joined_sym, joined_trans}
use Rattle.fb_graph.proofs.Members.{AreDistinct_push, is_in_pushed}
use Rattle.fb_graph.proofs.Booleans.{or_nothing}

-- lists with one number more
pub is_in-left : (xs ys : List ℕ) (u : ℕ) → is_in xs u ≡ true → is_in (xs ++ ys) u ≡ true
is_in-left xs ys u within = list_any-append (λ w. w == u) xs ys ∙ or_left (is_in xs u) (is_in ys u) within

pub is_in-right : (xs ys : List ℕ) (u : ℕ) → is_in ys u ≡ true → is_in (xs ++ ys) u ≡ true
is_in-right xs ys u within = list_any-append (λ w. w == u) xs ys ∙ or_right (is_in xs u) (is_in ys u) within

pub is_in-both : (xs ys : List ℕ) (u : ℕ) → is_in (xs ++ ys) u ≡ true → (is_in xs u ≡ true) ⊎ (is_in ys u ≡ true)
is_in-both xs ys u within = or_cases (is_in xs u) (is_in ys u) (sym (list_any-append (λ w. w == u) xs ys) ∙ within)

is_in-push : (xs : List ℕ) (v u : ℕ) → is_in (xs ++ v ∷ []) u ≡ true → (is_in xs u ≡ true) ⊎ (v ≡ u)
is_in-push xs v u within =
    elim (is_in-both xs (v ∷ []) u within) [
      | inl before ↦ inl before
      | inr last ↦ inr (only (is_in-cases v [] u last))
    ]
  where
    only : (v ≡ u) ⊎ (is_in [] u ≡ true) → v ≡ u
    only (inl same) = same
    only (inr none) = absurd (false≢true none)

-- a member is among the first n or among the others
is_in-take_or_drop : (n : ℕ) (xs : List ℕ) (u : ℕ) → is_in xs u ≡ true
    → (is_in (take n xs) u ≡ true) ⊎ (is_in (drop n xs) u ≡ true)
is_in-take_or_drop n xs u within =
    is_in-both (take n xs) (drop n xs) u (ap (λ ys. is_in ys u) (take-append-drop n xs) ∙ within)

is_in-drop : (n : ℕ) (xs : List ℕ) (u : ℕ) → is_in (drop n xs) u ≡ true → is_in xs u ≡ true
is_in-drop n xs u within =
    sym (ap (λ ys. is_in ys u) (take-append-drop n xs)) ∙ is_in-right (take n xs) (drop n xs) u within

-- the order is no longer than there are vertices
pub length-order : (labels : List ℕ) (flags : List Bool) (order : List ℕ) → IsReached labels flags order
    → length order ≤ length labels
length-order labels flags order known =
    omega (
      arith,
      length-range_with_len 0 (length labels),
      length-le_from_within order (range_with_len 0 (length labels)) known.distinct
          (distinct_from_rising (range_with_len 0 (length labels)) (range_rises 0 (length labels)))
          (λ v within. is_in-range (length labels) v (is_in-All (λ u. u < length labels) order known.below v within)),
    )

-- one more vertex
pub reached_more : (labels : List ℕ) (flags : List Bool) (order : List ℕ) (v label : ℕ) → IsReached labels flags order
    → v < length labels → is_in order v ≡ false → IsReached (set labels v label) (set flags v true) (order ++ v ∷ [])
reached_more labels flags order v label known below absent = record {
  count = length-set flags v true ∙ (known.count ∙ sym (length-set labels v label));
  each = λ u less. step u (subst (λ n. u < n) (length-set labels v label) less) (cases_eq u v);
  distinct = AreDistinct_push order v known.distinct absent;
  below =
      subst (λ n. All (λ u. u < n) (order ++ v ∷ [])) (sym (length-set labels v label))
      (All-append (λ u. u < length labels) order (v ∷ []) known.below
      (All-cons (λ u. u < length labels) v [] below (All-nil (λ u. u < length labels))));
}
  where
    step : (u : ℕ) → u < length labels → (u ≡ v) ⊎ (u ≡ v → ⊥) → get_or (set flags v true) u false ≡ is_in (order ++ v ∷ []) u
    step u less (inl same) =
        ap (λ w. get_or (set flags v true) w false) same
        ∙ (get_or-set_same flags v true false (omega (arith, known.count))
        ∙ sym (ap (is_in (order ++ v ∷ [])) same ∙ is_in_pushed order v))
    step u less (inr other) =
        get_or-set_other flags v u true false other
        ∙ (known.each u less
        ∙ (sym (or_nothing (is_in order u) (is_in (v ∷ []) u) (absent_one (ne_eqb v u (λ e. other (sym e)))))
        ∙ sym (list_any-append (λ w. w == u) order (v ∷ []))))
      where
        absent_one : (v == u) ≡ false → ((v == u) || false) ≡ false
        absent_one e = ap (λ b. b || false) e

-- what `reached` gives, by whether the vertex was reached before
reached_before : (s : Reached) (v label : ℕ) → is_in s.order v ≡ true → with_vertex s v label ≡ s
reached_before s v label within =
    ap (λ b. cond b s (record { labels = set s.labels v label; order = s.order ++ v ∷ [] })) within

reached_new : (s : Reached) (v label : ℕ) → is_in s.order v ≡ false
    → with_vertex s v label ≡ record { labels = set s.labels v label; order = s.order ++ v ∷ [] }
reached_new s v label absent =
    ap (λ b. cond b s (record { labels = set s.labels v label; order = s.order ++ v ∷ [] })) absent

pub Grows-refl : (s : Reached) → Grows s s
Grows-refl s = record {
  longer = le_refl (length s.order);
  places = λ i less. refl;
  within = λ v h. h;
  labels = λ v h. refl;
}

pub Grows-trans : (s t u : Reached) → Grows s t → Grows t u → Grows s u
Grows-trans s t u first second = record {
  longer = le_trans first.longer second.longer;
  places = λ i less. second.places i (omega (arith, first.longer)) ∙ first.places i less;
  within = λ v h. second.within v (first.within v h);
  labels = λ v h. second.labels v (first.within v h) ∙ first.labels v h;
}

-- a vertex that was reached keeps its label when another one gets one
kept_label : (s : Reached) (v label u : ℕ) → is_in s.order v ≡ false → is_in s.order u ≡ true
    → label_of (set s.labels v label) u ≡ label_of s.labels u
kept_label s v label u absent within =
    get_or-set_other s.labels v u label 0 (λ same. both_ways (is_in s.order v) absent (ap (is_in s.order) (sym same) ∙ within))

pub grows_reached : (s : Reached) (v label : ℕ) → Grows s (with_vertex s v label)
grows_reached s v label =
    elim (cases_Bool (is_in s.order v)) [
      | inl within ↦ subst (Grows s) (sym (reached_before s v label within)) (Grows-refl s)
      | inr absent ↦ subst (Grows s) (sym (reached_new s v label absent)) (grown absent)
    ]
  where
    grown : is_in s.order v ≡ false → Grows s (record { labels = set s.labels v label; order = s.order ++ v ∷ [] })
    grown absent = record {
      longer = omega (arith, length_push s.order v);
      places = λ i less. get_or_append_left s.order (v ∷ []) 0 i less;
      within = λ u h. is_in-left s.order (v ∷ []) u h;
      labels = λ u h. kept_label s v label u absent h;
    }

pub is_in-with_vertex : (s : Reached) (v label : ℕ) → is_in (with_vertex s v label).order v ≡ true
is_in-with_vertex s v label =
    elim (cases_Bool (is_in s.order v)) [
      | inl within ↦ ap (λ t. is_in t.order v) (reached_before s v label within) ∙ within
      | inr absent ↦ ap (λ t. is_in t.order v) (reached_new s v label absent) ∙ is_in_pushed s.order v
    ]

settled_grows : (s t : Reached) (e : Edge) → Grows s t → IsSettled s e → IsSettled t e
settled_grows s t e grows settled = record {
  first = grows.within e.first settled.first;
  second = grows.within e.second settled.second;
  same = grows.labels e.first settled.first ∙ (settled.same ∙ sym (grows.labels e.second settled.second));
}

module _ (p : Problem) (limits : IsWithinLimits p) where
  -- one more vertex that is joined to the label
  flooding_reached : (s : Reached) (head label v : ℕ) → IsFlooding p s head label → head ≤ length s.order
      → v < p.vertices → IsJoined p v label → IsFlooding p (with_vertex s v label) head label
  flooding_reached s head label v flooding place below joined =
      elim (cases_Bool (is_in s.order v)) [
        | inl within ↦ subst (λ t. IsFlooding p t head label) (sym (reached_before s v label within)) flooding
        | inr absent ↦ subst (λ t. IsFlooding p t head label) (sym (reached_new s v label absent)) (more absent)
      ]
    where
      own : label_of (set s.labels v label) v ≡ label
      own = get_or-set_same s.labels v label 0 (omega (arith, flooding.count))

      not_passed : is_in s.order v ≡ false → (v < label) ⊎ (label ≤ v) → label ≤ v
      not_passed absent (inl before) = absurd (both_ways (is_in s.order v) absent (flooding.passed v before))
      not_passed absent (inr after) = after

      more : is_in s.order v ≡ false → IsFlooding p (record { labels = set s.labels v label; order = s.order ++ v ∷ [] }) head label
      more absent = record {
        count = length-set s.labels v label ∙ flooding.count;
        low = λ u h. low u (is_in-push s.order v u h);
        joined = λ u h. joined_to u (is_in-push s.order v u h);
        passed = λ u before. is_in-left s.order (v ∷ []) u (flooding.passed u before);
        settled = λ u h k less touched.
            settled_grows s _ (edge_at p.edges k) grows
            (flooding.settled u (ap (λ xs. is_in xs u) (sym (take-append-le head s.order (v ∷ []) place)) ∙ h) k less touched);
        waiting = λ u h.
            waits u (is_in-push (drop head s.order) v u (ap (λ xs. is_in xs u) (sym (drop-append-le head s.order (v ∷ []) place)) ∙ h));
      }
        where
          grows : Grows s (record { labels = set s.labels v label; order = s.order ++ v ∷ [] })
          grows = subst (Grows s) (reached_new s v label absent) (grows_reached s v label)

          low : (u : ℕ) → (is_in s.order u ≡ true) ⊎ (v ≡ u) → label_of (set s.labels v label) u ≤ u
          low u (inl h) = subst (λ l. l ≤ u) (sym (kept_label s v label u absent h)) (flooding.low u h)
          low u (inr same) = subst (λ w. label_of (set s.labels v label) w ≤ w) same
              (subst (λ l. l ≤ v) (sym own) (not_passed absent (cases_lt v label)))

          joined_to : (u : ℕ) → (is_in s.order u ≡ true) ⊎ (v ≡ u)
              → IsJoined p u (label_of (set s.labels v label) u)
          joined_to u (inl h) =
              subst (IsJoined p u) (sym (kept_label s v label u absent h)) (flooding.joined u h)
          joined_to u (inr same) =
              subst (λ w. IsJoined p w (label_of (set s.labels v label) w)) same
              (subst (IsJoined p v) (sym own) joined)

          waits : (u : ℕ) → (is_in (drop head s.order) u ≡ true) ⊎ (v ≡ u) → label_of (set s.labels v label) u ≡ label
          waits u (inl h) = kept_label s v label u absent (is_in-drop head s.order u h) ∙ flooding.waiting u h
          waits u (inr same) = ap (label_of (set s.labels v label)) (sym same) ∙ own

  -- an edge touches both its ends
  touches_first : (k : ℕ) → k < length p.edges → touches (edge_at p.edges k).first (edge_at p.edges k) ≡ true
  touches_first k less =
      let loopless = (limits.each_edge k no_edge less).loopless in
      ap (λ a. differ a ((edge_at p.edges k).first == (edge_at p.edges k).second)) (eq-eqb _ _ refl)
      ∙ ap (differ true) (ne_eqb (edge_at p.edges k).first (edge_at p.edges k).second loopless)

  touches_second : (k : ℕ) → k < length p.edges → touches (edge_at p.edges k).second (edge_at p.edges k) ≡ true
  touches_second k less =
      let loopless = (limits.each_edge k no_edge less).loopless in
      ap (λ a. differ a ((edge_at p.edges k).second == (edge_at p.edges k).second))
      (ne_eqb (edge_at p.edges k).second (edge_at p.edges k).first (λ e. loopless (sym e)))
      ∙ ap (differ false) (eq-eqb (edge_at p.edges k).second (edge_at p.edges k).second refl)

  -- an edge whose ends were both reached is settled: those that wait have one label
  both_settled : (s : Reached) (head label k : ℕ) → IsFlooding p s head label → k < length p.edges
      → is_in s.order (edge_at p.edges k).first ≡ true → is_in s.order (edge_at p.edges k).second ≡ true
      → IsSettled s (edge_at p.edges k)
  both_settled s head label k flooding less first second =
      step (is_in-take_or_drop head s.order (edge_at p.edges k).first first)
      (is_in-take_or_drop head s.order (edge_at p.edges k).second second)
    where
      step : (is_in (take head s.order) (edge_at p.edges k).first ≡ true)
          ⊎ (is_in (drop head s.order) (edge_at p.edges k).first ≡ true)
          → (is_in (take head s.order) (edge_at p.edges k).second ≡ true)
          ⊎ (is_in (drop head s.order) (edge_at p.edges k).second ≡ true)
          → IsSettled s (edge_at p.edges k)
      step (inl done) other = flooding.settled (edge_at p.edges k).first done k less (touches_first k less)
      step (inr waits) (inl done) = flooding.settled (edge_at p.edges k).second done k less (touches_second k less)
      step (inr waits) (inr too) = record {
        first = first;
        second = second;
        same = flooding.waiting (edge_at p.edges k).first waits ∙ sym (flooding.waiting (edge_at p.edges k).second too);
      }

  -- both ends of an edge at v are joined to what v is joined to
  ends_joined : (v k label : ℕ) → k < length p.edges → touches v (edge_at p.edges k) ≡ true
      → IsJoined p v label
      → IsJoined p (edge_at p.edges k).first label
      × IsJoined p (edge_at p.edges k).second label
  ends_joined v k label less touched joined =
      step (v == (edge_at p.edges k).first) (v == (edge_at p.edges k).second) refl refl touched
    where
      ends : IsJoined p (edge_at p.edges k).first (edge_at p.edges k).second
      ends = joined_ends p k less

      by_first : v ≡ (edge_at p.edges k).first → IsJoined p (edge_at p.edges k).first label
      by_first same = subst (λ w. IsJoined p w label) same joined

      by_second : v ≡ (edge_at p.edges k).second → IsJoined p (edge_at p.edges k).second label
      by_second same = subst (λ w. IsJoined p w label) same joined

      step : (a b : Bool) → (v == (edge_at p.edges k).first) ≡ a → (v == (edge_at p.edges k).second) ≡ b
          → differ (v == (edge_at p.edges k).first) (v == (edge_at p.edges k).second) ≡ true
          → IsJoined p (edge_at p.edges k).first label
          × IsJoined p (edge_at p.edges k).second label
      step true b e f h =
          let here = by_first (eqb-true v (edge_at p.edges k).first e) in
          (here, joined_trans p _ _ _ (joined_sym p _ _ ends) here)
      step false true e f h =
          let here = by_second (eqb-true v (edge_at p.edges k).second f) in
          (joined_trans p _ _ _ ends here, here)
      step false false e f h =
          absurd (false≢true (sym (ap (λ a. differ a (v == (edge_at p.edges k).second)) e ∙ ap (differ false) f) ∙ h))

  module _ (s : Reached) (head label : ℕ) (flooding : IsFlooding p s head label) (place : head < length s.order) where
    -- the vertex whose turn it is waits
    own_label : label_of s.labels (get_or s.order head 0) ≡ label
    own_label =
        flooding.waiting (get_or s.order head 0)
        (ap (λ xs. is_in xs (get_or s.order head 0)) (drop_more s.order head 0 place)
        ∙ is_in-head (get_or s.order head 0) (drop (head + 1) s.order))

    own_joined : IsJoined p (get_or s.order head 0) label
    own_joined =
        subst (IsJoined p (get_or s.order head 0)) own_label
        (flooding.joined (get_or s.order head 0) (is_in_at s.order head 0 place))

    -- an edge at it
    pub flooding-with_ends : (k : ℕ) → k < length p.edges → touches (get_or s.order head 0) (edge_at p.edges k) ≡ true
        → IsFlooding p (with_ends p s k label) head label
    flooding-with_ends k less touched =
        let joined = ends_joined (get_or s.order head 0) k label less touched own_joined in
        let edge = limits.each_edge k no_edge less in
        let grows = grows_reached s (edge_at p.edges k).first label in
        flooding_reached (with_vertex s (edge_at p.edges k).first label) head label (edge_at p.edges k).second
        (flooding_reached s head label (edge_at p.edges k).first flooding (omega arith) edge.first joined.0)
        (omega (arith, grows.longer)) edge.second joined.1

    pub settled-with_ends : (k : ℕ) → k < length p.edges → touches (get_or s.order head 0) (edge_at p.edges k) ≡ true
        → IsSettled (with_ends p s k label) (edge_at p.edges k)
    settled-with_ends k less touched =
        both_settled (with_ends p s k label) head label k (flooding-with_ends k less touched) less
        ((grows_reached (with_vertex s (edge_at p.edges k).first label) (edge_at p.edges k).second label).within
        (edge_at p.edges k).first (is_in-with_vertex s (edge_at p.edges k).first label))
        (is_in-with_vertex (with_vertex s (edge_at p.edges k).first label) (edge_at p.edges k).second label)

    -- all edges at it settled
    pub flooding-onward : ((k : ℕ) → is_in (edges_at p.edges (length p.edges) (get_or s.order head 0)) k ≡ true → IsSettled s (edge_at p.edges k))
        → IsFlooding p s (head + 1) label
    flooding-onward each = record {
      count = flooding.count;
      low = flooding.low;
      joined = flooding.joined;
      passed = flooding.passed;
      settled = λ v h. settled v (is_in-push (take head s.order) (get_or s.order head 0) v
          (ap (λ xs. is_in xs v) (sym (take_more s.order head 0 place)) ∙ h));
      waiting = λ v h. flooding.waiting v
          (ap (λ xs. is_in xs v) (drop_more s.order head 0 place) ∙ is_in-tail (get_or s.order head 0) (drop (head + 1) s.order) v h);
    }
      where
        settled : (v : ℕ) → (is_in (take head s.order) v ≡ true) ⊎ (get_or s.order head 0 ≡ v)
            → (k : ℕ) → k < length p.edges → touches v (edge_at p.edges k) ≡ true → IsSettled s (edge_at p.edges k)
        settled v (inl done) k less touched = flooding.settled v done k less touched
        settled v (inr same) k less touched =
            each k
            (is_in-filter-range (λ j. touches (get_or s.order head 0) (edge_at p.edges j)) (length p.edges) k less
            ∙ (ap (λ w. touches w (edge_at p.edges k)) same ∙ touched))

  -- a further component begins with a vertex whose label it is
  pub flooding_start : (s : Reached) (v : ℕ) → IsFlooding p s (length s.order) v → v < p.vertices
      → IsFlooding p (with_vertex s v v) (length s.order) v
  flooding_start s v flooding below =
      flooding_reached s (length s.order) v v flooding (le_refl (length s.order)) below (joined_self p v)

  -- and ends where nothing waits
  pub flooding_end : (s : Reached) (v : ℕ) → IsFlooding p s (length s.order) v → is_in s.order v ≡ true
      → IsFlooding p s (length s.order) (v + 1)
  flooding_end s v flooding within = record {
    count = flooding.count;
    low = flooding.low;
    joined = flooding.joined;
    passed = λ u less. passed u less (cases_eq u v);
    settled = flooding.settled;
    waiting = λ u h. absurd (false≢true (sym (ap (λ xs. is_in xs u) (drop_all (length s.order) s.order (le_refl _))) ∙ h));
  }
    where
      passed : (u : ℕ) → u < v + 1 → (u ≡ v) ⊎ (u ≡ v → ⊥) → is_in s.order u ≡ true
      passed u less (inl same) = ap (is_in s.order) same ∙ within
      passed u less (inr other) = let apart : u ≢ v = other in flooding.passed u (omega arith)

  -- once all vertices were reached the labels are those of the components
  pub labelling_from_flood : (s : Reached) → IsFlooding p s (length s.order) p.vertices → IsLabelling p s.labels
  labelling_from_flood s flooding = record {
    count = flooding.count;
    low = λ v less. flooding.low v (flooding.passed v less);
    joined = λ v less. flooding.joined v (flooding.passed v less);
    ends = All-from_get_or (λ e. label_of s.labels e.first ≡ label_of s.labels e.second) p.edges no_edge (λ k less. same k less);
  }
    where
      same : (k : ℕ) → k < length p.edges
          → label_of s.labels (edge_at p.edges k).first ≡ label_of s.labels (edge_at p.edges k).second
      same k less =
          let edge = limits.each_edge k no_edge less in
          let within : is_in s.order (edge_at p.edges k).first ≡ true = flooding.passed (edge_at p.edges k).first edge.first in
          (flooding.settled (edge_at p.edges k).first
          (ap (λ xs. is_in xs (edge_at p.edges k).first) (take_all (length s.order) s.order (le_refl _)) ∙ within) k less
          (touches_first k less)).same

-- edges settled one after another
module _ (p : Problem) (limits : IsWithinLimits p) (old s : Reached) (head label : ℕ) (place : head < length old.order)
    (flooding : IsFlooding p s head label) (grows : Grows old s) where
  here : head < length s.order
  here = omega (arith, grows.longer)

  abbrev neighbours : List ℕ
  neighbours = edges_at p.edges (length p.edges) (get_or old.order head 0)

  neighbour : (k : ℕ) → is_in neighbours k ≡ true
      → (k < length p.edges) × (touches (get_or s.order head 0) (edge_at p.edges k) ≡ true)
  neighbour k within =
      let less : k < length p.edges = is_in-All (λ j. j < length p.edges) neighbours
      (filter-range_below (λ j. touches (get_or old.order head 0) (edge_at p.edges j)) (length p.edges)) k within in (
        less,
        ap (λ v. touches v (edge_at p.edges k)) (grows.places head place)
            ∙ (sym (is_in-filter-range (λ j. touches (get_or old.order head 0) (edge_at p.edges j)) (length p.edges) k less)
            ∙ within),
      )

  pub neighbours_more : (edges : List ℕ) (i : ℕ) → edges ≡ edges_at p.edges (length p.edges) (get_or old.order head 0)
      → i < length edges → ((k : ℕ) → is_in (take i edges) k ≡ true → IsSettled s (edge_at p.edges k))
      → IsFlooding p (with_ends p s (get_or edges i 0) label) head label
      × Grows old (with_ends p s (get_or edges i 0) label)
      × ((k : ℕ) → is_in (take (i + 1) edges) k ≡ true
      → IsSettled (with_ends p s (get_or edges i 0) label) (edge_at p.edges k))
  neighbours_more edges i are less settled =
      let (below, touched) = neighbour (get_or edges i 0) (ap (λ ks. is_in ks (get_or edges i 0)) (sym are) ∙ is_in_at edges i 0 less) in (
        flooding-with_ends p limits s head label flooding here (get_or edges i 0) below touched,
        Grows-trans old s _ grows grown,
        λ k within. step below touched k (is_in-push (take i edges) (get_or edges i 0) k (ap (λ ks. is_in ks k) (sym (take_more edges i 0 less)) ∙ within)),
      )
    where
      grown : Grows s (with_ends p s (get_or edges i 0) label)
      grown = Grows-trans s _ _ (grows_reached s (edge_at p.edges (get_or edges i 0)).first label)
          (grows_reached (with_vertex s (edge_at p.edges (get_or edges i 0)).first label) (edge_at p.edges (get_or edges i 0)).second label)

      step : get_or edges i 0 < length p.edges → touches (get_or s.order head 0) (edge_at p.edges (get_or edges i 0)) ≡ true
          → (k : ℕ) → (is_in (take i edges) k ≡ true) ⊎ (get_or edges i 0 ≡ k)
          → IsSettled (with_ends p s (get_or edges i 0) label) (edge_at p.edges k)
      step below touched k (inl before) = settled_grows s _ (edge_at p.edges k) grown (settled k before)
      step below touched k (inr same) =
          subst (λ j. IsSettled (with_ends p s (get_or edges i 0) label) (edge_at p.edges j)) same
          (settled-with_ends p limits s head label flooding here (get_or edges i 0) below touched)

  pub neighbours_all : (edges : List ℕ) (i : ℕ) → edges ≡ edges_at p.edges (length p.edges) (get_or old.order head 0)
      → length edges ≤ i → ((k : ℕ) → is_in (take i edges) k ≡ true → IsSettled s (edge_at p.edges k))
      → IsFlooding p s (head + 1) label
  neighbours_all edges i are all settled =
      flooding-onward p limits s head label flooding here
      (λ k within. settled k (ap (λ ks. is_in ks k) (take_all i edges all
      ∙ (are ∙ ap (edges_at p.edges (length p.edges)) (sym (grows.places head place)))) ∙ within))
