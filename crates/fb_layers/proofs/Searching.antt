-- A search one layer after another: one more vertex, one more edge, one more root, and what it gives at its end.
use Rattle.std.proofs.Common.{ℕ, zero, suc, ◌+◌, ◌<◌, ◌≤◌, ◌≡◌, ◌⊎◌, ◌&&◌, ◌==◌, Bool, true, false, cond, not, is_some, nat_lt, List, [], ◌∷◌, ◌++◌, reverse, length, take, filter, get_or, set, le_refl, le_trans, refl, sym, ap, subst, ◌∙◌, inl, inr, arith, length-set}
use Rattle.std.specs.Prelude.{Option, Some, None}
use Rattle.std.specs.List.{range_with_len}
use Rattle.std.proofs.lemmas.Bool.{and_parts, both_ways, cases_eq, cases_lt, cases_Bool, eq-eqb, false≢true, lt-ltb, ltb-true, ne_eqb}
use Rattle.std.proofs.lemmas.List.{get_or-set_same, get_or-set_other, get_or_append_left, get_or_push, length_push, length-reverse, take_all, take_more}
use Rattle.std.proofs.lemmas.List.Sums.{sum_by-set, count_by-le-length}
use Rattle.fb_graph.specs.Adjacency.{edges_at}
use Rattle.fb_graph.specs.Counts.{as_count}
use Rattle.fb_graph.specs.Parity.{differ, is_in}
use Rattle.fb_graph.specs.Problem.{edge_at, no_edge, touches}
use Rattle.fb_graph.specs.Components.{Leads}
use Rattle.fb_graph.specs.Limits.{DecodingGraph, IsGraph, is_real_in}
use Rattle.fb_graph.specs.declared.parts.Edge.{Edge}
use Rattle.fb_graph.proofs.Floods.{is_in-both}
use Rattle.fb_graph.proofs.Ranges.{filter-range_below, is_in-filter-range}
use Rattle.fb_graph.proofs.Sets.{is_in-All, is_in-cases, is_in-filter, is_in_at}
use Rattle.fb_graph.proofs.Walks.{touches_as_leads}
use Rattle.fb_layers.specs.Layers.{is_inner, IsInnerWalk, IsLayer, AreLayers, layer_at}
use Rattle.fb_layers.specs.InternalSearch.{Found, with_vertex, reached_at, IsNear, HasLower, IsRoot, IsSearched, Grows}
use Rattle.fb_layers.specs.declared.search.Reached.{Reached}
use Rattle.fb_layers.proofs.Walking.{inner_ends, inner_walk-append, inner_walk-reverse}

abbrev pub reached_in : ℕ → ℕ → Reached
reached_in v n = record { vertex = v; layer = n }

pub Grows-refl : (s : Found) → Grows s s
Grows-refl s = record { longer = le_refl (length s.order); places = λ i less. refl; layers = λ v n at. at }

pub Grows-trans : (s t u : Found) → Grows s t → Grows t u → Grows s u
Grows-trans s t u first second = record {
  longer = le_trans first.longer second.longer;
  places = λ i less. second.places i (omega (arith, first.longer)) ∙ first.places i less;
  layers = λ v n at. second.layers v n (first.layers v n at);
}

pub near_grows : (s t : Found) (e : Edge) → Grows s t → IsNear s.layers e → IsNear t.layers e
near_grows s t e grows near = record {
  first = near.first;
  second = near.second;
  first_at = grows.layers e.first near.first near.first_at;
  second_at = grows.layers e.second near.second near.second_at;
  up = near.up;
  down = near.down;
}

lower_grows : (g : DecodingGraph) (s t : Found) (v n : ℕ) → Grows s t → HasLower g s.layers v n → HasLower g t.layers v n
lower_grows g s t v n grows has = record {
  edge = has.edge;
  vertex = has.vertex;
  within = has.within;
  inner = has.inner;
  leads = has.leads;
  lower = grows.layers has.vertex n has.lower;
}

-- the layers of both ends of a near edge
pub ends_near : (layers : List (Option ℕ)) (e : Edge) (v w m : ℕ) → IsNear layers e → Leads e v w → layer_at layers v ≡ Some m
    → (n : ℕ) × (layer_at layers w ≡ Some n) × (n ≤ m + 1) × (m ≤ n + 1)
ends_near layers e v w m near (inl (first, second)) at =
    let same : near.first ≡ m = cc (near.first_at, ap (layer_at layers) first, at) in
    (near.second, ap (layer_at layers) (sym second) ∙ near.second_at, omega (arith, near.up), omega (arith, near.down))
ends_near layers e v w m near (inr (second, first)) at =
    let same : near.second ≡ m = cc (near.second_at, ap (layer_at layers) second, at) in
    (near.first, ap (layer_at layers) (sym first) ∙ near.first_at, omega (arith, near.down), omega (arith, near.up))

-- an edge is near whose ends have such layers
pub near_from : (layers : List (Option ℕ)) (e : Edge) (v w m n : ℕ) → Leads e v w → layer_at layers v ≡ Some m
    → layer_at layers w ≡ Some n → n ≤ m + 1 → m ≤ n + 1 → IsNear layers e
near_from layers e v w m n (inl (first, second)) at there up down = record {
  first = m;
  second = n;
  first_at = ap (layer_at layers) first ∙ at;
  second_at = ap (layer_at layers) second ∙ there;
  up = up;
  down = down;
}
near_from layers e v w m n (inr (second, first)) at there up down = record {
  first = n;
  second = m;
  first_at = ap (layer_at layers) first ∙ there;
  second_at = ap (layer_at layers) second ∙ at;
  up = down;
  down = up;
}

-- ---- one more vertex

abbrev pub pushed : Found → ℕ → ℕ → Found
pushed s w x = record { layers = set s.layers w (Some x); order = s.order ++ record { vertex = w; layer = x } ∷ [] }

layer_kept : (layers : List (Option ℕ)) (w x v n : ℕ) → layer_at layers w ≡ None → layer_at layers v ≡ Some n
    → layer_at (set layers w (Some x)) v ≡ Some n
layer_kept layers w x v n absent at =
    get_or-set_other layers w v (Some x) None (λ same. cc (ap (layer_at layers) same, absent, at)) ∙ at

layer_cases : (layers : List (Option ℕ)) (w x v n : ℕ) → w < length layers → layer_at (set layers w (Some x)) v ≡ Some n
    → ((v ≡ w) × (x ≡ n)) ⊎ (layer_at layers v ≡ Some n)
layer_cases layers w x v n below at =
    elim (cases_eq v w) [
      | inl same ↦
          let own : layer_at (set layers w (Some x)) w ≡ Some x = get_or-set_same layers w (Some x) None below in
          let value : x ≡ n = cc (ap (layer_at (set layers w (Some x))) same, own, at) in
          inl (same, value)
      | inr other ↦ inr (sym (get_or-set_other layers w v (Some x) None other) ∙ at)
    ]

pub pushed_grows : (s : Found) (w x : ℕ) → layer_at s.layers w ≡ None → Grows s (pushed s w x)
pushed_grows s w x absent = record {
  longer = omega (arith, length_push s.order (reached_in w x));
  places = λ i less. get_or_append_left s.order (reached_in w x ∷ []) (reached_in 0 0) i less;
  layers = λ v n at. layer_kept s.layers w x v n absent at;
}

abbrev IsListed : List (Option ℕ) → Reached → Type 0
IsListed layers q = layer_at layers q.vertex ≡ Some q.layer

abbrev IsBefore : Reached → Reached → Type 0
IsBefore q r = (q.layer ≤ r.layer) × (r.layer ≤ q.layer + 1)

module _ (g : DecodingGraph) (s : Found) (head w x : ℕ) (searched : IsSearched g s head) (ahead : head ≤ length s.order)
    (below : w < g.vertices) (real : is_real_in g w ≡ true) (absent : layer_at s.layers w ≡ None) (small : x ≤ length s.order)
    (after : (i : ℕ) → head ≤ i → i < length s.order
    → ((reached_at s.order i).layer ≤ x) × (x ≤ (reached_at s.order i).layer + 1))
    (above : (n : ℕ) → x ≡ suc n → HasLower g s.layers w n) (least : x ≡ 0 → IsRoot g w) where
  pub searched_pushed : IsSearched g (pushed s w x) head
  searched_pushed = record {
    count = length-set s.layers w (Some x) ∙ searched.count;
    few =
        omega (
          arith,
          length_push s.order (reached_in w x),
          searched.few,
          sum_by-set (λ o. as_count (is_some o)) s.layers w (Some x) None room,
          ap (λ o. as_count (is_some o)) absent,
        );
    listed = λ i less. listed i (place_cases i less);
    placed = λ v n at. placed v n (layer_cases s.layers w x v n room at);
    real = λ v n at. is_real v n (layer_cases s.layers w x v n room at);
    low = λ v n at. low v n (layer_cases s.layers w x v n room at);
    near = λ i k u early less within inner leads. near i k u early (place_cases i less) within inner leads;
    waiting = λ i j hi ij less. waits i j hi ij (place_cases i (omega arith)) (place_cases j less);
    lower = λ v n at. lower v n (layer_cases s.layers w x v (suc n) room at);
    root = λ v at. root v (layer_cases s.layers w x v 0 room at);
  }
    where
      room : w < length s.layers
      room = omega (arith, searched.count)

      grows : Grows s (pushed s w x)
      grows = pushed_grows s w x absent

      own : layer_at (set s.layers w (Some x)) w ≡ Some x
      own = get_or-set_same s.layers w (Some x) None room

      last : (i : ℕ) → i ≡ length s.order → reached_at (s.order ++ reached_in w x ∷ []) i ≡ reached_in w x
      last i is = get_or_push s.order (reached_in w x) (reached_in 0 0) i (sym is)

      place_cases : (i : ℕ) → i < length (s.order ++ reached_in w x ∷ []) → (i < length s.order) ⊎ (i ≡ length s.order)
      place_cases i less = elim (cases_lt i (length s.order)) [
        | inl early ↦ inl early
        | inr late ↦ inr (omega (arith, length_push s.order (reached_in w x)))
      ]

      listed : (i : ℕ) → (i < length s.order) ⊎ (i ≡ length s.order) → IsListed (set s.layers w (Some x)) (reached_at (s.order ++ reached_in w x ∷ []) i)
      listed i (inl less) = subst (IsListed (set s.layers w (Some x))) (sym (grows.places i less)) (grows.layers _ _ (searched.listed i less))
      listed i (inr is) = subst (IsListed (set s.layers w (Some x))) (sym (last i is)) own

      placed : (v n : ℕ) → ((v ≡ w) × (x ≡ n)) ⊎ (layer_at s.layers v ≡ Some n)
          → (i : ℕ) × (i < length (s.order ++ reached_in w x ∷ []))
          × (reached_at (s.order ++ reached_in w x ∷ []) i ≡ reached_in v n)
      placed v n (inl (same, value)) = (
        length s.order,
        omega (arith, length_push s.order (reached_in w x)),
        last (length s.order) refl ∙ (ap (λ u. reached_in u x) (sym same) ∙ ap (reached_in v) value),
      )
      placed v n (inr at) =
          let (i, less, is) = searched.placed v n at in
          (i, omega (arith, less, length_push s.order (reached_in w x)), grows.places i less ∙ is)

      is_real : (v n : ℕ) → ((v ≡ w) × (x ≡ n)) ⊎ (layer_at s.layers v ≡ Some n) → is_real_in g v ≡ true
      is_real v n (inl (same, value)) = ap (is_real_in g) same ∙ real
      is_real v n (inr at) = searched.real v n at

      low : (v n : ℕ) → ((v ≡ w) × (x ≡ n)) ⊎ (layer_at s.layers v ≡ Some n) → n < length (s.order ++ reached_in w x ∷ [])
      low v n (inl (same, value)) = omega (arith, value, small, length_push s.order (reached_in w x))
      low v n (inr at) = omega (arith, searched.low v n at, length_push s.order (reached_in w x))

      near : (i k u : ℕ) → i < head → (i < length s.order) ⊎ (i ≡ length s.order) → k < length g.edges
          → is_inner g (edge_at g.edges k) ≡ true
          → Leads (edge_at g.edges k) (reached_at (s.order ++ reached_in w x ∷ []) i).vertex u
          → IsNear (set s.layers w (Some x)) (edge_at g.edges k)
      near i k u early (inl less) within inner leads =
          near_grows s (pushed s w x) (edge_at g.edges k) grows
          (searched.near i k u early less within inner
          (subst (λ q. Leads (edge_at g.edges k) q.vertex u) (grows.places i less) leads))
      near i k u early (inr is) within inner leads = absurd (omega (arith, early, is, ahead))

      waits : (i j : ℕ) → head ≤ i → i ≤ j → (i < length s.order) ⊎ (i ≡ length s.order)
          → (j < length s.order) ⊎ (j ≡ length s.order)
          → IsBefore (reached_at (s.order ++ reached_in w x ∷ []) i) (reached_at (s.order ++ reached_in w x ∷ []) j)
      waits i j hi ij (inl il) (inl jl) =
          subst (λ r. IsBefore r (reached_at (s.order ++ reached_in w x ∷ []) j)) (sym (grows.places i il))
          (subst (IsBefore (reached_at s.order i)) (sym (grows.places j jl)) (searched.waiting i j hi ij jl))
      waits i j hi ij (inl il) (inr je) =
          subst (λ r. IsBefore r (reached_at (s.order ++ reached_in w x ∷ []) j)) (sym (grows.places i il))
          (subst (IsBefore (reached_at s.order i)) (sym (last j je)) (after i hi il))
      waits i j hi ij (inr ie) (inl jl) = absurd (omega (arith, ie, jl, ij))
      waits i j hi ij (inr ie) (inr je) =
          subst (λ r. IsBefore r (reached_at (s.order ++ reached_in w x ∷ []) j)) (sym (last i ie))
          (subst (IsBefore (reached_in w x)) (sym (last j je)) (le_refl x, omega arith))

      lower : (v n : ℕ) → ((v ≡ w) × (x ≡ suc n)) ⊎ (layer_at s.layers v ≡ Some (suc n))
          → HasLower g (set s.layers w (Some x)) v n
      lower v n (inl (same, value)) =
          lower_grows g s (pushed s w x) v n grows (subst (λ u. HasLower g s.layers u n) (sym same) (above n value))
      lower v n (inr at) = lower_grows g s (pushed s w x) v n grows (searched.lower v n at)

      root : (v : ℕ) → ((v ≡ w) × (x ≡ 0)) ⊎ (layer_at s.layers v ≡ Some 0) → IsRoot g v
      root v (inl (same, value)) = subst (IsRoot g) (sym same) (least value)
      root v (inr at) = searched.root v at

-- what `with_vertex` gives, by whether the vertex was reached before
some_layer : (o : Option ℕ) → is_some o ≡ true → (n : ℕ) × (o ≡ Some n)
some_layer None is = cc
some_layer (Some n) is = (n, refl)

no_layer : (o : Option ℕ) → is_some o ≡ false → o ≡ None
no_layer None is = refl
no_layer (Some n) is = cc

pub reached_before : (s : Found) (v n : ℕ) → is_some (layer_at s.layers v) ≡ true → with_vertex s v n ≡ s
reached_before s v n is = ap (λ b. cond b s (pushed s v n)) is

pub reached_new : (s : Found) (v n : ℕ) → is_some (layer_at s.layers v) ≡ false → with_vertex s v n ≡ pushed s v n
reached_new s v n is = ap (λ b. cond b s (pushed s v n)) is

-- ---- one more edge of the vertex at the head

pub record IsReached (g : DecodingGraph) (s t : Found) (head k : ℕ) : Type 0 where
  pub searched : IsSearched g t head
  pub grows : Grows s t
  pub near : IsNear t.layers (edge_at g.edges k)

pub next_reached : (g : DecodingGraph) (s : Found) (head k w : ℕ) → IsSearched g s head → head < length s.order
    → k < length g.edges → w < g.vertices → is_inner g (edge_at g.edges k) ≡ true
    → Leads (edge_at g.edges k) (reached_at s.order head).vertex w
    → IsReached g s (with_vertex s w ((reached_at s.order head).layer + 1)) head k
next_reached g s head k w searched ahead within below inner leads =
    elim (cases_Bool (is_some (layer_at s.layers w))) [
      | inl is ↦ subst (λ t. IsReached g s t head k) (sym (reached_before s w (l + 1) is)) (before (some_layer (layer_at s.layers w) is))
      | inr is ↦ subst (λ t. IsReached g s t head k) (sym (reached_new s w (l + 1) is)) (new (no_layer (layer_at s.layers w) is))
    ]
  where
    v : ℕ
    v = (reached_at s.order head).vertex

    l : ℕ
    l = (reached_at s.order head).layer

    here : layer_at s.layers v ≡ Some l
    here = searched.listed head ahead

    before : (n : ℕ) × (layer_at s.layers w ≡ Some n) → IsReached g s s head k
    before (n, at) = record { searched = searched; grows = Grows-refl s; near = step (searched.placed w n at) }
      where
        step : (i : ℕ) × (i < length s.order) × (reached_at s.order i ≡ reached_in w n) → IsNear s.layers (edge_at g.edges k)
        step (i, less, is) = elim (cases_lt i head) [
          | inl early ↦
              searched.near i k v early less within inner
              (subst (λ q. Leads (edge_at g.edges k) q.vertex v) (sym is) (flip leads))
          | inr late ↦
              let between = searched.waiting head i (le_refl head) late less in
              let value : (reached_at s.order i).layer ≡ n = ap (λ (q : Reached). q.layer) is in
              near_from s.layers (edge_at g.edges k) v w l n leads here at (omega (arith, between.1, value)) (omega (arith, between.0, value))
        ]
          where
            flip : Leads (edge_at g.edges k) v w → Leads (edge_at g.edges k) w v
            flip (inl (a, b)) = inr (b, a)
            flip (inr (a, b)) = inl (b, a)

    new : layer_at s.layers w ≡ None → IsReached g s (pushed s w (l + 1)) head k
    new absent = record {
      searched =
          searched_pushed g s head w (l + 1) searched (omega (arith, ahead)) below (inner_ends g (edge_at g.edges k) v w inner leads).1 absent
          (omega (arith, searched.low v l here))
          (λ i hi less. let between = searched.waiting head i (le_refl head) hi less in (omega (arith, between.1), omega (arith, between.0)))
          (λ n is. lower n (omega (arith, is)))
          (λ none. absurd (omega (arith, none)));
      grows = pushed_grows s w (l + 1) absent;
      near =
          near_from (pushed s w (l + 1)).layers (edge_at g.edges k) v w l (l + 1) leads
          (layer_kept s.layers w (l + 1) v l absent here)
          (get_or-set_same s.layers w (Some (l + 1)) None (omega (arith, searched.count)))
          (le_refl (l + 1)) (omega arith);
    }
      where
        lower : (n : ℕ) → l ≡ n → HasLower g s.layers w n
        lower n is = record {
          edge = k;
          vertex = v;
          within = within;
          inner = inner;
          leads = flip leads;
          lower = here ∙ ap Some is;
        }
          where
            flip : Leads (edge_at g.edges k) v w → Leads (edge_at g.edges k) w v
            flip (inl (a, b)) = inr (b, a)
            flip (inr (a, b)) = inl (b, a)

-- the head moves on past a vertex whose edges are all near
pub head_more : (g : DecodingGraph) (s : Found) (head : ℕ) → IsSearched g s head
    → ((k w : ℕ) → k < length g.edges → is_inner g (edge_at g.edges k) ≡ true
    → Leads (edge_at g.edges k) (reached_at s.order head).vertex w → IsNear s.layers (edge_at g.edges k))
    → IsSearched g s (head + 1)
head_more g s head searched all = record {
  count = searched.count;
  few = searched.few;
  listed = searched.listed;
  placed = searched.placed;
  real = searched.real;
  low = searched.low;
  near = λ i k w early less within inner leads. step i k w less within inner leads (cases_eq i head) early;
  waiting = λ i j hi ij less. searched.waiting i j (omega (arith, hi)) ij less;
  lower = searched.lower;
  root = searched.root;
}
  where
    step : (i k w : ℕ) → i < length s.order → k < length g.edges → is_inner g (edge_at g.edges k) ≡ true
        → Leads (edge_at g.edges k) (reached_at s.order i).vertex w → (i ≡ head) ⊎ (i ≡ head → ⊥) → i < head + 1
        → IsNear s.layers (edge_at g.edges k)
    step i k w less within inner leads (inl same) early =
        all k w within inner (subst (λ j. Leads (edge_at g.edges k) (reached_at s.order j).vertex w) same leads)
    step i k w less within inner leads (inr other) early =
        searched.near i k w (omega (arith, early, other)) less within inner leads

-- ---- all edges of the vertex at the head

both_true : (a b : Bool) → a ≡ true → b ≡ true → (a && b) ≡ true
both_true a b h k = rw (h, k) refl

inner_from : (g : DecodingGraph) (e : Edge) (v w : ℕ) → Leads e v w → is_real_in g v ≡ true → is_real_in g w ≡ true
    → is_inner g e ≡ true
inner_from g e v w (inl (first, second)) a b =
    both_true (is_real_in g e.first) (is_real_in g e.second) (ap (is_real_in g) first ∙ a) (ap (is_real_in g) second ∙ b)
inner_from g e v w (inr (second, first)) a b =
    both_true (is_real_in g e.first) (is_real_in g e.second) (ap (is_real_in g) first ∙ b) (ap (is_real_in g) second ∙ a)

end_below : (g : DecodingGraph) (k v w : ℕ) → IsGraph g → k < length g.edges → Leads (edge_at g.edges k) v w → w < g.vertices
end_below g k v w graph within (inl (first, second)) =
    omega (arith, second, (graph.each_edge k no_edge within).second)
end_below g k v w graph within (inr (second, first)) =
    omega (arith, first, (graph.each_edge k no_edge within).first)

pub edge_reached : (g : DecodingGraph) (s t : Found) (head k w : ℕ) (q : Reached) → IsGraph g → IsSearched g s head
    → head < length s.order → k < length g.edges → q ≡ reached_at s.order head → Leads (edge_at g.edges k) q.vertex w
    → is_in g.virtuals w ≡ false → t ≡ with_vertex s w (q.layer + 1) → IsReached g s t head k
edge_reached g s t head k w q graph searched ahead within is leads real made =
    let from : Leads (edge_at g.edges k) (reached_at s.order head).vertex w =
    subst (λ (r : Reached). Leads (edge_at g.edges k) r.vertex w) is leads in
    let below : w < g.vertices = end_below g k (reached_at s.order head).vertex w graph within from in
    let here : is_real_in g (reached_at s.order head).vertex ≡ true =
    searched.real (reached_at s.order head).vertex (reached_at s.order head).layer (searched.listed head ahead) in
    let there : is_real_in g w ≡ true = both_true (nat_lt w g.vertices) (not (is_in g.virtuals w)) (lt-ltb w g.vertices below) (ap not real) in
    subst (λ u. IsReached g s u head k) (sym (made ∙ ap (λ (r : Reached). with_vertex s w (r.layer + 1)) is))
    (next_reached g s head k w searched ahead within below
    (inner_from g (edge_at g.edges k) (reached_at s.order head).vertex w from here there) from)

-- no edge with two real ends leads to a virtual vertex
pub not_inner : (g : DecodingGraph) (e : Edge) (v w : ℕ) → Leads e v w → is_in g.virtuals w ≡ true → is_inner g e ≡ true → ⊥
not_inner g e v w leads virtual inner =
    both_ways (not (is_in g.virtuals w)) (ap not virtual)
    (and_parts (nat_lt w g.vertices) (not (is_in g.virtuals w)) (inner_ends g e v w inner leads).1).1

pub record IsAround (g : DecodingGraph) (s t : Found) (head : ℕ) (done : List ℕ) : Type 0 where
  pub searched : IsSearched g t head
  pub grows : Grows s t
  pub near : (k : ℕ) → is_in done k ≡ true → is_inner g (edge_at g.edges k) ≡ true → IsNear t.layers (edge_at g.edges k)

module _ (g : DecodingGraph) (s t : Found) (head : ℕ) (edges : List ℕ) (ahead : head < length s.order)
    (is : edges ≡ edges_at g.edges (length g.edges) (reached_at s.order head).vertex) where
  pub around_begins : IsSearched g s head → IsAround g s s head (take 0 edges)
  around_begins searched = record {
    searched = searched;
    grows = Grows-refl s;
    near = λ k none. absurd (false≢true none);
  }

  pub around_edge : (i d : ℕ) → Grows s t → i < length edges
      → (get_or edges i d < length g.edges)
      × (touches (reached_at t.order head).vertex (edge_at g.edges (get_or edges i d)) ≡ true)
  around_edge i d grows less =
      let test : ℕ → Bool = λ k. touches (reached_at s.order head).vertex (edge_at g.edges k) in
      let among : is_in (filter test (range_with_len 0 (length g.edges))) (get_or edges i d) ≡ true =
      ap (λ xs. is_in xs (get_or edges i d)) (sym is) ∙ is_in_at edges i d less in
      let parts = and_parts (is_in (range_with_len 0 (length g.edges)) (get_or edges i d)) (test (get_or edges i d))
      (sym (is_in-filter test (range_with_len 0 (length g.edges)) (get_or edges i d)) ∙ among) in (
        is_in-All (λ k. k < length g.edges) (filter test (range_with_len 0 (length g.edges))) (filter-range_below test (length g.edges)) (get_or edges i d) among,
        ap (λ (q : Reached). touches q.vertex (edge_at g.edges (get_or edges i d))) (grows.places head ahead) ∙ parts.1,
      )

  pub around_more : (u : Found) (i d : ℕ) → i < length edges → IsAround g s t head (take i edges)
      → IsSearched g u head → Grows t u
      → (is_inner g (edge_at g.edges (get_or edges i d)) ≡ true → IsNear u.layers (edge_at g.edges (get_or edges i d)))
      → IsAround g s u head (take (i + 1) edges)
  around_more u i d less around searched grows here = record {
    searched = searched;
    grows = Grows-trans s t u around.grows grows;
    near = λ k among inner.
        near k (is_in-both (take i edges) (get_or edges i d ∷ []) k (ap (λ xs. is_in xs k) (sym (take_more edges i d less)) ∙ among)) inner;
  }
    where
      near : (k : ℕ) → (is_in (take i edges) k ≡ true) ⊎ (is_in (get_or edges i d ∷ []) k ≡ true)
          → is_inner g (edge_at g.edges k) ≡ true → IsNear u.layers (edge_at g.edges k)
      near k (inl before) inner = near_grows t u (edge_at g.edges k) grows (around.near k before inner)
      near k (inr last) inner = last_one (is_in-cases (get_or edges i d) [] k last)
        where
          last_one : (get_or edges i d ≡ k) ⊎ (is_in [] k ≡ true) → IsNear u.layers (edge_at g.edges k)
          last_one (inl same) =
              subst (λ j. is_inner g (edge_at g.edges j) ≡ true → IsNear u.layers (edge_at g.edges j)) same here inner
          last_one (inr none) = absurd (false≢true none)

  pub around_all : (i : ℕ) → IsGraph g → length edges ≤ i → IsAround g s t head (take i edges) → IsSearched g t (head + 1)
  around_all i graph past around =
      head_more g t head around.searched (λ k w within inner leads.
      around.near k
      (ap (λ xs. is_in xs k) (take_all i edges past ∙ is)
      ∙ is_in-filter-range (λ j. touches (reached_at s.order head).vertex (edge_at g.edges j)) (length g.edges) k within
      ∙ ap (λ (q : Reached). touches q.vertex (edge_at g.edges k)) (sym (around.grows.places head ahead))
      ∙ touched k (reached_at t.order head).vertex w within leads)
      inner)
    where
      apart : (k v w : ℕ) → k < length g.edges → Leads (edge_at g.edges k) v w → v ≡ w → ⊥
      apart k v w within (inl (first, second)) same =
          (graph.each_edge k no_edge within).loopless (first ∙ same ∙ sym second)
      apart k v w within (inr (second, first)) same =
          (graph.each_edge k no_edge within).loopless (first ∙ sym same ∙ sym second)

      touched : (k v w : ℕ) → k < length g.edges → Leads (edge_at g.edges k) v w → touches v (edge_at g.edges k) ≡ true
      touched k v w within leads =
          touches_as_leads v (edge_at g.edges k) v w leads
          ∙ ap (λ a. differ a (v == w)) (eq-eqb v v refl)
          ∙ ap (differ true) (ne_eqb v w (apart k v w within leads))

-- ---- what is reached at the end

module _ (g : DecodingGraph) (s : Found) (searched : IsSearched g s (length s.order)) where
  pub over_edge : (k v w m : ℕ) → k < length g.edges → is_inner g (edge_at g.edges k) ≡ true → Leads (edge_at g.edges k) v w
      → layer_at s.layers v ≡ Some m → (n : ℕ) × (layer_at s.layers w ≡ Some n) × (n ≤ m + 1) × (m ≤ n + 1)
  over_edge k v w m within inner leads at =
      let (i, less, is) = searched.placed v m at in
      ends_near s.layers (edge_at g.edges k) v w m
      (searched.near i k w less less within inner (subst (λ q. Leads (edge_at g.edges k) q.vertex w) (sym is) leads)) leads at

  -- a walk leads at most as many layers up as it has edges
  pub over_walk : (ks : List ℕ) (a b m : ℕ) → IsInnerWalk g ks a b → layer_at s.layers a ≡ Some m
      → (n : ℕ) × (layer_at s.layers b ≡ Some n) × (n ≤ m + length ks)
  over_walk [] a b m walk at = (m, ap (layer_at s.layers) (sym walk) ∙ at, omega arith)
  over_walk (k ∷ ks) a b m (next, within, inner, leads, rest) at =
      let (l, there, up, down) = over_edge k a next m within inner leads at in
      let (n, end, far) = over_walk ks next b l rest there in
      (n, end, omega (arith, up, far))

  -- a walk down to a vertex of layer 0
  pub walk_down : (n v : ℕ) → layer_at s.layers v ≡ Some n
      → (r : ℕ) × (ks : List ℕ) × IsInnerWalk g ks v r × (length ks ≡ n) × (layer_at s.layers r ≡ Some 0)
  walk_down zero v at = (v, [], refl, refl, at)
  walk_down (suc n) v at =
      let has = searched.lower v n at in
      let (r, ks, walk, count, root) = walk_down n has.vertex has.lower in
      (r, has.edge ∷ ks, (has.vertex, has.within, has.inner, has.leads, walk), omega (arith, count), root)

  pub layer_found : (n v : ℕ) → layer_at s.layers v ≡ Some n → IsLayer g v n
  layer_found n v at =
      let (r, ks, down, count, root) = walk_down n v at in record {
        root = r;
        least = λ u ls walk. searched.root r root u (ls ++ ks) (inner_walk-append g ls ks u v r walk down);
        walk = reverse ks;
        leads = inner_walk-reverse g ks v r down;
        count = length-reverse ks ∙ count;
        shortest = λ ls walk.
            let (m, there, far) = over_walk ls r v 0 walk root in
            let same : m ≡ n = cc (there, at) in
            omega (arith, far);
      }

  -- a vertex that was not reached is not joined to one that was
  pub root_found : (v : ℕ) → layer_at s.layers v ≡ None
      → ((u : ℕ) → u < v → is_real_in g u ≡ true → is_some (layer_at s.layers u) ≡ true) → is_real_in g v ≡ true → IsRoot g v
  root_found v absent passed real u ks walk = elim (cases_lt u v) [
    | inr above ↦ above
    | inl below ↦
        let (m, at) = some_layer (layer_at s.layers u) (passed u below (walk_real ks walk)) in
        let (n, there, far) = over_walk ks u v m walk at in
        let none : ⊥ = cc (there, absent) in
        absurd none
  ]
    where
      walk_real : (ls : List ℕ) → IsInnerWalk g ls u v → is_real_in g u ≡ true
      walk_real [] same = ap (is_real_in g) same ∙ real
      walk_real (k ∷ ls) (next, within, inner, leads, rest) = (inner_ends g (edge_at g.edges k) u next inner leads).0

  pub root_pushed : (v : ℕ) → v < g.vertices → is_real_in g v ≡ true → layer_at s.layers v ≡ None
      → ((u : ℕ) → u < v → is_real_in g u ≡ true → is_some (layer_at s.layers u) ≡ true)
      → IsSearched g (pushed s v 0) (length s.order)
  root_pushed v below real absent passed =
      searched_pushed g s (length s.order) v 0 searched (le_refl (length s.order)) below real absent (omega arith)
      (λ i hi less. absurd (omega (arith, hi, less)))
      (λ n is. absurd (omega (arith, is)))
      (λ none. root_found v absent passed real)

  pub root_reached : (v : ℕ) → v < g.vertices → is_in g.virtuals v ≡ false
      → ((u : ℕ) → u < v → is_real_in g u ≡ true → is_some (layer_at s.layers u) ≡ true)
      → IsSearched g (with_vertex s v 0) (length s.order)
      × Grows s (with_vertex s v 0)
      × (is_some (layer_at (with_vertex s v 0).layers v) ≡ true)
  root_reached v below virtual passed =
      elim (cases_Bool (is_some (layer_at s.layers v))) [
        | inl is ↦
            subst (λ t. IsSearched g t (length s.order) × Grows s t × (is_some (layer_at t.layers v) ≡ true)) (sym (reached_before s v 0 is))
            (searched, Grows-refl s, is)
        | inr is ↦
            let absent : layer_at s.layers v ≡ None = no_layer (layer_at s.layers v) is in
            subst (λ t. IsSearched g t (length s.order) × Grows s t × (is_some (layer_at t.layers v) ≡ true)) (sym (reached_new s v 0 is)) (
              root_pushed v below real absent passed,
              pushed_grows s v 0 absent,
              ap is_some (get_or-set_same s.layers v (Some 0) None (omega (arith, searched.count))),
            )
      ]
    where
      real : is_real_in g v ≡ true
      real = both_true (nat_lt v g.vertices) (not (is_in g.virtuals v)) (lt-ltb v g.vertices below) (ap not virtual)

  pub layers_found : ((u : ℕ) → u < g.vertices → is_real_in g u ≡ true → is_some (layer_at s.layers u) ≡ true)
      → ((u : ℕ) → is_real_in g u ≡ true → u < g.vertices) → AreLayers g s.layers
  layers_found passed bounded = record {
    count = searched.count;
    virtual = λ v is. virtual v is (layer_at s.layers v) refl;
    real = λ v is.
        let (n, at) = some_layer (layer_at s.layers v) (passed v (bounded v is) is) in
        (n, at, layer_found n v at);
  }
    where
      virtual : (v : ℕ) → is_real_in g v ≡ false → (o : Option ℕ) → layer_at s.layers v ≡ o → layer_at s.layers v ≡ None
      virtual v is None at = at
      virtual v is (Some n) at = absurd (both_ways (is_real_in g v) is (searched.real v n at))

-- the order is no longer than there are vertices
pub length-order : (g : DecodingGraph) (s : Found) (head : ℕ) → IsSearched g s head → length s.order ≤ g.vertices
length-order g s head searched = omega (arith, searched.few, searched.count, count_by-le-length is_some s.layers)

pub searched_none : (g : DecodingGraph) (s : Found) → length s.layers ≡ g.vertices → ((v : ℕ) → layer_at s.layers v ≡ None)
    → s.order ≡ [] → IsSearched g s (length s.order)
searched_none g s count none empty = record {
  count = count;
  few = omega (arith, length_none);
  listed = λ i less. absurd (omega (arith, less, length_none));
  placed = λ v n at. let no : ⊥ = cc (at, none v) in absurd no;
  real = λ v n at. let no : ⊥ = cc (at, none v) in absurd no;
  low = λ v n at. let no : ⊥ = cc (at, none v) in absurd no;
  near = λ i k w early less within inner leads. absurd (omega (arith, less, length_none));
  waiting = λ i j hi ij less. absurd (omega (arith, less, length_none));
  lower = λ v n at. let no : ⊥ = cc (at, none v) in absurd no;
  root = λ v at. let no : ⊥ = cc (at, none v) in absurd no;
}
  where
    length_none : length s.order ≡ 0
    length_none = ap length empty

-- one more vertex that is reached, or isn't real
pub passed_more : (g : DecodingGraph) (s t : Found) (v : ℕ) → Grows s t
    → ((u : ℕ) → u < v → is_real_in g u ≡ true → is_some (layer_at s.layers u) ≡ true)
    → (is_real_in g v ≡ true → is_some (layer_at t.layers v) ≡ true)
    → (u : ℕ) → u < v + 1 → is_real_in g u ≡ true → is_some (layer_at t.layers u) ≡ true
passed_more g s t v grows before here u less real = step (cases_eq u v)
  where
    step : (u ≡ v) ⊎ (u ≡ v → ⊥) → is_some (layer_at t.layers u) ≡ true
    step (inl same) = subst (λ w. is_real_in g w ≡ true → is_some (layer_at t.layers w) ≡ true) (sym same) here real
    step (inr other) =
        let (n, at) = some_layer (layer_at s.layers u) (before u (omega (arith, less, other)) real) in
        ap is_some (grows.layers u n at)

pub still_reached : (s t : Found) (v : ℕ) → Grows s t → is_some (layer_at s.layers v) ≡ true → is_some (layer_at t.layers v) ≡ true
still_reached s t v grows is =
    let (n, at) = some_layer (layer_at s.layers v) is in
    ap is_some (grows.layers v n at)

pub virtual_passed : (g : DecodingGraph) (s : Found) (v : ℕ) → is_in g.virtuals v ≡ true
    → ((u : ℕ) → u < v → is_real_in g u ≡ true → is_some (layer_at s.layers u) ≡ true)
    → (u : ℕ) → u < v + 1 → is_real_in g u ≡ true → is_some (layer_at s.layers u) ≡ true
virtual_passed g s v virtual before =
    passed_more g s s v (Grows-refl s) before (λ real.
    absurd (both_ways (not (is_in g.virtuals v)) (ap not virtual) (and_parts (nat_lt v g.vertices) (not (is_in g.virtuals v)) real).1))

pub real_below : (g : DecodingGraph) (v : ℕ) → is_real_in g v ≡ true → v < g.vertices
real_below g v real = ltb-true v g.vertices (and_parts (nat_lt v g.vertices) (not (is_in g.virtuals v)) real).0
