-- The vertices of one label are a component, so that the first odd component is found by its label.
use Rattle.std.proofs.Common.{ℕ, ◌<◌, ◌≤◌, ◌≡◌, ◌==◌, ◌⊎◌, ◌&&◌, Bool, true, false, not, List, [], ◌∷◌, length, map, get_or, filter, All, Option, Some, None, IfNone, sym, ap, subst, ◌∙◌, inl, inr, arith}
use Rattle.std.specs.List.{range_with_len}
use Rattle.std.specs.List.Sorted.{IsStrictlyIncreasing}
use Rattle.std.proofs.lemmas.Bool.{false≢true, both_ways, eq-eqb, eqb-true, and_from, and_parts, not-true, not_from_false, false_from_ne_true, not-false}
use Rattle.std.proofs.lemmas.List.Folds.{list_any_none}
use Rattle.fb_graph.specs.Parity.{is_odd_count, is_in}
use Rattle.fb_graph.specs.Problem.{Problem, edge_at, no_edge, with_defects}
use Rattle.fb_graph.specs.Certificate.{AreDistinct}
use Rattle.fb_graph.specs.Components.{Leads, IsWalkBy, IsJoined, IsComponent, IsOddAt, IsFirstOdd}
use Rattle.fb_graph.specs.Limits.{IsWithinLimits}
use Rattle.fb_graph.specs.Laws.{HasNoOddClosed}
use Rattle.fb_graph.specs.InternalLabelling.{IsLabelling, IsBounded, AreOdd, label_of, has_boundary, odd_labels}
use Rattle.fb_graph.specs.declared.parts.Edge.{Edge}
use Rattle.fb_graph.proofs.ClosedComponents.{no_odd_component}
use Rattle.fb_graph.proofs.LabelSteps.{IsLeast, any_from_is_in}
use Rattle.fb_graph.proofs.ParitySums.{odd_agree}
use Rattle.fb_graph.proofs.Ranges.{filter-range_below, is_in-filter-range}
use Rattle.fb_graph.proofs.Sets.{All-from_is_in, distinct_from_rising, distinct-filter, is_in-All, is_in-cases, is_in-filter, is_in-head, is_in-range, is_in-tail, member_of_odd, odd_same_set, odd_shared, range_below, range_rises}
use Rattle.fb_graph.proofs.Walks.{joined_trans, joined_sym}
use Rattle.fb_graph.proofs.Booleans.{same_bool}
use Rattle.fb_graph.proofs.Members.{is_in-map}

pub member_of_map : (f : ℕ → ℕ) (xs : List ℕ) (y : ℕ) → is_in (map f xs) y ≡ true → (x : ℕ) × (is_in xs x ≡ true) × (f x ≡ y)
member_of_map f [] y within = absurd (false≢true within)
member_of_map f (x ∷ xs) y within = step (is_in-cases (f x) (map f xs) y within) (member_of_map f xs y)
  where
    step : (f x ≡ y) ⊎ (is_in (map f xs) y ≡ true)
        → (is_in (map f xs) y ≡ true → (u : ℕ) × (is_in xs u ≡ true) × (f u ≡ y))
        → (u : ℕ) × (is_in (x ∷ xs) u ≡ true) × (f u ≡ y)
    step (inl here) rest = (x, is_in-head x xs, here)
    step (inr later) rest = let (u, among, gives) = rest later in (u, is_in-tail x xs u among, gives)

-- a walk has nothing to do with the defects
walk_whatever : (p : Problem) (defects ks : List ℕ) (a b : ℕ) → IsWalkBy p ks a b
    → IsWalkBy (with_defects p defects) ks a b
walk_whatever p defects [] a b walk = walk
walk_whatever p defects (k ∷ ks) a b (next, within, leads, rest) =
    (next, within, leads, walk_whatever p defects ks next b rest)

joined_whatever : (p : Problem) (defects : List ℕ) (a b : ℕ) → IsJoined p a b
    → IsJoined (with_defects p defects) a b
joined_whatever p defects a b (ks, walk) = (ks, walk_whatever p defects ks a b walk)

-- an end of an edge, by the step that the edge makes
next_below : (n : ℕ) (e : Edge) (a b : ℕ) → e.first < n → e.second < n → Leads e a b → b < n
next_below n e a b first second (inl h) = subst (λ v. v < n) h.1 second
next_below n e a b first second (inr h) = subst (λ v. v < n) h.1 first

leads_label : (labels : List ℕ) (e : Edge) (a b : ℕ) → label_of labels e.first ≡ label_of labels e.second → Leads e a b
    → label_of labels a ≡ label_of labels b
leads_label labels e a b same (inl h) = ap (label_of labels) (sym h.0) ∙ (same ∙ ap (label_of labels) h.1)
leads_label labels e a b same (inr h) = ap (label_of labels) (sym h.0) ∙ (sym same ∙ ap (label_of labels) h.1)

-- where there is no odd component, no closed set is odd
pub closed_from_first : (p : Problem) (defects : List ℕ) (result : Option ℕ) → IsWithinLimits p
    → IsFirstOdd (with_defects p defects) result → IfNone result (HasNoOddClosed (with_defects p defects))
closed_from_first p defects None limits first = no_odd_component (with_defects p defects) limits.real_below first
closed_from_first p defects (Some r) limits first = tt

module _ (p : Problem) (labels : List ℕ) (limits : IsWithinLimits p) (labelling : IsLabelling p labels)
    (defects : List ℕ) where
  -- what is joined to a vertex is a vertex, of the same label
  walk_below : (ks : List ℕ) (a b : ℕ) → IsWalkBy (with_defects p defects) ks a b → a < p.vertices → b < p.vertices
  walk_below [] a b walk below = subst (λ v. v < p.vertices) walk below
  walk_below (k ∷ ks) a b (next, within, leads, rest) below =
      let edge = limits.each_edge k no_edge within in
      walk_below ks next b rest (next_below p.vertices (edge_at p.edges k) a next edge.first edge.second leads)

  walk_label : (ks : List ℕ) (a b : ℕ) → IsWalkBy (with_defects p defects) ks a b → label_of labels a ≡ label_of labels b
  walk_label [] a b walk = ap (label_of labels) walk
  walk_label (k ∷ ks) a b (next, within, leads, rest) =
      leads_label labels (edge_at p.edges k) a next (labelling.ends k no_edge within) leads ∙ walk_label ks next b rest

  joined_label : (v : ℕ) → v < p.vertices → IsJoined (with_defects p defects) v (label_of labels v)
  joined_label v below = joined_whatever p defects v (label_of labels v) (labelling.joined v below)

  label_of_label : (v : ℕ) → v < p.vertices → label_of labels (label_of labels v) ≡ label_of labels v
  label_of_label v below = let joined = joined_label v below in sym (walk_label joined.0 v (label_of labels v) joined.1)

  -- vertices of one label are joined
  joined_same : (u v : ℕ) → u < p.vertices → v < p.vertices → label_of labels u ≡ label_of labels v
      → IsJoined (with_defects p defects) v u
  joined_same u v u_below v_below same =
      joined_trans (with_defects p defects) v (label_of labels v) u (joined_label v v_below)
      (subst (λ r. IsJoined (with_defects p defects) r u) same (joined_sym (with_defects p defects) u (label_of labels u) (joined_label u u_below)))

  -- the vertices of a label
  abbrev members_of : ℕ → List ℕ
  members_of r = filter (λ u. label_of labels u == r) (range_with_len 0 p.vertices)

  in_members : (r u : ℕ) → u < p.vertices → is_in (members_of r) u ≡ (label_of labels u == r)
  in_members r u below = is_in-filter-range (λ w. label_of labels w == r) p.vertices u below

  members_below : (r u : ℕ) → is_in (members_of r) u ≡ true → u < p.vertices
  members_below r u within =
      is_in-All (λ w. w < p.vertices) (members_of r) (filter-range_below (λ w. label_of labels w == r) p.vertices) u within

  members_label : (r u : ℕ) → is_in (members_of r) u ≡ true → label_of labels u ≡ r
  members_label r u within =
      eqb-true (label_of labels u) r (sym (in_members r u (members_below r u within)) ∙ within)

  members_distinct : (r : ℕ) → AreDistinct (members_of r)
  members_distinct r =
      distinct-filter (λ w. label_of labels w == r) (range_with_len 0 p.vertices)
      (distinct_from_rising (range_with_len 0 p.vertices) (range_rises 0 p.vertices))

  component_of : (v : ℕ) → v < p.vertices → IsComponent (with_defects p defects) v (members_of (label_of labels v))
  component_of v below = record {
    distinct = members_distinct (label_of labels v);
    inside = λ u within.
        joined_same u v (members_below (label_of labels v) u within) below (members_label (label_of labels v) u within);
    whole = λ u joined.
        in_members (label_of labels v) u (walk_below joined.0 v u joined.1 below)
        ∙ eq-eqb (label_of labels u) (label_of labels v) (sym (walk_label joined.0 v u joined.1));
  }

  module _ (bounded odd : List Bool) (boundary : IsBounded p labels bounded) (counts : AreOdd labels defects odd)
      (rising : IsStrictlyIncreasing defects) (real : All (λ v. p.is_real v ≡ true) defects) where
    defect_below : (d : ℕ) → is_in defects d ≡ true → d < p.vertices
    defect_below d among =
        limits.real_below d (is_in-All (λ v. p.is_real v ≡ true) defects real d among)

    -- the parity of the defects in a component
    parity_of : (r : ℕ) → is_odd_count (is_in defects) (members_of r) ≡ is_odd_count (λ d. label_of labels d == r) defects
    parity_of r =
        odd_shared (members_of r) defects (members_distinct r) (distinct_from_rising defects rising)
        ∙ odd_agree (is_in (members_of r)) (λ d. label_of labels d == r) defects
        (All-from_is_in (λ d. is_in (members_of r) d ≡ (label_of labels d == r)) defects
        (λ d among. in_members r d (defect_below d among)))

    -- a component has no boundary vertex if and only if its label isn't flagged
    real_members : (r : ℕ) → r < p.vertices → get_or bounded r false ≡ false → (u : ℕ) → is_in (members_of r) u ≡ true
        → p.is_real u ≡ true
    real_members r below unbounded u within =
        not-false (p.is_real u) (false_from_ne_true (not (p.is_real u)) (λ is_boundary.
        both_ways (has_boundary p labels p.vertices r) (sym (boundary.each r below) ∙ unbounded)
        (any_from_is_in (λ v. label_of labels v == r && not (p.is_real v)) (range_with_len 0 p.vertices) u
        (is_in-range p.vertices u (members_below r u within))
        (and_from (label_of labels u == r) (not (p.is_real u))
        (eq-eqb (label_of labels u) r (members_label r u within)) is_boundary))))

    unbounded_at : (v : ℕ) → IsOddAt (with_defects p defects) v → get_or bounded (label_of labels v) false ≡ false
    unbounded_at v at =
        boundary.each (label_of labels v) label_below
        ∙ list_any_none (λ u. label_of labels u == label_of labels v && not (p.is_real u)) (range_with_len 0 p.vertices)
        (All-from_is_in (λ u. (label_of labels u == label_of labels v && not (p.is_real u)) ≡ false)
        (range_with_len 0 p.vertices) (λ u within. false_from_ne_true _ (λ both. real_only u within both)))
      where
        label_below : label_of labels v < p.vertices
        label_below = let low : label_of labels v ≤ v = labelling.low v at.below in omega (arith, at.below)

        real_only : (u : ℕ) → is_in (range_with_len 0 p.vertices) u ≡ true
            → (label_of labels u == label_of labels v && not (p.is_real u)) ≡ true → ⊥
        real_only u within both =
            let parts = and_parts (label_of labels u == label_of labels v) (not (p.is_real u)) both in
            let below : u < p.vertices = is_in-All (λ w. w < p.vertices) (range_with_len 0 p.vertices) (range_below p.vertices) u within in
            let among : is_in at.members u ≡ true =
            at.component.whole u (joined_same u v below at.below (eqb-true (label_of labels u) (label_of labels v) parts.0)) in
            both_ways (p.is_real u) (not-true (p.is_real u) parts.1) (at.real u among)

    -- the label of an odd component is among the odd ones
    odd_label : (v : ℕ) → IsOddAt (with_defects p defects) v
        → is_in (odd_labels labels bounded odd defects) (label_of labels v) ≡ true
    odd_label v at =
        is_in-filter (λ r. get_or odd r false && not (get_or bounded r false)) (map (label_of labels) defects) (label_of labels v)
        ∙ and_from (is_in (map (label_of labels) defects) (label_of labels v)) _ among
        (and_from (get_or odd (label_of labels v) false) (not (get_or bounded (label_of labels v) false))
        (counts (label_of labels v) label_below ∙ odd_count) (not_from_false _ (unbounded_at v at)))
      where
        label_below : label_of labels v < length labels
        label_below =
            let low : label_of labels v ≤ v = labelling.low v at.below in omega (arith, at.below, labelling.count)

        same_members : (u : ℕ) → is_in (members_of (label_of labels v)) u ≡ is_in at.members u
        same_members u = same_bool _ _
            (λ h. at.component.whole u ((component_of v at.below).inside u h))
            (λ h. (component_of v at.below).whole u (at.component.inside u h))

        odd_count : is_odd_count (λ d. label_of labels d == label_of labels v) defects ≡ true
        odd_count =
            sym (parity_of (label_of labels v))
            ∙ (odd_same_set (is_in defects) (members_of (label_of labels v)) at.members (members_distinct (label_of labels v))
            at.component.distinct same_members ∙ at.odd)

        among : is_in (map (label_of labels) defects) (label_of labels v) ≡ true
        among =
            let (d, here, same) = member_of_odd (λ d. label_of labels d == label_of labels v) defects odd_count in
            ap (is_in (map (label_of labels) defects)) (sym (eqb-true (label_of labels d) (label_of labels v) same))
            ∙ is_in-map (label_of labels) defects d here

    -- and each of them is the least vertex of an odd component
    odd_at_label : (r : ℕ) → is_in (odd_labels labels bounded odd defects) r ≡ true → IsOddAt (with_defects p defects) r
    odd_at_label r within =
        let parts =
        and_parts (is_in (map (label_of labels) defects) r) _
        (sym (is_in-filter (λ l. get_or odd l false && not (get_or bounded l false)) (map (label_of labels) defects) r) ∙ within) in
        let flags = and_parts (get_or odd r false) (not (get_or bounded r false)) parts.1 in
        let (d, here, gives) = member_of_map (label_of labels) defects r parts.0 in
        from d (defect_below d here) gives flags.0 (not-true (get_or bounded r false) flags.1)
      where
        from : (d : ℕ) → d < p.vertices → label_of labels d ≡ r → get_or odd r false ≡ true → get_or bounded r false ≡ false
            → IsOddAt (with_defects p defects) r
        from d below gives is_odd unbounded = record {
          below = r_below;
          members = members_of r;
          component = subst (λ l. IsComponent (with_defects p defects) r (members_of l)) own (component_of r r_below);
          real = real_members r r_below unbounded;
          odd = parity_of r ∙ (sym (counts r (omega (arith, r_below, labelling.count))) ∙ is_odd);
        }
          where
            r_below : r < p.vertices
            r_below = let low : label_of labels d ≤ d = labelling.low d below in omega (arith, gives)

            own : label_of labels r ≡ r
            own = ap (label_of labels) (sym gives) ∙ (label_of_label d below ∙ gives)

    pub first_from_least : (result : Option ℕ) → IsLeast (odd_labels labels bounded odd defects) result
        → IsFirstOdd (with_defects p defects) result
    first_from_least None none = λ v at.
        false≢true (ap (λ rs. is_in rs (label_of labels v)) (sym none) ∙ odd_label v at)
    first_from_least (Some r) least = (
      odd_at_label r least.0,
      λ v less at.
          let low : label_of labels v ≤ v = labelling.low v at.below in
          let bound : r ≤ label_of labels v = is_in-All (λ l. r ≤ l) _ least.1 (label_of labels v) (odd_label v at) in
          omega arith,
    )
