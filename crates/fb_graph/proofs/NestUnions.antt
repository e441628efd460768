-- Two nests beside one another are a nest.
use Rattle.std.proofs.Common.{ℕ, ◌≡◌, ◌+◌, ◌%◌, ◌<◌, ◌||◌, ◌⊎◌, inl, inr, cond, Bool, true, false, List, [], ◌∷◌, ◌++◌, map, length, All, AllPairs, Some, get_or, refl, sym, ap, ◌∙◌, subst, arith}
use Rattle.std.proofs.Math.Bool.{or-false}
use Rattle.std.specs.List.{concat}
use Rattle.std.proofs.lemmas.Bool.{both_ways, false_from_ne_true, or_cases, or_left, or_right}
use Rattle.std.proofs.lemmas.List.Elements.{All-append, All-weaker}
use Rattle.std.proofs.lemmas.List.Kept.{AllPairs-cons}
use Rattle.std.proofs.lemmas.List.Sums.{sum_by-append}
use Rattle.fb_graph.specs.Parity.{is_in}
use Rattle.fb_graph.specs.Problem.{Problem, crosses, edge_at, with_defects}
use Rattle.fb_graph.specs.Certificate.{AreDistinct, IsOddCut}
use Rattle.fb_graph.specs.Limits.{IsWithinLimits}
use Rattle.fb_graph.specs.Printed.{DifferAsSets}
use Rattle.fb_graph.specs.Dual.{Node, IsHeld, IsNestedOrApart, AreApart, AreGrown, AreOuterApart, all_cuts, layers_of, leaves, cover_of, height_of, is_live, is_outer, top_at}
use Rattle.fb_graph.specs.declared.parts.Cut.{Cut}
use Rattle.fb_graph.specs.Covers.{HaveParity}
use Rattle.fb_graph.specs.Ends.{AreAllApart}
use Rattle.fb_graph.specs.Nests.{IsNest, IsForest, IsFormed, IsFilled, AreJoinedLater, HasSources, child_sets}
use Rattle.fb_graph.specs.NestUnions.{AreBeside, NestsBeside}
use Rattle.fb_graph.proofs.Among.{IsAmong, All_among, among_All, among_left, among_live, among_right, cover_among, covered_by, top_left, top_right}
use Rattle.fb_graph.proofs.AppendedNodes.{cuts_merged, leaves_merged, names_merged, outer_both, outer_in, live_left, live_right}
use Rattle.fb_graph.proofs.ClosedSets.{boundary_height, not_held}
use Rattle.fb_graph.proofs.CutSums.{total-le}
use Rattle.fb_graph.proofs.Forests.{absent_outer, child_live, children_live}
use Rattle.fb_graph.proofs.InsertedCuts.{AreFit, pairs_head, pairs_tail}
use Rattle.fb_graph.proofs.Members.{is_in-append}
use Rattle.fb_graph.proofs.NestParts.{leaf_real, map_agree, names_live, nest_of, top_is_odd}
use Rattle.fb_graph.proofs.ParitySums.{odd_agree}
use Rattle.fb_graph.proofs.Sets.{is_in-All, member_of_odd}
use Rattle.fb_graph.proofs.Unions.{distinct_append}
use Rattle.fb_graph.proofs.Options.{some_name}

pairs_append : {X : Type 0} (R : X → X → Type 0) (xs ys : List X) → AllPairs R xs → AllPairs R ys
    → ((x y : X) → IsAmong x xs → IsAmong y ys → R x y) → AllPairs R (xs ++ ys)
pairs_append R [] ys one other across = other
pairs_append R (x ∷ xs) ys one other across =
    AllPairs-cons R x (xs ++ ys)
    (All-append (R x) xs ys (pairs_head R x xs one) (among_All (R x) ys (λ y b. across x y (inl refl) b)))
    (pairs_append R xs ys (pairs_tail R x xs one) other (λ z y a b. across z y (inr a) b))

joined_append : (ns os : List Node) → AreJoinedLater ns → AreJoinedLater os
    → ((n m : Node) → IsAmong n ns → IsAmong m os
    → (is_in n.children m.name ≡ false) × AreApart n.children m.children)
    → AreJoinedLater (ns ++ os)
joined_append [] os one other across = other
joined_append (n ∷ ns) os one other across = (
  All-append (λ m. is_in n.children m.name ≡ false) (n ∷ ns) os one.0
      (among_All (λ m. is_in n.children m.name ≡ false) os (λ m b. (across n m (inl refl) b).0)),
  All-append (λ m. AreApart n.children m.children) ns os one.1
      (among_All (λ m. AreApart n.children m.children) os (λ m b. (across n m (inl refl) b).1)),
  joined_append ns os one.2 other (λ x m a b. across x m (inr a) b),
)

held_in : (p whole : Problem) (c : Cut) → p.edges ≡ whole.edges → IsHeld p c → IsHeld whole c
held_in p whole c same held =
    subst (λ es. (c.value ≡ 0) ⊎ ((k : ℕ) × (k < length es) × (crosses c.vertices (edge_at es k) ≡ true))) same held

-- the defects of each side are its own at its real vertices
pub own_left : (left right : Problem) (nodes others : List Node)
    → ((v : ℕ) → left.is_real v ≡ true → right.is_real v ≡ false)
    → IsNest right others → (v : ℕ) → left.is_real v ≡ true
    → is_in (leaves nodes ++ leaves others) v ≡ is_in (leaves nodes) v
own_left left right nodes others parted two v real =
    is_in-append (leaves nodes) (leaves others) v
    ∙ (ap (λ b. is_in (leaves nodes) v || b)
    (false_from_ne_true (is_in (leaves others) v)
    (λ leaf. both_ways (right.is_real v) (parted v real) (leaf_real right others v two.dual leaf)))
    ∙ or-false (is_in (leaves nodes) v))

pub own_right : (left right : Problem) (nodes others : List Node)
    → ((v : ℕ) → left.is_real v ≡ true → right.is_real v ≡ false)
    → IsNest left nodes → (v : ℕ) → right.is_real v ≡ true
    → is_in (leaves nodes ++ leaves others) v ≡ is_in (leaves others) v
own_right left right nodes others parted one v real =
    is_in-append (leaves nodes) (leaves others) v
    ∙ ap (λ b. b || is_in (leaves others) v)
    (false_from_ne_true (is_in (leaves nodes) v)
    (λ leaf. both_ways (right.is_real v) (parted v (leaf_real left nodes v one.dual leaf)) real))

module _ (left right whole : Problem) (nodes others : List Node) (beside : AreBeside left right whole nodes others)
    (one : IsNest left nodes) (two : IsNest right others) where
  unreal : (v : ℕ) → right.is_real v ≡ true → left.is_real v ≡ false
  unreal v real = false_from_ne_true (left.is_real v)
      (λ other. both_ways (right.is_real v) (beside.parted v other) real)

  pub leaves_in : (v : ℕ) → is_in (leaves (nodes ++ others)) v ≡ (is_in (leaves nodes) v || is_in (leaves others) v)
  leaves_in v = ap (λ l. is_in l v) (leaves_merged nodes others) ∙ is_in-append (leaves nodes) (leaves others) v

  left_odd : (c : Cut) → IsOddCut (with_defects left (leaves nodes)) c
      → IsOddCut (with_defects whole (leaves (nodes ++ others))) c
  left_odd c odd = record {
    distinct = odd.distinct;
    real = All-weaker (λ v. left.is_real v ≡ true) (λ v. whole.is_real v ≡ true) beside.left_real c.vertices odd.real;
    odd =
        odd_agree (is_in (leaves (nodes ++ others))) (is_in (leaves nodes)) c.vertices
        (λ i d less.
        ap (λ l. is_in l (get_or c.vertices i d)) (leaves_merged nodes others)
        ∙ own_left left right nodes others beside.parted two (get_or c.vertices i d) (odd.real i d less))
        ∙ odd.odd;
  }

  right_odd : (c : Cut) → IsOddCut (with_defects right (leaves others)) c
      → IsOddCut (with_defects whole (leaves (nodes ++ others))) c
  right_odd c odd = record {
    distinct = odd.distinct;
    real = All-weaker (λ v. right.is_real v ≡ true)
        (λ v. whole.is_real v ≡ true) beside.right_real c.vertices odd.real;
    odd =
        odd_agree (is_in (leaves (nodes ++ others))) (is_in (leaves others)) c.vertices
        (λ i d less.
        ap (λ l. is_in l (get_or c.vertices i d)) (leaves_merged nodes others)
        ∙ own_right left right nodes others beside.parted one (get_or c.vertices i d) (odd.real i d less))
        ∙ odd.odd;
  }

  cuts_apart : (c d : Cut) → IsOddCut (with_defects left (leaves nodes)) c
      → IsOddCut (with_defects right (leaves others)) d
      → AreApart c.vertices d.vertices
  cuts_apart c d odd other v within =
      not_held right d.vertices v other.real
      (beside.parted v (is_in-All (λ u. left.is_real u ≡ true) c.vertices odd.real v within))

  pub left_cut : (c : Cut) → IsAmong c (all_cuts nodes) → IsOddCut (with_defects left (leaves nodes)) c
  left_cut = All_among (IsOddCut (with_defects left (leaves nodes))) (all_cuts nodes) one.dual.packing.odd

  pub right_cut : (c : Cut) → IsAmong c (all_cuts others) → IsOddCut (with_defects right (leaves others)) c
  right_cut = All_among (IsOddCut (with_defects right (leaves others))) (all_cuts others) two.dual.packing.odd

  held : All (IsHeld whole) (all_cuts nodes ++ all_cuts others)
  held =
      All-append (IsHeld whole) (all_cuts nodes) (all_cuts others)
      (All-weaker (IsHeld left) (IsHeld whole) (λ c. held_in left whole c beside.left_edges)
      (all_cuts nodes) one.dual.held)
      (All-weaker (IsHeld right) (IsHeld whole) (λ c. held_in right whole c beside.right_edges)
      (all_cuts others) two.dual.held)

  fit : IsWithinLimits whole → AreFit whole (leaves (nodes ++ others)) (all_cuts nodes ++ all_cuts others)
  fit limits = record {
    packing = record {
      odd =
          All-append (IsOddCut (with_defects whole (leaves (nodes ++ others)))) (all_cuts nodes) (all_cuts others)
          (among_All (IsOddCut (with_defects whole (leaves (nodes ++ others)))) (all_cuts nodes)
          (λ c a. left_odd c (left_cut c a)))
          (among_All (IsOddCut (with_defects whole (leaves (nodes ++ others)))) (all_cuts others)
          (λ c a. right_odd c (right_cut c a)));
      fits = beside.fits;
    };
    laminar =
        pairs_append IsNestedOrApart (all_cuts nodes) (all_cuts others) one.dual.laminar two.dual.laminar
        (λ c d a b. inr (inr (cuts_apart c d (left_cut c a) (right_cut d b))));
    held = held;
    total = total-le whole (all_cuts nodes ++ all_cuts others) limits beside.fits held;
    differ =
        pairs_append DifferAsSets (all_cuts nodes) (all_cuts others) one.differ two.differ
        (λ c d a b.
        let (v, within, leaf) = member_of_odd (is_in (leaves nodes)) c.vertices (left_cut c a).odd in (
          v,
          λ same. both_ways (is_in d.vertices v) (cuts_apart c d (left_cut c a) (right_cut d b) v within)
              (sym same ∙ within),
        ));
  }

  left_sets : (n : Node) → IsAmong n nodes → child_sets (nodes ++ others) n ≡ child_sets nodes n
  left_sets n a =
      map_agree (top_at (nodes ++ others)) (top_at nodes) n.children
      (All-weaker (λ c. is_live nodes c ≡ true) (λ c. top_at (nodes ++ others) c ≡ top_at nodes c)
      (top_left nodes others) n.children
      (children_live nodes one.forest n a))

  right_sets : (n : Node) → IsAmong n others → child_sets (nodes ++ others) n ≡ child_sets others n
  right_sets n a =
      map_agree (top_at (nodes ++ others)) (top_at others) n.children
      (All-weaker (λ c. is_live others c ≡ true) (λ c. top_at (nodes ++ others) c ≡ top_at others c)
      (λ c live.
      top_right nodes others c (false_from_ne_true (is_live nodes c)
      (λ h. both_ways (is_live others c) (beside.names c h) live)))
      n.children (children_live others two.forest n a))

  forest : IsForest (nodes ++ others)
  forest = record {
    formed = All-append IsFormed nodes others one.forest.formed two.forest.formed;
    live = All-append (λ n. All (λ c. is_live (nodes ++ others) c ≡ true) n.children) nodes others
        (among_All (λ n. All (λ c. is_live (nodes ++ others) c ≡ true) n.children) nodes
        (λ n a.
        All-weaker (λ c. is_live nodes c ≡ true) (λ c. is_live (nodes ++ others) c ≡ true) (live_left nodes others) n.children
        (children_live nodes one.forest n a)))
        (among_All (λ n. All (λ c. is_live (nodes ++ others) c ≡ true) n.children) others
        (λ n a.
        All-weaker (λ c. is_live others c ≡ true) (λ c. is_live (nodes ++ others) c ≡ true) (live_right nodes others) n.children
        (children_live others two.forest n a)));
    joined = joined_append nodes others one.forest.joined two.forest.joined
        (λ n m a b. (
          false_from_ne_true (is_in n.children m.name)
              (λ h.
              both_ways (is_live others m.name)
              (beside.names m.name (child_live nodes one.forest n a m.name h))
              (among_live others m m.name b refl)),
          λ c h.
              false_from_ne_true (is_in m.children c)
              (λ k.
              both_ways (is_live others c)
              (beside.names c (child_live nodes one.forest n a c h))
              (child_live others two.forest m b c k)),
        ));
    filled = All-append (IsFilled (nodes ++ others)) nodes others
        (among_All (IsFilled (nodes ++ others)) nodes
        (λ n a some v. All_among (IsFilled nodes) nodes one.forest.filled n a some v
        ∙ ap (λ l. is_in (concat l) v) (sym (left_sets n a))))
        (among_All (IsFilled (nodes ++ others)) others
        (λ n a some v. All_among (IsFilled others) others two.forest.filled n a some v
        ∙ ap (λ l. is_in (concat l) v) (sym (right_sets n a))));
    parted = All-append (λ n. AreAllApart (child_sets (nodes ++ others) n)) nodes others
        (among_All (λ n. AreAllApart (child_sets (nodes ++ others) n)) nodes
        (λ n a.
        subst AreAllApart (sym (left_sets n a))
        (All_among (λ m. AreAllApart (child_sets nodes m)) nodes one.forest.parted n a)))
        (among_All (λ n. AreAllApart (child_sets (nodes ++ others) n)) others
        (λ n a.
        subst AreAllApart (sym (right_sets n a))
        (All_among (λ m. AreAllApart (child_sets others m)) others two.forest.parted n a)));
  }

  apart : AreOuterApart (nodes ++ others)
  apart =
      pairs_append
      (λ m n. is_outer (nodes ++ others) m.name ≡ true → is_outer (nodes ++ others) n.name ≡ true
      → AreApart m.top.vertices n.top.vertices)
      nodes others
      (λ i j d less below out_m out_n.
      one.dual.apart i j d less below (outer_in nodes others (get_or nodes i d).name out_m).0
      (outer_in nodes others (get_or nodes j d).name out_n).0)
      (λ i j d less below out_m out_n.
      two.dual.apart i j d less below (outer_in nodes others (get_or others i d).name out_m).1
      (outer_in nodes others (get_or others j d).name out_n).1)
      (λ m n a b out_m out_n. cuts_apart m.top n.top (top_is_odd left nodes one m a)
      (top_is_odd right others two n b))

  heights : (v : ℕ) → height_of (all_cuts (nodes ++ others)) v
      ≡ height_of (all_cuts nodes) v + height_of (all_cuts others) v
  heights v =
      ap (λ l. height_of l v) (cuts_merged nodes others)
      ∙ sum_by-append (λ (c : Cut). cond (is_in c.vertices v) c.value 0) (all_cuts nodes) (all_cuts others)

  pub left_height : (v : ℕ) → left.is_real v ≡ true
      → height_of (all_cuts (nodes ++ others)) v ≡ height_of (all_cuts nodes) v
  left_height v real =
      omega (
        arith,
        heights v,
        boundary_height (with_defects right (leaves others)) (all_cuts others) v two.dual.packing.odd
            (beside.parted v real),
      )

  pub right_height : (v : ℕ) → right.is_real v ≡ true
      → height_of (all_cuts (nodes ++ others)) v ≡ height_of (all_cuts others) v
  right_height v real =
      omega (
        arith,
        heights v,
        boundary_height (with_defects left (leaves nodes)) (all_cuts nodes) v one.dual.packing.odd (unreal v real),
      )

  left_sources : (n : Node) → IsAmong n nodes → HasSources (nodes ++ others) n.top.vertices
  left_sources n a v within =
      let (d, holds, leaf, parity) = All_among
      (λ m. HasSources nodes m.top.vertices) nodes one.sources n a v within in
      let real : (u : ℕ) → is_in n.top.vertices u ≡ true → left.is_real u ≡ true =
      is_in-All (λ u. left.is_real u ≡ true) n.top.vertices (top_is_odd left nodes one n a).real in (
        d,
        holds,
        leaves_in d ∙ or_left (is_in (leaves nodes) d) (is_in (leaves others) d) leaf,
        ap (λ h. h % 2) (left_height d (real d holds))
            ∙ (parity ∙ ap (λ h. h % 2) (sym (left_height v (real v within)))),
      )

  right_sources : (n : Node) → IsAmong n others → HasSources (nodes ++ others) n.top.vertices
  right_sources n a v within =
      let (d, holds, leaf, parity) = All_among
      (λ m. HasSources others m.top.vertices) others two.sources n a v within in
      let real : (u : ℕ) → is_in n.top.vertices u ≡ true → right.is_real u ≡ true =
      is_in-All (λ u. right.is_real u ≡ true) n.top.vertices (top_is_odd right others two n a).real in (
        d,
        holds,
        leaves_in d ∙ or_right (is_in (leaves nodes) d) (is_in (leaves others) d) leaf,
        ap (λ h. h % 2) (right_height d (real d holds))
            ∙ (parity ∙ ap (λ h. h % 2) (sym (right_height v (real v within)))),
      )

  outer_left : (m : Node) → IsAmong m nodes → is_outer nodes m.name ≡ true → is_outer (nodes ++ others) m.name ≡ true
  outer_left m a outer =
      outer_both nodes others m.name outer
      (absent_outer others two.forest m.name (beside.names m.name (among_live nodes m m.name a refl)))

  outer_right : (m : Node) → IsAmong m others → is_outer others m.name ≡ true
      → is_outer (nodes ++ others) m.name ≡ true
  outer_right m a outer =
      outer_both nodes others m.name
      (absent_outer nodes one.forest m.name
      (false_from_ne_true (is_live nodes m.name)
      (λ h. both_ways (is_live others m.name) (beside.names m.name h) (among_live others m m.name a refl))))
      outer

  cover_left : (v m : ℕ) → cover_of nodes v ≡ Some m → cover_of (nodes ++ others) v ≡ Some m
  cover_left v m cover =
      let over = cover_among nodes v m cover in
      covered_by (nodes ++ others) v apart over.node (among_left nodes others over.node over.among)
      (outer_left over.node over.among over.outer) over.holds
      ∙ ap Some over.named

  cover_right : (v m : ℕ) → cover_of others v ≡ Some m → cover_of (nodes ++ others) v ≡ Some m
  cover_right v m cover =
      let over = cover_among others v m cover in
      covered_by (nodes ++ others) v apart over.node (among_right nodes others over.node over.among)
      (outer_right over.node over.among over.outer) over.holds
      ∙ ap Some over.named

  -- a parity that both sides have, they have together
  pub parity_beside : (test : ℕ → Bool) (r : ℕ) → HaveParity test nodes r → HaveParity test others r
      → HaveParity test (nodes ++ others) r
  parity_beside test r first second d name leaf cover passing =
      step (or_cases (is_in (leaves nodes) d) (is_in (leaves others) d) (sym (leaves_in d) ∙ leaf))
    where
      step : (is_in (leaves nodes) d ≡ true) ⊎ (is_in (leaves others) d ≡ true)
          → height_of (all_cuts (nodes ++ others)) d % 2 ≡ r
      step (inl h) =
          let (m, own) = some_name (cover_of nodes d) (one.dual.defects d h) in
          ap (λ x. x % 2) (left_height d (leaf_real left nodes d one.dual h))
          ∙ first d name h (own ∙ (sym (cover_left d m own) ∙ cover)) passing
      step (inr h) =
          let (m, own) = some_name (cover_of others d) (two.dual.defects d h) in
          ap (λ x. x % 2) (right_height d (leaf_real right others d two.dual h))
          ∙ second d name h (own ∙ (sym (cover_right d m own) ∙ cover)) passing

  leaves_apart : AreApart (leaves nodes) (leaves others)
  leaves_apart v leaf =
      false_from_ne_true (is_in (leaves others) v)
      (λ h.
      both_ways (right.is_real v) (beside.parted v (leaf_real left nodes v one.dual leaf))
      (leaf_real right others v two.dual h))

  merged : IsWithinLimits whole → IsNest whole (nodes ++ others)
  merged limits =
      nest_of whole (nodes ++ others)
      (subst (AreFit whole (leaves (nodes ++ others))) (sym (cuts_merged nodes others)) (fit limits))
      (record {
        names = subst AreDistinct (sym (names_merged nodes others))
            (distinct_append (map (λ n. n.name) nodes) (map (λ n. n.name) others) one.dual.names two.dual.names
            (λ n h. names_live others n ∙ beside.names n (sym (names_live nodes n) ∙ h)));
        grown = All-append (λ n. AreGrown (layers_of n)) nodes others one.dual.grown two.dual.grown;
        forest = forest;
      })
      apart
      (subst AreDistinct (sym (leaves_merged nodes others))
      (distinct_append (leaves nodes) (leaves others) one.defects two.defects leaves_apart))
      (All-append (λ n. HasSources (nodes ++ others) n.top.vertices) nodes others
      (among_All (λ n. HasSources (nodes ++ others) n.top.vertices) nodes left_sources)
      (among_All (λ n. HasSources (nodes ++ others) n.top.vertices) others right_sources))

pub nests_beside : NestsBeside
nests_beside left right whole nodes others limits beside one two =
    merged left right whole nodes others beside one two limits
