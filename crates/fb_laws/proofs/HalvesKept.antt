-- Parts with nodes unmatched: how they begin, are kept by steps, and are opened.
use Rattle.std.proofs.Common.{ℕ, zero, suc, ◌≡◌, ◌+◌, ◌*◌, ◌%◌, ◌≤◌, ◌<◌, ◌==◌, ◌&&◌, ◌||◌, ◌⊎◌, inl, inr, Bool, true, false, cond, List, [], ◌∷◌, map, length, All, AllPairs, Option, Some, None, filter, sum_by, get_or, refl, sym, ap, ◌∙◌, subst, arith}
use Rattle.std.specs.List.{find}
use Rattle.std.specs.Option.{option_map}
use Rattle.std.proofs.lemmas.Bool.{cases_Bool, eq-eqb, ltb-true, ltb-false, and_parts, or_right}
use Rattle.std.proofs.lemmas.List.Elements.{All-nil, All-cons, All-head, All-tail, All-map, All-filter}
use Rattle.std.proofs.lemmas.List.Kept.{AllPairs-filter}
use Rattle.std.proofs.lemmas.List.Sums.{sum_by-cons, get_or-le-sum_by}
use Rattle.std.proofs.lemmas.List.Sorted.{All-permutation}
use Rattle.fb_graph.specs.Parity.{differ, is_odd_count, is_in}
use Rattle.fb_graph.specs.Problem.{Problem, crosses, with_defects}
use Rattle.fb_graph.specs.Certificate.{IsOddCut, load_of}
use Rattle.fb_graph.specs.Printed.{is_positive}
use Rattle.fb_graph.specs.Dual.{Node, IsDual, all_cuts, leaves, cover_of, is_outer, height_of, node_at, AreApart, AreUnderOne, IsWithin}
use Rattle.fb_graph.specs.declared.parts.Cut.{Cut}
use Rattle.fb_graph.proofs.CutSums.{weigh, cond_zero}
use Rattle.fb_graph.proofs.ParitySums.{odd_agree}
use Rattle.fb_graph.proofs.Sets.{member_of_odd}
use Rattle.fb_graph.specs.Counts.{as_count}
use Rattle.fb_graph.specs.Steps.{stepped_nodes, stepped_node}
use Rattle.fb_graph.specs.Ends.{ends_in, AreAllApart}
use Rattle.fb_graph.specs.Links.{pair, IsTightLink}
use Rattle.fb_laws.specs.Fusion.{IsLinkOf}
use Rattle.fb_laws.specs.Opening.{IsWithinOne, EndAtDefects, EndsAtDefects}
use Rattle.fb_graph.specs.Singles.{Single, node_of, nodes_of}
use Rattle.fb_laws.specs.Works.{HasDefects, positive_cuts, outer_nodes, outer_sets, WorkBegins, MatchingStepped, MatchingPermuted, PositivePacking, PositiveLoads, PositiveTotal, CutUnderOne, HalfLevel, HalfSolved}
use Rattle.fb_graph.proofs.Crossings.{under_or_not, cover_holds, found_place}
use Rattle.fb_graph.proofs.EndSums.{ends_permuted}
use Rattle.fb_laws.proofs.OpenedLevels.{first_level, levels_opened, level_solved}
use Rattle.fb_laws.proofs.PotentialParities.{one_parity_stepped}
use Rattle.fb_graph.proofs.SingleStates.{beginning_is_dual, leaves_are, bare_height}
use Rattle.fb_graph.proofs.StepHeights.{outer_stepped, leaves_stepped}
use Rattle.fb_graph.proofs.StepLoads.{tight_stepped}

pub name_in_all : (singles : List Single) → All (λ s. is_in (map (λ t. t.name) singles) s.name ≡ true) singles
name_in_all [] = All-nil (λ s. is_in [] s.name ≡ true)
name_in_all (s ∷ ss) =
    All-cons (λ t. is_in (s.name ∷ map (λ u. u.name) ss) t.name ≡ true) s ss
    (ap (λ b. b || is_in (map (λ u. u.name) ss) s.name) (eq-eqb s.name s.name refl))
    (λ i d less. or_right (s.name == (get_or ss i d).name) _ (name_in_all ss i d less))

pub work_begins : WorkBegins
work_begins p singles names vertices real bare defects = record {
  matching = record {
    dual = beginning_is_dual p singles names vertices real bare;
    defects = λ v is. defects v is ∙ ap (λ l. is_in l v) (sym (leaves_are singles));
    links_are = record {
      tight = All-nil (IsTightLink p (all_cuts (nodes_of singles)));
      own = All-nil (IsLinkOf p);
      at_defects =
          All-nil
          (EndsAtDefects p (leaves (nodes_of singles)));
    };
    matched =
        All-map
        (λ n. is_outer (nodes_of singles) n.name ≡ true
        → ends_in n.top.vertices [] + as_count (is_in (map (λ s. s.name) singles) n.name) ≡ 1) node_of singles
        (λ i d less outer. ap (λ b. 0 + as_count b) (name_in_all singles i d less));
    one_parity = λ d e name leaf among cover covered. even d ∙ sym (even e);
  };
  even = λ d name leaf cover among. even d;
}
  where
    even : (d : ℕ) → height_of (all_cuts (nodes_of singles)) d % 2 ≡ 0
    even d = ap (λ h. h % 2) (bare_height singles d bare)

pub matching_stepped : MatchingStepped
matching_stepped p roles nodes links unmatched k are low dual level work = record {
  dual = dual;
  defects = λ v real. work.defects v real ∙ ap (λ l. is_in l v) (sym (leaves_stepped roles nodes k));
  links_are = record {
    tight = λ i d less. record {
      walk = (work.links_are.tight i d less).walk;
      tight = tight_stepped p roles nodes k (get_or links i d) are.exclusive low (level i d less) (work.links_are.tight i d less).tight;
    };
    own = work.links_are.own;
    at_defects = subst (λ l. EndAtDefects p l links) (sym (leaves_stepped roles nodes k)) work.links_are.at_defects;
  };
  matched =
      All-map
      (λ n. is_outer (stepped_nodes roles k nodes) n.name ≡ true → ends_in n.top.vertices links + as_count (is_in unmatched n.name) ≡ 1)
      (stepped_node roles k) nodes
      (λ i d less outer. work.matched i d less (sym (outer_stepped roles nodes k (get_or nodes i d).name) ∙ outer));
  one_parity = one_parity_stepped roles nodes k work.dual.apart are low work.one_parity;
}

pub matching_permuted : MatchingPermuted
matching_permuted p nodes links more unmatched moved work = record {
  dual = work.dual;
  defects = work.defects;
  links_are = record {
    tight = All-permutation (IsTightLink p (all_cuts nodes)) links more moved work.links_are.tight;
    own = All-permutation (IsLinkOf p) links more moved work.links_are.own;
    at_defects =
        All-permutation
        (EndsAtDefects p (leaves nodes))
        links more moved work.links_are.at_defects;
  };
  matched = λ i d less outer.
      let one = work.matched i d less outer in
      omega (arith, one, ends_permuted (get_or nodes i d).top.vertices links more moved);
  one_parity = work.one_parity;
}

-- cuts without value add nothing
sum-positive : (f : Cut → ℕ) → ((c : Cut) → is_positive c ≡ false → f c ≡ 0) → (cuts : List Cut)
    → sum_by f (filter is_positive cuts) ≡ sum_by f cuts
sum-positive f none [] = refl
sum-positive f none (c ∷ cs) = step (cases_Bool (is_positive c)) (sum-positive f none cs)
  where
    step : (is_positive c ≡ true) ⊎ (is_positive c ≡ false) → sum_by f (filter is_positive cs) ≡ sum_by f cs
        → sum_by f (cond (is_positive c) (c ∷ filter is_positive cs) (filter is_positive cs)) ≡ sum_by f (c ∷ cs)
    step (inl e) ih =
        ap (λ b. sum_by f (cond b (c ∷ filter is_positive cs) (filter is_positive cs))) e
        ∙ omega (arith, sum_by-cons f c (filter is_positive cs), sum_by-cons f c cs, ih)
    step (inr e) ih =
        ap (λ b. sum_by f (cond b (c ∷ filter is_positive cs) (filter is_positive cs))) e
        ∙ omega (arith, sum_by-cons f c cs, ih, none c e)

no_value : (c : Cut) → is_positive c ≡ false → c.value ≡ 0
no_value c e = let h : c.value ≤ 0 = ltb-false 0 c.value e in omega arith

pub positive_loads : PositiveLoads
positive_loads nodes e =
    sum-positive (λ c. cond (crosses c.vertices e) c.value 0)
    (λ c none. ap (λ v. cond (crosses c.vertices e) v 0) (no_value c none) ∙ cond_zero (crosses c.vertices e)) (all_cuts nodes)

pub positive_total : PositiveTotal
positive_total nodes = sum-positive (λ c. c.value) no_value (all_cuts nodes)

pub odd_of_part : (p : Problem) (nodes : List Node) (c : Cut) → HasDefects p nodes → IsOddCut (with_defects p (leaves nodes)) c → IsOddCut p c
odd_of_part p nodes c defects odd = record {
  distinct = odd.distinct;
  real = odd.real;
  odd =
      odd_agree p.is_defect (is_in (leaves nodes)) c.vertices
      (λ i d less. defects (get_or c.vertices i d) (odd.real i d less))
      ∙ odd.odd;
}

pub positive_packing : PositivePacking
positive_packing p nodes dual defects = record {
  odd =
      All-filter is_positive (IsOddCut p) (all_cuts nodes)
      (λ i d less. odd_of_part p nodes (get_or (all_cuts nodes) i d) defects (dual.packing.odd i d less));
  fits = λ i d less.
      let h = dual.packing.fits i d less in
      omega (arith, h, positive_loads nodes (get_or p.edges i d));
}

-- what a list of cuts weighs at two vertices, from those that hold both
weigh_both : (cuts : List Cut) (u v : ℕ)
    → load_of cuts (pair u v) + 2 * weigh (λ s. is_in s u && is_in s v) cuts ≡ height_of cuts u + height_of cuts v
weigh_both [] u v = refl
weigh_both (c ∷ cs) u v =
    omega (
      arith,
      sum_by-cons (λ (x : Cut). cond (crosses x.vertices (pair u v)) x.value 0) c cs,
      sum_by-cons (λ (x : Cut). cond (is_in x.vertices u && is_in x.vertices v) x.value 0) c cs,
      sum_by-cons (λ (x : Cut). cond (is_in x.vertices u) x.value 0) c cs,
      sum_by-cons (λ (x : Cut). cond (is_in x.vertices v) x.value 0) c cs,
      weigh_both cs u v,
      each (is_in c.vertices u) (is_in c.vertices v) c.value,
    )
  where
    each : (a b : Bool) (x : ℕ) → cond (differ a b) x 0 + 2 * cond (a && b) x 0 ≡ cond a x 0 + cond b x 0
    each true true x = omega arith
    each true false x = omega arith
    each false true x = omega arith
    each false false x = omega arith

pub cut_under_one : CutUnderOne
cut_under_one p nodes dual i d less positive = step (cover_of nodes u) refl
  where
    c : Cut
    c = get_or (all_cuts nodes) i d

    member : (u : ℕ) × (is_in (get_or (all_cuts nodes) i d).vertices u ≡ true) × (is_in (leaves nodes) u ≡ true)
    member = member_of_odd (is_in (leaves nodes)) (get_or (all_cuts nodes) i d).vertices (dual.packing.odd i d less).odd

    u : ℕ
    u = member.0

    -- the sum over a test that the cut passes is at least its value
    counted : (test : List ℕ → Bool) → test (get_or (all_cuts nodes) i d).vertices ≡ true → 1 ≤ weigh test (all_cuts nodes)
    counted test passing =
        let f : Cut → ℕ = λ x. cond (test x.vertices) x.value 0 in
        omega (
          arith,
          positive,
          get_or-le-sum_by f (all_cuts nodes) i d less,
          ap (λ b. cond b (get_or (all_cuts nodes) i d).value 0) passing,
        )

    step : (o : Option ℕ) → cover_of nodes u ≡ o
        → (name : ℕ) × ((v : ℕ) → is_in (get_or (all_cuts nodes) i d).vertices v ≡ true → cover_of nodes v ≡ Some name)
    step None cover = absurd (omega (arith, dual.uncovered member.0 cover, counted (λ s. is_in s member.0) member.1))
    step (Some name) cover = (name, λ v within. by v within (under_or_not nodes member.0 v))
      where
        by : (v : ℕ) → is_in (get_or (all_cuts nodes) i d).vertices v ≡ true
            → AreUnderOne nodes member.0 v ⊎ (AreUnderOne nodes member.0 v → ⊥) → cover_of nodes v ≡ Some name
        by v within (inl (other, first, second)) = second ∙ (sym first ∙ cover)
        by v within (inr differs) =
            absurd
            (omega (
              arith,
              dual.loads (pair member.0 v) differs,
              weigh_both (all_cuts nodes) member.0 v,
              counted (λ s. is_in s member.0 && is_in s v) (ap (λ b. b && is_in (get_or (all_cuts nodes) i d).vertices v) member.1 ∙ within),
            ))

-- outer nodes, one after another
outer_at : (outer : Node → Bool) (c : Cut) (ns : List Node) (j : ℕ) → j < length ns → outer (node_at ns j) ≡ true
    → IsWithin c.vertices (node_at ns j).top.vertices → IsWithinOne c (map (λ n. n.top.vertices) (filter outer ns))
outer_at outer c [] j less is within = absurd (omega arith)
outer_at outer c (n ∷ ns) zero less is within =
    subst (λ b. IsWithinOne c (map (λ m. m.top.vertices) (cond b (n ∷ filter outer ns) (filter outer ns)))) (sym is)
    (0, omega arith, within)
outer_at outer c (n ∷ ns) (suc j) less is within = step (outer n) (outer_at outer c ns j (omega arith) is within)
  where
    step : (b : Bool) → IsWithinOne c (map (λ m. m.top.vertices) (filter outer ns))
        → IsWithinOne c (map (λ m. m.top.vertices) (cond b (n ∷ filter outer ns) (filter outer ns)))
    step true (i, below, inside) = (suc i, omega arith, inside)
    step false inside = inside

apart_list : (ns : List Node) → AllPairs (λ m n. AreApart m.top.vertices n.top.vertices) ns → AreAllApart (map (λ n. n.top.vertices) ns)
apart_list [] apart = tt
apart_list (n ∷ ns) apart = (
  All-map (AreApart n.top.vertices) (λ m. m.top.vertices) ns (λ j d less. apart zero (suc j) d (omega arith) (omega arith)),
  apart_list ns (λ i j d less below. apart (suc i) (suc j) d (omega arith) (omega arith)),
)

-- among outer nodes only
apart_where : (outer : Node → Bool) (ns : List Node) → All (λ n. outer n ≡ true) ns
    → AllPairs (λ m n. outer m ≡ true → outer n ≡ true → AreApart m.top.vertices n.top.vertices) ns
    → AllPairs (λ m n. AreApart m.top.vertices n.top.vertices) ns
apart_where outer ns all apart i j d less below = apart i j d less below (all i d (omega arith)) (all j d below)

filter_passes : (test : Node → Bool) (ns : List Node) → All (λ n. test n ≡ true) (filter test ns)
filter_passes test [] = All-nil (λ n. test n ≡ true)
filter_passes test (n ∷ ns) = step (cases_Bool (test n)) (filter_passes test ns)
  where
    step : (test n ≡ true) ⊎ (test n ≡ false) → All (λ m. test m ≡ true) (filter test ns)
        → All (λ m. test m ≡ true) (cond (test n) (n ∷ filter test ns) (filter test ns))
    step (inl e) ih =
        subst (λ b. All (λ m. test m ≡ true) (cond b (n ∷ filter test ns) (filter test ns))) (sym e)
        (All-cons (λ m. test m ≡ true) n (filter test ns) e ih)
    step (inr e) ih = subst (λ b. All (λ m. test m ≡ true) (cond b (n ∷ filter test ns) (filter test ns))) (sym e) ih

-- the outer node over all of a cut
cut_within_outer : (p : Problem) (nodes : List Node) (c : Cut) (name : ℕ) → IsDual p nodes
    → is_odd_count (is_in (leaves nodes)) c.vertices ≡ true
    → ((v : ℕ) → is_in c.vertices v ≡ true → cover_of nodes v ≡ Some name) → IsWithinOne c (outer_sets nodes)
cut_within_outer p nodes c name dual odd under = step (find test nodes) refl (under member.0 member.1)
  where
    member : (u : ℕ) × (is_in c.vertices u ≡ true) × (is_in (leaves nodes) u ≡ true)
    member = member_of_odd (is_in (leaves nodes)) c.vertices odd

    test : Node → Bool
    test n = is_outer nodes n.name && is_in n.top.vertices member.0

    step : (o : Option Node) → find test nodes ≡ o → option_map (λ n. n.name) o ≡ Some name → IsWithinOne c (outer_sets nodes)
    step None e named = cc
    step (Some m) e named =
        let (j, less, same, passing) = found_place test nodes m e in
        let is : m.name ≡ name = cc in
        outer_at (λ n. is_outer nodes n.name) c nodes j less
        (ap (λ n. is_outer nodes n.name) same ∙ (and_parts (is_outer nodes m.name) (is_in m.top.vertices member.0) passing).0)
        (λ v within. cover_holds nodes v name dual.names (under v within) j less (ap (λ n. n.name) same ∙ is))

-- what holds of each cut with a value holds of the cuts that are left
of_positive : (P : Cut → Type 0) (cuts : List Cut) → All (λ c. 1 ≤ c.value → P c) cuts → All P (filter is_positive cuts)
of_positive P [] all = All-nil P
of_positive P (c ∷ cs) all =
    step (cases_Bool (is_positive c)) (of_positive P cs (All-tail (λ x. 1 ≤ x.value → P x) c cs all))
  where
    step : (is_positive c ≡ true) ⊎ (is_positive c ≡ false) → All P (filter is_positive cs)
        → All P (cond (is_positive c) (c ∷ filter is_positive cs) (filter is_positive cs))
    step (inl e) ih =
        let value : 0 < c.value = ltb-true 0 c.value e in
        subst (λ b. All P (cond b (c ∷ filter is_positive cs) (filter is_positive cs))) (sym e)
        (All-cons P c (filter is_positive cs) (All-head (λ x. 1 ≤ x.value → P x) c cs all (let h : 1 ≤ c.value = omega arith in h)) ih)
    step (inr e) ih = subst (λ b. All P (cond b (c ∷ filter is_positive cs) (filter is_positive cs))) (sym e) ih

pub half_level : HalfLevel
half_level p nodes links work =
    first_level (positive_cuts nodes) (outer_sets nodes) links
    (apart_list (outer_nodes nodes)
    (apart_where (λ n. is_outer nodes n.name) (outer_nodes nodes) (filter_passes (λ n. is_outer nodes n.name) nodes)
    (AllPairs-filter (λ m n. is_outer nodes m.name ≡ true → is_outer nodes n.name ≡ true → AreApart m.top.vertices n.top.vertices)
    (λ n. is_outer nodes n.name) nodes work.dual.apart)))
    (All-map (λ s. ends_in s links ≡ 1) (λ n. n.top.vertices) (outer_nodes nodes)
    (λ i d less.
    let one =
    All-filter (λ n. is_outer nodes n.name) (λ m. is_outer nodes m.name ≡ true → ends_in m.top.vertices links + 0 ≡ 1) nodes
    work.matched i d less (filter_passes (λ n. is_outer nodes n.name) nodes i d less) in
    omega (arith, one)))
    (of_positive (λ c. IsWithinOne c (outer_sets nodes)) (all_cuts nodes)
    (λ i d less positive.
    let (name, under) = cut_under_one p nodes work.dual i d less positive in
    cut_within_outer p nodes (get_or (all_cuts nodes) i d) name work.dual (work.dual.packing.odd i d less).odd under))

pub half_solved : HalfSolved
half_solved p nodes links last openings defects work opened tight at_defects same =
    level_solved p (positive_cuts nodes) defects last (positive_packing p nodes work.dual work.defects)
    (levels_opened (positive_cuts nodes) (outer_sets nodes) _ links last openings (half_level p nodes links work) opened)
    (λ i d less. record {
      walk = (tight i d less).walk;
      tight = (tight i d less).tight ∙ sym (positive_loads nodes (pair (get_or last i d).from (get_or last i d).to));
    })
    at_defects same
