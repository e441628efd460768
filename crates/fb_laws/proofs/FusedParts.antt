-- Cuts and links of separated parts.
use Rattle.std.proofs.Common.{ℕ, ◌≡◌, ◌≤◌, ◌<◌, ◌==◌, ◌⊎◌, inl, inr, true, false, cond, List, [], ◌∷◌, ◌++◌, length, All, sum_by, count_by, get_or, refl, sym, ap, ◌∙◌, subst, arith}
use Rattle.std.proofs.lemmas.Bool.{both_ways, false_from_ne_true, or_from, or_parts, ne_eqb}
use Rattle.std.proofs.lemmas.List.Elements.{All-head, All-tail, All-append}
use Rattle.std.proofs.lemmas.List.Sums.{sum_by-append}
use Rattle.fb_graph.specs.Parity.{differ, is_odd_count, is_in}
use Rattle.fb_graph.specs.Problem.{Problem, edge_at, no_edge, touches, crosses, weight_of}
use Rattle.fb_graph.specs.Certificate.{IsOddCut, load_of}
use Rattle.fb_graph.specs.Components.{Leads, IsWalkBy}
use Rattle.fb_graph.specs.Laws.{Link, IsTight, IsPart, AreSeparated, has_real_end, ends_of}
use Rattle.fb_graph.specs.Dual.{height_of}
use Rattle.fb_graph.specs.declared.parts.Cut.{Cut}
use Rattle.fb_graph.proofs.ClosedSets.{boundary_height, load-append, load_of_unreal, not_held, uncrossed_by_unreal}
use Rattle.fb_graph.proofs.ParitySums.{differ-false, false-differ, odd-append, odd_agree, odd_none}
use Rattle.fb_graph.proofs.Sums.{sum_same, sum_zero}
use Rattle.fb_graph.specs.Counts.{as_count}
use Rattle.fb_graph.specs.NestUnions.{AreParts}
use Rattle.fb_laws.specs.Fusion.{IsLinkOf, PartsTurned, LinkEndsAway, TightFused, TightFusedRight, FusedEnds, HeightFused, Forgotten, SeamParity, FusedPerfect}
use Rattle.fb_graph.proofs.EndSums.{ends-cons}
use Rattle.fb_laws.proofs.PathSums.{ends_out}
use Rattle.fb_graph.proofs.TightLinks.{boundary_parity}
use Rattle.fb_graph.proofs.Walks.{walk_same}

pub parts_turned : PartsTurned
parts_turned left right whole parts = record {
  left_part = parts.right_part;
  right_part = parts.left_part;
  separated = record {
    vertices = λ v real.
        false_from_ne_true (left.is_real v) (λ other. both_ways (right.is_real v) (parts.separated.vertices v other) real);
    edges = λ i d less real.
        false_from_ne_true (has_real_end left (get_or right.edges i d))
        (λ other.
        both_ways (has_real_end right (get_or right.edges i d))
        (subst (λ es. All (λ e. has_real_end left e ≡ true → has_real_end right e ≡ false) es)
        (parts.left_part.edges ∙ sym parts.right_part.edges) parts.separated.edges i d less other) real);
  };
}

-- both ends of an edge of the left are not real in the right
edge_away : (left right : Problem) (k a b : ℕ) → AreSeparated left right → k < length left.edges
    → has_real_end left (edge_at left.edges k) ≡ true → Leads (edge_at left.edges k) a b
    → (right.is_real a ≡ false) × (right.is_real b ≡ false)
edge_away left right k a b separated within real leads = step leads
  where
    ends : (right.is_real (edge_at left.edges k).first ≡ false) × (right.is_real (edge_at left.edges k).second ≡ false)
    ends = or_parts _ _ (separated.edges k no_edge within real)

    step : Leads (edge_at left.edges k) a b → (right.is_real a ≡ false) × (right.is_real b ≡ false)
    step (inl (first, second)) = (ap right.is_real (sym first) ∙ ends.0, ap right.is_real (sym second) ∙ ends.1)
    step (inr (second, first)) = (ap right.is_real (sym second) ∙ ends.1, ap right.is_real (sym first) ∙ ends.0)

walk_away : (left right : Problem) (k : ℕ) (ks : List ℕ) (a b : ℕ) → AreSeparated left right
    → All (λ j. has_real_end left (edge_at left.edges j) ≡ true) (k ∷ ks) → IsWalkBy left (k ∷ ks) a b
    → (right.is_real a ≡ false) × (right.is_real b ≡ false)
walk_away left right k [] a b separated real (next, within, leads, end) =
    let away = edge_away left right k a next separated within
    (All-head (λ j. has_real_end left (edge_at left.edges j) ≡ true) k [] real) leads in
    (away.0, ap right.is_real (sym end) ∙ away.1)
walk_away left right k (j ∷ js) a b separated real (next, within, leads, rest) = (
  (edge_away left right k a next separated within
      (All-head (λ i. has_real_end left (edge_at left.edges i) ≡ true) k (j ∷ js) real) leads).0,
  (walk_away left right j js next b separated (All-tail (λ i. has_real_end left (edge_at left.edges i) ≡ true) k (j ∷ js) real)
      rest).1,
)

pub link_ends_away : LinkEndsAway
link_ends_away left right whole l parts is = step l.walk refl is.real is.walk
  where
    step : (ks : List ℕ) → l.walk ≡ ks → All (λ k. has_real_end left (edge_at left.edges k) ≡ true) ks
        → IsWalkBy left ks l.from l.to → (right.is_real l.from ≡ false) × (right.is_real l.to ≡ false)
    step [] e real walk = absurd (is.moves e)
    step (k ∷ ks) e real walk = walk_away left right k ks l.from l.to parts.separated real walk

-- a link has no load from the other part's cuts
unloaded : (left right whole : Problem) (more : List Cut) (l : Link) → AreParts left right whole → All (IsOddCut right) more
    → IsLinkOf left l → load_of more (ends_of l) ≡ 0
unloaded left right whole more l parts odd is =
    let away = link_ends_away left right whole l parts is in
    load_of_unreal right more (ends_of l) odd (or_from (right.is_real l.from) (right.is_real l.to) away.0 away.1)

pub same_weight : (part whole : Problem) (ks : List ℕ) → IsPart part whole → weight_of whole ks ≡ weight_of part ks
same_weight part whole ks is = ap (λ es. sum_by (λ k. (edge_at es k).weight) ks) (sym is.edges)

pub tight_fused : TightFused
tight_fused left right whole cuts more l parts odd is tight =
    omega (
      arith,
      same_weight left whole l.walk parts.left_part,
      tight,
      load-append cuts more (ends_of l),
      unloaded left right whole more l parts odd is,
    )

pub tight_fused_right : TightFusedRight
tight_fused_right left right whole cuts more l parts odd is tight =
    omega (
      arith,
      same_weight right whole l.walk parts.right_part,
      tight,
      load-append cuts more (ends_of l),
      unloaded right left whole cuts l (parts_turned left right whole parts) odd is,
    )

pub fused_ends : FusedEnds
fused_ends left right whole set [] parts are real = refl
fused_ends left right whole set (l ∷ links) parts are real =
    let away = link_ends_away left right whole l parts (All-head (IsLinkOf left) l links are) in
    omega (
      arith,
      ends-cons set l links,
      fused_ends left right whole set links parts (All-tail (IsLinkOf left) l links are) real,
      ap as_count (not_held right set l.from real away.0),
      ap as_count (not_held right set l.to real away.1),
    )

pub height_fused : HeightFused
height_fused left right whole cuts more v parts odd real =
    let none : height_of more v ≡ 0 = boundary_height right more v odd (parts.separated.vertices v real) in
    omega (arith, none, sum_by-append (λ (c : Cut). cond (is_in c.vertices v) c.value 0) cuts more)

pub forgotten : Forgotten
forgotten set node l seam rest leads whole outside =
    omega (arith, ends-cons set l rest, ends_out set node l seam leads whole, ap as_count outside)

pub seam_parity : SeamParity
seam_parity p cuts l even odd is boundary = boundary_parity p cuts l even is (boundary_height p cuts l.to odd boundary)

-- a link of the other part doesn't end at a real vertex
touches_not : (left right whole : Problem) (links : List Link) (v : ℕ) → AreParts left right whole → All (IsLinkOf left) links
    → right.is_real v ≡ true → is_odd_count (λ l. touches v (ends_of l)) links ≡ false
touches_not left right whole links v parts are real =
    odd_agree (λ l. touches v (ends_of l)) (λ l. false) links
    (λ i d less.
    let l : Link = get_or links i d in
    let away = link_ends_away left right whole l parts (are i d less) in
    ap (λ b. differ b (v == l.to)) (ne_eqb v l.from (λ e. both_ways (right.is_real l.from) away.0 (ap right.is_real (sym e) ∙ real)))
    ∙ ap (differ false) (ne_eqb v l.to (λ e. both_ways (right.is_real l.to) away.1 (ap right.is_real (sym e) ∙ real))))
    ∙ odd_none links

-- and crosses none of its cuts
crosses_not : (left right whole : Problem) (links : List Link) (c : Cut) → AreParts left right whole → All (IsLinkOf left) links
    → IsOddCut right c → count_by (λ l. crosses c.vertices (ends_of l)) links ≡ 0
crosses_not left right whole links c parts are odd =
    sum_same (λ l. as_count (crosses c.vertices (ends_of l))) (λ l. 0) links
    (λ i d less.
    let l : Link = get_or links i d in
    let away = link_ends_away left right whole l parts (are i d less) in
    ap as_count
    (uncrossed_by_unreal right c.vertices (ends_of l) odd.real (or_from (right.is_real l.from) (right.is_real l.to) away.0 away.1)))
    ∙ sum_zero links

pub fused_perfect : FusedPerfect
fused_perfect left right whole cuts more links others parts covered odd other_odd are other_are perfect other = record {
  walks =
      All-append (λ l. IsWalkBy whole l.walk l.from l.to) links others
      (λ i d less. walk_same left whole parts.left_part.edges _ _ _ (perfect.walks i d less))
      (λ i d less. walk_same right whole parts.right_part.edges _ _ _ (other.walks i d less));
  tight =
      All-append (IsTight whole (cuts ++ more)) links others
      (λ i d less. tight_fused left right whole cuts more (get_or links i d) parts other_odd (are i d less) (perfect.tight i d less))
      (λ i d less.
      tight_fused_right left right whole cuts more (get_or others i d) parts odd (other_are i d less) (other.tight i d less));
  flips = λ v real. flip v (covered v real);
  once =
      All-append (λ c. count_by (λ l. crosses c.vertices (ends_of l)) (links ++ others) ≤ 1) cuts more
      (λ i d less.
      let c : Cut = get_or cuts i d in
      let bound = perfect.once i d less in
      omega (
        arith,
        bound,
        sum_by-append (λ l. as_count (crosses c.vertices (ends_of l))) links others,
        crosses_not right left whole others c turned other_are (odd i d less),
      ))
      (λ i d less.
      let c : Cut = get_or more i d in
      let bound = other.once i d less in
      omega (
        arith,
        bound,
        sum_by-append (λ l. as_count (crosses c.vertices (ends_of l))) links others,
        crosses_not left right whole links c parts are (other_odd i d less),
      ));
}
  where
    turned : AreParts right left whole
    turned = parts_turned left right whole parts

    flip : (v : ℕ) → (left.is_real v ≡ true) ⊎ (right.is_real v ≡ true)
        → is_odd_count (λ l. touches v (ends_of l)) (links ++ others) ≡ whole.is_defect v
    flip v (inl real) =
        odd-append (λ l. touches v (ends_of l)) links others
        ∙ (ap (differ (is_odd_count (λ l. touches v (ends_of l)) links)) (touches_not right left whole others v turned other_are real)
        ∙ (differ-false (is_odd_count (λ l. touches v (ends_of l)) links) ∙ (perfect.flips v real ∙ parts.left_part.defects v real)))
    flip v (inr real) =
        odd-append (λ l. touches v (ends_of l)) links others
        ∙ (ap (λ b. differ b (is_odd_count (λ l. touches v (ends_of l)) others)) (touches_not left right whole links v parts are real)
        ∙ (false-differ (is_odd_count (λ l. touches v (ends_of l)) others) ∙ (other.flips v real ∙ parts.right_part.defects v real)))
