-- Each vertex lies in one range of the plan by time, and no edge joins vertices of unrelated nodes.
use Rattle.std.proofs.Common.{◌≡◌, ℕ, zero, suc, ◌+◌, ◌-◌, ◌*◌, ◌<◌, ◌≤◌, ◌⊎◌, inl, inr, Bool, true, false, not, ◌&&◌, ◌||◌, ◌==◌, nat_lt, nat_le, ℤ, cond, List, [], ◌∷◌, ◌++◌, length, map, get_or, count_by, All, refl, sym, ap, ◌∙◌, subst, arith}
use Rattle.std.specs.Prelude.{Option, Some, None, find, option_map}
use Rattle.std.specs.List.{range_with_len}
use Rattle.std.proofs.Math.Nat.{mul-le-mul_right}
use Rattle.std.proofs.lemmas.Bool.{cases_lt, cases_eq, eq-eqb, lt-ltb, le-ltb, lt-leb, le-leb, ltb-true, leb-true, and_parts, or_left, or_right}
use Rattle.std.proofs.lemmas.List.{length-map}
use Rattle.std.proofs.lemmas.List.Elements.{All-nil, All-cons, All-head, All-tail, All-append, All-map}
use Rattle.std.proofs.lemmas.List.FromFn.{get_or-range_with_len, length-range_with_len, get_or-map-range_with_len}
use Rattle.fb_graph.specs.GraphRules.{edge_from}
use Rattle.fb_graph.specs.Limits.{is_real_in}
use Rattle.fb_graph.specs.declared.parts.Edge.{Edge}
use Rattle.fb_graph.specs.Counts.{as_count}
use Rattle.fb_graph.proofs.BuildSteps.{range_push}
use Rattle.fb_graph.proofs.Sets.{count_equal-le, distinct_from_rising, range_rises}
use Rattle.fb_plan.specs.Plans.{is_within, are_unrelated, goes_across, owner_of}
use Rattle.fb_plan.specs.Rules.{claims_from, holds, owner_in}
use Rattle.fb_plan.specs.declared.parts.OwnedRange.{OwnedRange}
use Rattle.fb_plan.proofs.Trees.{within_self}
use Rattle.fb_gen.specs.Lattice.{vertex_at, vertex_count, entry_if, is_inner, edges_from, edges_of_row, edges_of_round, lattice_edges, lattice_graph, weight_within, weight_later}
use Rattle.fb_gen.specs.TimePlan.{IsRoundOf, no_fusion, first_round, unit_range, seam_range, time_fusions, time_ranges, time_tree}
use Rattle.fb_gen.specs.InternalSharing.{IsShared}
use Rattle.fb_gen.specs.declared.levels.Fusion.{Fusion}
use Rattle.fb_gen.proofs.Acceptance.{time_tree_is_tree, fusion_is_between, joins_length}
use Rattle.fb_gen.proofs.Fusions.{count-cons, count-append, count_at, once_by, seams_once}
use Rattle.fb_gen.proofs.Grids.{All-pieces_below, All-entry_if, vertex_below}
use Rattle.fb_gen.proofs.Rounds.{first_later, first_after_all}
use Rattle.fb_plan.proofs.Gathering.{claims-append}

-- a vertex lies within a range
abbrev pub lies_in : ℕ → ℕ × ℕ → Bool
lies_in v r = nat_le r.0 v && nat_lt v r.1

count-singles : {X : Type 0} (v n : ℕ) (f : X → ℕ × ℕ) (xs : List X)
    → count_by (holds v) (claims_from n (map (λ x. f x ∷ []) xs)) ≡ count_by (λ x. lies_in v (f x)) xs
count-singles v n f [] = refl
count-singles v n f (x ∷ xs) =
    let here : OwnedRange = record { node = n; start = (f x).0; end = (f x).1 } in
    omega (
      arith,
      count-cons (holds v) here (claims_from (n + 1) (map (λ y. f y ∷ []) xs)),
      count-cons (λ y. lies_in v (f y)) x xs,
      count-singles v (n + 1) f xs,
    )

all-singles : {X : Type 0} (P : OwnedRange → Type 0) (n : ℕ) (f : X → ℕ × ℕ) (xs : List X) (d : X)
    → ((k m : ℕ) → k < length xs → m ≡ n + k → P (record { node = m; start = (f (get_or xs k d)).0; end = (f (get_or xs k d)).1 }))
    → All P (claims_from n (map (λ x. f x ∷ []) xs))
all-singles P n f [] d each = All-nil P
all-singles P n f (x ∷ xs) d each =
    All-cons P (record { node = n; start = (f x).0; end = (f x).1 }) (claims_from (n + 1) (map (λ y. f y ∷ []) xs))
    (each 0 n (omega arith) (omega arith))
    (all-singles P (n + 1) f xs d (λ k m less is. each (suc k) m (omega arith) (omega arith)))

-- what a search finds passes, and is as all are
found_is : {X : Type 0} (P : X → Type 0) (test : X → Bool) (xs : List X) (y : X) → All P xs → find test xs ≡ Some y
    → P y × (test y ≡ true)
found_is P test [] y all found = cc
found_is P test (x ∷ xs) y all found = step (test x) refl found (λ f. found_is P test xs y (All-tail P x xs all) f)
  where
    step : (b : Bool) → test x ≡ b → cond b (Some x) (find test xs) ≡ Some y
        → (find test xs ≡ Some y → P y × (test y ≡ true)) → P y × (test y ≡ true)
    step true e f rest = let same : x ≡ y = cc in subst (λ z. P z × (test z ≡ true)) same (All-head P x xs all, e)
    step false e f rest = rest f

pub record IsUnitClaim (d t u : ℕ) (c : OwnedRange) : Type 0 where
  pub node : c.node < u
  pub start : c.start ≡ first_round t u c.node * (d * (d + 1))
  pub end : c.end ≡ (first_round t u (c.node + 1) - 1) * (d * (d + 1))

pub record IsSeamClaim (d t u : ℕ) (c : OwnedRange) : Type 0 where
  pub place : ℕ
  pub within : place < length (time_fusions u)
  pub node : c.node ≡ u + place
  pub start : c.start ≡ (first_round t u (get_or (time_fusions u) place no_fusion).seam - 1) * (d * (d + 1))
  pub end : c.end ≡ first_round t u (get_or (time_fusions u) place no_fusion).seam * (d * (d + 1))

-- a range of a unit, or the seam of a fusion
abbrev pub IsTimeClaim : ℕ → ℕ → ℕ → OwnedRange → Type 0
IsTimeClaim d t u c = IsUnitClaim d t u c ⊎ IsSeamClaim d t u c

abbrev pub time_claims : ℕ → ℕ → ℕ → List OwnedRange
time_claims d t u = claims_from 0 (time_ranges d t u)

time_claims_parts : (d t u : ℕ)
    → time_claims d t u
    ≡ claims_from 0 (map (λ j. unit_range d t u j ∷ []) (range_with_len 0 u))
    ++ claims_from u (map (λ f. seam_range d t u f.seam ∷ []) (time_fusions u))
time_claims_parts d t u =
    let e : 0 + length (map (λ j. unit_range d t u j ∷ []) (range_with_len 0 u)) ≡ u =
    omega (arith, length-map (range_with_len 0 u) (λ j. unit_range d t u j ∷ []), length-range_with_len 0 u) in
    claims-append 0 (map (λ j. unit_range d t u j ∷ []) (range_with_len 0 u)) (map (λ f. seam_range d t u f.seam ∷ []) (time_fusions u))
    ∙ ap (λ n. claims_from 0 (map (λ j. unit_range d t u j ∷ []) (range_with_len 0 u))
    ++ claims_from n (map (λ f. seam_range d t u f.seam ∷ []) (time_fusions u))) e

claims_known : (d t u : ℕ) → All (IsTimeClaim d t u) (time_claims d t u)
claims_known d t u =
    subst (All (IsTimeClaim d t u)) (sym (time_claims_parts d t u))
    (All-append (IsTimeClaim d t u) _ _
    (all-singles (IsTimeClaim d t u) 0 (unit_range d t u) (range_with_len 0 u) 0 (λ k m less is.
    let kw : k < u = omega (arith, length-range_with_len 0 u) in
    let at : get_or (range_with_len 0 u) k 0 ≡ m = omega (arith, get_or-range_with_len 0 u k 0 kw) in
    inl (record {
      node = omega arith;
      start = ap (λ j. (unit_range d t u j).0) at;
      end = ap (λ j. (unit_range d t u j).1) at;
    })))
    (all-singles (IsTimeClaim d t u) u (λ f. seam_range d t u f.seam) (time_fusions u) no_fusion (λ k m less is.
    inr (record { place = k; within = less; node = is; start = refl; end = refl }))))

-- the rounds that a range holds
in_rounds : (a b k w x : ℕ) → x < w → a * w ≤ k * w + x → k * w + x < b * w → (a ≤ k) × (k < b)
in_rounds a b k w x small low high = (low_part (cases_lt k a), high_part (cases_lt k b))
  where
    low_part : (k < a) ⊎ (a ≤ k) → a ≤ k
    low_part (inl beyond) = absurd (omega (arith, mul-le-mul_right {m = k + 1} {n = a} w (omega arith)))
    low_part (inr fine) = fine

    high_part : (k < b) ⊎ (b ≤ k) → k < b
    high_part (inl fine) = fine
    high_part (inr beyond) = absurd (omega (arith, mul-le-mul_right {m = b} {n = k} w beyond))

-- each seam lies between two units
pub seam_bounds : (t u i : ℕ) → IsShared t u → i < length (time_fusions u)
    → (1 ≤ (get_or (time_fusions u) i no_fusion).seam) × ((get_or (time_fusions u) i no_fusion).seam < u)
seam_bounds t u i shared less = step (cases_lt 0 s) (cases_lt s u)
  where
    s : ℕ
    s = (get_or (time_fusions u) i no_fusion).seam

    never : (p : ℕ → Bool) → p s ≡ true → ((k : ℕ) → k < u - 1 → p (1 + k) ≡ false) → ⊥
    never p here none =
        omega (
          arith,
          seams_once u p shared.positive,
          count_at (λ (f : Fusion). p f.seam) (time_fusions u) i no_fusion less here,
          count_none p 1 (u - 1) none,
        )
      where
        count_none : (q : ℕ → Bool) (a n : ℕ) → ((k : ℕ) → k < n → q (a + k) ≡ false) → count_by q (range_with_len a n) ≡ 0
        count_none q a zero nothing = refl
        count_none q a (suc n) nothing =
            let first : a + 0 ≡ a = omega arith in
            omega (
              arith,
              count-cons q a (range_with_len (a + 1) n),
              ap as_count (ap q (sym first) ∙ nothing 0 (omega arith)),
              count_none q (a + 1) n (λ k lt. let e : a + 1 + k ≡ a + suc k = omega arith in ap q e ∙ nothing (suc k) (omega arith)),
            )

    step : (0 < s) ⊎ (s ≤ 0) → (s < u) ⊎ (u ≤ s) → (1 ≤ s) × (s < u)
    step (inl low) (inl high) = (omega arith, high)
    step (inr low) high = absurd (never (λ k. nat_lt k 1) (lt-ltb s 1 (omega arith)) (λ k lt. le-ltb (1 + k) 1 (omega arith)))
    step (inl low) (inr high) = absurd (never (λ k. nat_le u k) (le-leb u s high) (λ k lt. lt-leb u (1 + k) (omega arith)))

-- two fusions by one seam are one
pub one_by_seam : (t u i k : ℕ) → IsShared t u → i < length (time_fusions u) → k < length (time_fusions u)
    → (get_or (time_fusions u) i no_fusion).seam ≡ (get_or (time_fusions u) k no_fusion).seam → i ≡ k
one_by_seam t u i k shared ilt klt same =
    once_by (λ (f : Fusion). f.seam == s) (time_fusions u) i k no_fusion
    (omega (
      arith,
      seams_once u (λ j. j == s) shared.positive,
      count_equal-le (range_with_len 1 (u - 1)) s (distinct_from_rising (range_with_len 1 (u - 1)) (range_rises 1 (u - 1))),
    ))
    ilt klt (eq-eqb (get_or (time_fusions u) i no_fusion).seam s same) (eq-eqb s s refl)
  where
    s : ℕ
    s = (get_or (time_fusions u) k no_fusion).seam

-- the first rounds tell the order of units
pub unit_order : (t u a b : ℕ) → IsShared t u → first_round t u a ≤ first_round t u b → a ≤ b
unit_order t u a b shared le = elim (cases_lt b a) [
  | inl above ↦ absurd (omega (arith, first_later t u b a shared above))
  | inr fine ↦ fine
]

pub unit_order_strict : (t u a b : ℕ) → IsShared t u → first_round t u a < first_round t u b → a < b
unit_order_strict t u a b shared less = elim (cases_lt a b) [
  | inl fine ↦ fine
  | inr below ↦ elim (cases_eq a b) [
    | inl same ↦ let e : first_round t u a ≡ first_round t u b = ap (first_round t u) same in absurd (omega arith)
    | inr other ↦ absurd (omega (arith, first_later t u b a shared (omega arith)))
  ]
]

round_of_claim : (d t u k x v : ℕ) (c : OwnedRange) → IsShared t u → x < d * (d + 1) → v ≡ k * (d * (d + 1)) + x
    → holds v c ≡ true → IsTimeClaim d t u c → IsRoundOf t u k c.node
round_of_claim d t u k x v c shared small is held (inl unit) =
    let low : c.start ≤ v = leb-true c.start v (and_parts (nat_le c.start v) (nat_lt v c.end) held).0 in
    let high : v < c.end = ltb-true v c.end (and_parts (nat_le c.start v) (nat_lt v c.end) held).1 in
    let between = in_rounds (first_round t u c.node) (first_round t u (c.node + 1) - 1) k (d * (d + 1)) x small
    (omega (arith, unit.start)) (omega (arith, unit.end)) in
    inl (record { node = unit.node; low = between.0; high = omega (arith, between.1) })
round_of_claim d t u k x v c shared small is held (inr seam) =
    let low : c.start ≤ v = leb-true c.start v (and_parts (nat_le c.start v) (nat_lt v c.end) held).0 in
    let high : v < c.end = ltb-true v c.end (and_parts (nat_le c.start v) (nat_lt v c.end) held).1 in
    let first : ℕ = first_round t u (get_or (time_fusions u) seam.place no_fusion).seam in
    let between = in_rounds (first - 1) first k (d * (d + 1)) x small (omega (arith, seam.start)) (omega (arith, seam.end)) in
    inr (record { place = seam.place; within = seam.within; node = seam.node; round = omega (arith, between.0, between.1) })

-- nodes of one round, or of two that follow on each other, lie one below the other
pub related : (d t u k m n o : ℕ) → IsShared t u → (m ≡ k) ⊎ (m ≡ k + 1) → IsRoundOf t u k n → IsRoundOf t u m o
    → (is_within (time_tree d t u) n o || is_within (time_tree d t u) o n) ≡ true
related d t u k m n o shared near (inl a) (inl b) =
    let later : n < o + 1 = unit_order_strict t u n (o + 1) shared (omega (arith, a.low, b.high, apart near)) in
    let earlier : o < n + 1 = unit_order_strict t u o (n + 1) shared (omega (arith, b.low, a.high, apart near)) in
    let same : n ≡ o = omega arith in
    or_left (is_within (time_tree d t u) n o) (is_within (time_tree d t u) o n)
    (subst (λ j. is_within (time_tree d t u) n j ≡ true) same
    (within_self (time_tree d t u) (time_tree_is_tree d t u shared) n (omega (arith, a.node))))
  where
    apart : (m ≡ k) ⊎ (m ≡ k + 1) → (k ≤ m) × (m ≤ k + 1)
    apart (inl same) = (omega arith, omega arith)
    apart (inr next) = (omega arith, omega arith)
related d t u k m n o shared near (inl a) (inr b) = step near
  where
    s : ℕ
    s = (get_or (time_fusions u) b.place no_fusion).seam

    step : (m ≡ k) ⊎ (m ≡ k + 1) → (is_within (time_tree d t u) n o || is_within (time_tree d t u) o n) ≡ true
    step (inl same) =
        let after : n < s = unit_order_strict t u n s shared (omega (arith, a.low, b.round)) in
        let before : s < n + 1 = unit_order_strict t u s (n + 1) shared (omega (arith, a.high, b.round)) in
        absurd (omega arith)
    step (inr next) =
        let after : n < s = unit_order_strict t u n s shared (omega (arith, a.low, b.round)) in
        let before : s ≤ n + 1 = unit_order t u s (n + 1) shared (omega (arith, a.high, b.round)) in
        let is : s - 1 ≡ n = omega arith in
        let at : u + b.place ≡ o = sym b.node in
        or_right (is_within (time_tree d t u) n o) (is_within (time_tree d t u) o n)
        (subst (λ j. is_within (time_tree d t u) o j ≡ true) is
        (subst (λ j. is_within (time_tree d t u) j (s - 1) ≡ true) at (fusion_is_between d t u b.place shared b.within).0))
related d t u k m n o shared near (inr a) (inl b) = step near
  where
    s : ℕ
    s = (get_or (time_fusions u) a.place no_fusion).seam

    step : (m ≡ k) ⊎ (m ≡ k + 1) → (is_within (time_tree d t u) n o || is_within (time_tree d t u) o n) ≡ true
    step (inl same) =
        let after : o < s = unit_order_strict t u o s shared (omega (arith, b.low, a.round)) in
        let before : s < o + 1 = unit_order_strict t u s (o + 1) shared (omega (arith, b.high, a.round)) in
        absurd (omega arith)
    step (inr next) =
        let after : o ≤ s = unit_order t u o s shared (omega (arith, b.low, a.round)) in
        let before : s < o + 1 = unit_order_strict t u s (o + 1) shared (omega (arith, b.high, a.round)) in
        let is : s ≡ o = omega arith in
        let at : u + a.place ≡ n = sym a.node in
        or_left (is_within (time_tree d t u) n o) (is_within (time_tree d t u) o n)
        (subst (λ j. is_within (time_tree d t u) n j ≡ true) is
        (subst (λ j. is_within (time_tree d t u) j s ≡ true) at (fusion_is_between d t u a.place shared a.within).1))
related d t u k m n o shared near (inr a) (inr b) = step near
  where
    s : ℕ
    s = (get_or (time_fusions u) a.place no_fusion).seam

    r : ℕ
    r = (get_or (time_fusions u) b.place no_fusion).seam

    step : (m ≡ k) ⊎ (m ≡ k + 1) → (is_within (time_tree d t u) n o || is_within (time_tree d t u) o n) ≡ true
    step (inl same) =
        let up : s ≤ r = unit_order t u s r shared (omega (arith, a.round, b.round)) in
        let down : r ≤ s = unit_order t u r s shared (omega (arith, a.round, b.round)) in
        let one : a.place ≡ b.place = one_by_seam t u a.place b.place shared a.within b.within (omega arith) in
        let is : n ≡ o = omega (arith, a.node, b.node) in
        or_left (is_within (time_tree d t u) n o) (is_within (time_tree d t u) o n)
        (subst (λ j. is_within (time_tree d t u) n j ≡ true) is
        (within_self (time_tree d t u) (time_tree_is_tree d t u shared) n
        (omega (arith, a.node, a.within, joins_length d t u))))
    step (inr next) =
        let up : s < r = unit_order_strict t u s r shared (omega (arith, a.round, b.round)) in
        absurd (omega (arith, a.round, b.round, first_later t u s r shared up))

-- the owner of a vertex has its round
owner_round : (d t u v k x m : ℕ) → IsShared t u → x < d * (d + 1) → v ≡ k * (d * (d + 1)) + x → v < vertex_count d t
    → owner_of (time_tree d t u) v ≡ Some m → IsRoundOf t u k m
owner_round d t u v k x m shared small is below owned =
    step (is_real_in (lattice_graph d t) v) (find (holds v) (time_claims d t u)) refl
    (sym (get_or-map-range_with_len (owner_in (lattice_graph d t) (time_claims d t u)) 0 (vertex_count d t) v v None below (omega arith)) ∙ owned)
  where
    step : (b : Bool) (o : Option OwnedRange) → find (holds v) (time_claims d t u) ≡ o
        → cond b (option_map (λ c. c.node) o) None ≡ Some m → IsRoundOf t u k m
    step true (Some c) e f =
        let same : c.node ≡ m = cc in
        let found = found_is (IsTimeClaim d t u) (holds v) (time_claims d t u) c (claims_known d t u) e in
        subst (IsRoundOf t u k) same (round_of_claim d t u k x v c shared small is found.1 found.0)
    step true None e f = cc
    step false o e f = cc

-- an edge within a round, or to the next one, joins vertices of related nodes
not_across : (d t u k m x y : ℕ) (e : Edge) → IsShared t u → (m ≡ k) ⊎ (m ≡ k + 1) → x < d * (d + 1) → y < d * (d + 1)
    → e.first ≡ k * (d * (d + 1)) + x → e.second ≡ m * (d * (d + 1)) + y → e.first < vertex_count d t → e.second < vertex_count d t
    → goes_across (time_tree d t u) e ≡ false
not_across d t u k m x y e shared near xs ys first second below under =
    step (owner_of (time_tree d t u) e.first) (owner_of (time_tree d t u) e.second) refl refl
  where
    step : (a b : Option ℕ) → owner_of (time_tree d t u) e.first ≡ a → owner_of (time_tree d t u) e.second ≡ b
        → are_unrelated (time_tree d t u) a b ≡ false
    step None b f g = refl
    step (Some n) None f g = refl
    step (Some n) (Some o) f g =
        ap not (related d t u k m n o shared near (owner_round d t u e.first k x n shared xs first below f)
        (owner_round d t u e.second m y o shared ys second under g))

place_below : (d r c : ℕ) → r < d → c < d + 1 → r * (d + 1) + c < d * (d + 1)
place_below d r c rd cd = omega (arith, mul-le-mul_right {m = r + 1} {n = d} (d + 1) (omega arith))

abbrev StaysWithin : ℕ → ℕ → ℕ → ℕ × ℕ × ℤ → Type 0
StaysWithin d t u e = goes_across (time_tree d t u) (edge_from e) ≡ false

edges_stay : (d t u k r c : ℕ) → IsShared t u → k < t → r < d → c < d + 1 → All (StaysWithin d t u) (edges_from d t k r c)
edges_stay d t u k r c shared kt rd cd =
    All-append P (entry_if is_right right ++ entry_if is_down down) (entry_if is_later later)
    (All-append P (entry_if is_right right) (entry_if is_down down)
    (All-entry_if P is_right right
    (λ b. let cc : c < d = ltb-true c d b in
    not_across d t u k k (r * (d + 1) + c) (r * (d + 1) + (c + 1)) (edge_from right) shared (inl refl) here
    (place_below d r (c + 1) rd (omega arith)) (omega arith) (omega arith) below (vertex_below d t k r (c + 1) kt rd (omega arith))))
    (All-entry_if P is_down down
    (λ b. let more : r + 1 < d = ltb-true (r + 1) d (and_parts (is_inner d c) _ b).1 in
    not_across d t u k k (r * (d + 1) + c) ((r + 1) * (d + 1) + c) (edge_from down) shared (inl refl) here
    (place_below d (r + 1) c more cd) (omega arith) (omega arith) below (vertex_below d t k (r + 1) c kt more cd))))
    (All-entry_if P is_later later
    (λ b. let more : k + 1 < t = ltb-true (k + 1) t (and_parts (is_inner d c) _ b).1 in
    not_across d t u k (k + 1) (r * (d + 1) + c) (r * (d + 1) + c) (edge_from later) shared (inr refl) here
    here (omega arith) (omega arith) below (vertex_below d t (k + 1) r c more rd cd)))
  where
    P : ℕ × ℕ × ℤ → Type 0
    P = StaysWithin d t u

    right : ℕ × ℕ × ℤ
    right = (vertex_at d k r c, vertex_at d k r (c + 1), weight_within)

    down : ℕ × ℕ × ℤ
    down = (vertex_at d k r c, vertex_at d k (r + 1) c, weight_within)

    later : ℕ × ℕ × ℤ
    later = (vertex_at d k r c, vertex_at d (k + 1) r c, weight_later)

    is_right : Bool
    is_right = nat_lt c d

    is_down : Bool
    is_down = is_inner d c && nat_lt (r + 1) d

    is_later : Bool
    is_later = is_inner d c && nat_lt (k + 1) t

    here : r * (d + 1) + c < d * (d + 1)
    here = place_below d r c rd cd

    below : vertex_at d k r c < vertex_count d t
    below = vertex_below d t k r c kt rd cd

pub no_edge_across : (d t u : ℕ) → IsShared t u → All (λ e. goes_across (time_tree d t u) e ≡ false) (lattice_graph d t).edges
unfolding lattice_edges
no_edge_across d t u shared =
    All-map (λ e. goes_across (time_tree d t u) e ≡ false) edge_from (lattice_edges d t)
    (All-pieces_below (StaysWithin d t u) (edges_of_round d t) t (λ k kt.
    All-pieces_below (StaysWithin d t u) (edges_of_row d t k) d (λ r rd.
    All-pieces_below (StaysWithin d t u) (edges_from d t k r) (d + 1) (λ c cd. edges_stay d t u k r c shared kt rd cd))))

-- three ranges that follow on each other
three_parts : (v a b c : ℕ) → a ≤ b → b ≤ c
    → as_count (nat_lt v a) + as_count (nat_le a v && nat_lt v b) + as_count (nat_le b v && nat_lt v c) ≡ as_count (nat_lt v c)
three_parts v a b c ab bc = elim (cases_lt v a) [
  | inl first ↦
      let vb : v < b = omega arith in
      let vc : v < c = omega arith in
      rw (lt-ltb v a first, lt-leb a v first, lt-leb b v vb, lt-ltb v c vc) refl
  | inr past ↦ elim (cases_lt v b) [
    | inl second ↦
        let vc : v < c = omega arith in
        rw (le-ltb v a past, le-leb a v past, lt-ltb v b second, lt-leb b v second, lt-ltb v c vc) refl
    | inr beyond ↦ rw (le-ltb v a past, le-leb a v past, le-ltb v b beyond, le-leb b v beyond) (last (nat_lt v c))
  ]
]
  where
    last : (x : Bool) → as_count false + as_count (true && false) + as_count (true && x) ≡ as_count x
    last true = refl
    last false = refl

-- one more of a range's numbers
count-range_push : (p : ℕ → Bool) (a n m : ℕ) → m ≡ a + n
    → count_by p (range_with_len a (suc n)) ≡ count_by p (range_with_len a n) + as_count (p m)
count-range_push p a n m is =
    rw is
    (ap (count_by p) (range_push a n)
    ∙ count-append p (range_with_len a n) ((a + n) ∷ [])
    ∙ ap (λ k. count_by p (range_with_len a n) + k) (count-cons p (a + n) [] ∙ add_nothing (as_count (p (a + n)))))
  where
    add_nothing : (k : ℕ) → k + 0 ≡ k
    add_nothing k = omega arith

-- the units up to number n, and the seams between them, have each vertex up to their end once
covered_up_to : (d t u v n : ℕ) → IsShared t u
    → count_by (λ j. lies_in v (unit_range d t u j)) (range_with_len 0 (suc n))
    + count_by (λ j. lies_in v (seam_range d t u j)) (range_with_len 1 n)
    ≡ as_count (nat_lt v ((first_round t u (suc n) - 1) * (d * (d + 1))))
covered_up_to d t u v zero shared =
    omega (arith, count-cons (λ j. lies_in v (unit_range d t u j)) 0 [], first)
  where
    first : as_count (lies_in v (unit_range d t u 0)) ≡ as_count (nat_lt v ((first_round t u (suc zero) - 1) * (d * (d + 1))))
    first = let none : 0 * (d * (d + 1)) ≤ v = omega arith in rw (le-leb (0 * (d * (d + 1))) v none) refl
covered_up_to d t u v (suc n) shared =
    let w : ℕ = d * (d + 1) in
    let units : ℕ → Bool = λ j. lies_in v (unit_range d t u j) in
    let seams : ℕ → Bool = λ j. lies_in v (seam_range d t u j) in
    let next : suc n + 1 ≡ suc (suc n) = omega arith in
    let gap : first_round t u (suc n) + 2 ≤ first_round t u (suc (suc n)) = first_later t u (suc n) (suc (suc n)) shared (omega arith) in
    omega (
      arith,
      count-range_push units 0 (suc n) (suc n) (omega arith),
      count-range_push seams 1 n (suc n) (omega arith),
      ap (λ m. as_count (nat_le (first_round t u (suc n) * w) v && nat_lt v ((first_round t u m - 1) * w))) next,
      covered_up_to d t u v n shared,
      three_parts v ((first_round t u (suc n) - 1) * w) (first_round t u (suc n) * w) ((first_round t u (suc (suc n)) - 1) * w)
          (mul-le-mul_right {m = first_round t u (suc n) - 1} {n = first_round t u (suc n)} w (omega arith))
          (mul-le-mul_right {m = first_round t u (suc n)} {n = first_round t u (suc (suc n)) - 1} w (omega arith)),
    )

-- each vertex lies in one range
pub covered_once : (d t u v : ℕ) → IsShared t u → v < vertex_count d t → count_by (holds v) (time_claims d t u) ≡ 1
covered_once d t zero v shared below = absurd (omega (arith, shared.positive))
covered_once d t (suc n) v shared below =
    let u : ℕ = suc n in
    let less : suc n - 1 ≡ n = omega arith in
    omega (
      arith,
      ap (count_by (holds v)) (time_claims_parts d t (suc n)),
      count-append (holds v) (claims_from 0 (map (λ j. unit_range d t (suc n) j ∷ []) (range_with_len 0 (suc n))))
          (claims_from (suc n) (map (λ f. seam_range d t (suc n) f.seam ∷ []) (time_fusions (suc n)))),
      count-singles v 0 (unit_range d t (suc n)) (range_with_len 0 (suc n)),
      count-singles v (suc n) (λ (f : Fusion). seam_range d t (suc n) f.seam) (time_fusions (suc n)),
      rw less at (seams_once (suc n) (λ j. lies_in v (seam_range d t (suc n) j)) shared.positive),
      covered_up_to d t (suc n) v n shared,
      ap as_count (lt-ltb v ((first_round t (suc n) (suc n) - 1) * (d * (d + 1))) inside),
    )
  where
    inside : v < (first_round t (suc n) (suc n) - 1) * (d * (d + 1))
    inside =
        let all : first_round t (suc n) (suc n) - 1 ≡ t = omega (arith, first_after_all t (suc n) shared) in
        rw all (omega arith)
