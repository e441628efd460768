-- What the fusions of all levels are: so many, each of two earlier nodes that no other fusion names, by each seam once.
use Rattle.std.proofs.Common.{◌≡◌, ℕ, zero, suc, ◌+◌, ◌-◌, ◌<◌, ◌≤◌, inl, inr, Bool, true, ◌==◌, List, [], ◌∷◌, ◌++◌, length, map, get_or, count_by, All, refl, ap, arith, length-append}
use Rattle.std.specs.List.{range_with_len}
use Rattle.std.proofs.lemmas.Bool.{cases_lt}
use Rattle.std.proofs.lemmas.List.{length-map, get_or_append_left, get_or-append_right}
use Rattle.std.proofs.lemmas.List.Elements.{All-nil, All-cons, All-head, All-tail, All-map}
use Rattle.std.proofs.lemmas.List.FromFn.{length-range_with_len}
use Rattle.std.proofs.lemmas.List.Sums.{sum_by-cons, sum_by-append}
use Rattle.fb_graph.proofs.Sets.{count_equal-le, distinct_from_rising, range_rises, range_below}
use Rattle.fb_gen.specs.TimePlan.{no_fusion, first_level, fusions_of_level, level_above, fusions_from, time_fusions}
use Rattle.fb_gen.specs.declared.levels.Part.{Part}
use Rattle.fb_gen.specs.declared.levels.Fusion.{Fusion}
use Rattle.fb_gen.proofs.Pairings.{length-level}
use Rattle.fb_plan.proofs.Sorting.{range_split}
use Rattle.fb_graph.specs.Counts.{as_count}

pub count-cons : {X : Type 0} (p : X → Bool) (x : X) (xs : List X) → count_by p (x ∷ xs) ≡ as_count (p x) + count_by p xs
count-cons p x xs = sum_by-cons (λ y. as_count (p y)) x xs

pub count-append : {X : Type 0} (p : X → Bool) (xs ys : List X) → count_by p (xs ++ ys) ≡ count_by p xs + count_by p ys
count-append p xs ys = sum_by-append (λ y. as_count (p y)) xs ys

pub count-map : {X Y : Type 0} (p : Y → Bool) (f : X → Y) (xs : List X) → count_by p (map f xs) ≡ count_by (λ x. p (f x)) xs
count-map p f [] = refl
count-map p f (x ∷ xs) =
    omega (arith, count-cons p (f x) (map f xs), count-cons (λ y. p (f y)) x xs, count-map p f xs)

-- an element that passes is counted
pub count_at : {X : Type 0} (p : X → Bool) (xs : List X) (i : ℕ) (d : X) → i < length xs → p (get_or xs i d) ≡ true
    → 1 ≤ count_by p xs
count_at p [] i d less here = absurd (omega arith)
count_at p (x ∷ xs) zero d less here = omega (arith, count-cons p x xs, ap as_count here)
count_at p (x ∷ xs) (suc i) d less here = omega (arith, count-cons p x xs, count_at p xs i d (omega arith) here)

-- where at most one element passes, two places that pass are one
pub once_by : {X : Type 0} (p : X → Bool) (xs : List X) (i k : ℕ) (d : X) → count_by p xs ≤ 1 → i < length xs → k < length xs
    → p (get_or xs i d) ≡ true → p (get_or xs k d) ≡ true → i ≡ k
once_by p [] i k d once ilt klt here there = absurd (omega arith)
once_by p (x ∷ xs) zero zero d once ilt klt here there = refl
once_by p (x ∷ xs) zero (suc k) d once ilt klt here there =
    absurd (omega (arith, once, count-cons p x xs, ap as_count here, count_at p xs k d (omega arith) there))
once_by p (x ∷ xs) (suc i) zero d once ilt klt here there =
    absurd (omega (arith, once, count-cons p x xs, ap as_count there, count_at p xs i d (omega arith) here))
once_by p (x ∷ xs) (suc i) (suc k) d once ilt klt here there =
    ap (λ n. suc n) (once_by p xs i k d (omega (arith, once, count-cons p x xs)) (omega arith) (omega arith) here there)

-- what is left of a level after so many levels
abbrev pub top_of : ℕ → ℕ → List Part → List Part
top_of zero next level = level
top_of (suc levels) next level = top_of levels (next + length (fusions_of_level level)) (level_above next level)

pub lengths_of_all : (levels next : ℕ) (level : List Part)
    → length (fusions_from levels next level) + length (top_of levels next level) ≡ length level
lengths_of_all zero next level = omega arith
lengths_of_all (suc levels) next level =
    omega (
      arith,
      length-append (fusions_of_level level) (fusions_from levels (next + length (fusions_of_level level)) (level_above next level)),
      length-level next level,
      lengths_of_all levels (next + length (fusions_of_level level)) (level_above next level),
    )

-- at the top stands one node, with the first seam of the level
pub top_is_one : (levels next : ℕ) (a : Part) (rest : List Part) → length (a ∷ rest) ≤ suc levels
    → (n : ℕ) × (top_of levels next (a ∷ rest) ≡ record { seam = a.seam; node = n } ∷ [])
top_is_one zero next a [] few = (a.node, refl)
top_is_one zero next a (b ∷ more) few = absurd (omega (arith, few))
top_is_one (suc levels) next a [] few = top_is_one levels (next + 0) a [] (omega arith)
top_is_one (suc levels) next a (b ∷ more) few =
    top_is_one levels (next + length (fusions_of_level (a ∷ b ∷ more))) (record { seam = a.seam; node = next })
    (level_above (next + 1) more) (omega (arith, few, length-level (next + 1) more))

-- Each seam of a level is that of a fusion or stays in the level above.
seams_of_level : (p : ℕ → Bool) (next : ℕ) (level : List Part)
    → count_by (λ x. p x.seam) level
    ≡ count_by (λ f. p f.seam) (fusions_of_level level) + count_by (λ x. p x.seam) (level_above next level)
seams_of_level p next [] = refl
seams_of_level p next (a ∷ []) = omega arith
seams_of_level p next (a ∷ b ∷ more) =
    let fusion : Fusion = record { left = a.node; right = b.node; seam = b.seam } in
    let part : Part = record { seam = a.seam; node = next } in
    omega (
      arith,
      count-cons (λ (x : Part). p x.seam) a (b ∷ more),
      count-cons (λ (x : Part). p x.seam) b more,
      count-cons (λ (f : Fusion). p f.seam) fusion (fusions_of_level more),
      count-cons (λ (x : Part). p x.seam) part (level_above (next + 1) more),
      seams_of_level p (next + 1) more,
    )

seams_of_all : (p : ℕ → Bool) (levels next : ℕ) (level : List Part)
    → count_by (λ x. p x.seam) level
    ≡ count_by (λ f. p f.seam) (fusions_from levels next level) + count_by (λ x. p x.seam) (top_of levels next level)
seams_of_all p zero next level = omega arith
seams_of_all p (suc levels) next level =
    omega (
      arith,
      count-append (λ (f : Fusion). p f.seam) (fusions_of_level level) (fusions_from levels (next + length (fusions_of_level level)) (level_above next level)),
      seams_of_level p next level,
      seams_of_all p levels (next + length (fusions_of_level level)) (level_above next level),
    )

-- how often fusions name a node
abbrev pub uses_of : ℕ → List Fusion → ℕ
uses_of x fusions = count_by (λ f. f.left == x) fusions + count_by (λ f. f.right == x) fusions

-- Each node of a level, and each that is made of it, is named by a fusion or stays in the level above.
nodes_of_level : (x next : ℕ) (level : List Part)
    → count_by (λ n. n.node == x) level + count_by (λ k. k == x) (range_with_len next (length (fusions_of_level level)))
    ≡ uses_of x (fusions_of_level level) + count_by (λ n. n.node == x) (level_above next level)
nodes_of_level x next [] = refl
nodes_of_level x next (a ∷ []) = omega arith
nodes_of_level x next (a ∷ b ∷ more) =
    let fusion : Fusion = record { left = a.node; right = b.node; seam = b.seam } in
    let part : Part = record { seam = a.seam; node = next } in
    omega (
      arith,
      count-cons (λ (n : Part). n.node == x) a (b ∷ more),
      count-cons (λ (n : Part). n.node == x) b more,
      count-cons (λ k. k == x) next (range_with_len (next + 1) (length (fusions_of_level more))),
      count-cons (λ (f : Fusion). f.left == x) fusion (fusions_of_level more),
      count-cons (λ (f : Fusion). f.right == x) fusion (fusions_of_level more),
      count-cons (λ (n : Part). n.node == x) part (level_above (next + 1) more),
      nodes_of_level x (next + 1) more,
    )

uses_of_all : (x levels next : ℕ) (level : List Part)
    → uses_of x (fusions_from levels next level)
    ≤ count_by (λ n. n.node == x) level
    + count_by (λ k. k == x) (range_with_len next (length (fusions_from levels next level)))
uses_of_all x zero next level = omega arith
uses_of_all x (suc levels) next level =
    let here : List Fusion = fusions_of_level level in
    let above : List Part = level_above next level in
    let rest : List Fusion = fusions_from levels (next + length here) above in
    rw (length-append here rest, range_split next (length here) (length rest))
    (omega (
      arith,
      count-append (λ (f : Fusion). f.left == x) here rest,
      count-append (λ (f : Fusion). f.right == x) here rest,
      count-append (λ k. k == x) (range_with_len next (length here)) (range_with_len (next + length here) (length rest)),
      nodes_of_level x next level,
      uses_of_all x levels (next + length here) above,
    ))

-- two nodes below a bound
abbrev pub IsOfBelow : ℕ → Fusion → Type 0
IsOfBelow n f = (f.left < n) × (f.right < n)

below_of_level : (m next : ℕ) (level : List Part) → m ≤ next → All (λ x. x.node < m) level
    → All (IsOfBelow m) (fusions_of_level level)
    × All (λ x. x.node < next + length (fusions_of_level level)) (level_above next level)
below_of_level m next [] le all = (All-nil (IsOfBelow m), All-nil (λ (x : Part). x.node < next + 0))
below_of_level m next (a ∷ []) le all =
    let here : a.node < m = All-head (λ (x : Part). x.node < m) a [] all in (
      All-nil (IsOfBelow m),
      All-cons (λ (x : Part). x.node < next + 0) a [] (omega arith) (All-nil (λ (x : Part). x.node < next + 0)),
    )
below_of_level m next (a ∷ b ∷ more) le all =
    let tail = All-tail (λ (x : Part). x.node < m) a (b ∷ more) all in
    let rest = below_of_level m (next + 1) more (omega arith) (All-tail (λ (x : Part). x.node < m) b more tail) in (
      All-cons (IsOfBelow m) (record { left = a.node; right = b.node; seam = b.seam }) (fusions_of_level more)
          (All-head (λ (x : Part). x.node < m) a (b ∷ more) all, All-head (λ (x : Part). x.node < m) b more tail) rest.0,
      All-cons (λ (x : Part). x.node < next + suc (length (fusions_of_level more))) (record { seam = a.seam; node = next })
          (level_above (next + 1) more) (omega arith) (λ k d lt. omega (arith, rest.1 k d lt)),
    )

pub below_of_all : (levels next : ℕ) (level : List Part) → All (λ x. x.node < next) level
    → (i : ℕ) → i < length (fusions_from levels next level)
    → IsOfBelow (next + i) (get_or (fusions_from levels next level) i no_fusion)
below_of_all zero next level all i less = absurd (omega arith)
below_of_all (suc levels) next level all i less =
    elim (cases_lt i (length here)) [
      | inl early ↦
          let it : IsOfBelow next (get_or here i no_fusion) = step.0 i no_fusion early in
          rw (get_or_append_left here rest no_fusion i early) (omega (arith, it.0), omega (arith, it.1))
      | inr late ↦
          let it : IsOfBelow (next + length here + (i - length here)) (get_or rest (i - length here) no_fusion) =
          below_of_all levels (next + length here) (level_above next level) step.1 (i - length here)
          (omega (arith, length-append here rest)) in
          rw (get_or-append_right here rest (length here) i no_fusion refl late) (omega (arith, it.0), omega (arith, it.1))
    ]
  where
    here : List Fusion
    here = fusions_of_level level

    rest : List Fusion
    rest = fusions_from levels (next + length here) (level_above next level)

    step : All (IsOfBelow next) here × All (λ x. x.node < next + length here) (level_above next level)
    step = below_of_level next next level (omega arith) all

first_below : (units : ℕ) → All (λ x. x.node < units) (first_level units)
first_below units =
    All-map (λ (x : Part). x.node < units) (λ j. record { seam = j; node = j }) (range_with_len 0 units) (range_below units)

-- as many fusions as seams
pub length-fusions : (units : ℕ) → 1 ≤ units → length (time_fusions units) + 1 ≡ units
unfolding time_fusions
length-fusions zero positive = absurd (omega arith)
length-fusions (suc n) positive =
    let top = top_is_one (suc n) (suc n) (record { seam = 0; node = 0 }) (map (λ j. record { seam = j; node = j }) (range_with_len 1 n))
    (omega (arith, length-map (range_with_len 1 n) (λ j. let part : Part = record { seam = j; node = j } in part), length-range_with_len 1 n)) in
    omega (
      arith,
      lengths_of_all (suc n) (suc n) (first_level (suc n)),
      ap length top.1,
      length-map (range_with_len 1 n) (λ j. let part : Part = record { seam = j; node = j } in part),
      length-range_with_len 1 n,
    )

-- both nodes of a fusion come before it
pub fusion_is_later : (units i : ℕ) → i < length (time_fusions units) → IsOfBelow (units + i) (get_or (time_fusions units) i no_fusion)
unfolding time_fusions
fusion_is_later units i less = below_of_all units units (first_level units) (first_below units) i less

-- no node is named twice
pub uses_once : (units x : ℕ) → uses_of x (time_fusions units) ≤ 1
unfolding time_fusions
uses_once units x =
    let all : List ℕ = range_with_len 0 (units + length (time_fusions units)) in
    let start : 0 + units ≡ units = omega arith in
    omega (
      arith,
      uses_of_all x units units (first_level units),
      count-map {X = ℕ} {Y = Part} (λ n. n.node == x) (λ j. record { seam = j; node = j }) (range_with_len 0 units),
      count-append (λ k. k == x) (range_with_len 0 units) (range_with_len (0 + units) (length (time_fusions units))),
      ap (λ a. count_by (λ k. k == x) (range_with_len a (length (time_fusions units)))) start,
      ap (λ xs. count_by (λ k. k == x) xs) (range_split 0 units (length (time_fusions units))),
      count_equal-le all x (distinct_from_rising all (range_rises 0 (units + length (time_fusions units)))),
    )

-- each seam but that before the first unit is one fusion's
pub seams_once : (units : ℕ) (p : ℕ → Bool) → 1 ≤ units
    → count_by p (range_with_len 1 (units - 1)) ≡ count_by (λ f. p f.seam) (time_fusions units)
unfolding time_fusions
seams_once zero p positive = absurd (omega arith)
seams_once (suc n) p positive =
    let part : ℕ → Part = λ j. record { seam = j; node = j } in
    let top = top_is_one (suc n) (suc n) (part 0) (map part (range_with_len 1 n))
    (omega (arith, length-map (range_with_len 1 n) part, length-range_with_len 1 n)) in
    let less : suc n - 1 ≡ n = omega arith in
    rw less
    (omega (
      arith,
      seams_of_all p (suc n) (suc n) (first_level (suc n)),
      ap (λ xs. count_by (λ (x : Part). p x.seam) xs) top.1,
      count-cons (λ (x : Part). p x.seam) (record { seam = 0; node = top.0 }) [],
      count-cons (λ (x : Part). p x.seam) (part 0) (map part (range_with_len 1 n)),
      count-map (λ (x : Part). p x.seam) part (range_with_len 1 n),
    ))
