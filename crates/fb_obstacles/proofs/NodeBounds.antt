-- Bounds of nodes, and the due times that they are kept as.
use Rattle.std.proofs.Common.{ℕ, ◌≡◌, ◌+◌, ◌-◌, ◌*◌, ◌≤◌, ◌<◌, ◌==◌, ◌&&◌, ◌||◌, ◌⊎◌, inl, inr, Bool, true, false, List, [], ◌∷◌, All, length, get_or, min, nat_le, refl, sym, ap, ◌∙◌, subst, arith}
use Rattle.std.proofs.Math.Nat.{min-eq_left, min-eq_right}
use Rattle.std.proofs.Math.Bool.{or-true}
use Rattle.std.proofs.lemmas.Bool.{and_from, and_parts, cases_lt, eq-eqb, eqb-true, false≢true, le-leb, leb-true}
use Rattle.std.proofs.lemmas.List.{get_or-map, get_or_default}
use Rattle.std.proofs.lemmas.List.Elements.{All-head, All-tail}
use Rattle.fb_obstacles.specs.InternalQueue.{IsFirst, KeepsOthers, is_due, no_due}
use Rattle.fb_obstacles.specs.InternalWatch.{node_bounds}
use Rattle.fb_obstacles.specs.InternalWatching.{IsFirstNode, KeepsBounds, lowered_bounds, no_node}
use Rattle.fb_obstacles.specs.Watched.{NodeBound, has_bound}
use Rattle.fb_obstacles.specs.declared.queue.Due.{Due}

-- lowered by as much again
pub nodes_lowered : (due : List Due) (a b c m : ℕ) → All (λ d. d.growth < m) due → c ≡ min (a + b) (m - 1)
    → node_bounds due c ≡ lowered_bounds b (node_bounds due a)
nodes_lowered [] a b c m small amount = refl
nodes_lowered (d ∷ ds) a b c m small amount =
    λ j. record { name = d.number; bound = head (cases_lt (a + b) m) j }
    ∷ nodes_lowered ds a b c m (All-tail (λ e. e.growth < m) d ds small) amount j
  where
    first : d.growth < m
    first = All-head (λ e. e.growth < m) d ds small

    head : (a + b < m) ⊎ (m ≤ a + b) → d.growth - c ≡ d.growth - a - b
    head (inl few) = omega (arith, amount, min-eq_left {n = a + b} {m = m - 1} (omega (arith, few)))
    head (inr many) = omega (arith, first, many, amount, min-eq_right {n = m - 1} {m = a + b} (omega (arith, many)))

-- a node is watched with a bound where it is due
pub due_bound : (due : List Due) (lowered growth name limit : ℕ) → is_due due growth name ≡ true → growth ≤ limit + lowered
    → has_bound (node_bounds due lowered) name limit ≡ true
due_bound [] lowered growth name limit is most = absurd (false≢true is)
due_bound (d ∷ ds) lowered growth name limit is most =
    step ((d.growth == growth) && (d.number == name)) refl is (λ h. due_bound ds lowered growth name limit h most)
  where
    rest : Bool
    rest = has_bound (node_bounds ds lowered) name limit

    step : (b : Bool) → ((d.growth == growth) && (d.number == name)) ≡ b → (b || is_due ds growth name) ≡ true
        → (is_due ds growth name ≡ true → rest ≡ true) → (((d.number == name) && nat_le (d.growth - lowered) limit) || rest) ≡ true
    step true here any later =
        let both = and_parts (d.growth == growth) (d.number == name) here in
        ap (λ b. b || rest)
        (and_from (d.number == name) (nat_le (d.growth - lowered) limit) both.1
        (le-leb (d.growth - lowered) limit (omega (arith, most, eqb-true d.growth growth both.0))))
    step false other any later =
        ap (λ b. ((d.number == name) && nat_le (d.growth - lowered) limit) || b) (later any)
        ∙ or-true ((d.number == name) && nat_le (d.growth - lowered) limit)

-- and due where it is watched
pub bound_due : (due : List Due) (lowered name limit : ℕ) → has_bound (node_bounds due lowered) name limit ≡ true
    → (growth : ℕ) × (is_due due growth name ≡ true) × (growth ≤ limit + lowered)
bound_due [] lowered name limit is = absurd (false≢true is)
bound_due (d ∷ ds) lowered name limit is =
    step ((d.number == name) && nat_le (d.growth - lowered) limit) refl is (bound_due ds lowered name limit)
  where
    step : (b : Bool) → ((d.number == name) && nat_le (d.growth - lowered) limit) ≡ b
        → (b || has_bound (node_bounds ds lowered) name limit) ≡ true
        → (has_bound (node_bounds ds lowered) name limit ≡ true
        → (growth : ℕ) × (is_due ds growth name ≡ true) × (growth ≤ limit + lowered))
        → (growth : ℕ) × ((((d.growth == growth) && (d.number == name)) || is_due ds growth name) ≡ true) × (growth ≤ limit + lowered)
    step true here any later =
        let both = and_parts (d.number == name) (nat_le (d.growth - lowered) limit) here in (
          d.growth,
          ap (λ b. b || is_due ds d.growth name)
              (and_from (d.growth == d.growth) (d.number == name) (eq-eqb d.growth d.growth refl) both.0),
          omega (arith, leb-true (d.growth - lowered) limit both.1),
        )
    step false other any later =
        let (growth, is, most) = later any in (
          growth,
          ap (λ b. ((d.growth == growth) && (d.number == name)) || b) is ∙ or-true ((d.growth == growth) && (d.number == name)),
          most,
        )

-- bounds stay where due times do
pub bounds_kept : (old new : List Due) (lowered : ℕ) → ((v k : ℕ) → is_due old v k ≡ true → is_due new v k ≡ true)
    → (name limit : ℕ) → has_bound (node_bounds old lowered) name limit ≡ true → has_bound (node_bounds new lowered) name limit ≡ true
bounds_kept old new lowered kept name limit is =
    let (growth, due, most) = bound_due old lowered name limit is in
    due_bound new lowered growth name limit (kept growth name due) most

-- the first of the due times is that of the first node
pub first_due : (due : List Due) → 0 < length due → IsFirst due (get_or due 0 no_due)
first_due due some = (some, get_or_default due 0 (get_or due 0 no_due) no_due some)

length_bounds : (due : List Due) (lowered : ℕ) → length (node_bounds due lowered) ≡ length due
length_bounds [] lowered = refl
length_bounds (d ∷ ds) lowered = omega (arith, length_bounds ds lowered)

pub node_in : (due : List Due) (lowered place : ℕ) → place < length (node_bounds due lowered) → place < length due
node_in due lowered place less = omega (arith, less, length_bounds due lowered)

pub due_in : (due : List Due) (lowered place : ℕ) → place < length due → place < length (node_bounds due lowered)
due_in due lowered place less = omega (arith, less, length_bounds due lowered)

pub count_bounds : (due : List Due) (lowered : ℕ) → length due ≡ length (node_bounds due lowered)
count_bounds due lowered = sym (length_bounds due lowered)

pub number_at : (due : List Due) (lowered place : ℕ) → place < length due
    → (get_or due place no_due).number ≡ (get_or (node_bounds due lowered) place no_node).name
number_at due lowered place less =
    sym
    (ap (λ (n : NodeBound). n.name)
    (get_or-map (λ (d : Due). record { name = d.number; bound = d.growth - lowered }) due place no_due no_node less))

pub node_first : (due : List Due) (lowered : ℕ) (first : Due) → IsFirst due first → IsFirstNode (node_bounds due lowered) first.number
node_first due lowered first is = (
  due_in due lowered 0 is.0,
  sym (number_at due lowered 0 is.0) ∙ ap (λ (d : Due). d.number) (get_or_default due 0 no_due first is.0 ∙ is.1),
)

-- the bounds of other nodes stay where their due times do
pub others_kept : (old new : List Due) (lowered : ℕ) → ((first : Due) → IsFirst old first → KeepsOthers first.number old new)
    → (name : ℕ) → IsFirstNode (node_bounds old lowered) name
    → KeepsBounds name (node_bounds old lowered) (node_bounds new lowered)
others_kept old new lowered kept name is other limit apart bound =
    let some : 0 < length old = node_in old lowered 0 is.0 in
    let (growth, due, most) = bound_due old lowered other limit bound in
    due_bound new lowered growth other limit
    (kept (get_or old 0 no_due) (first_due old some) growth other
    (λ same. apart (same ∙ (number_at old lowered 0 some ∙ is.1))) due) most

-- the first has another bound
pub first_raised : (old new : List Due) (lowered growth limit : ℕ)
    → ((first : Due) → IsFirst old first → is_due new growth first.number ≡ true) → growth ≤ limit + lowered
    → (name : ℕ) → IsFirstNode (node_bounds old lowered) name → has_bound (node_bounds new lowered) name limit ≡ true
first_raised old new lowered growth limit added most name is =
    let some : 0 < length old = node_in old lowered 0 is.0 in
    due_bound new lowered growth name limit
    (subst (λ k. is_due new growth k ≡ true) (number_at old lowered 0 some ∙ is.1)
    (added (get_or old 0 no_due) (first_due old some))) most

-- no bound is below the first
pub first_least : (due : List Due) (lowered least value : ℕ) → ((v k : ℕ) → is_due due v k ≡ true → least ≤ v)
    → 2 * value + lowered ≤ least → (name limit : ℕ) → has_bound (node_bounds due lowered) name limit ≡ true → 2 * value ≤ limit
first_least due lowered least value first most name limit bound =
    let (growth, due, low) = bound_due due lowered name limit bound in
    omega (arith, first growth name due, low, most)

-- no due time, no node
pub none_due : (due : List Due) (lowered : ℕ) → due ≡ [] → node_bounds due lowered ≡ []
none_due due lowered none = ap (λ d. node_bounds d lowered) none
