-- Closed marks that begin at the leaf of a defect are on all nodes that hold it.
use Rattle.std.proofs.Common.{◌≡◌, ◌≢◌, inl, inr, ℕ, zero, suc, ◌+◌, ◌<◌, ◌≤◌, ◌==◌, ◌||◌, Bool, true, false, List, [], ◌∷◌, ◌++◌, length, Option, Some, flat_map, refl, ◌∙◌, ap, arith}
use Rattle.std.proofs.lemmas.Bool.{both_ways, eq-eqb, eqb-true, or_cases, or_left, or_right}
use Rattle.std.proofs.lemmas.List.{length-append}
use Rattle.fb_links.specs.Lists.{is_in}
use Rattle.fb_links.specs.declared.cycle.CycleStep.{CycleStep}
use Rattle.fb_blossoms.specs.Nodes.{IsNested, IsOddCycle, Node, cycle_at, defects_at, defects_along, defects_of, is_on, leaf, node_at}
use Rattle.fb_blossoms.proofs.Nested.{one_in}
use Rattle.fb_blossoms.proofs.Children.{held_below}
use Rattle.fb_blossoms.proofs.Rounds.{cycle_kept}
use Rattle.fb_blossoms.proofs.Sizes.{length_some}
use Rattle.fb_resolve.specs.InternalMarks.{AreClosed, IsMarkedUp, is_marked}
use Rattle.fb_graph.proofs.Booleans.{same_bool}

-- lists that aren't empty are together at least as long as their number
all_long : (f : ℕ → List ℕ) (ss : List CycleStep) → ((x : ℕ) → is_on ss x ≡ true → f x ≢ [])
    → length ss ≤ length (flat_map (λ s. f s.node) ss)
all_long f [] some = omega arith
all_long f (s ∷ ss) some =
    let e : length (f s.node ++ flat_map (λ s. f s.node) ss) ≡ length (f s.node) + length (flat_map (λ s. f s.node) ss) =
    length-append (f s.node) (flat_map (λ s. f s.node) ss) in
    let here : 1 ≤ length (f s.node) =
    length_some (f s.node) (some s.node (or_left (s.node == s.node) (is_on ss s.node) (eq-eqb s.node s.node refl))) in
    let rest : length ss ≤ length (flat_map (λ s. f s.node) ss) =
    all_long f ss (λ x on. some x (or_right (s.node == x) (is_on ss x) on)) in
    omega arith

-- each of them is shorter than all together by the number of the others
shorter : (f : ℕ → List ℕ) (ss : List CycleStep) (y : ℕ) → ((x : ℕ) → is_on ss x ≡ true → f x ≢ []) → is_on ss y ≡ true
    → length (f y) + length ss ≤ length (flat_map (λ s. f s.node) ss) + 1
shorter f [] y some on = absurd (both_ways false refl on)
shorter f (s ∷ ss) y some on =
    let e : length (f s.node ++ flat_map (λ s. f s.node) ss) ≡ length (f s.node) + length (flat_map (λ s. f s.node) ss) =
    length-append (f s.node) (flat_map (λ s. f s.node) ss) in
    let later : (x : ℕ) → is_on ss x ≡ true → f x ≢ [] = λ x h. some x (or_right (s.node == x) (is_on ss x) h) in
    elim (or_cases (s.node == y) (is_on ss y) on) [
      | inl here ↦
          let same : length (f s.node) ≡ length (f y) = ap (λ z. length (f z)) (eqb-true s.node y here) in
          let rest : length ss ≤ length (flat_map (λ s. f s.node) ss) = all_long f ss later in
          omega arith
      | inr there ↦
          let one : 1 ≤ length (f s.node) =
          length_some (f s.node) (some s.node (or_left (s.node == s.node) (is_on ss s.node) (eq-eqb s.node s.node refl))) in
          let rest : length (f y) + length ss ≤ length (flat_map (λ s. f s.node) ss) + 1 = shorter f ss y later there in
          omega arith
    ]

child_shorter : (store : List (Option Node)) (x y : ℕ) → IsNested store → is_on (cycle_at store x) y ≡ true
    → length (defects_at store y) < length (defects_at store x)
child_shorter store x y nested on =
    let kept : IsOddCycle store (cycle_at store x) × (defects_at store x ≡ defects_along store (cycle_at store x)) =
    cycle_kept store nested x y on in
    let less : length (defects_at store y) + length (cycle_at store x) ≤ length (defects_along store (cycle_at store x)) + 1 =
    shorter (defects_at store) (cycle_at store x) y (λ z h. nested.holding z (kept.0.live z h)) on in
    let same : length (defects_at store x) ≡ length (defects_along store (cycle_at store x)) = ap length kept.1 in
    let three : 3 ≤ length (cycle_at store x) = kept.0.three in
    omega arith

none_held : (xs : List ℕ) (d : ℕ) → length xs ≤ 0 → is_in xs d ≡ true → ⊥
none_held [] d less h = both_ways false refl h
none_held (x ∷ xs) d less h = absurd (omega arith)

pub holders_marked : (store : List (Option Node)) (marks : List Bool) (l d : ℕ) → IsNested store → AreClosed store marks
    → node_at store l ≡ Some (leaf d) → is_marked marks l ≡ true
    → (size x : ℕ) → length (defects_at store x) ≤ size → is_in (defects_at store x) d ≡ true → is_marked marks x ≡ true
holders_marked store marks l d nested closed leaf_is marked zero x less h = absurd (none_held (defects_at store x) d less h)
holders_marked store marks l d nested closed leaf_is marked (suc size) x less h =
    elim (held_below store x d nested h) [
      | inl e ↦ ap (is_marked marks) (nested.leaves x l d e leaf_is) ∙ marked
      | inr r ↦
          let smaller : length (defects_at store r.0) < length (defects_at store x) = child_shorter store x r.0 nested r.1 in
          closed x r.0 r.1
          (holders_marked store marks l d nested closed leaf_is marked size r.0 (omega (arith, smaller, less)) r.2)
    ]

-- So with the nodes from a leaf up just those are marked that hold its defect.
pub marks_up : (store : List (Option Node)) (old new : List Bool) (l d x : ℕ) → IsNested store
    → node_at store l ≡ Some (leaf d) → IsMarkedUp store old new l
    → is_marked new x ≡ (is_marked old x || is_in (defects_at store x) d)
marks_up store old new l d x nested leaf_is up = same_bool (is_marked new x) (is_marked old x || is_in (defects_at store x) d) there back
  where
    held : is_in (defects_at store l) d ≡ true
    held = ap (λ o. is_in (defects_of o) d) leaf_is ∙ one_in d

    there : is_marked new x ≡ true → (is_marked old x || is_in (defects_at store x) d) ≡ true
    there h = elim (up.only x h) [
      | inl m ↦ or_left (is_marked old x) (is_in (defects_at store x) d) m
      | inr within ↦ or_right (is_marked old x) (is_in (defects_at store x) d) (within d held)
    ]

    back : (is_marked old x || is_in (defects_at store x) d) ≡ true → is_marked new x ≡ true
    back h = elim (or_cases (is_marked old x) (is_in (defects_at store x) d) h) [
      | inl m ↦ up.kept x m
      | inr holds ↦ holders_marked store new l d nested up.closed leaf_is up.marked (length (defects_at store x)) x (omega arith) holds
    ]
