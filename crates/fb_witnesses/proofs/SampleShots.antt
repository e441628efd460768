-- Shots of a line and of a single edge that change weights and their signs.
use Rattle.std.proofs.Common.{ℕ, zero, suc, ◌≡◌, ◌%◌, ◌≤◌, ◌<◌, ◌==◌, ◌||◌, inl, Bool, true, false, not, [], ◌∷◌, Some, None, refl, sym, ◌∙◌, ltb, arith}
use Rattle.std.specs.Prelude.{pos, neg_ℤ}
use Rattle.std.proofs.lemmas.Bool.{and_parts, eqb-true, false≢true, ltb-true}
use Rattle.std.proofs.lemmas.List.Elements.{All-from_recursion}
use Rattle.fb_graph.specs.Answers.{IsBest}
use Rattle.fb_graph.specs.Certificate.{IsCertified, IsPacking, IsOddCut, IsPrintedCut}
use Rattle.fb_graph.specs.Components.{IsFirstOdd, IsJoined}
use Rattle.fb_graph.specs.Laws.{IsClosedRound}
use Rattle.fb_graph.specs.Limits.{IsChange, IsEdge, HasWeight, IsGraph, IsShot, is_real_in, most_weight}
use Rattle.fb_graph.specs.Parity.{differ, is_in, is_odd_count}
use Rattle.fb_graph.specs.Problem.{Flips, Problem, crosses, edge_at, touches}
use Rattle.fb_graph.specs.ShotGraphs.{shot_problem}
use Rattle.fb_graph.specs.Signs.{IsUnshifted, solved_problem}
use Rattle.fb_graph.proofs.OddComponents.{least_is_first_odd}
use Rattle.fb_graph.proofs.Sets.{rising-one, rising-cons}
use Rattle.fb_graph.proofs.ShiftedRows.{best_has_no_odd, unshifted_is_best}
use Rattle.fb_witnesses.specs.InternalSamples.{edge}
use Rattle.fb_witnesses.specs.ShotWitnesses.{OddShotWitness, ShotWitness, lone_edge, odd_shot, signed_line, turning_cuts, turning_shot}
use Rattle.fb_witnesses.proofs.ByCases.{below_by_cases, fits_by_cases}
use Rattle.fb_witnesses.proofs.SampleParts.{of_two}
use Rattle.fb_witnesses.proofs.SampleStates.{odd_cut, of_one}

an_edge : (n u v w : ℕ) → u < n → v < n → (u ≡ v → ⊥) → w % 2 ≡ 0 → w ≤ most_weight → IsEdge n (edge u v w)
an_edge n u v w first second loopless even light =
    record { first = first; second = second; loopless = loopless; even = even; light = light }

pub line_is_graph : IsGraph signed_line
line_is_graph = record {
  vertices = omega arith;
  edges = omega arith;
  each_edge =
      All-from_recursion (IsEdge 5) signed_line.edges (
        an_edge 5 0 1 2 (omega arith) (omega arith) (λ e. omega (arith, e)) refl (omega arith),
        (
          an_edge 5 1 2 4 (omega arith) (omega arith) (λ e. omega (arith, e)) refl (omega arith),
          (
            an_edge 5 2 3 2 (omega arith) (omega arith) (λ e. omega (arith, e)) refl (omega arith),
            (an_edge 5 3 4 4 (omega arith) (omega arith) (λ e. omega (arith, e)) refl (omega arith), tt),
          ),
        ),
      );
  negatives =
      All-from_recursion (HasWeight signed_line.edges) (1 ∷ []) (record { within = omega arith; heavy = omega arith }, tt);
  negatives_rising = rising-one 1;
  virtuals = below_by_cases 5 (0 ∷ 4 ∷ []) refl;
  rising = rising-cons 0 4 [] (omega arith) (rising-one 4);
}

pub shot_is_of_line : IsShot signed_line turning_shot
shot_is_of_line = record {
  rising = rising-one 2;
  real = All-from_recursion (λ v. is_real_in signed_line v ≡ true) (2 ∷ []) (refl, tt);
  changes = record {
    rising = rising-cons 1 2 [] (omega arith) (rising-one 2);
    each =
        All-from_recursion (IsChange 4) turning_shot.changes (
          record { within = omega arith; even = refl; light = omega arith },
          (record { within = omega arith; even = refl; light = omega arith }, tt),
        );
  };
  turned = refl;
}

-- the line's real vertices, one after another
pub of_line : (P : ℕ → Type 0) → P 1 → P 2 → P 3 → (v : ℕ) → is_real_in signed_line v ≡ true → P v
of_line P first second third zero e = absurd (false≢true e)
of_line P first second third (suc zero) e = first
of_line P first second third (suc (suc zero)) e = second
of_line P first second third (suc (suc (suc zero))) e = third
of_line P first second third (suc (suc (suc (suc zero)))) e = absurd (false≢true e)
of_line P first second third (suc (suc (suc (suc (suc v))))) e =
    let high : ℕ = suc (suc (suc (suc (suc v)))) in
    absurd (omega (arith, ltb-true high 5 (and_parts (ltb high 5) (not (is_in (0 ∷ 4 ∷ []) high)) e).0))

line_cuts_odd : IsOddCut (solved_problem signed_line turning_shot) (record { value = 4; vertices = 3 ∷ [] })
line_cuts_odd = odd_cut (solved_problem signed_line turning_shot) (record { value = 4; vertices = 3 ∷ [] }) (refl, tt) refl refl

line_packing : IsPacking (solved_problem signed_line turning_shot) turning_cuts
line_packing = record {
  odd = All-from_recursion (IsOddCut (solved_problem signed_line turning_shot)) turning_cuts (line_cuts_odd, tt);
  fits = fits_by_cases (solved_problem signed_line turning_shot) turning_cuts refl;
}

line_certified : IsCertified (solved_problem signed_line turning_shot) (3 ∷ []) 4 turning_cuts
line_certified = record {
  edge_set = record { rising = rising-one 3; within = below_by_cases 4 (3 ∷ []) refl };
  flips =
      of_line
      (λ v. is_odd_count (λ k. touches v (edge_at signed_line.edges k)) (3 ∷ []) ≡ (solved_problem signed_line turning_shot).is_defect v)
      refl refl refl;
  weighs = refl;
  printed =
      All-from_recursion (IsPrintedCut (solved_problem signed_line turning_shot)) turning_cuts
      (record { odd = line_cuts_odd; positive = omega arith; rising = rising-one 3 }, tt);
  rising = (tt, tt);
  fits = line_packing.fits;
  total = refl;
}

one_of_two : (a b k : ℕ) → (a ≡ b → ⊥) → is_in (a ∷ b ∷ []) k ≡ differ (is_in (b ∷ []) k) (is_in (a ∷ []) k)
one_of_two a b k other = by_cases (a == k) (b == k) refl refl
  where
    by_cases : (x y : Bool) → (a == k) ≡ x → (b == k) ≡ y → (x || (y || false)) ≡ differ (y || false) (x || false)
    by_cases true true p q = absurd (other (eqb-true a k p ∙ sym (eqb-true b k q)))
    by_cases true false p q = refl
    by_cases false true p q = refl
    by_cases false false p q = refl

line_unshifted : IsUnshifted signed_line turning_shot (3 ∷ []) (2 ∷ 3 ∷ [])
line_unshifted = record {
  rising = rising-cons 2 3 [] (omega arith) (rising-one 3);
  each = λ k. one_of_two 2 3 k (λ e. omega (arith, e));
}

line_best : IsBest signed_line turning_shot (2 ∷ 3 ∷ []) (neg_ℤ (pos 6)) (neg_ℤ (pos 2)) turning_cuts
line_best =
    unshifted_is_best signed_line turning_shot (3 ∷ []) (2 ∷ 3 ∷ []) 4 turning_cuts line_is_graph shot_is_of_line
    line_certified line_unshifted

pub line_not_odd : IsFirstOdd (shot_problem signed_line turning_shot) None
line_not_odd =
    best_has_no_odd signed_line turning_shot (2 ∷ 3 ∷ []) (neg_ℤ (pos 6)) (neg_ℤ (pos 2)) turning_cuts line_is_graph
    shot_is_of_line line_best

other_flips : Flips (shot_problem signed_line turning_shot) (0 ∷ 1 ∷ [])
other_flips =
    of_line (λ v. is_odd_count (λ k. touches v (edge_at signed_line.edges k)) (0 ∷ 1 ∷ []) ≡ is_in (2 ∷ []) v) refl refl refl

pub shot_witness : ShotWitness
shot_witness = (
  line_is_graph,
  shot_is_of_line,
  refl,
  refl,
  refl,
  refl,
  refl,
  line_packing,
  line_certified,
  line_unshifted,
  line_best,
  line_not_odd,
  record { rising = rising-cons 0 1 [] (omega arith) (rising-one 1); within = below_by_cases 4 (0 ∷ 1 ∷ []) refl },
  other_flips,
  refl,
)

edge_is_graph : IsGraph lone_edge
edge_is_graph = record {
  vertices = omega arith;
  edges = omega arith;
  each_edge =
      All-from_recursion (IsEdge 2) lone_edge.edges
      (an_edge 2 0 1 2 (omega arith) (omega arith) (λ e. omega (arith, e)) refl (omega arith), tt);
  negatives = λ i d less. absurd (omega arith);
  negatives_rising = λ k less. absurd (omega arith);
  virtuals = λ i d less. absurd (omega arith);
  rising = λ k less. absurd (omega arith);
}

shot_is_of_edge : IsShot lone_edge odd_shot
shot_is_of_edge = record {
  rising = rising-one 0;
  real = All-from_recursion (λ v. is_real_in lone_edge v ≡ true) (0 ∷ []) (refl, tt);
  changes = record {
    rising = rising-one 0;
    each =
        All-from_recursion (IsChange 1) odd_shot.changes
        (record { within = omega arith; even = refl; light = omega arith }, tt);
  };
  turned = refl;
}

-- that edge, of some weight, with a defect at either of its ends
abbrev edge_problem : ℕ → ℕ → Problem
edge_problem weight d =
    record { vertices = 2; edges = edge 0 1 weight ∷ []; is_real = is_real_in lone_edge; is_defect = is_in (d ∷ []) }

both_joined : (weight d : ℕ) → IsClosedRound (edge_problem weight d) 0 (0 ∷ 1 ∷ [])
both_joined weight d = record {
  closed = record {
    distinct = (refl, (refl, tt));
    real = All-from_recursion (λ v. is_real_in lone_edge v ≡ true) (0 ∷ 1 ∷ []) (refl, (refl, tt));
    uncrossed =
        All-from_recursion (λ e. crosses (0 ∷ 1 ∷ []) e ≡ false) (edge_problem weight d).edges (refl, tt);
  };
  below = below_by_cases 2 (0 ∷ 1 ∷ []) refl;
  holds = refl;
  joined = of_two (IsJoined (edge_problem weight d) 0) 0 1 ([], refl) (0 ∷ [], (1, omega arith, inl (refl, refl), refl));
}

-- Both together are odd.
both_odd : (weight d : ℕ) → is_in (0 ∷ 1 ∷ []) d ≡ true → is_odd_count (is_in (d ∷ [])) (0 ∷ 1 ∷ []) ≡ true
    → IsFirstOdd (edge_problem weight d) (Some 0)
both_odd weight d among odd =
    least_is_first_odd (edge_problem weight d) 0 (0 ∷ 1 ∷ []) (both_joined weight d) odd
    (λ u defect real. of_one (λ v. is_in (0 ∷ 1 ∷ []) v ≡ true) d among u defect) 0 refl (λ u h. omega arith)

pub odd_shot_witness : OddShotWitness
odd_shot_witness = (
  edge_is_graph,
  shot_is_of_edge,
  refl,
  both_odd 2 0 refl refl,
  both_odd 2 0 refl refl,
  both_odd 2 1 refl refl,
)
