-- A triangle's blossom opened and its cuts printed.
use Rattle.std.proofs.Common.{ℕ, ◌≡◌, ◌≤◌, ◌||◌, Bool, true, false, [], ◌∷◌, length, ◌==◌, refl, arith}
use Rattle.std.specs.List.Sorted.{IsNonDecreasing}
use Rattle.std.proofs.lemmas.Bool.{false≢true}
use Rattle.std.proofs.lemmas.List.Elements.{All-from_recursion}
use Rattle.std.proofs.lemmas.List.Sorted.{IsPermutation-refl, IsPermutation-append_comm, IsNonDecreasingBy-push, IsNonDecreasingBy-short}
use Rattle.fb_graph.specs.Parity.{is_in}
use Rattle.fb_graph.specs.Printed.{HasPositiveCuts, IsResorted}
use Rattle.fb_graph.specs.Dual.{all_cuts, leaves}
use Rattle.fb_graph.specs.declared.parts.Cut.{Cut}
use Rattle.fb_laws.specs.Opening.{EndAtDefects, IsLevel, single_sets, EndsAtDefects}
use Rattle.fb_laws.specs.Works.{positive_cuts}
use Rattle.fb_laws.specs.NestSolutions.{AreChildrenOf, leaf_sets}
use Rattle.fb_witnesses.specs.ResolvedWitnesses.{ResolvedWitness, closed_nodes, opened_links, printed_triangle}
use Rattle.fb_witnesses.specs.InternalSamples.{cut, blossom_cuts, triangle}
use Rattle.fb_laws.proofs.OpenedLevels.{level_permuted}
use Rattle.fb_witnesses.proofs.SampleLevels.{opening_witness}
use Rattle.fb_witnesses.proofs.SampleNests.{grown_blossom}
use Rattle.fb_laws.proofs.SolvedNests.{nest_resolved}

turned : (a b c : Bool) → (a || (b || (c || false))) ≡ (b || (c || (a || false)))
turned true true c = refl
turned true false true = refl
turned true false false = refl
turned false true c = refl
turned false false true = refl
turned false false false = refl

children : AreChildrenOf closed_nodes 3 (2 ∷ 0 ∷ 1 ∷ [])
children = record {
  same =
      All-from_recursion (λ n. n.name ≡ 3 → (c : ℕ) → is_in (2 ∷ 0 ∷ 1 ∷ []) c ≡ is_in n.children c) closed_nodes
      (λ e. absurd cc, (λ e. absurd cc, (λ e. absurd cc, (λ e c. turned (2 == c) (0 == c) (1 == c), tt))));
  distinct = (refl, (refl, (refl, tt)));
}

level : IsLevel (positive_cuts closed_nodes) (leaf_sets closed_nodes) opened_links
level =
    level_permuted blossom_cuts (single_sets (2 ∷ 0 ∷ 1 ∷ [])) ((0 ∷ []) ∷ (1 ∷ []) ∷ (2 ∷ []) ∷ []) opened_links
    opened_links (IsPermutation-append_comm ((2 ∷ []) ∷ []) ((0 ∷ []) ∷ (1 ∷ []) ∷ []))
    (IsPermutation-refl opened_links) opening_witness.5

at_defects : EndAtDefects triangle (leaves closed_nodes) opened_links
at_defects =
    All-from_recursion
    (EndsAtDefects triangle (leaves closed_nodes)) opened_links
    ((λ h. refl, λ h. refl), ((λ h. refl, λ h. absurd (false≢true h)), tt))

pub single_sorted : (c : Cut) → length c.vertices ≤ 1 → IsResorted c c
single_sorted c short = record {
  value = refl;
  moved = IsPermutation-refl c.vertices;
  sorted = IsNonDecreasingBy-short (λ x. x) c.vertices short;
}

three : IsNonDecreasing (0 ∷ 1 ∷ 2 ∷ [])
three =
    IsNonDecreasingBy-push (λ x. x) (0 ∷ 1 ∷ []) 2
    (IsNonDecreasingBy-push (λ x. x) (0 ∷ []) 1 (IsNonDecreasingBy-short (λ x. x) (0 ∷ []) (omega arith))
    (λ d h. let low : 0 ≤ 1 = omega arith in low))
    (λ d h. let low : 1 ≤ 2 = omega arith in low)

printed : HasPositiveCuts (all_cuts closed_nodes) printed_triangle
printed = record {
  resorted = blossom_cuts;
  each = (
    single_sorted (cut 1 (0 ∷ [])) (omega arith),
    (
      single_sorted (cut 1 (1 ∷ [])) (omega arith),
      (
        single_sorted (cut 1 (2 ∷ [])) (omega arith),
        (record { value = refl; moved = IsPermutation-refl (0 ∷ 1 ∷ 2 ∷ []); sorted = three }, tt),
      ),
    ),
  );
  moved = record {
    moves = (2, 3) ∷ (1, 3) ∷ [];
    below = (omega arith, omega arith, (omega arith, omega arith, tt));
    is = refl;
  };
}

pub resolved_witness : ResolvedWitness
resolved_witness = (
  grown_blossom,
  refl,
  children,
  opening_witness.3.pairs,
  λ v real. refl,
  level,
  opening_witness.6,
  at_defects,
  printed,
  (refl, (refl, (refl, (tt, tt)))),
  nest_resolved triangle closed_nodes opened_links printed_triangle grown_blossom (λ v real. refl) level
      opening_witness.6 at_defects
      printed (refl, (refl, (refl, (tt, tt)))),
)
