-- Four defects on a line: how far their tree may step, and their matches.
use Rattle.std.proofs.Common.{ℕ, ◌≡◌, ◌+◌, ◌%◌, ◌≤◌, inl, inr, true, false, [], ◌∷◌, All, Option, Some, None, refl, arith}
use Rattle.std.proofs.lemmas.Bool.{false≢true}
use Rattle.std.proofs.lemmas.List.Elements.{All-nil, All-from_recursion}
use Rattle.fb_graph.specs.Parity.{is_in}
use Rattle.fb_graph.specs.Certificate.{IsOddCut}
use Rattle.fb_graph.specs.Dual.{IsDual, IsHeld, all_cuts, height_of, is_outer, leaves, no_node}
use Rattle.fb_graph.specs.Counts.{as_count}
use Rattle.fb_graph.specs.Covers.{AreRoles}
use Rattle.fb_graph.specs.Ends.{ends_in}
use Rattle.fb_graph.specs.Singles.{AreSingles}
use Rattle.fb_graph.specs.Steps.{MayStep}
use Rattle.fb_graph.proofs.Sets.{is_in-All}
use Rattle.fb_graph.proofs.SingleStates.{singles_are_dual}
use Rattle.fb_laws.specs.Bounds.{IsBounded}
use Rattle.fb_laws.specs.MatchLinks.{EndsElsewhere}
use Rattle.fb_laws.specs.Works.{IsMatching}
use Rattle.fb_laws.proofs.SearchStates.{links_joined}
use Rattle.fb_laws.proofs.StepBounds.{no_obstacle_before, steps_bounded}
use Rattle.fb_witnesses.specs.BoundWitnesses.{BoundWitness, four_nodes, four_roles, four_singles, line_of_four}
use Rattle.fb_witnesses.specs.MatchWitnesses.{BesideWitness, MatchWitness, first_match, last_match}
use Rattle.fb_witnesses.specs.InternalSamples.{link}
use Rattle.fb_witnesses.specs.StateWitnesses.{pentagon_leaves}
use Rattle.fb_witnesses.proofs.SampleParts.{one_height}
use Rattle.fb_witnesses.proofs.SamplePentagons.{branch_state}
use Rattle.fb_witnesses.proofs.SampleStates.{may_by_cases, odd_cut, outer_by_cases}
use Rattle.fb_witnesses.proofs.SampleTrees.{one_link}
use Rattle.fb_witnesses.proofs.ByCases.{fits_by_cases}

four_are_singles : AreSingles line_of_four four_singles
four_are_singles = record {
  names = (refl, (refl, (refl, (refl, tt))));
  vertices = (refl, (refl, (refl, (refl, tt))));
  real = All-from_recursion (λ s. line_of_four.is_real s.vertex ≡ true) four_singles (refl, (refl, (refl, (refl, tt))));
  packing = record {
    odd =
        All-from_recursion (IsOddCut line_of_four) (all_cuts four_nodes) (
          odd_cut _ _ (refl, tt) refl refl,
          (odd_cut _ _ (refl, tt) refl refl, (odd_cut _ _ (refl, tt) refl refl, (odd_cut _ _ (refl, tt) refl refl, tt))),
        );
    fits = fits_by_cases line_of_four (all_cuts four_nodes) refl;
  };
  held =
      All-from_recursion (IsHeld line_of_four) (all_cuts four_nodes) (
        inr (1, omega arith, refl),
        (inr (1, omega arith, refl), (inr (2, omega arith, refl), (inr (3, omega arith, refl), tt))),
      );
  total = omega arith;
}

four_dual : IsDual line_of_four four_nodes
four_dual = singles_are_dual line_of_four four_singles four_are_singles

four_are_roles : AreRoles four_roles four_nodes
four_are_roles = record {
  exclusive =
      is_in-All (λ n. is_in (1 ∷ []) n ≡ false) (0 ∷ 2 ∷ [])
      (All-from_recursion (λ n. is_in (1 ∷ []) n ≡ false) (0 ∷ 2 ∷ []) (refl, (refl, tt)));
  plus = outer_by_cases four_roles.is_plus four_nodes outer;
  minus = outer_by_cases four_roles.is_minus four_nodes outer;
}
  where
    outer : All (λ n. is_outer four_nodes n.name ≡ true) four_nodes
    outer = All-from_recursion (λ n. is_outer four_nodes n.name ≡ true) four_nodes (refl, (refl, (refl, (refl, tt))))

may_step : MayStep line_of_four four_roles four_nodes 2
may_step =
    may_by_cases line_of_four four_roles four_nodes 2 refl
    (All-from_recursion (λ n. four_roles.is_minus n.name ≡ true → 2 ≤ n.top.value) four_nodes (
      λ e. absurd (false≢true e),
      (λ e. omega arith, (λ e. absurd (false≢true e), (λ e. absurd (false≢true e), tt))),
    ))

too_long : ¬ IsBounded line_of_four four_roles four_nodes 3
too_long bounded = let h : 3 ≤ 2 = bounded.layers 1 no_node (omega arith) refl in absurd (omega arith)

pub bound_witness : BoundWitness
bound_witness = (
  four_dual,
  four_are_roles,
  steps_bounded line_of_four four_roles four_nodes 2 four_dual four_are_roles may_step,
  may_step,
  omega arith,
  no_obstacle_before line_of_four four_roles four_nodes 2 four_dual four_are_roles (omega arith) may_step,
  too_long,
  refl,
  refl,
  refl,
  refl,
  refl,
  refl,
)

even_four : (d : ℕ) → is_in (leaves four_nodes) d ≡ true → height_of (all_cuts four_nodes) d % 2 ≡ 0
even_four =
    is_in-All (λ d. height_of (all_cuts four_nodes) d % 2 ≡ 0) (1 ∷ 2 ∷ 3 ∷ 4 ∷ [])
    (All-from_recursion (λ d. height_of (all_cuts four_nodes) d % 2 ≡ 0) (1 ∷ 2 ∷ 3 ∷ 4 ∷ [])
    (refl, (refl, (refl, (refl, tt)))))

four_matching : IsMatching line_of_four four_nodes (first_match ∷ last_match ∷ []) (2 ∷ [])
four_matching = record {
  dual = four_dual;
  defects = λ v real. refl;
  links_are =
      links_joined line_of_four four_nodes (first_match ∷ []) (last_match ∷ [])
      (one_link line_of_four four_nodes 1 2 1 [] (2, omega arith, inl (refl, refl), refl) refl refl (λ h. refl) (λ h. refl))
      (one_link line_of_four four_nodes 4 5 4 [] (5, omega arith, inl (refl, refl), refl) refl refl (λ h. refl)
      (λ h. absurd (false≢true h)));
  matched =
      All-from_recursion
      (λ n. is_outer four_nodes n.name ≡ true
      → ends_in n.top.vertices (first_match ∷ last_match ∷ []) + as_count (is_in (2 ∷ []) n.name) ≡ 1) four_nodes
      (λ outer. refl, (λ outer. refl, (λ outer. refl, (λ outer. refl, tt))));
  one_parity = one_height four_nodes 0 even_four;
}

-- a covered and an uncovered vertex are not under another node
other_node : (a b : ℕ) → (a ≡ b → ⊥) → Some a ≡ Some b → ⊥
other_node a b differ same = let e : a ≡ b = cc in differ e

no_node_over : (b : ℕ) → ◌≡◌ {A = Option ℕ} None (Some b) → ⊥
no_node_over b same = cc

pub match_witness : MatchWitness
match_witness = (
  four_matching,
  refl,
  refl,
  refl,
  record {
    leads = inr (1, inl (refl, refl), λ e. omega (arith, e));
    others =
        All-from_recursion (EndsElsewhere four_nodes 0) (last_match ∷ [])
        ((other_node 3 0 (λ e. omega (arith, e)), no_node_over 0), tt);
  },
  refl,
  refl,
  refl,
  record {
    leads = inl (5, inl (refl, refl), refl);
    others =
        All-from_recursion (EndsElsewhere four_nodes 3) (first_match ∷ [])
        ((other_node 0 3 (λ e. omega (arith, e)), other_node 1 3 (λ e. omega (arith, e))), tt);
  },
)

pub beside_witness : BesideWitness
beside_witness = (
  branch_state,
  refl,
  refl,
  refl,
  (
    [],
    link 2 3 (2 ∷ []),
    [],
    refl,
    record {
      leads = inr (3, inl (refl, refl), λ e. omega (arith, e));
      others = All-nil (EndsElsewhere pentagon_leaves 2);
    },
  ),
  inl (refl, refl),
  refl,
  refl,
  refl,
  refl,
  refl,
)
