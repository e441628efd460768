-- The premises of the laws on states of two parts, computed on the line.
use Rattle.std.proofs.Common.{ℕ, ◌≡◌, ◌+◌, ◌%◌, ◌==◌, ◌⊎◌, inl, inr, true, false, List, [], ◌∷◌, ◌++◌, refl, sym, subst, arith}
use Rattle.std.proofs.lemmas.Bool.{false≢true, eqb-true}
use Rattle.std.proofs.lemmas.List.Elements.{All-from_recursion}
use Rattle.fb_graph.specs.Parity.{is_in}
use Rattle.fb_graph.specs.Certificate.{IsOddCut}
use Rattle.fb_graph.specs.Dual.{IsDual, IsHeld, all_cuts, height_of, is_outer}
use Rattle.fb_graph.proofs.Sets.{is_in-All}
use Rattle.fb_graph.specs.Counts.{as_count}
use Rattle.fb_graph.specs.Ends.{ends_in}
use Rattle.fb_laws.specs.Paths.{LeadsOut}
use Rattle.fb_graph.specs.Links.{IsTightLink}
use Rattle.fb_graph.specs.NestUnions.{AreParts}
use Rattle.fb_laws.specs.Fusion.{IsLinkOf}
use Rattle.fb_graph.specs.Singles.{AreSingles, nodes_of}
use Rattle.fb_laws.specs.Works.{IsMatching, IsSetOf}
use Rattle.fb_laws.specs.Merging.{Freed}
use Rattle.fb_witnesses.specs.InternalSamples.{single, link, line, line_part, end_singles, middle_singles}
use Rattle.fb_witnesses.specs.Witnesses.{MergingWitness}
use Rattle.fb_laws.proofs.FusedParts.{parts_turned}
use Rattle.fb_laws.proofs.MergedParts.{matchings_merged}
use Rattle.fb_witnesses.proofs.SampleLevels.{two_parts, either_end, left_link, right_link}
use Rattle.fb_witnesses.proofs.SampleParts.{one_height, of_two}
use Rattle.fb_witnesses.proofs.SampleStates.{odd_cut, of_one}
use Rattle.fb_graph.proofs.SingleStates.{singles_are_dual}
use Rattle.fb_witnesses.proofs.ByCases.{fits_by_cases}

turned_parts : AreParts (line_part (3 ∷ [])) (line_part (1 ∷ [])) (line_part (1 ∷ 3 ∷ []))
turned_parts = parts_turned (line_part (1 ∷ [])) (line_part (3 ∷ [])) (line_part (1 ∷ 3 ∷ [])) two_parts

right_end : AreSingles (line_part (3 ∷ [])) (single 0 3 2 ∷ [])
right_end = record {
  names = (refl, tt);
  vertices = (refl, tt);
  real = All-from_recursion (λ s. is_in (3 ∷ []) s.vertex ≡ true) (single 0 3 2 ∷ []) (refl, tt);
  packing = record {
    odd =
        All-from_recursion (IsOddCut (record (line_part (3 ∷ [])) { is_defect = is_in (3 ∷ []) })) (all_cuts (nodes_of (single 0 3 2 ∷ [])))
        (odd_cut _ _ (refl, tt) refl refl, tt);
    fits = fits_by_cases (record (line_part (3 ∷ [])) { is_defect = is_in (3 ∷ []) }) (all_cuts (nodes_of (single 0 3 2 ∷ []))) refl;
  };
  held = All-from_recursion (IsHeld (line_part (3 ∷ []))) (all_cuts (nodes_of (single 0 3 2 ∷ []))) (inr (2, omega arith, refl), tt);
  total = omega arith;
}

left_end : AreSingles (line_part (1 ∷ [])) (single 1 1 2 ∷ [])
left_end = record {
  names = (refl, tt);
  vertices = (refl, tt);
  real = All-from_recursion (λ s. is_in (1 ∷ []) s.vertex ≡ true) (single 1 1 2 ∷ []) (refl, tt);
  packing = record {
    odd =
        All-from_recursion (IsOddCut (record (line_part (1 ∷ [])) { is_defect = is_in (1 ∷ []) })) (all_cuts (nodes_of (single 1 1 2 ∷ [])))
        (odd_cut _ _ (refl, tt) refl refl, tt);
    fits = fits_by_cases (record (line_part (1 ∷ [])) { is_defect = is_in (1 ∷ []) }) (all_cuts (nodes_of (single 1 1 2 ∷ []))) refl;
  };
  held = All-from_recursion (IsHeld (line_part (1 ∷ []))) (all_cuts (nodes_of (single 1 1 2 ∷ []))) (inr (0, omega arith, refl), tt);
  total = omega arith;
}

right_matching : IsMatching (line_part (3 ∷ [])) (nodes_of (single 0 3 2 ∷ [])) (link 3 2 (2 ∷ []) ∷ []) []
right_matching = record {
  dual = singles_are_dual (line_part (3 ∷ [])) (single 0 3 2 ∷ []) right_end;
  defects = of_one (λ v. is_in (1 ∷ 3 ∷ []) v ≡ is_in (3 ∷ []) v) 3 refl;
  links_are = record {
    tight =
        All-from_recursion (IsTightLink (line_part (3 ∷ [])) (all_cuts (nodes_of (single 0 3 2 ∷ [])))) (link 3 2 (2 ∷ []) ∷ [])
        (record { walk = right_link.walk; tight = refl }, tt);
    own = All-from_recursion (IsLinkOf (line_part (3 ∷ []))) (link 3 2 (2 ∷ []) ∷ []) (right_link, tt);
    at_defects =
        All-from_recursion
        (λ l. (is_in (3 ∷ []) l.from ≡ true → is_in (3 ∷ []) l.from ≡ true) × (is_in (3 ∷ []) l.to ≡ true → is_in (3 ∷ []) l.to ≡ true))
        (link 3 2 (2 ∷ []) ∷ []) ((λ h. h, λ h. h), tt);
  };
  matched =
      All-from_recursion
      (λ n. is_outer (nodes_of (single 0 3 2 ∷ [])) n.name ≡ true → ends_in n.top.vertices (link 3 2 (2 ∷ []) ∷ []) + as_count (is_in [] n.name) ≡ 1)
      (nodes_of (single 0 3 2 ∷ [])) (λ outer. refl, tt);
  one_parity =
      one_height (nodes_of (single 0 3 2 ∷ [])) 0
      (of_one (λ d. height_of (all_cuts (nodes_of (single 0 3 2 ∷ []))) d % 2 ≡ 0) 3 refl);
}

left_matching : IsMatching (line_part (1 ∷ [])) (nodes_of (single 1 1 2 ∷ [])) (link 1 0 (0 ∷ []) ∷ []) []
left_matching = record {
  dual = singles_are_dual (line_part (1 ∷ [])) (single 1 1 2 ∷ []) left_end;
  defects = of_one (λ v. is_in (1 ∷ 3 ∷ []) v ≡ is_in (1 ∷ []) v) 1 refl;
  links_are = record {
    tight =
        All-from_recursion (IsTightLink (line_part (1 ∷ [])) (all_cuts (nodes_of (single 1 1 2 ∷ [])))) (link 1 0 (0 ∷ []) ∷ [])
        (record { walk = left_link.walk; tight = refl }, tt);
    own = All-from_recursion (IsLinkOf (line_part (1 ∷ []))) (link 1 0 (0 ∷ []) ∷ []) (left_link, tt);
    at_defects =
        All-from_recursion
        (λ l. (is_in (1 ∷ []) l.from ≡ true → is_in (1 ∷ []) l.from ≡ true) × (is_in (1 ∷ []) l.to ≡ true → is_in (1 ∷ []) l.to ≡ true))
        (link 1 0 (0 ∷ []) ∷ []) ((λ h. h, λ h. h), tt);
  };
  matched =
      All-from_recursion
      (λ n. is_outer (nodes_of (single 1 1 2 ∷ [])) n.name ≡ true → ends_in n.top.vertices (link 1 0 (0 ∷ []) ∷ []) + as_count (is_in [] n.name) ≡ 1)
      (nodes_of (single 1 1 2 ∷ [])) (λ outer. refl, tt);
  one_parity =
      one_height (nodes_of (single 1 1 2 ∷ [])) 0
      (of_one (λ d. height_of (all_cuts (nodes_of (single 1 1 2 ∷ []))) d % 2 ≡ 0) 1 refl);
}

both_ends : IsDual (line_part (1 ∷ 3 ∷ [])) (nodes_of end_singles)
both_ends =
    singles_are_dual (line_part (1 ∷ 3 ∷ [])) end_singles (record {
      names = (refl, (refl, tt));
      vertices = (refl, (refl, tt));
      real = All-from_recursion (λ s. is_in (1 ∷ 3 ∷ []) s.vertex ≡ true) end_singles (refl, (refl, tt));
      packing = record {
        odd =
            All-from_recursion (IsOddCut (record (line_part (1 ∷ 3 ∷ [])) { is_defect = is_in (3 ∷ 1 ∷ []) })) (all_cuts (nodes_of end_singles))
            (odd_cut _ _ (refl, tt) refl refl, (odd_cut _ _ (refl, tt) refl refl, tt));
        fits = fits_by_cases (record (line_part (1 ∷ 3 ∷ [])) { is_defect = is_in (3 ∷ 1 ∷ []) }) (all_cuts (nodes_of end_singles)) refl;
      };
      held =
          All-from_recursion (IsHeld (line_part (1 ∷ 3 ∷ []))) (all_cuts (nodes_of end_singles))
          (inr (2, omega arith, refl), (inr (0, omega arith, refl), tt));
      total = omega arith;
    })

with_middle : IsDual (line (1 ∷ 2 ∷ 3 ∷ [])) (nodes_of (end_singles ++ middle_singles))
with_middle =
    singles_are_dual (line (1 ∷ 2 ∷ 3 ∷ [])) (end_singles ++ middle_singles) (record {
      names = (refl, (refl, (refl, tt)));
      vertices = (refl, (refl, (refl, tt)));
      real = All-from_recursion (λ s. is_in (1 ∷ 2 ∷ 3 ∷ []) s.vertex ≡ true) (end_singles ++ middle_singles) (refl, (refl, (refl, tt)));
      packing = record {
        odd =
            All-from_recursion (IsOddCut (line (3 ∷ 1 ∷ 2 ∷ []))) (all_cuts (nodes_of (end_singles ++ middle_singles)))
            (odd_cut _ _ (refl, tt) refl refl, (odd_cut _ _ (refl, tt) refl refl, (odd_cut _ _ (refl, tt) refl refl, tt)));
        fits = fits_by_cases (line (3 ∷ 1 ∷ 2 ∷ [])) (all_cuts (nodes_of (end_singles ++ middle_singles))) refl;
      };
      held =
          All-from_recursion (IsHeld (line (1 ∷ 2 ∷ 3 ∷ []))) (all_cuts (nodes_of (end_singles ++ middle_singles)))
          (inr (2, omega arith, refl), (inr (0, omega arith, refl), (inl refl, tt)));
      total = omega arith;
    })

at_middle : (P : ℕ → Type 0) → P 2 → (v : ℕ) → (v == 2) ≡ true → P v
at_middle P two v e = subst P (sym (eqb-true v 2 e)) two

in_three : (v : ℕ) → is_in (1 ∷ 2 ∷ 3 ∷ []) v ≡ true → (is_in (1 ∷ 3 ∷ []) v ≡ true) ⊎ ((v == 2) ≡ true)
in_three =
    is_in-All (λ v. (is_in (1 ∷ 3 ∷ []) v ≡ true) ⊎ ((v == 2) ≡ true)) (1 ∷ 2 ∷ 3 ∷ [])
    (All-from_recursion (λ v. (is_in (1 ∷ 3 ∷ []) v ≡ true) ⊎ ((v == 2) ≡ true)) (1 ∷ 2 ∷ 3 ∷ []) (inl refl, (inr refl, (inl refl, tt))))

seam_freed : List Freed
seam_freed = record { name = 0; set = 3 ∷ []; link = link 3 2 (2 ∷ []); seam = 2 } ∷ []

pub merging_witness : MergingWitness
unfolding seam_freed
merging_witness = (
  turned_parts,
  right_matching,
  left_matching,
  both_ends,
  matchings_merged (line_part (3 ∷ [])) (line_part (1 ∷ [])) (line_part (1 ∷ 3 ∷ [])) (nodes_of (single 0 3 2 ∷ []))
      (nodes_of (single 1 1 2 ∷ [])) (link 3 2 (2 ∷ []) ∷ []) (link 1 0 (0 ∷ []) ∷ []) [] [] turned_parts
      (λ v real. swapped v (either_end v real)) both_ends (λ n h. absurd (false≢true h)) (λ n h. absurd (false≢true h)) right_matching
      left_matching,
  record {
    part = record {
      edges = refl;
      real = of_two (λ v. is_in (1 ∷ 2 ∷ 3 ∷ []) v ≡ true) 1 3 refl refl;
      defects = of_two (λ v. is_in (1 ∷ 3 ∷ []) v ≡ is_in (1 ∷ 2 ∷ 3 ∷ []) v) 1 3 refl refl;
    };
    covered = in_three;
    unreal = at_middle (λ v. is_in (1 ∷ 3 ∷ []) v ≡ false) refl;
    freed_are =
        All-from_recursion
        (λ f. IsSetOf (nodes_of end_singles) f.name f.set × LeadsOut f.link f.set f.seam × ((f.seam == 2) ≡ true)) seam_freed
        (((0, omega arith, refl, refl, refl), inl (refl, refl), refl), tt);
    elsewhere =
        All-from_recursion (λ l. ((l.from == 2) ≡ false) × ((l.to == 2) ≡ false)) (link 1 0 (0 ∷ []) ∷ []) ((refl, refl), tt);
    at_seam = All-from_recursion (λ s. (s.vertex == 2) ≡ true) middle_singles (refl, tt);
    bare = All-from_recursion (λ s. s.value ≡ 0) middle_singles (refl, tt);
    defects = at_middle (λ v. is_in (1 ∷ 2 ∷ 3 ∷ []) v ≡ is_in (2 ∷ []) v) refl;
  },
  with_middle,
)
  where
    swapped : (v : ℕ) → (is_in (1 ∷ []) v ≡ true) ⊎ (is_in (3 ∷ []) v ≡ true) → (is_in (3 ∷ []) v ≡ true) ⊎ (is_in (1 ∷ []) v ≡ true)
    swapped v (inl h) = inr h
    swapped v (inr h) = inl h
