-- Two ends of a line fused over its middle.
use Rattle.std.proofs.Common.{ℕ, ◌≡◌, ◌==◌, ◌⊎◌, inl, inr, true, false, [], ◌∷◌, refl, sym, subst}
use Rattle.std.proofs.lemmas.Bool.{eqb-true, false≢true, or_cases}
use Rattle.std.proofs.lemmas.List.Elements.{All-from_recursion}
use Rattle.std.proofs.lemmas.List.Sorted.{IsPermutation-refl}
use Rattle.fb_graph.specs.Parity.{is_in}
use Rattle.fb_graph.specs.Laws.{IsPart}
use Rattle.fb_graph.specs.Dual.{is_live}
use Rattle.fb_graph.specs.NestUnions.{AreParts}
use Rattle.fb_laws.specs.FusedStates.{AreFurther, MayMerge}
use Rattle.fb_witnesses.specs.FusedWitnesses.{SeamWitness, both_ends, freed_end, parted_line}
use Rattle.fb_laws.specs.Merging.{IsSeam}
use Rattle.fb_witnesses.specs.InternalSamples.{line, line_part, link, middle_singles, single}
use Rattle.fb_graph.specs.Singles.{nodes_of}
use Rattle.fb_witnesses.proofs.SampleFusions.{own_by_cases, own_ends}
use Rattle.fb_witnesses.proofs.SampleSeams.{merging_witness}
use Rattle.fb_witnesses.proofs.SampleStates.{of_one, of_three}

parts : AreParts (line_part (3 ∷ [])) (line_part (1 ∷ [])) (line (1 ∷ 2 ∷ 3 ∷ []))
parts = record {
  left_part = record {
    edges = refl;
    real = of_one (λ v. (line (1 ∷ 2 ∷ 3 ∷ [])).is_real v ≡ true) 3 refl;
    defects = of_one (λ v. is_in (1 ∷ 3 ∷ []) v ≡ (line (1 ∷ 2 ∷ 3 ∷ [])).is_defect v) 3 refl;
  };
  right_part = record {
    edges = refl;
    real = of_one (λ v. (line (1 ∷ 2 ∷ 3 ∷ [])).is_real v ≡ true) 1 refl;
    defects = of_one (λ v. is_in (1 ∷ 3 ∷ []) v ≡ (line (1 ∷ 2 ∷ 3 ∷ [])).is_defect v) 1 refl;
  };
  separated = merging_witness.0.separated;
}

may_merge : MayMerge (line_part (3 ∷ [])) (line_part (1 ∷ [])) (line (1 ∷ 2 ∷ 3 ∷ [])) (nodes_of (single 0 3 2 ∷ []))
    (nodes_of (single 1 1 2 ∷ [])) [] []
may_merge = record {
  parts = parts;
  names = own_ends;
  left_only = λ n h. absurd (false≢true h);
  right_only = λ n h. absurd (false≢true h);
}

part : IsPart parted_line (line (1 ∷ 2 ∷ 3 ∷ []))
part = record {
  edges = refl;
  real = λ v real. whole v (or_cases (is_in (3 ∷ []) v) (is_in (1 ∷ []) v) real);
  defects = λ v real. refl;
}
  where
    whole : (v : ℕ) → (is_in (3 ∷ []) v ≡ true) ⊎ (is_in (1 ∷ []) v ≡ true) → (line (1 ∷ 2 ∷ 3 ∷ [])).is_real v ≡ true
    whole v (inl h) = parts.left_part.real v h
    whole v (inr h) = parts.right_part.real v h

seam : IsSeam parted_line (line (1 ∷ 2 ∷ 3 ∷ [])) both_ends freed_end (link 1 0 (0 ∷ []) ∷ []) middle_singles
    (λ v. v == 2)
seam = record {
  part = part;
  covered = of_three (λ v. (parted_line.is_real v ≡ true) ⊎ ((v == 2) ≡ true)) 1 2 3 (inl refl) (inr refl) (inl refl);
  unreal = λ v e. subst (λ u. parted_line.is_real u ≡ false) (sym (eqb-true v 2 e)) refl;
  freed_are = merging_witness.5.freed_are;
  elsewhere = merging_witness.5.elsewhere;
  at_seam = merging_witness.5.at_seam;
  bare = merging_witness.5.bare;
  defects = merging_witness.5.defects;
}

further : AreFurther (line (1 ∷ 2 ∷ 3 ∷ [])) both_ends middle_singles
further = record {
  names = (refl, tt);
  own =
      own_by_cases both_ends (nodes_of middle_singles)
      (All-from_recursion (λ n. is_live (nodes_of middle_singles) n.name ≡ false) both_ends (refl, (refl, tt)));
  vertices = (refl, tt);
  real = All-from_recursion (λ s. (line (1 ∷ 2 ∷ 3 ∷ [])).is_real s.vertex ≡ true) middle_singles (refl, tt);
}

pub seam_witness : SeamWitness
seam_witness = (may_merge, seam, further, IsPermutation-refl (link 3 2 (2 ∷ []) ∷ link 1 0 (0 ∷ []) ∷ []))
