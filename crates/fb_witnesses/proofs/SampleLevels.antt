-- The premises of the laws of fusion and of opening, computed on small graphs.
use Rattle.std.proofs.Common.{ℕ, ◌≡◌, ◌%◌, ◌≤◌, ◌⊎◌, inl, inr, true, false, List, [], ◌∷◌, count_by, refl, arith}
use Rattle.std.proofs.lemmas.Bool.{false≢true}
use Rattle.std.proofs.lemmas.List.Elements.{All-nil, All-from_recursion}
use Rattle.fb_graph.specs.Parity.{is_odd_count, is_in}
use Rattle.fb_graph.specs.Problem.{Problem, edge_at, touches, crosses}
use Rattle.fb_graph.specs.Certificate.{IsOddCut}
use Rattle.fb_graph.specs.Components.{IsWalkBy}
use Rattle.fb_graph.specs.Laws.{Link, IsTight, IsPart, IsPerfect, has_real_end, ends_of}
use Rattle.fb_graph.specs.Dual.{AreApart, IsWithin}
use Rattle.fb_graph.specs.declared.parts.Cut.{Cut}
use Rattle.fb_graph.proofs.Sets.{is_in-All}
use Rattle.fb_graph.specs.Ends.{ends_in, AreAllApart, crossing_links}
use Rattle.fb_graph.specs.Links.{IsTightLink}
use Rattle.fb_graph.specs.NestUnions.{AreParts}
use Rattle.fb_laws.specs.Fusion.{IsLinkOf}
use Rattle.fb_laws.specs.Opening.{IsWithinOne, IsAlikeOver, single_sets, EndsAtDefects}
use Rattle.fb_witnesses.specs.InternalSamples.{cut, link, line, line_part, triangle, blossom_cuts}
use Rattle.fb_witnesses.specs.Witnesses.{FusionWitness, OpeningWitness}
use Rattle.fb_witnesses.proofs.SampleStates.{odd_cut, of_one, of_three, whole_one, apart_ones}
use Rattle.fb_witnesses.proofs.SampleParts.{some_walk}
use Rattle.fb_witnesses.proofs.ByCases.{fits_by_cases}

part_of_line : (vertices : List ℕ) → ((v : ℕ) → is_in vertices v ≡ true → is_in (1 ∷ 3 ∷ []) v ≡ true)
    → IsPart (line_part vertices) (line_part (1 ∷ 3 ∷ []))
part_of_line vertices real = record { edges = refl; real = real; defects = λ v within. refl }

pub two_parts : AreParts (line_part (1 ∷ [])) (line_part (3 ∷ [])) (line_part (1 ∷ 3 ∷ []))
two_parts = record {
  left_part = part_of_line (1 ∷ []) (of_one (λ v. is_in (1 ∷ 3 ∷ []) v ≡ true) 1 refl);
  right_part = part_of_line (3 ∷ []) (of_one (λ v. is_in (1 ∷ 3 ∷ []) v ≡ true) 3 refl);
  separated = record {
    vertices = of_one (λ v. is_in (3 ∷ []) v ≡ false) 1 refl;
    edges =
        All-from_recursion
        (λ e. has_real_end (line_part (1 ∷ [])) e ≡ true → has_real_end (line_part (3 ∷ [])) e ≡ false) (line []).edges
        (λ h. refl, (λ h. refl, (λ h. absurd (false≢true h), (λ h. absurd (false≢true h), tt))));
  };
}

pub either_end : (v : ℕ) → is_in (1 ∷ 3 ∷ []) v ≡ true → (is_in (1 ∷ []) v ≡ true) ⊎ (is_in (3 ∷ []) v ≡ true)
either_end =
    is_in-All (λ v. (is_in (1 ∷ []) v ≡ true) ⊎ (is_in (3 ∷ []) v ≡ true)) (1 ∷ 3 ∷ [])
    (All-from_recursion (λ v. (is_in (1 ∷ []) v ≡ true) ⊎ (is_in (3 ∷ []) v ≡ true)) (1 ∷ 3 ∷ []) (inl refl, (inr refl, tt)))

pub left_link : IsLinkOf (line_part (1 ∷ [])) (link 1 0 (0 ∷ []))
left_link = record {
  walk = (0, omega arith, inr (refl, refl), refl);
  moves = some_walk 0 [];
  real = All-from_recursion (λ k. has_real_end (line_part (1 ∷ [])) (edge_at (line []).edges k) ≡ true) (0 ∷ []) (refl, tt);
}

pub right_link : IsLinkOf (line_part (3 ∷ [])) (link 3 2 (2 ∷ []))
right_link = record {
  walk = (2, omega arith, inr (refl, refl), refl);
  moves = some_walk 2 [];
  real = All-from_recursion (λ k. has_real_end (line_part (3 ∷ [])) (edge_at (line []).edges k) ≡ true) (2 ∷ []) (refl, tt);
}

one_link_perfect : (p : Problem) (c : Cut) (l : Link) → IsWalkBy p l.walk l.from l.to → IsTight p (c ∷ []) l
    → ((v : ℕ) → p.is_real v ≡ true → is_odd_count (λ m. touches v (ends_of m)) (l ∷ []) ≡ p.is_defect v)
    → count_by (λ m. crosses c.vertices (ends_of m)) (l ∷ []) ≤ 1 → IsPerfect p (c ∷ []) (l ∷ [])
one_link_perfect p c l walk tight flips once = record {
  walks = All-from_recursion (λ m. IsWalkBy p m.walk m.from m.to) (l ∷ []) (walk, tt);
  tight = All-from_recursion (IsTight p (c ∷ [])) (l ∷ []) (tight, tt);
  flips = flips;
  once = All-from_recursion (λ d. count_by (λ m. crosses d.vertices (ends_of m)) (l ∷ []) ≤ 1) (c ∷ []) (once, tt);
}

pub fusion_witness : FusionWitness
fusion_witness = (
  two_parts,
  either_end,
  All-from_recursion (IsOddCut (line_part (1 ∷ []))) (cut 2 (1 ∷ []) ∷ []) (odd_cut _ _ (refl, tt) refl refl, tt),
  All-from_recursion (IsOddCut (line_part (3 ∷ []))) (cut 2 (3 ∷ []) ∷ []) (odd_cut _ _ (refl, tt) refl refl, tt),
  All-from_recursion (IsLinkOf (line_part (1 ∷ []))) (link 1 0 (0 ∷ []) ∷ []) (left_link, tt),
  All-from_recursion (IsLinkOf (line_part (3 ∷ []))) (link 3 2 (2 ∷ []) ∷ []) (right_link, tt),
  one_link_perfect (line_part (1 ∷ [])) (cut 2 (1 ∷ [])) (link 1 0 (0 ∷ [])) left_link.walk refl
      (of_one (λ v. is_odd_count (λ m. touches v (ends_of m)) (link 1 0 (0 ∷ []) ∷ []) ≡ is_in (1 ∷ 3 ∷ []) v) 1 refl) (omega arith),
  one_link_perfect (line_part (3 ∷ [])) (cut 2 (3 ∷ [])) (link 3 2 (2 ∷ [])) right_link.walk refl
      (of_one (λ v. is_odd_count (λ m. touches v (ends_of m)) (link 3 2 (2 ∷ []) ∷ []) ≡ is_in (1 ∷ 3 ∷ []) v) 3 refl) (omega arith),
  All-from_recursion (λ e. e.weight % 2 ≡ 0) (line []).edges (refl, (refl, (refl, (refl, tt)))),
  record { walk = right_link.walk; tight = refl },
  inl (refl, refl),
  whole_one (3 ∷ []) 3,
  refl,
)

corners : (c : ℕ) → is_in (0 ∷ 1 ∷ 2 ∷ []) c ≡ true → IsWithin (c ∷ []) (0 ∷ 1 ∷ 2 ∷ [])
corners c within = of_one (λ v. is_in (0 ∷ 1 ∷ 2 ∷ []) v ≡ true) c within

pub corners_apart : AreAllApart ((2 ∷ []) ∷ (0 ∷ []) ∷ (1 ∷ []) ∷ [])
corners_apart = (
  All-from_recursion (AreApart (2 ∷ [])) ((0 ∷ []) ∷ (1 ∷ []) ∷ []) (apart_ones 2 0 refl, (apart_ones 2 1 refl, tt)),
  (All-from_recursion (AreApart (0 ∷ [])) ((1 ∷ []) ∷ []) (apart_ones 0 1 refl, tt), (All-nil (AreApart (1 ∷ [])), tt)),
)

pub opening_witness : OpeningWitness
opening_witness = (
  record {
    odd =
        All-from_recursion (IsOddCut triangle) blossom_cuts (
          odd_cut _ _ (refl, tt) refl refl,
          (
            odd_cut _ _ (refl, tt) refl refl,
            (odd_cut _ _ (refl, tt) refl refl, (odd_cut _ _ (refl, (refl, (refl, tt))) refl refl, tt)),
          ),
        );
    fits = fits_by_cases triangle blossom_cuts refl;
  },
  All-from_recursion (λ c. IsWithinOne c ((0 ∷ 1 ∷ 2 ∷ []) ∷ [])) blossom_cuts (
    (0, omega arith, corners 0 refl),
    ((0, omega arith, corners 1 refl), ((0, omega arith, corners 2 refl), ((0, omega arith, λ v h. h), tt))),
  ),
  record {
    apart = (All-nil (AreApart (0 ∷ 1 ∷ 2 ∷ [])), tt);
    ends = All-from_recursion (λ s. ends_in s (link 2 3 (3 ∷ []) ∷ []) ≡ 1) ((0 ∷ 1 ∷ 2 ∷ []) ∷ []) (refl, tt);
    once =
        All-from_recursion (λ c. crossing_links c.vertices (link 2 3 (3 ∷ []) ∷ []) ≤ 1) blossom_cuts
        (omega arith, (omega arith, (omega arith, (omega arith, tt))));
  },
  record {
    pairs = ((1, inl (refl, refl), refl), tt);
    apart = corners_apart;
    within =
        All-from_recursion (λ s. IsWithin s (0 ∷ 1 ∷ 2 ∷ [])) ((2 ∷ []) ∷ (0 ∷ []) ∷ (1 ∷ []) ∷ [])
        (corners 2 refl, (corners 0 refl, (corners 1 refl, tt)));
    nested =
        All-from_recursion
        (λ c. IsWithinOne c ((2 ∷ []) ∷ (0 ∷ []) ∷ (1 ∷ []) ∷ []) ⊎ IsAlikeOver c ((0 ∷ []) ∷ (1 ∷ []) ∷ [])) blossom_cuts (
          inl (1, omega arith, λ v h. h),
          (
            inl (2, omega arith, λ v h. h),
            (
              inl (0, omega arith, λ v h. h),
              (
                inr (
                  true,
                  All-from_recursion (λ s. (v : ℕ) → is_in s v ≡ true → is_in (0 ∷ 1 ∷ 2 ∷ []) v ≡ true) ((0 ∷ []) ∷ (1 ∷ []) ∷ [])
                      (corners 0 refl, (corners 1 refl, tt)),
                ),
                tt,
              ),
            ),
          ),
        );
  },
  refl,
  record {
    apart = corners_apart;
    ends =
        All-from_recursion (λ s. ends_in s (link 0 1 (0 ∷ []) ∷ link 2 3 (3 ∷ []) ∷ []) ≡ 1) (single_sets (2 ∷ 0 ∷ 1 ∷ []))
        (refl, (refl, (refl, tt)));
    once =
        All-from_recursion (λ c. crossing_links c.vertices (link 0 1 (0 ∷ []) ∷ link 2 3 (3 ∷ []) ∷ []) ≤ 1) blossom_cuts
        (omega arith, (omega arith, (omega arith, (omega arith, tt))));
  },
  All-from_recursion (IsTightLink triangle blossom_cuts) (link 0 1 (0 ∷ []) ∷ link 2 3 (3 ∷ []) ∷ []) (
    record { walk = (1, omega arith, inl (refl, refl), refl); tight = refl },
    (record { walk = (3, omega arith, inl (refl, refl), refl); tight = refl }, tt),
  ),
  All-from_recursion
      (EndsAtDefects triangle (2 ∷ 0 ∷ 1 ∷ []))
      (link 0 1 (0 ∷ []) ∷ link 2 3 (3 ∷ []) ∷ [])
      ((λ h. refl, λ h. refl), ((λ h. refl, λ h. absurd (false≢true h)), tt)),
  of_three (λ v. is_in (0 ∷ 1 ∷ 2 ∷ []) v ≡ is_in (2 ∷ 0 ∷ 1 ∷ []) v) 0 1 2 refl refl refl,
)
