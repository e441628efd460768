-- The whole states of two parts of a line.
use Rattle.std.proofs.Common.{ℕ, ◌≡◌, ◌%◌, ◌<◌, ◌⊎◌, inl, inr, true, false, List, [], ◌∷◌, All, refl, subst, arith}
use Rattle.std.proofs.lemmas.Bool.{false≢true}
use Rattle.std.proofs.lemmas.List.Elements.{All-from_recursion}
use Rattle.fb_graph.specs.Parity.{is_in}
use Rattle.fb_graph.specs.Problem.{Problem}
use Rattle.fb_graph.specs.Limits.{IsWithinLimits}
use Rattle.fb_graph.specs.Laws.{Link}
use Rattle.fb_graph.specs.Dual.{Node, is_live}
use Rattle.fb_witnesses.specs.FusedWitnesses.{FusedWitness}
use Rattle.fb_graph.specs.Links.{AreEven}
use Rattle.fb_graph.specs.NestUnions.{HaveOwnNames}
use Rattle.fb_graph.specs.Nests.{IsNest}
use Rattle.fb_laws.specs.NestedSearches.{IsNestedWork}
use Rattle.fb_witnesses.specs.InternalSamples.{single, link, line, line_part, end_singles, middle_singles}
use Rattle.fb_graph.specs.Singles.{Single, nodes_of}
use Rattle.fb_laws.specs.Works.{IsMatching}
use Rattle.fb_graph.proofs.Among.{All_among, live_among}
use Rattle.fb_graph.proofs.BeginningNests.{singles_are_nest}
use Rattle.fb_laws.proofs.NestedFusions.{nested_merged}
use Rattle.fb_witnesses.proofs.SampleNests.{limits_by_cases}
use Rattle.fb_witnesses.proofs.SampleParts.{of_two}
use Rattle.fb_witnesses.proofs.SampleSeams.{merging_witness}
use Rattle.fb_witnesses.proofs.SampleStates.{of_three}
use Rattle.fb_graph.proofs.SourceWalks.{walks_begin}
use Rattle.fb_graph.proofs.SingleStates.{all_outer}

pub own_by_cases : (nodes others : List Node) → All (λ n. is_live others n.name ≡ false) nodes → HaveOwnNames nodes others
own_by_cases nodes others each n live =
    let (m, a, e) = live_among nodes n live in
    subst (λ x. is_live others x ≡ false) e (All_among (λ x. is_live others x.name ≡ false) nodes each m a)

-- between searches, with nothing unmatched
none_left : (p : Problem) (singles : List Single) (links : List Link) → IsMatching p (nodes_of singles) links []
    → IsNest p (nodes_of singles) → IsNestedWork p (nodes_of singles) links []
none_left p singles links matching nest = record {
  nest = nest;
  work = record { matching = matching; even = λ d name leaf cover among. absurd (false≢true among) };
  walks = walks_begin p singles;
  outer = λ n among. all_outer singles n;
}

right_state : IsNestedWork (line_part (3 ∷ [])) (nodes_of (single 0 3 2 ∷ [])) (link 3 2 (2 ∷ []) ∷ []) []
right_state =
    none_left (line_part (3 ∷ [])) (single 0 3 2 ∷ []) (link 3 2 (2 ∷ []) ∷ []) merging_witness.1
    (singles_are_nest (line_part (3 ∷ [])) (single 0 3 2 ∷ []) (refl, tt) merging_witness.1.dual)

left_state : IsNestedWork (line_part (1 ∷ [])) (nodes_of (single 1 1 2 ∷ [])) (link 1 0 (0 ∷ []) ∷ []) []
left_state =
    none_left (line_part (1 ∷ [])) (single 1 1 2 ∷ []) (link 1 0 (0 ∷ []) ∷ []) merging_witness.2
    (singles_are_nest (line_part (1 ∷ [])) (single 1 1 2 ∷ []) (refl, tt) merging_witness.2.dual)

part_limits : IsWithinLimits (line_part (1 ∷ 3 ∷ []))
part_limits =
    limits_by_cases (line_part (1 ∷ 3 ∷ [])) (omega arith) (omega arith) refl
    (of_two (λ v. v < 5) 1 3 (omega arith) (omega arith))

line_limits : IsWithinLimits (line (1 ∷ 2 ∷ 3 ∷ []))
line_limits =
    limits_by_cases (line (1 ∷ 2 ∷ 3 ∷ [])) (omega arith) (omega arith) refl
    (of_three (λ v. v < 5) 1 2 3 (omega arith) (omega arith) (omega arith))

even_part : AreEven (line_part (1 ∷ 3 ∷ []))
even_part = All-from_recursion (λ e. e.weight % 2 ≡ 0) (line []).edges (refl, (refl, (refl, (refl, tt))))

either : (v : ℕ) → is_in (1 ∷ 3 ∷ []) v ≡ true → (is_in (3 ∷ []) v ≡ true) ⊎ (is_in (1 ∷ []) v ≡ true)
either = of_two (λ v. (is_in (3 ∷ []) v ≡ true) ⊎ (is_in (1 ∷ []) v ≡ true)) 1 3 (inr refl) (inl refl)

pub own_ends : HaveOwnNames (nodes_of (single 0 3 2 ∷ [])) (nodes_of (single 1 1 2 ∷ []))
own_ends =
    own_by_cases (nodes_of (single 0 3 2 ∷ [])) (nodes_of (single 1 1 2 ∷ []))
    (All-from_recursion (λ n. is_live (nodes_of (single 1 1 2 ∷ [])) n.name ≡ false) (nodes_of (single 0 3 2 ∷ []))
    (refl, tt))

pub fused_witness : FusedWitness
fused_witness = (
  part_limits,
  merging_witness.0,
  either,
  own_ends,
  right_state,
  left_state,
  even_part,
  line_limits,
  merging_witness.5,
  (refl, tt),
  (refl, tt),
  All-from_recursion (λ s. (line (1 ∷ 2 ∷ 3 ∷ [])).is_real s.vertex ≡ true) middle_singles (refl, tt),
  own_by_cases (nodes_of end_singles) (nodes_of middle_singles)
      (All-from_recursion (λ n. is_live (nodes_of middle_singles) n.name ≡ false) (nodes_of end_singles)
      (refl, (refl, tt))),
  nested_merged (line_part (3 ∷ [])) (line_part (1 ∷ [])) (line_part (1 ∷ 3 ∷ [])) (nodes_of (single 0 3 2 ∷ []))
      (nodes_of (single 1 1 2 ∷ [])) (link 3 2 (2 ∷ []) ∷ []) (link 1 0 (0 ∷ []) ∷ []) [] [] part_limits
      merging_witness.0 either own_ends (λ n h. absurd (false≢true h)) (λ n h. absurd (false≢true h)) right_state
      left_state,
)
