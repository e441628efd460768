-- The triangle's blossom, matched to the boundary, opened.
use Rattle.std.proofs.Common.{ℕ, ◌≡◌, ◌+◌, ◌%◌, ◌<◌, ◌==◌, inl, inr, true, List, [], ◌∷◌, refl, sym, ap, ◌∙◌, arith}
use Rattle.std.proofs.Math.Bool.{or-false}
use Rattle.std.proofs.lemmas.Bool.{eqb-true, false≢true}
use Rattle.std.proofs.lemmas.List.Elements.{All-nil, All-from_recursion}
use Rattle.fb_graph.specs.Parity.{is_in}
use Rattle.fb_graph.specs.Problem.{edge_at}
use Rattle.fb_graph.specs.Components.{Leads}
use Rattle.fb_graph.specs.Laws.{IsTight, has_real_end}
use Rattle.fb_graph.specs.Dual.{all_cuts, height_of, is_outer, leaves}
use Rattle.fb_graph.specs.Counts.{as_count}
use Rattle.fb_graph.specs.Ends.{ends_in}
use Rattle.fb_graph.specs.Links.{IsTightLink}
use Rattle.fb_graph.specs.SourceWalks.{HasWalks, IsEdgeIn}
use Rattle.fb_graph.specs.Nests.{child_sets}
use Rattle.fb_laws.specs.Fusion.{IsLinkOf}
use Rattle.fb_laws.specs.NestedSearches.{IsNestedWork}
use Rattle.fb_witnesses.specs.OpenedWitnesses.{NestedExample, PartWitness, RingExample, triangle_part}
use Rattle.fb_laws.specs.PartStates.{IsPartState, IsRing}
use Rattle.fb_witnesses.specs.ResolvedWitnesses.{closed_nodes}
use Rattle.fb_witnesses.specs.InternalSamples.{link, triangle}
use Rattle.fb_laws.specs.Works.{AreMatchedLinks, IsMatching}
use Rattle.fb_laws.specs.Opening.{EndsAtDefects}
use Rattle.fb_graph.proofs.Sets.{is_in-All}
use Rattle.fb_witnesses.proofs.SampleNests.{grown_blossom}
use Rattle.fb_witnesses.proofs.SampleResolutions.{resolved_witness}
use Rattle.fb_witnesses.proofs.SampleParts.{some_walk}
use Rattle.fb_laws.proofs.SearchStates.{links_joined}

over_edge : (u v k : ℕ) → k < 4 → Leads (edge_at triangle.edges k) u v
    → IsTight triangle (all_cuts closed_nodes) (link u v (k ∷ []))
    → has_real_end triangle (edge_at triangle.edges k) ≡ true
    → AreMatchedLinks triangle closed_nodes (link u v (k ∷ []) ∷ [])
over_edge u v k less leads tight real = record {
  tight =
      All-from_recursion (IsTightLink triangle (all_cuts closed_nodes)) (link u v (k ∷ []) ∷ [])
      (record { walk = (v, less, leads, refl); tight = tight }, tt);
  own =
      All-from_recursion (IsLinkOf triangle) (link u v (k ∷ []) ∷ []) (
        record {
          walk = (v, less, leads, refl);
          moves = some_walk k [];
          real = All-from_recursion (λ j. has_real_end triangle (edge_at triangle.edges j) ≡ true) (k ∷ []) (real, tt);
        },
        tt,
      );
  at_defects = All-from_recursion (EndsAtDefects triangle (leaves closed_nodes)) (link u v (k ∷ []) ∷ []) ((λ h. h, λ h. h), tt);
}

matched : AreMatchedLinks triangle closed_nodes (link 2 3 (3 ∷ []) ∷ [])
matched = over_edge 2 3 3 (omega arith) (inl (refl, refl)) refl refl

ring : AreMatchedLinks triangle closed_nodes (link 0 1 (0 ∷ []) ∷ link 1 2 (1 ∷ []) ∷ link 2 0 (2 ∷ []) ∷ [])
ring =
    links_joined triangle closed_nodes (link 0 1 (0 ∷ []) ∷ []) (link 1 2 (1 ∷ []) ∷ link 2 0 (2 ∷ []) ∷ [])
    (over_edge 0 1 0 (omega arith) (inl (refl, refl)) refl refl)
    (links_joined triangle closed_nodes (link 1 2 (1 ∷ []) ∷ []) (link 2 0 (2 ∷ []) ∷ [])
    (over_edge 1 2 1 (omega arith) (inl (refl, refl)) refl refl)
    (over_edge 2 0 2 (omega arith) (inr (refl, refl)) refl refl))

heights : (d : ℕ) → is_in (leaves closed_nodes) d ≡ true → height_of (all_cuts closed_nodes) d % 2 ≡ 0
heights =
    is_in-All (λ d. height_of (all_cuts closed_nodes) d % 2 ≡ 0) (0 ∷ 1 ∷ 2 ∷ [])
    (All-from_recursion (λ d. height_of (all_cuts closed_nodes) d % 2 ≡ 0) (0 ∷ 1 ∷ 2 ∷ []) (refl, (refl, (refl, tt))))

matching : IsMatching triangle closed_nodes (link 2 3 (3 ∷ []) ∷ []) []
matching = record {
  dual = grown_blossom.dual;
  defects = λ v real. refl;
  links_are = matched;
  matched =
      All-from_recursion
      (λ n. is_outer closed_nodes n.name ≡ true
      → ends_in n.top.vertices (link 2 3 (3 ∷ []) ∷ []) + as_count (is_in [] n.name) ≡ 1) closed_nodes (
        λ outer. absurd (false≢true outer),
        (λ outer. absurd (false≢true outer), (λ outer. absurd (false≢true outer), (λ outer. refl, tt))),
      );
  one_parity = λ d e name leaf other over under. heights d leaf ∙ sym (heights e other);
}

-- a defect is its own source
walks_of_defects : (set : List ℕ) → ((v : ℕ) → is_in set v ≡ true → is_in (leaves closed_nodes) v ≡ true)
    → HasWalks triangle closed_nodes set
walks_of_defects set within v h = (
  [],
  v,
  record {
    defect = within v h;
    begins = h;
    stays = All-nil (λ k. IsEdgeIn set (edge_at triangle.edges k));
    source = record { leads = refl; balance = omega arith };
  },
)

corner : (c : ℕ) → is_in (0 ∷ 1 ∷ 2 ∷ []) c ≡ true → (v : ℕ) → is_in (c ∷ []) v ≡ true
    → is_in (leaves closed_nodes) v ≡ true
corner c within v h =
    ap (is_in (0 ∷ 1 ∷ 2 ∷ [])) (sym (eqb-true c v (sym (or-false (c == v)) ∙ h))) ∙ within

work : IsNestedWork triangle closed_nodes (link 2 3 (3 ∷ []) ∷ []) []
work = record {
  nest = grown_blossom;
  work = record { matching = matching; even = λ d name leaf over none. heights d leaf };
  walks =
      All-from_recursion (λ c. HasWalks triangle closed_nodes c.vertices) (all_cuts closed_nodes) (
        walks_of_defects (0 ∷ []) (corner 0 refl),
        (
          walks_of_defects (1 ∷ []) (corner 1 refl),
          (walks_of_defects (2 ∷ []) (corner 2 refl), (walks_of_defects (0 ∷ 1 ∷ 2 ∷ []) (λ v h. h), tt)),
        ),
      );
  outer = λ n h. absurd (false≢true h);
}

part : IsPartState triangle triangle_part
part = record {
  work = work;
  cycles = record {
    rings =
        All-from_recursion (λ n. IsRing (child_sets closed_nodes n) (triangle_part.cycles n.name)) closed_nodes (
          tt,
          (
            tt,
            (
              tt,
              (
                (
                  (1, inl (refl, refl), refl),
                  ((2, inl (refl, refl), refl), ((0, inl (refl, refl), refl), tt)),
                ),
                tt,
              ),
            ),
          ),
        );
    links = ring;
  };
  names = record { live = λ n h. absurd (false≢true h); distinct = tt };
}

pub part_witness : PartWitness
part_witness = (part, refl, resolved_witness.10)

pub nested_example : NestedExample
nested_example = refl

pub ring_example : RingExample
ring_example = (refl, refl, refl, refl)
