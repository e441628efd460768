-- The premises of the law on a cycle that becomes a blossom, computed on the triangle.
use Rattle.std.proofs.Common.{◌≡◌, ◌+◌, inl, true, false, [], ◌∷◌, refl, arith}
use Rattle.std.proofs.lemmas.List.Elements.{All-from_recursion}
use Rattle.fb_graph.specs.Parity.{is_in}
use Rattle.fb_graph.specs.Problem.{edge_at}
use Rattle.fb_graph.specs.Laws.{has_real_end}
use Rattle.fb_graph.specs.Dual.{all_cuts, is_outer}
use Rattle.fb_graph.specs.Counts.{as_count}
use Rattle.fb_graph.specs.Ends.{ends_in}
use Rattle.fb_laws.specs.Blossoms.{IsInside}
use Rattle.fb_graph.specs.Links.{IsTightLink}
use Rattle.fb_laws.specs.Fusion.{IsLinkOf}
use Rattle.fb_laws.specs.Works.{IsSetOf}
use Rattle.fb_witnesses.specs.InternalSamples.{link, triangle, corner_nodes, corner_singles}
use Rattle.fb_witnesses.specs.Witnesses.{FormingWitness}
use Rattle.fb_witnesses.proofs.SampleLevels.{corners_apart}
use Rattle.fb_witnesses.proofs.SampleParts.{corner_height, one_height, some_walk}
use Rattle.fb_witnesses.proofs.SampleStates.{corners_are_singles}
use Rattle.fb_graph.proofs.SingleStates.{singles_are_dual}

pub forming_witness : FormingWitness
forming_witness = (
  record {
    dual = singles_are_dual triangle corner_singles corners_are_singles;
    defects = λ v real. refl;
    links_are = record {
      tight =
          All-from_recursion (IsTightLink triangle (all_cuts corner_nodes)) (link 0 1 (0 ∷ []) ∷ [])
          (record { walk = (1, omega arith, inl (refl, refl), refl); tight = refl }, tt);
      own =
          All-from_recursion (IsLinkOf triangle) (link 0 1 (0 ∷ []) ∷ []) (
            record {
              walk = (1, omega arith, inl (refl, refl), refl);
              moves = some_walk 0 [];
              real = All-from_recursion (λ k. has_real_end triangle (edge_at triangle.edges k) ≡ true) (0 ∷ []) (refl, tt);
            },
            tt,
          );
      at_defects =
          All-from_recursion
          (λ l. (is_in (0 ∷ 1 ∷ 2 ∷ []) l.from ≡ true → is_in (0 ∷ 1 ∷ 2 ∷ []) l.from ≡ true)
          × (is_in (0 ∷ 1 ∷ 2 ∷ []) l.to ≡ true → is_in (0 ∷ 1 ∷ 2 ∷ []) l.to ≡ true))
          (link 0 1 (0 ∷ []) ∷ []) ((λ h. h, λ h. h), tt);
    };
    matched =
        All-from_recursion
        (λ n. is_outer corner_nodes n.name ≡ true
        → ends_in n.top.vertices (link 0 1 (0 ∷ []) ∷ []) + as_count (is_in (2 ∷ []) n.name) ≡ 1)
        corner_nodes (λ outer. refl, (λ outer. refl, (λ outer. refl, tt)));
    one_parity = one_height corner_nodes 1 corner_height;
  },
  record {
    nodes_are =
        All-from_recursion (λ c. IsSetOf corner_nodes c.name c.set)
        (record { name = 2; set = 2 ∷ [] } ∷ record { name = 0; set = 0 ∷ [] } ∷ record { name = 1; set = 1 ∷ [] } ∷ [])
        ((2, omega arith, refl, refl, refl), ((0, omega arith, refl, refl, refl), ((1, omega arith, refl, refl, refl), tt)));
    apart = corners_apart;
    inside = All-from_recursion (IsInside (2 ∷ 0 ∷ 1 ∷ [])) (link 0 1 (0 ∷ []) ∷ []) ((refl, refl), tt);
    even = refl;
    matched =
        All-from_recursion (λ c. is_in (2 ∷ []) c.name ≡ false)
        (record { name = 0; set = 0 ∷ [] } ∷ record { name = 1; set = 1 ∷ [] } ∷ []) (refl, (refl, tt));
    parity = λ d name leaf cover among. corner_height d leaf;
  },
  refl,
)
