-- A search on a line.
use Rattle.std.proofs.Common.{ℕ, ◌≡◌, ◌+◌, ◌%◌, inl, inr, true, [], ◌∷◌, refl, arith}
use Rattle.std.proofs.lemmas.List.Elements.{All-nil, All-from_recursion}
use Rattle.fb_graph.specs.Parity.{is_in}
use Rattle.fb_graph.specs.Problem.{edge_at}
use Rattle.fb_graph.specs.Certificate.{IsOddCut}
use Rattle.fb_graph.specs.Laws.{Link, has_real_end}
use Rattle.fb_graph.specs.Dual.{IsHeld, all_cuts, leaves, is_outer, height_of}
use Rattle.fb_graph.specs.Counts.{as_count}
use Rattle.fb_graph.specs.Ends.{ends_in}
use Rattle.fb_laws.specs.Fusion.{IsLinkOf}
use Rattle.fb_graph.specs.Links.{IsTightLink, AreEven}
use Rattle.fb_witnesses.specs.InternalSamples.{line, link}
use Rattle.fb_graph.specs.Singles.{AreSingles}
use Rattle.fb_laws.specs.Works.{AreMatchedLinks, IsMatching}
use Rattle.fb_laws.specs.Searches.{IsSearch}
use Rattle.fb_witnesses.specs.SearchWitnesses.{chain_singles, chain_nodes, chain_branch, SearchWitness}
use Rattle.fb_witnesses.proofs.SampleParts.{one_height, some_walk}
use Rattle.fb_witnesses.proofs.SampleStates.{odd_cut, of_three}
use Rattle.fb_laws.proofs.SearchStates.{search_attached}
use Rattle.fb_graph.proofs.SingleStates.{singles_are_dual}
use Rattle.fb_witnesses.proofs.ByCases.{fits_by_cases}

chain_are_singles : AreSingles (line (1 ∷ 2 ∷ 3 ∷ [])) chain_singles
chain_are_singles = record {
  names = (refl, (refl, (refl, tt)));
  vertices = (refl, (refl, (refl, tt)));
  real = All-from_recursion (λ s. is_in (1 ∷ 2 ∷ 3 ∷ []) s.vertex ≡ true) chain_singles (refl, (refl, (refl, tt)));
  packing = record {
    odd =
        All-from_recursion (IsOddCut (line (1 ∷ 2 ∷ 3 ∷ []))) (all_cuts chain_nodes)
        (odd_cut _ _ (refl, tt) refl refl, (odd_cut _ _ (refl, tt) refl refl, (odd_cut _ _ (refl, tt) refl refl, tt)));
    fits = fits_by_cases (line (1 ∷ 2 ∷ 3 ∷ [])) (all_cuts chain_nodes) refl;
  };
  held =
      All-from_recursion (IsHeld (line (1 ∷ 2 ∷ 3 ∷ []))) (all_cuts chain_nodes)
      (inr (0, omega arith, refl), (inr (1, omega arith, refl), (inl refl, tt)));
  total = omega arith;
}

AtDefects : Link → Type 0
AtDefects l =
    (is_in (1 ∷ 2 ∷ 3 ∷ []) l.from ≡ true → is_in (1 ∷ 2 ∷ 3 ∷ []) l.from ≡ true)
    × (is_in (1 ∷ 2 ∷ 3 ∷ []) l.to ≡ true → is_in (1 ∷ 2 ∷ 3 ∷ []) l.to ≡ true)

-- a link over one edge of the line
matched_pair : AreMatchedLinks (line (1 ∷ 2 ∷ 3 ∷ [])) chain_nodes (link 2 1 (1 ∷ []) ∷ [])
unfolding AtDefects
matched_pair = record {
  tight =
      All-from_recursion (IsTightLink (line (1 ∷ 2 ∷ 3 ∷ [])) (all_cuts chain_nodes)) (link 2 1 (1 ∷ []) ∷ [])
      (record { walk = (1, omega arith, inr (refl, refl), refl); tight = refl }, tt);
  own =
      All-from_recursion (IsLinkOf (line (1 ∷ 2 ∷ 3 ∷ []))) (link 2 1 (1 ∷ []) ∷ []) (
        record {
          walk = (1, omega arith, inr (refl, refl), refl);
          moves = some_walk 1 [];
          real =
              All-from_recursion (λ k. has_real_end (line (1 ∷ 2 ∷ 3 ∷ [])) (edge_at (line []).edges k) ≡ true) (1 ∷ []) (refl, tt);
        },
        tt,
      );
  at_defects = All-from_recursion AtDefects (link 2 1 (1 ∷ []) ∷ []) ((λ h. refl, λ h. refl), tt);
}

root_link : AreMatchedLinks (line (1 ∷ 2 ∷ 3 ∷ [])) chain_nodes (link 3 2 (2 ∷ []) ∷ [])
unfolding AtDefects
root_link = record {
  tight =
      All-from_recursion (IsTightLink (line (1 ∷ 2 ∷ 3 ∷ [])) (all_cuts chain_nodes)) (link 3 2 (2 ∷ []) ∷ [])
      (record { walk = (2, omega arith, inr (refl, refl), refl); tight = refl }, tt);
  own =
      All-from_recursion (IsLinkOf (line (1 ∷ 2 ∷ 3 ∷ []))) (link 3 2 (2 ∷ []) ∷ []) (
        record {
          walk = (2, omega arith, inr (refl, refl), refl);
          moves = some_walk 2 [];
          real =
              All-from_recursion (λ k. has_real_end (line (1 ∷ 2 ∷ 3 ∷ [])) (edge_at (line []).edges k) ≡ true) (2 ∷ []) (refl, tt);
        },
        tt,
      );
  at_defects = All-from_recursion AtDefects (link 3 2 (2 ∷ []) ∷ []) ((λ h. refl, λ h. refl), tt);
}

even_heights : (d : ℕ) → is_in (leaves chain_nodes) d ≡ true → height_of (all_cuts chain_nodes) d % 2 ≡ 0
even_heights = of_three (λ d. height_of (all_cuts chain_nodes) d % 2 ≡ 0) 1 2 3 refl refl refl

chain_matching : IsMatching (line (1 ∷ 2 ∷ 3 ∷ [])) chain_nodes (link 2 1 (1 ∷ []) ∷ []) (2 ∷ [])
chain_matching = record {
  dual = singles_are_dual (line (1 ∷ 2 ∷ 3 ∷ [])) chain_singles chain_are_singles;
  defects = λ v real. refl;
  links_are = matched_pair;
  matched =
      All-from_recursion
      (λ n. is_outer chain_nodes n.name ≡ true
      → ends_in n.top.vertices (link 2 1 (1 ∷ []) ∷ []) + as_count (is_in (2 ∷ []) n.name) ≡ 1) chain_nodes
      (λ outer. refl, (λ outer. refl, (λ outer. refl, tt)));
  one_parity = one_height chain_nodes 0 even_heights;
}

chain_begins : IsSearch (line (1 ∷ 2 ∷ 3 ∷ [])) chain_nodes [] (link 2 1 (1 ∷ []) ∷ []) (2 ∷ []) 2 0
unfolding AtDefects
chain_begins = record {
  matching = chain_matching;
  root_is = (3, refl, refl);
  open_root = refl;
  names = (refl, tt);
  joined = tt;
  grown = record {
    tight = All-nil (IsTightLink (line (1 ∷ 2 ∷ 3 ∷ [])) (all_cuts chain_nodes));
    own = All-nil (IsLinkOf (line (1 ∷ 2 ∷ 3 ∷ [])));
    at_defects = All-nil AtDefects;
  };
  parity = λ d name leaf cover among. even_heights d leaf;
}

even_line : AreEven (line (1 ∷ 2 ∷ 3 ∷ []))
even_line = All-from_recursion (λ e. e.weight % 2 ≡ 0) (line (1 ∷ 2 ∷ 3 ∷ [])).edges (refl, (refl, (refl, (refl, tt))))

pub search_witness : SearchWitness
search_witness = (
  chain_begins,
  search_attached (line (1 ∷ 2 ∷ 3 ∷ [])) chain_nodes [] chain_branch [] (2 ∷ []) 2 0 even_line chain_begins refl
      (inl (refl, refl)) (inl (refl, refl)) root_link,
)
