-- The whole states of searches, on small graphs.
use Rattle.std.proofs.Common.{ℕ, ◌≡◌, ◌%◌, ◌≤◌, ◌<◌, inl, inr, true, false, List, [], ◌∷◌, refl, sym, arith}
use Rattle.std.proofs.lemmas.Bool.{false≢true}
use Rattle.std.proofs.lemmas.List.Elements.{All-from_recursion}
use Rattle.fb_graph.specs.Parity.{is_in, is_odd_count}
use Rattle.fb_graph.specs.Problem.{Flips, edge_at, touches}
use Rattle.fb_graph.specs.Limits.{IsWithinLimits}
use Rattle.fb_graph.specs.Laws.{Link, HasNoOddClosed}
use Rattle.fb_graph.specs.Dual.{AreUnderOne, all_cuts, height_of, is_empty, is_outer, leaves}
use Rattle.fb_graph.proofs.Sets.{is_in-All}
use Rattle.fb_graph.specs.Covers.{HasNoObstacle, IsClear}
use Rattle.fb_graph.specs.Links.{AreEven}
use Rattle.fb_graph.specs.Moves.{MaySplit, MayAbsorb, joined_nodes, uncovered_nodes}
use Rattle.fb_graph.specs.Nests.{IsNest}
use Rattle.fb_laws.specs.NestedSearches.{IsNestedSearch}
use Rattle.fb_witnesses.specs.NestedWitnesses.{NestedWitness, EndingWitness, wide_nodes, low_nodes, wide_child, low_children}
use Rattle.fb_witnesses.specs.InternalSamples.{line, link, pair_nodes, pair_singles}
use Rattle.fb_laws.specs.SearchBlossoms.{IsJoining}
use Rattle.fb_laws.specs.Searches.{IsSearch}
use Rattle.fb_witnesses.specs.SearchWitnesses.{chain_branch, chain_nodes, chain_singles}
use Rattle.fb_graph.specs.Steps.{MayStep}
use Rattle.fb_laws.specs.Trees.{Entry, roles_of}
use Rattle.fb_witnesses.specs.TreeWitnesses.{long_line, thin_nodes, thin_branch, two_tailed_nodes}
use Rattle.fb_laws.specs.Works.{IsSetOf}
use Rattle.fb_graph.proofs.BeginningNests.{singles_are_nest}
use Rattle.fb_laws.proofs.NestedStates.{nested_stepped, nested_absorbed, nested_uncovered}
use Rattle.fb_witnesses.proofs.SampleNests.{limits_by_cases}
use Rattle.fb_witnesses.proofs.SampleOpenings.{closed_nest, closed_walks, splitting_witness}
use Rattle.fb_witnesses.proofs.SampleParts.{no_links, of_two, work_witness}
use Rattle.fb_witnesses.proofs.SampleSearches.{search_witness}
use Rattle.fb_witnesses.proofs.SampleStates.{may_by_cases, no_odd_closed_by, of_three}
use Rattle.fb_witnesses.proofs.SampleTrees.{elsewhere, even_long, may_thin, one_link, thin_nest, thin_outer, thin_search, thin_walks}
use Rattle.fb_graph.proofs.SourceWalks.{walks_begin}
use Rattle.fb_witnesses.proofs.ByCases.{below_by_cases}
use Rattle.fb_graph.proofs.SingleStates.{all_outer}

-- four members, one after another
of_four : (P : ℕ → Type 0) (a b c d : ℕ) → P a → P b → P c → P d → (v : ℕ) → is_in (a ∷ b ∷ c ∷ d ∷ []) v ≡ true → P v
of_four P a b c d first second third fourth =
    is_in-All P (a ∷ b ∷ c ∷ d ∷ [])
    (All-from_recursion P (a ∷ b ∷ c ∷ d ∷ []) (first, (second, (third, (fourth, tt)))))

long_limits : IsWithinLimits long_line
long_limits =
    limits_by_cases long_line (omega arith) (omega arith) refl
    (of_four (λ v. v < 6) 1 2 3 4 (omega arith) (omega arith) (omega arith) (omega arith))

long_flips : Flips long_line (0 ∷ 3 ∷ [])
long_flips =
    of_four (λ v. is_odd_count (λ k. touches v (edge_at long_line.edges k)) (0 ∷ 3 ∷ [])
    ≡ long_line.is_defect v) 1 2 3 4
    refl refl refl refl

no_odd_part : HasNoOddClosed long_line
no_odd_part = no_odd_closed_by long_line (0 ∷ 3 ∷ []) (below_by_cases 5 (0 ∷ 3 ∷ []) refl) long_flips

thin_state : IsNestedSearch long_line thin_nodes (thin_branch ∷ []) [] (0 ∷ []) 0 0
thin_state = record {
  nest = thin_nest;
  search = thin_search;
  even = λ d name leaf cover among. absurd (false≢true among);
  walks = thin_walks;
  outer = thin_outer;
}

given_state : IsNestedSearch long_line (uncovered_nodes 1 thin_nodes) (thin_branch ∷ []) [] (0 ∷ []) 0 0
given_state = nested_uncovered long_line thin_nodes (thin_branch ∷ []) [] (0 ∷ []) 0 0 1 may_thin thin_state

may_widen : MayAbsorb long_line (uncovered_nodes 1 thin_nodes) 0 1 1 2
may_widen = record {
  within = omega arith;
  leads = inl (refl, refl);
  tight = refl;
  covered = refl;
  uncovered = refl;
  real = refl;
}

wide_state : IsNestedSearch long_line wide_nodes (thin_branch ∷ []) [] (0 ∷ []) 0 0
wide_state =
    nested_absorbed long_line (uncovered_nodes 1 thin_nodes) (thin_branch ∷ []) [] (0 ∷ []) 0 0 0 1 1 2 even_long may_widen
    given_state

may_step : MayStep long_line (roles_of 0 (thin_branch ∷ [])) wide_nodes 2
may_step =
    may_by_cases long_line (roles_of 0 (thin_branch ∷ [])) wide_nodes 2 refl
    (All-from_recursion (λ n. (roles_of 0 (thin_branch ∷ [])).is_minus n.name ≡ true → 2 ≤ n.top.value) wide_nodes
    (λ e. absurd (false≢true e), (λ e. omega arith, (λ e. absurd (false≢true e), tt))))

wide_clear : HasNoObstacle long_line (roles_of 0 (thin_branch ∷ [])) wide_nodes
wide_clear = record {
  edges =
      All-from_recursion
      (λ e. ¬ AreUnderOne wide_nodes e.first e.second → IsClear (roles_of 0 (thin_branch ∷ [])) wide_nodes e)
      long_line.edges (
        λ h. record { first = λ plus minus. absurd (false≢true plus); second = λ plus minus. omega arith },
        (
          λ h. absurd (h (0, refl, refl)),
          (
            λ h. record {
              first = λ plus minus. absurd (false≢true (sym minus));
              second = λ plus minus. absurd (false≢true plus);
            },
            (
              λ h. record {
                first = λ plus minus. absurd (false≢true plus);
                second = λ plus minus. absurd (false≢true (sym minus));
              },
              (λ h. record { first = λ plus minus. omega arith; second = λ plus minus. absurd (false≢true plus) }, tt),
            ),
          ),
        ),
      );
  layers =
      All-from_recursion (λ n. (roles_of 0 (thin_branch ∷ [])).is_minus n.name ≡ true → 1 ≤ n.top.value) wide_nodes
      (λ e. absurd (false≢true e), (λ e. omega arith, (λ e. absurd (false≢true e), tt)));
}

pub low_state : IsNestedSearch long_line low_nodes (thin_branch ∷ []) [] (0 ∷ []) 0 0
low_state =
    nested_stepped long_line wide_nodes (thin_branch ∷ []) []
    (0 ∷ []) 0 0 2 long_limits no_odd_part may_step wide_state

pub low_joining : IsJoining low_nodes (thin_branch ∷ []) 0 3 wide_child low_children
low_joining = record {
  nodes_are =
      All-from_recursion (λ c. IsSetOf low_nodes c.name c.set) (wide_child ∷ low_children) (
        (0, omega arith, refl, refl, refl),
        ((1, omega arith, refl, refl, refl), ((2, omega arith, refl, refl, refl), tt)),
      );
  distinct = (refl, (refl, (refl, tt)));
  in_tree =
      All-from_recursion (λ c. is_in (1 ∷ 2 ∷ 0 ∷ []) c.name ≡ true) (wide_child ∷ low_children)
      (refl, (refl, (refl, tt)));
  plus = refl;
  branches = record {
    inner =
        All-from_recursion
        (λ e. is_in (0 ∷ 1 ∷ 2 ∷ []) e.minus ≡ true
        → (is_in (0 ∷ 1 ∷ 2 ∷ []) e.parent ≡ true) × (is_in (0 ∷ 1 ∷ 2 ∷ []) e.plus ≡ true))
        (thin_branch ∷ []) (λ h. (refl, refl), tt);
    outer =
        All-from_recursion
        (λ e. is_in (0 ∷ 1 ∷ 2 ∷ []) e.minus ≡ false → is_in (0 ∷ 1 ∷ 2 ∷ []) e.plus ≡ true → e.plus ≡ 0)
        (thin_branch ∷ []) (λ h. absurd (false≢true (sym h)), tt);
    roots = λ h. refl;
  };
  even = refl;
  fresh = refl;
}

may_open : MaySplit (joined_nodes 5 (0 ∷ 1 ∷ 2 ∷ []) two_tailed_nodes) 5
may_open = record {
  live = refl;
  outer = refl;
  bare =
      All-from_recursion (λ n. n.name ≡ 5 → (is_empty n.children ≡ false) × (n.below ≡ []) × (n.top.value ≡ 0))
      (joined_nodes 5 (0 ∷ 1 ∷ 2 ∷ []) two_tailed_nodes) (
        λ e. absurd cc,
        (
          λ e. absurd cc,
          (λ e. absurd cc, (λ e. absurd cc, (λ e. absurd cc, (λ e. (refl, refl, refl), tt)))),
        ),
      );
}

pub nested_witness : NestedWitness
nested_witness = (
  long_limits,
  no_odd_part,
  even_long,
  may_thin,
  thin_state,
  may_widen,
  given_state,
  may_step,
  wide_clear,
  wide_state,
  low_joining,
  refl,
  refl,
  of_three (λ n. is_in (3 ∷ []) n ≡ false) 0 1 2 refl refl refl,
  elsewhere 3 0 (1 ∷ 2 ∷ []),
  low_state,
  may_open,
  record {
    nest = closed_nest;
    search = splitting_witness.0;
    even = λ d name leaf cover among. absurd (false≢true among);
    walks = closed_walks;
    outer =
        is_in-All (λ n. is_outer (joined_nodes 5 (0 ∷ 1 ∷ 2 ∷ []) two_tailed_nodes) n ≡ true) (4 ∷ [])
        (All-from_recursion (λ n. is_outer (joined_nodes 5 (0 ∷ 1 ∷ 2 ∷ []) two_tailed_nodes) n ≡ true) (4 ∷ []) (refl, tt));
  },
)

-- three defects on the line, and two

chain_nest : IsNest (line (1 ∷ 2 ∷ 3 ∷ [])) chain_nodes
chain_nest =
    singles_are_nest (line (1 ∷ 2 ∷ 3 ∷ [])) chain_singles (refl, (refl, (refl, tt))) search_witness.0.matching.dual

pair_nest : IsNest (line (1 ∷ 2 ∷ [])) pair_nodes
pair_nest = singles_are_nest (line (1 ∷ 2 ∷ [])) pair_singles (refl, (refl, tt)) work_witness.4.dual

pair_heights : (d : ℕ) → is_in (leaves pair_nodes) d ≡ true → height_of (all_cuts pair_nodes) d % 2 ≡ 0
pair_heights = of_two (λ d. height_of (all_cuts pair_nodes) d % 2 ≡ 0) 1 2 refl refl

two_open : IsNestedSearch (line (1 ∷ 2 ∷ [])) pair_nodes [] [] (0 ∷ 1 ∷ []) 0 0
two_open = record {
  nest = pair_nest;
  search = record {
    matching = work_witness.4;
    root_is = (1, refl, refl);
    open_root = refl;
    names = (refl, tt);
    joined = tt;
    grown = no_links (line (1 ∷ 2 ∷ [])) pair_nodes;
    parity = λ d name leaf cover among. pair_heights d leaf;
  };
  even = λ d name leaf cover among. pair_heights d leaf;
  walks = walks_begin (line (1 ∷ 2 ∷ [])) pair_singles;
  outer = λ n among. all_outer pair_singles n;
}

one_open : IsNestedSearch (line (1 ∷ 2 ∷ [])) pair_nodes [] (link 1 0 (0 ∷ []) ∷ []) (1 ∷ []) 1 0
one_open = record {
  nest = pair_nest;
  search = record {
    matching = work_witness.5;
    root_is = (2, refl, refl);
    open_root = refl;
    names = (refl, tt);
    joined = tt;
    grown = no_links (line (1 ∷ 2 ∷ [])) pair_nodes;
    parity = λ d name leaf cover among. pair_heights d leaf;
  };
  even = λ d name leaf cover among. pair_heights d leaf;
  walks = walks_begin (line (1 ∷ 2 ∷ [])) pair_singles;
  outer = λ n among. all_outer pair_singles n;
}

even_line : AreEven (line (1 ∷ 2 ∷ 3 ∷ []))
even_line = All-from_recursion (λ e. e.weight % 2 ≡ 0) (line []).edges (refl, (refl, (refl, (refl, tt))))

chain_state : (tree : List Entry) (rest : List Link)
    → IsSearch (line (1 ∷ 2 ∷ 3 ∷ [])) chain_nodes tree rest (2 ∷ []) 2 0
    → IsNestedSearch (line (1 ∷ 2 ∷ 3 ∷ [])) chain_nodes tree rest (2 ∷ []) 2 0
chain_state tree rest search = record {
  nest = chain_nest;
  search = search;
  even = λ d name leaf cover among. absurd (false≢true among);
  walks = walks_begin (line (1 ∷ 2 ∷ 3 ∷ [])) chain_singles;
  outer = λ n among. all_outer chain_singles n;
}

pub ending_witness : EndingWitness
ending_witness = (
  even_line,
  chain_state [] (chain_branch.matched ∷ []) search_witness.0,
  refl,
  inl (refl, refl),
  inl (refl, refl),
  one_link (line (1 ∷ 2 ∷ 3 ∷ [])) chain_nodes 3 2 2 [] (2, omega arith, inr (refl, refl), refl) refl refl (λ h. refl)
      (λ h. refl),
  chain_state (chain_branch ∷ []) [] search_witness.1,
  refl,
  one_link (line (1 ∷ 2 ∷ 3 ∷ [])) chain_nodes 1 0 0 [] (0, omega arith, inr (refl, refl), refl) refl refl (λ h. refl)
      (λ h. absurd (false≢true h)),
  inl (refl, refl),
  refl,
  two_open,
  refl,
  λ e. cc,
  work_witness.8,
  inr (refl, refl),
  one_open,
  inl (refl, refl),
  inl (refl, refl),
)
