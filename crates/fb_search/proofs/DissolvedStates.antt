-- Where a tree is given up while its root's potential is even, its nodes are matched as before, and the state is one
-- between searches.
use Rattle.std.proofs.Common.{◌≡◌, ◌==◌, ◌%◌, ◌⊎◌, inl, inr, not, ◌++◌, ap, ◌∙◌}
use Rattle.std.proofs.lemmas.Bool.{and_from, cases_eq, ne_eqb}
use Rattle.fb_graph.specs.Parity.{is_in}
use Rattle.fb_graph.specs.Problem.{Problem}
use Rattle.fb_graph.specs.Covers.{HaveParity}
use Rattle.fb_graph.specs.Dual.{all_cuts, height_of}
use Rattle.fb_graph.proofs.Sets.{is_in-filter}
use Rattle.fb_laws.specs.PartStates.{IsPartState, IsSearchState, PartState, SearchState}
use Rattle.fb_laws.specs.Trees.{paired_links, tree_names}
use Rattle.fb_search.proofs.DissolvedTrees.{root_in_tree}

-- the part where the tree is given up
abbrev pub dissolved : SearchState → PartState
dissolved s = record {
  nodes = s.nodes;
  cycles = s.cycles;
  matches = paired_links s.tree ++ s.rest;
  unmatched = s.unmatched;
}

-- where the potentials in the tree are even, those of all unmatched nodes are
all_even : (p : Problem) (s : SearchState) → IsSearchState p s → s.parity ≡ 0 → HaveParity (is_in s.unmatched) s.nodes 0
all_even p s state zero d name leaf under open_name = by (cases_eq name s.root)
  where
    by : (name ≡ s.root) ⊎ (name ≡ s.root → ⊥) → height_of (all_cuts s.nodes) d % 2 ≡ 0
    by (inl same) =
        state.search.search.parity d name leaf under (ap (is_in (tree_names s.root s.tree)) same ∙ root_in_tree s.root s.tree)
        ∙ zero
    by (inr other) =
        state.search.even d name leaf under
        (is_in-filter (λ x. not (x == s.root)) s.unmatched name
        ∙ and_from (is_in s.unmatched name) (not (name == s.root)) open_name (ap not (ne_eqb name s.root other)))

pub even_dissolved : (p : Problem) (s : SearchState) → IsSearchState p s → s.parity ≡ 0 → IsPartState p (dissolved s)
even_dissolved p s state zero = record {
  work = record {
    nest = state.search.nest;
    work = record { matching = state.search.search.matching; even = all_even p s state zero };
    walks = state.search.walks;
    outer = state.search.outer;
  };
  cycles = state.cycles;
  names = state.names;
}
