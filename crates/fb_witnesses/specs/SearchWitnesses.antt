-- The premises of the laws of searches are met: three defects on a line, of which two are matched and the third
-- one, the root, meets them.
use Rattle.std.specs.Prelude.{List, [], ◌∷◌}
use Rattle.fb_graph.specs.Dual.{Node}
use Rattle.fb_graph.specs.Singles.{Single, nodes_of}
use Rattle.fb_witnesses.specs.InternalSamples.{line, link, single}
use Rattle.fb_laws.specs.Trees.{Entry}
use Rattle.fb_laws.specs.Searches.{IsSearch}

abbrev pub chain_singles : List Single
chain_singles = single 0 1 2 ∷ single 1 2 2 ∷ single 2 3 0 ∷ []

abbrev pub chain_nodes : List Node
chain_nodes = nodes_of chain_singles

abbrev pub chain_branch : Entry
chain_branch = record {
  parent = 2;
  tree = link 3 2 (2 ∷ []);
  minus = 1;
  matched = link 2 1 (1 ∷ []);
  plus = 0;
}

-- The search before and after the two are attached.
abbrev pub SearchWitness : Type 0
SearchWitness = IsSearch (line (1 ∷ 2 ∷ 3 ∷ [])) chain_nodes [] (link 2 1 (1 ∷ []) ∷ []) (2 ∷ []) 2 0
    × IsSearch (line (1 ∷ 2 ∷ 3 ∷ [])) chain_nodes (chain_branch ∷ []) [] (2 ∷ []) 2 0
