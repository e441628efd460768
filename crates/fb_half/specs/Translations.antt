-- A program keeps links by their numbers. The laws of the method speak of the links themselves: a walk's two ends and
-- its edges.
use Rattle.std.specs.Prelude.{ℕ, List, map, flat_map, Option}
use Rattle.fb_graph.specs.Laws.{Link}
use Rattle.fb_graph.specs.Dual.{Node}
use Rattle.fb_links.specs.declared.walk.Step.{Step}
use Rattle.fb_links.specs.Table.{walk_at}
use Rattle.fb_links.specs.Walks.{start_of, end_of}
use Rattle.fb_blossoms.specs.Nodes.{cycle_at}
use Rattle.fb_blossoms.specs.Nodes as blossoms
use Rattle.fb_laws.specs.Trees.{EntryOf, Entry}

-- the link of a walk
abbrev pub link_of : List Step → Link
link_of walk = record { from = start_of walk; to = end_of walk; walk = map (λ s. s.edge) walk }

-- the link of this number
abbrev pub link_by : List (Option (List Step)) → ℕ → Link
link_by table id = link_of (walk_at table id)

-- the numbers of the links round a blossom; none round a leaf
abbrev pub ring_at : List (Option blossoms.Node) → ℕ → List ℕ
ring_at store name = map (λ s. s.link) (cycle_at store name)

-- the names of its children, in the order of the cycle
abbrev pub children_at : List (Option blossoms.Node) → ℕ → List ℕ
children_at store name = map (λ s. s.node) (cycle_at store name)

-- the links round each blossom
abbrev pub cycles_by : List (Option (List Step)) → List (Option blossoms.Node) → ℕ → List Link
cycles_by table store name = map (link_by table) (ring_at store name)

-- the numbers of the links round all blossoms, node after node
abbrev pub ring_links : List Node → List (Option blossoms.Node) → List ℕ
ring_links nodes store = flat_map (λ n. ring_at store n.name) nodes

-- a branch of a tree with its links in the place of their numbers
abbrev pub entry_by : List (Option (List Step)) → EntryOf ℕ → Entry
entry_by table e = record {
  parent = e.parent;
  tree = link_by table e.tree;
  minus = e.minus;
  matched = link_by table e.matched;
  plus = e.plus;
}
