use Rattle.std.proofs.Common.{map}
use Rattle.fb_laws.specs.Trees.{minus_names, plus_names}
use Rattle.fb_trees.specs.TreeLinks.{map_entry}
use Rattle.fb_trees.proofs.Lookups.{minus_role, plus_role}
use Rattle.fb_trees.proofs.Mapped.{plus_moved, minus_moved, names_moved, grown_moved, paired_moved, path_moved, beside_moved, paths_moved, last_moved, cycle_moved, cycle_links_moved}
use Rattle.fb_trees.proofs.laws.links_by_number.Goals as goal

pub returns-clause-names : goal.returns-clause-names
returns-clause-names c = λ f tree. record {
  plus = λ root. plus_moved f root tree;
  minus = minus_moved f tree;
  all = λ root. names_moved f root tree;
  grown = grown_moved f tree;
  paired = paired_moved f tree;
}

pub returns-clause-roles : goal.returns-clause-roles
returns-clause-roles c = λ f t name rooted. (
  plus_role t name (plus_names t.root (map (map_entry f) t.branches)) (plus_moved f t.root t.branches),
  minus_role t name rooted (minus_names (map (map_entry f) t.branches)) (minus_moved f t.branches),
)

pub returns-clause-paths : goal.returns-clause-paths
returns-clause-paths c = λ f tree name. (path_moved f tree name, beside_moved f tree name)

pub returns-clause-parting : goal.returns-clause-parting
returns-clause-parting c = λ f tree a b shared up down are. paths_moved f tree a b shared up down are

pub returns-clause-cycles : goal.returns-clause-cycles
returns-clause-cycles c = λ f root closing shared up down.
    (last_moved f root shared, cycle_moved f up down, cycle_links_moved f up closing down)
