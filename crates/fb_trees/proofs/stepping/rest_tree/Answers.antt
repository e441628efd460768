use Rattle.std.proofs.Common.{◌≡◌, ◌&&◌, ◌∙◌, cond, option_map, refl, sym, ap}
use Rattle.std.proofs.lemmas.Bool.{both_ways}
use Rattle.std.proofs.lemmas.Option.{none-some, same_Some}
use Rattle.fb_graph.specs.Dual.{is_live}
use Rattle.fb_graph.specs.Parity.{is_in}
use Rattle.fb_laws.specs.Trees.{tree_names}
use Rattle.fb_regions.specs.Paces.{pace_in}
use Rattle.fb_regions.specs.declared.roles.Role.TheVariants.{Out}
use Rattle.fb_trees.specs.Forests.{tree_at}
use Rattle.fb_trees.specs.Rooted.{is_node}
use Rattle.fb_trees.proofs.ForestReads.{tree_there}
use Rattle.fb_trees.proofs.PacedNodes.{tree_set}
use Rattle.fb_trees.proofs.stepping.rest_tree.Goals as goal

pub unreachable-requires : goal.unreachable-requires
unreachable-requires g c =
    let inside = c.requires.inside in
    both_ways (is_node inside.grown c.args.node) (c.in_default.ensures.tree inside.tree inside.grown inside.is.at) inside.is.has

pub unreachable-requires-in_default-root : goal.unreachable-requires-in_default-root
unreachable-requires-in_default-root g c =
    let (x, there) = c.in-Some.ensures.tree in
    none-some x.root (c.in_default-root.ensures ∙ ap (option_map (λ h. h.root)) there.at)

pub returns-clause-paces : goal.returns-clause-paces
returns-clause-paces g c t h is n =
    let (x, there) = c.in-Some.ensures.tree in
    let at = ap (tree_at c.args.forest.now) (c.in-Some.ensures.kept.apart c.in-Some.tree t c.args.node x h there is) ∙ is.at in
    let (y, here, rooted) = tree_there (tree_at c.args.forest.now c.in-Some.tree) c.in-Some-root.root c.in-Some-root.ensures in
    let root : c.in-Some-root.root ≡ h.root = sym rooted ∙ ap (λ k. k.root) (same_Some y h (sym here ∙ at)) in
    tree_set (λ n. Out) c.in-Some-root.root c.branches.result.now Out c.args.regions.now c.set_pace.new.self c.rest_branches.new.regions
    (λ n. refl) c.set_pace.ensures.same c.set_pace.ensures.paces
    (record { same = c.rest_branches.ensures.same; paces = c.rest_branches.ensures.paces }) n
    ∙ (ap (λ l. cond (is_in (tree_names c.in-Some-root.root l) n && is_live c.args.regions.now.nodes n) Out (pace_in c.args.regions.now n))
    (c.branches.ensures h at)
    ∙ ap (λ r. cond (is_in (tree_names r h.branches) n && is_live c.args.regions.now.nodes n) Out (pace_in c.args.regions.now n)) root)
