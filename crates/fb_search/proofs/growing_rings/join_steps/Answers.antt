use Rattle.std.proofs.Common.{◌∙◌, ◌≡◌, ◌≢◌, false, ap, length, refl, subst, sym}
use Rattle.std.proofs.lemmas.Result.{IfOk-weaker}
use Rattle.fb_graph.specs.Parity.{is_in}
use Rattle.fb_half.specs.Matchings.{listed_names}
use Rattle.fb_half.specs.Parts.{problem_in}
use Rattle.fb_trees.specs.Forests.{tree_at}
use Rattle.fb_half.specs.Seams.{AreListed}
use Rattle.fb_search.specs.InternalClosings.{IsReplacedBy}
use Rattle.fb_search.specs.InternalGrowing.{GrowingValue, growing_of}
use Rattle.fb_search.proofs.ClosedCycles.{steps_join, steps_live, steps_odd, steps_outer, steps_round}
use Rattle.fb_search.proofs.ListedSteps.{scope_is}
use Rattle.fb_search.proofs.PacedBlossoms.{ring_paced}
use Rattle.fb_search.proofs.RingCycles.{first_at, first_inside, first_of, ring_closes, ring_replaced}
use Rattle.fb_search.proofs.RingSearches.{ring_made, ring_new, ring_root_new, tree_now}
use Rattle.fb_search.proofs.growing_rings.join_steps.Goals as goal

pub watch_minus-requires-clause-live : goal.watch_minus-requires-clause-live
watch_minus-requires-clause-live c =
    let w : GrowingValue = growing_of c.args.pieces.now in
    let (a, b, closes, is) = c.requires.cycle in
    rw c.requires.nodes
    (steps_live w.part closes.grown closes.growing.state.0 a b c.args.closing (ring_closes w a b c.args.closing closes) c.args.cycle.items is)

pub watch_minus-requires-clause-room : goal.watch_minus-requires-clause-room
watch_minus-requires-clause-room c =
    c.requires.cycle.2.growing.room ∙ sym (ap (λ g. length g.edges) c.requires.paced.scope.graph)

pub form-requires-clause-cycle : goal.form-requires-clause-cycle
form-requires-clause-cycle c =
    let w : GrowingValue = growing_of c.args.pieces.now in
    let (a, b, closes, is) = c.requires.cycle in
    steps_odd w.part closes.grown closes.growing.state.0 a b c.args.closing (ring_closes w a b c.args.closing closes) c.args.cycle.items is

pub form-requires-clause-linked : goal.form-requires-clause-linked
form-requires-clause-linked c =
    let w : GrowingValue = growing_of c.args.pieces.now in
    let (a, b, closes, is) = c.requires.cycle in
    steps_round w.part closes.grown closes.growing.state.0 a b c.args.closing (ring_closes w a b c.args.closing closes) c.args.cycle.items is
    c.keeps-2.ensures

pub form-requires-clause-outer : goal.form-requires-clause-outer
form-requires-clause-outer c =
    let w : GrowingValue = growing_of c.args.pieces.now in
    let (a, b, closes, is) = c.requires.cycle in
    steps_outer w.part closes.grown closes.growing.state.0 a b c.args.closing (ring_closes w a b c.args.closing closes) c.args.cycle.items is

pub join_nodes-requires : goal.join_nodes-requires
join_nodes-requires c =
    let w : GrowingValue = growing_of c.args.pieces.now in
    let (a, b, closes, is) = c.requires.cycle in
    let fresh =
    ring_new w a b c.args.closing closes c.args.cycle.items is c.in_ok-blossom.blossom
    c.form.new.self c.in_ok-blossom.ensures.ok in
    rw c.requires.nodes
    (steps_join w.part closes.grown closes.growing.state.0 a b c.args.closing (ring_closes w a b c.args.closing closes) c.args.cycle.items is
    c.in_ok-blossom.blossom fresh)

pub number_of-tree-requires : goal.number_of-tree-requires
number_of-tree-requires c =
    let w : GrowingValue = growing_of c.args.pieces.now in
    let (a, b, closes, is) = c.requires.cycle in
    let fresh =
    ring_new w a b c.args.closing closes c.args.cycle.items is c.in_ok-blossom.blossom
    c.form.new.self c.in_ok-blossom.ensures.ok in
    first_inside w a b c.args.closing closes c.args.cycle.items is c.in_ok-blossom.blossom fresh c.args.nodes.now c.requires.nodes

pub root_of-root-requires : goal.root_of-root-requires
root_of-root-requires c =
    let w : GrowingValue = growing_of c.args.pieces.now in
    let (a, b, closes, is) = c.requires.cycle in
    let fresh =
    ring_new w a b c.args.closing closes c.args.cycle.items is c.in_ok-blossom.blossom
    c.form.new.self c.in_ok-blossom.ensures.ok in
    let same =
    c.number_of-tree.ensures closes.tree closes.grown
    (first_at w a b c.args.closing closes c.args.cycle.items is c.in_ok-blossom.blossom fresh c.args.nodes.now c.requires.nodes) in
    (closes.grown, ap (tree_at w.forest) same ∙ closes.at)

pub replace-requires-clause-replace : goal.replace-requires-clause-replace
replace-requires-clause-replace c =
    let w : GrowingValue = growing_of c.args.pieces.now in
    let (a, b, closes, is) = c.requires.cycle in
    let fresh =
    ring_new w a b c.args.closing closes c.args.cycle.items is c.in_ok-blossom.blossom
    c.form.new.self c.in_ok-blossom.ensures.ok in
    ring_replaced w a b c.args.closing closes c.args.cycle.items is c.in_ok-blossom.blossom fresh c.args.nodes.now c.requires.nodes
    c.args.closing

pub root_of-requires : goal.root_of-requires
root_of-requires c =
    let w : GrowingValue = growing_of c.args.pieces.now in
    let (a, b, closes, is) = c.requires.cycle in
    let fresh =
    ring_new w a b c.args.closing closes c.args.cycle.items is c.in_ok-blossom.blossom
    c.form.new.self c.in_ok-blossom.ensures.ok in
    let first =
    first_of w a b c.args.closing closes c.args.cycle.items is c.in_ok-blossom.blossom fresh c.args.nodes.now c.requires.nodes in
    let same =
    c.number_of-tree.ensures closes.tree closes.grown
    (first_at w a b c.args.closing closes c.args.cycle.items is c.in_ok-blossom.blossom fresh c.args.nodes.now c.requires.nodes) in (
      _,
      ap (tree_at c.replace.new.self) same
          ∙ tree_now w a b c.args.closing closes c.args.cycle.items is c.in_ok-blossom.blossom c.form.new.self
          c.in_ok-blossom.ensures.ok c.args.nodes.now c.requires.nodes c.args.closing c.replace.new.self
          (c.in_ok-replace.ensures.ok closes.tree closes.grown first),
    )

pub replace_unmatched-requires-clause-listed : goal.replace_unmatched-requires-clause-listed
replace_unmatched-requires-clause-listed c =
    let w : GrowingValue = growing_of c.args.pieces.now in
    let (a, b, closes, is) = c.requires.cycle in
    let fresh =
    ring_new w a b c.args.closing closes c.args.cycle.items is c.in_ok-blossom.blossom
    c.form.new.self c.in_ok-blossom.ensures.ok in
    let same =
    c.number_of-tree.ensures closes.tree closes.grown
    (first_at w a b c.args.closing closes c.args.cycle.items is c.in_ok-blossom.blossom fresh c.args.nodes.now c.requires.nodes) in
    ap (is_in w.part.matching.unmatched) (c.root_of-root.ensures closes.grown (ap (tree_at w.forest) same ∙ closes.at))
    ∙ (ring_closes w a b c.args.closing closes).search.open_root

pub replace_unmatched-requires-clause-fresh : goal.replace_unmatched-requires-clause-fresh
replace_unmatched-requires-clause-fresh c =
    let w : GrowingValue = growing_of c.args.pieces.now in
    let (a, b, closes, is) = c.requires.cycle in
    let fresh =
    ring_new w a b c.args.closing closes c.args.cycle.items is c.in_ok-blossom.blossom
    c.form.new.self c.in_ok-blossom.ensures.ok in
    let first =
    first_of w a b c.args.closing closes c.args.cycle.items is c.in_ok-blossom.blossom fresh c.args.nodes.now c.requires.nodes in
    let same =
    c.number_of-tree.ensures closes.tree closes.grown
    (first_at w a b c.args.closing closes c.args.cycle.items is c.in_ok-blossom.blossom fresh c.args.nodes.now c.requires.nodes) in
    let now =
    tree_now w a b c.args.closing closes c.args.cycle.items is c.in_ok-blossom.blossom c.form.new.self
    c.in_ok-blossom.ensures.ok c.args.nodes.now c.requires.nodes c.args.closing c.replace.new.self
    (c.in_ok-replace.ensures.ok closes.tree closes.grown first) in
    subst
    (λ r. c.root_of.result ≢ r → is_in (listed_names w.part.matching) c.root_of.result ≡ false)
    (sym (c.root_of-root.ensures closes.grown (ap (tree_at w.forest) same ∙ closes.at)))
    (ring_root_new w a b c.args.closing closes c.args.cycle.items is c.in_ok-blossom.blossom c.form.new.self
    c.in_ok-blossom.ensures.ok c.args.nodes.now c.requires.nodes c.args.closing c.replace.new.self
    (c.in_ok-replace.ensures.ok closes.tree closes.grown first) c.root_of.result
    (c.root_of.ensures _ (ap (tree_at c.replace.new.self) same ∙ now)))

pub returns : goal.returns
returns c =
    let w : GrowingValue = growing_of c.args.pieces.now in
    let (a, b, closes, is) = c.requires.cycle in
    let scope = c.requires.paced.scope in
    let fresh =
    ring_new w a b c.args.closing closes c.args.cycle.items is c.in_ok-blossom.blossom
    c.form.new.self c.in_ok-blossom.ensures.ok in
    let first =
    first_of w a b c.args.closing closes c.args.cycle.items is c.in_ok-blossom.blossom fresh c.args.nodes.now c.requires.nodes in
    let same =
    c.number_of-tree.ensures closes.tree closes.grown
    (first_at w a b c.args.closing closes c.args.cycle.items is c.in_ok-blossom.blossom fresh c.args.nodes.now c.requires.nodes) in
    let now =
    tree_now w a b c.args.closing closes c.args.cycle.items is c.in_ok-blossom.blossom c.form.new.self
    c.in_ok-blossom.ensures.ok c.args.nodes.now c.requires.nodes c.args.closing c.replace.new.self
    (c.in_ok-replace.ensures.ok closes.tree closes.grown first) in
    rw (c.set_paces-2.ensures.same, c.set_paces.ensures.same, c.in_ok-join_nodes.ensures.ok)
    (IfOk-weaker _ _ _
    (λ _ (replaced : IsReplacedBy c.root_of-root.result c.root_of.result w.part.matching c.replace_unmatched.new.matching).
    let both =
    ring_made w a b c.args.closing closes c.args.cycle.items is
    c.in_ok-blossom.blossom c.form.new.self c.in_ok-blossom.ensures.ok c.args.nodes.now c.requires.nodes c.args.closing
    c.replace.new.self (c.in_ok-replace.ensures.ok closes.tree closes.grown first)
    c.args.pieces.now.parts.regions.scope (scope_is _ scope) (rw c.scope.ensures at c.limits.ensures) c.replace_unmatched.new.matching
    c.root_of.result (c.root_of.ensures _ (ap (tree_at c.replace.new.self) same ∙ now))
    (subst (λ r. IsReplacedBy r c.root_of.result w.part.matching c.replace_unmatched.new.matching)
    (c.root_of-root.ensures closes.grown (ap (tree_at w.forest) same ∙ closes.at)) replaced)
    c.watch_minus.new.watch c.watch_minus.ensures c.keeps.ensures.within in
    record {
      paced = record {
        scope = record {
          graph = scope.graph;
          plan = scope.plan;
          node = scope.node;
          defects = scope.defects;
          listed =
              subst (AreListed (problem_in w.part).is_real w.part.job.plan c.args.pieces.now.parts.seams w.part.links) (sym replaced.matches)
              scope.listed;
          rest = record { plus = refl; minus = refl };
        };
        paces = ring_paced w a b c.args.closing closes c.args.cycle.items is c.in_ok-blossom.blossom c.form.new.self
            c.in_ok-blossom.ensures.ok c.args.nodes.now c.requires.nodes c.args.closing c.replace.new.self
            (c.in_ok-replace.ensures.ok closes.tree closes.grown first) c.args.pieces.now.parts.regions c.join_nodes.new.self
            c.set_paces.new.regions c.set_paces-2.new.regions c.in_ok-join_nodes.ensures.ok c.set_paces.ensures.same
            c.requires.paced.paces c.set_paces.ensures.paces c.set_paces-2.ensures.paces;
      };
      keeps = both.0;
      grows_on = both.1;
    }) c.replace_unmatched.ensures)
