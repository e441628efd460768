use Rattle.std.proofs.Common.{ℕ, ◌≡◌, ◌&&◌, ◌++◌, ◌∷◌, [], if◌then◌else◌, true, All, List, Option, Some, length, map, set, refl, sym, subst, ap, ◌∙◌}
use Rattle.std.proofs.lemmas.Bool.{eq-eqb}
use Rattle.std.proofs.lemmas.Result.{IfOk-weaker}
use Rattle.fb_graph.specs.Certificate.{AreDistinct}
use Rattle.fb_graph.specs.Dual.{is_live}
use Rattle.fb_graph.specs.Moves.{split_nodes}
use Rattle.fb_graph.specs.Parity.{is_in}
use Rattle.fb_links.specs.Table as table
use Rattle.fb_links.specs.declared.cycle.CycleStep.{CycleStep}
use Rattle.fb_blossoms.specs.Nodes.{is_on}
use Rattle.fb_plan.specs.declared.scope.NodeScope.{NodeScope}
use Rattle.fb_plan.specs.Scopes.{scope_graph}
use Rattle.fb_half.specs.Matchings.{listed_names, matched_names}
use Rattle.fb_regions.specs.Paces.{pace_in}
use Rattle.fb_regions.specs.declared.roles.Role.TheVariants.{Minus, Out}
use Rattle.fb_trees.specs.Branches.{Grown, entry_of}
use Rattle.fb_trees.specs.Replacements.{AreLinkedOn}
use Rattle.fb_search.specs.InternalEndings.{Forgets}
use Rattle.fb_search.specs.InternalOpenings.{EntersWay, couples_on, even_on, links_left, rest_on, round_on, way_on}
use Rattle.fb_search.specs.InternalGrowing.{GrowingValue, growing_of}
use Rattle.fb_trees.specs.Forests.{IsReplacedIn, MayReplaceIn, role_among}
use Rattle.fb_search.proofs.Agreed.{cycle_there, outer_in_store}
use Rattle.fb_search.proofs.BegunSearches.{kept_limits, kept_watches}
use Rattle.fb_search.proofs.BranchEnds.{enters_above, enters_below}
use Rattle.fb_search.proofs.OpenedConditions.{left_distinct, left_live, way_linked}
use Rattle.fb_search.proofs.PacedBlossoms.{open_paced}
use Rattle.fb_search.proofs.RingOpenings.{ring_couples, ring_goes_on, ring_may_open, ring_opened, ring_opened_listed, ring_way_live}
use Rattle.fb_search.proofs.RingRounds.{in_its_tree, minus_node}
use Rattle.fb_search.proofs.TreesAlone.{alone, enters_part, opening_among, opens_alone}
use Rattle.fb_search.proofs.Openings.{HasOpened, Opens, round_in}
use Rattle.fb_search.proofs.growing_openings.open_node.Goals as goal

pub child_at-above-requires : goal.child_at-above-requires
child_at-above-requires c =
    let w : GrowingValue = growing_of c.args.pieces.now in
    let node = minus_node w.forest c.args.node c.requires.empty.0 in
    let t = node.tree in
    let g = node.grown in
    let at = node.at in
    let are = c.requires.growing in
    let e = entry_of c.branch-branch.result in (
      e.parent,
      enters_part w t g c.args.node _ _
          (enters_above (alone w t g) c.args.node e (opening_among w t g at are) c.requires.empty.1
          (c.branch-branch.ensures t g (in_its_tree w.forest c.args.node node))),
    )

pub child_at-below-requires : goal.child_at-below-requires
child_at-below-requires c =
    let w : GrowingValue = growing_of c.args.pieces.now in
    let node = minus_node w.forest c.args.node c.requires.empty.0 in
    let t = node.tree in
    let g = node.grown in
    let at = node.at in
    let are = c.requires.growing in
    let e = entry_of c.branch-branch.result in (
      e.plus,
      enters_part w t g c.args.node _ _
          (enters_below (alone w t g) c.args.node e (opening_among w t g at are) c.requires.empty.1
          (c.branch-branch.ensures t g (in_its_tree w.forest c.args.node node))),
    )

pub open_up-cycle-requires-clause-blossom : goal.open_up-cycle-requires-clause-blossom
open_up-cycle-requires-clause-blossom c =
    cycle_there c.args.pieces.now.parts.regions.nodes c.args.pieces.now.parts.blossoms c.args.node c.requires.growing.agreed c.requires.empty.1

pub open_up-cycle-requires-clause-outer : goal.open_up-cycle-requires-clause-outer
open_up-cycle-requires-clause-outer c =
    outer_in_store c.args.pieces.now.parts.regions.nodes c.args.pieces.now.parts.blossoms c.args.node c.requires.growing.agreed
    c.requires.empty.1.outer

pub taken_apart-requires-clause-first : goal.taken_apart-requires-clause-first
taken_apart-requires-clause-first c =
    let w : GrowingValue = growing_of c.args.pieces.now in
    let node = minus_node w.forest c.args.node c.requires.empty.0 in
    let t = node.tree in
    let g = node.grown in
    let at = node.at in
    let are = c.requires.growing in
    let e = entry_of c.branch-branch.result in
    let opens : Opens (alone w t g) c.args.node e c.child_at-above.result c.child_at-below.result =
    opens_alone w t g at are c.args.node e c.child_at-above.result c.child_at-below.result c.requires.empty.1
    (c.branch-branch.ensures t g (in_its_tree w.forest c.args.node node)) c.child_at-above.ensures c.child_at-below.ensures in
    ap (λ l. is_on l c.child_at-above.result) (c.deref.ensures.value ∙ c.open_up-cycle.ensures.cycle)
    ∙ opens.at_above.on_cycle

pub taken_apart-requires-clause-second : goal.taken_apart-requires-clause-second
taken_apart-requires-clause-second c =
    let w : GrowingValue = growing_of c.args.pieces.now in
    let node = minus_node w.forest c.args.node c.requires.empty.0 in
    let t = node.tree in
    let g = node.grown in
    let at = node.at in
    let are = c.requires.growing in
    let e = entry_of c.branch-branch.result in
    let opens : Opens (alone w t g) c.args.node e c.child_at-above.result c.child_at-below.result =
    opens_alone w t g at are c.args.node e c.child_at-above.result c.child_at-below.result c.requires.empty.1
    (c.branch-branch.ensures t g (in_its_tree w.forest c.args.node node)) c.child_at-above.ensures c.child_at-below.ensures in
    ap (λ l. is_on l c.child_at-below.result) (c.deref.ensures.value ∙ c.open_up-cycle.ensures.cycle)
    ∙ opens.at_below.on_cycle

pub replace-requires-clause-replace : goal.replace-requires-clause-replace
replace-requires-clause-replace c =
    let w : GrowingValue = growing_of c.args.pieces.now in
    let node = minus_node w.forest c.args.node c.requires.empty.0 in
    let t = node.tree in
    let g = node.grown in
    let at = node.at in
    let are = c.requires.growing in
    let e = entry_of c.branch-branch.result in
    let opens : Opens (alone w t g) c.args.node e c.child_at-above.result c.child_at-below.result =
    opens_alone w t g at are c.args.node e c.child_at-above.result c.child_at-below.result c.requires.empty.1
    (c.branch-branch.ensures t g (in_its_tree w.forest c.args.node node)) c.child_at-above.ensures c.child_at-below.ensures in
    let cycle = c.deref.ensures.value ∙ c.open_up-cycle.ensures.cycle in
    let parts = λ (cycle : List CycleStep). even_on (round_on cycle c.child_at-above.result) c.child_at-below.result in
    subst (MayReplaceIn w.forest (c.args.node ∷ [])) (sym (c.deref-2.ensures.value ∙ c.in_ok-apart.ensures.way
    ∙ ap (λ l. way_on (parts l) c.child_at-below.result) cycle))
    (ring_may_open w t g at are c.args.node e c.child_at-above.result c.child_at-below.result opens)

pub replace-requires-clause-links : goal.replace-requires-clause-links
replace-requires-clause-links c =
    let w : GrowingValue = growing_of c.args.pieces.now in
    let node = minus_node w.forest c.args.node c.requires.empty.0 in
    let t = node.tree in
    let g = node.grown in
    let at = node.at in
    let are = c.requires.growing in
    let e = entry_of c.branch-branch.result in
    let opens : Opens (alone w t g) c.args.node e c.child_at-above.result c.child_at-below.result =
    opens_alone w t g at are c.args.node e c.child_at-above.result c.child_at-below.result c.requires.empty.1
    (c.branch-branch.ensures t g (in_its_tree w.forest c.args.node node)) c.child_at-above.ensures c.child_at-below.ensures in
    let cycle = c.deref.ensures.value ∙ c.open_up-cycle.ensures.cycle in
    let parts = λ (cycle : List CycleStep). even_on (round_on cycle c.child_at-above.result) c.child_at-below.result in
    subst (AreLinkedOn w.part.links) (sym (c.deref-2.ensures.value ∙ c.in_ok-apart.ensures.way
    ∙ ap (λ l. way_on (parts l) c.child_at-below.result) cycle))
    (way_linked (alone w t g) c.args.node e c.child_at-above.result c.child_at-below.result (opening_among w t g at are) opens)

pub add_matches-requires : goal.add_matches-requires
add_matches-requires c =
    let w : GrowingValue = growing_of c.args.pieces.now in
    let node = minus_node w.forest c.args.node c.requires.empty.0 in
    let t = node.tree in
    let g = node.grown in
    let at = node.at in
    let are = c.requires.growing in
    let e = entry_of c.branch-branch.result in
    let opens : Opens (alone w t g) c.args.node e c.child_at-above.result c.child_at-below.result =
    opens_alone w t g at are c.args.node e c.child_at-above.result c.child_at-below.result c.requires.empty.1
    (c.branch-branch.ensures t g (in_its_tree w.forest c.args.node node)) c.child_at-above.ensures c.child_at-below.ensures in
    let cycle = c.deref.ensures.value ∙ c.open_up-cycle.ensures.cycle in
    let parts = λ (cycle : List CycleStep). even_on (round_on cycle c.child_at-above.result) c.child_at-below.result in
    subst (λ ms. AreDistinct (listed_names w.part.matching ++ matched_names ms))
    (sym (c.deref-7.ensures.value ∙ c.in_ok-apart.ensures.matches
    ∙ ap (λ l. couples_on (rest_on (parts l) c.child_at-below.result)) cycle))
    (ring_couples w t g at are c.args.node e c.child_at-above.result c.child_at-below.result opens)

pub forget_all-requires-clause-live : goal.forget_all-requires-clause-live
forget_all-requires-clause-live c =
    let w : GrowingValue = growing_of c.args.pieces.now in
    let node = minus_node w.forest c.args.node c.requires.empty.0 in
    let t = node.tree in
    let g = node.grown in
    let at = node.at in
    let are = c.requires.growing in
    let e = entry_of c.branch-branch.result in
    let opens : Opens (alone w t g) c.args.node e c.child_at-above.result c.child_at-below.result =
    opens_alone w t g at are c.args.node e c.child_at-above.result c.child_at-below.result c.requires.empty.1
    (c.branch-branch.ensures t g (in_its_tree w.forest c.args.node node)) c.child_at-above.ensures c.child_at-below.ensures in
    let cycle = c.deref.ensures.value ∙ c.open_up-cycle.ensures.cycle in
    let parts = λ (cycle : List CycleStep). even_on (round_on cycle c.child_at-above.result) c.child_at-below.result in
    subst (All (λ id. table.is_live w.part.links id ≡ true))
    (sym (c.deref-3.ensures.value ∙ c.in_ok-apart.ensures.left
    ∙ ap (λ l. links_left (parts l) c.child_at-below.result) cycle))
    (left_live (alone w t g) c.args.node e c.child_at-above.result c.child_at-below.result (opening_among w t g at are) opens)

pub forget_all-requires-clause-distinct : goal.forget_all-requires-clause-distinct
forget_all-requires-clause-distinct c =
    let w : GrowingValue = growing_of c.args.pieces.now in
    let node = minus_node w.forest c.args.node c.requires.empty.0 in
    let t = node.tree in
    let g = node.grown in
    let at = node.at in
    let are = c.requires.growing in
    let e = entry_of c.branch-branch.result in
    let opens : Opens (alone w t g) c.args.node e c.child_at-above.result c.child_at-below.result =
    opens_alone w t g at are c.args.node e c.child_at-above.result c.child_at-below.result c.requires.empty.1
    (c.branch-branch.ensures t g (in_its_tree w.forest c.args.node node)) c.child_at-above.ensures c.child_at-below.ensures in
    let cycle = c.deref.ensures.value ∙ c.open_up-cycle.ensures.cycle in
    let parts = λ (cycle : List CycleStep). even_on (round_on cycle c.child_at-above.result) c.child_at-below.result in
    subst AreDistinct (sym (c.deref-3.ensures.value ∙ c.in_ok-apart.ensures.left
    ∙ ap (λ l. links_left (parts l) c.child_at-below.result) cycle))
    (left_distinct (alone w t g) c.args.node e c.child_at-above.result c.child_at-below.result (opening_among w t g at are) opens)

pub watch_node-requires-clause-live : goal.watch_node-requires-clause-live
watch_node-requires-clause-live c = c.requires.empty.1.live

pub watch_node-requires-clause-room : goal.watch_node-requires-clause-room
watch_node-requires-clause-room c =
    c.requires.growing.room
    ∙ sym (ap (λ g. length g.edges) (ap scope_graph c.scope.ensures ∙ c.requires.paced.scope.graph))

pub split_node-requires-clause-empty : goal.split_node-requires-clause-empty
split_node-requires-clause-empty c = rw c.set_pace.ensures.same c.requires.empty.1

pub split_node-requires-clause-rest : goal.split_node-requires-clause-rest
split_node-requires-clause-rest c =
    let w : GrowingValue = growing_of c.args.pieces.now in
    c.set_pace.ensures.paces c.args.node
    ∙ (ap (λ b. if b && is_live w.part.nodes c.args.node then Out else pace_in c.args.pieces.now.parts.regions c.args.node)
    (eq-eqb c.args.node c.args.node refl)
    ∙ ap (λ b. if b then Out else pace_in c.args.pieces.now.parts.regions c.args.node) c.requires.empty.1.live)

pub enter_way-requires : goal.enter_way-requires
enter_way-requires c =
    let w : GrowingValue = growing_of c.args.pieces.now in
    let node = minus_node w.forest c.args.node c.requires.empty.0 in
    let t = node.tree in
    let g = node.grown in
    let at = node.at in
    let are = c.requires.growing in
    let e = entry_of c.branch-branch.result in
    let opens : Opens (alone w t g) c.args.node e c.child_at-above.result c.child_at-below.result =
    opens_alone w t g at are c.args.node e c.child_at-above.result c.child_at-below.result c.requires.empty.1
    (c.branch-branch.ensures t g (in_its_tree w.forest c.args.node node)) c.child_at-above.ensures c.child_at-below.ensures in
    let cycle = c.deref.ensures.value ∙ c.open_up-cycle.ensures.cycle in
    let parts = λ (cycle : List CycleStep). even_on (round_on cycle c.child_at-above.result) c.child_at-below.result in
    let way = c.in_ok-apart.ensures.way
    ∙ ap (λ l. way_on (parts l) c.child_at-below.result) cycle in
    let watches = rw c.scope.ensures at c.watch_node.ensures in
    let in_it = in_its_tree w.forest c.args.node node in
    let replaced =
    subst (λ l. IsReplacedIn w.forest (c.args.node ∷ []) l t g c.replace.new.self) (c.deref-2.ensures.value ∙ way)
    (c.in_ok-replace.ensures.ok t g in_it) in
    let has : HasOpened (alone w t g) c.args.node c.child_at-above.result c.child_at-below.result c.forget_all.new.links
    c.open_up-cycle.new.self replaced.after c.watch_node.new.watch = record {
      taken_off = c.open_up-cycle.ensures.rest;
      grown = replaced.replaced;
      forgets = subst (λ l. Forgets l w.part.links c.forget_all.new.links)
          (c.deref-3.ensures.value ∙ c.in_ok-apart.ensures.left
          ∙ ap (λ l. links_left (parts l) c.child_at-below.result) cycle) c.forget_all.ensures;
      within = c.keeps.ensures.within;
      watches = kept_watches w.part (scope_graph c.args.pieces.now.parts.regions.scope) c.args.pieces.now.parts.regions.scope.plan.now
          c.args.pieces.now.parts.regions.scope.node _ w.watched c.watch_node.new.watch c.requires.paced.scope.graph watches;
    } in
    rw (c.in_ok-split_node.ensures.ok, c.set_pace.ensures.same, replaced.new_is)
    (subst
    (All
    (λ s. role_among (set w.forest t (Some replaced.after)) s.node ≡ Minus
    → is_live (split_nodes c.args.node w.part.nodes) s.node ≡ true))
    (sym (c.deref-4.ensures.value ∙ way))
    (ring_way_live w t g at are c.args.node e c.child_at-above.result c.child_at-below.result opens c.forget_all.new.links
    c.open_up-cycle.new.self replaced.after c.watch_node.new.watch has))

pub returns : goal.returns
returns c =
    let w : GrowingValue = growing_of c.args.pieces.now in
    let node = minus_node w.forest c.args.node c.requires.empty.0 in
    let t = node.tree in
    let g = node.grown in
    let at = node.at in
    let are = c.requires.growing in
    let e = entry_of c.branch-branch.result in
    let opens : Opens (alone w t g) c.args.node e c.child_at-above.result c.child_at-below.result =
    opens_alone w t g at are c.args.node e c.child_at-above.result c.child_at-below.result c.requires.empty.1
    (c.branch-branch.ensures t g (in_its_tree w.forest c.args.node node)) c.child_at-above.ensures c.child_at-below.ensures in
    let cycle = c.deref.ensures.value ∙ c.open_up-cycle.ensures.cycle in
    let parts = λ (cycle : List CycleStep). even_on (round_on cycle c.child_at-above.result) c.child_at-below.result in
    let way = c.in_ok-apart.ensures.way
    ∙ ap (λ l. way_on (parts l) c.child_at-below.result) cycle in
    let matches = c.deref-7.ensures.value ∙ c.in_ok-apart.ensures.matches
    ∙ ap (λ l. couples_on (rest_on (parts l) c.child_at-below.result)) cycle in
    let watches = rw c.scope.ensures at c.watch_node.ensures in
    let in_it = in_its_tree w.forest c.args.node node in
    let replaced =
    subst (λ l. IsReplacedIn w.forest (c.args.node ∷ []) l t g c.replace.new.self) (c.deref-2.ensures.value ∙ way)
    (c.in_ok-replace.ensures.ok t g in_it) in
    let has : HasOpened (alone w t g) c.args.node c.child_at-above.result c.child_at-below.result c.forget_all.new.links
    c.open_up-cycle.new.self replaced.after c.watch_node.new.watch = record {
      taken_off = c.open_up-cycle.ensures.rest;
      grown = replaced.replaced;
      forgets = subst (λ l. Forgets l w.part.links c.forget_all.new.links)
          (c.deref-3.ensures.value ∙ c.in_ok-apart.ensures.left
          ∙ ap (λ l. links_left (parts l) c.child_at-below.result) cycle) c.forget_all.ensures;
      within = c.keeps.ensures.within;
      watches = kept_watches w.part (scope_graph c.args.pieces.now.parts.regions.scope) c.args.pieces.now.parts.regions.scope.plan.now
          c.args.pieces.now.parts.regions.scope.node _ w.watched c.watch_node.new.watch c.requires.paced.scope.graph watches;
    } in
    let enters : EntersWay (split_nodes c.args.node w.part.nodes) (role_among (set w.forest t (Some replaced.after)))
    (way_on (round_in w.part c.args.node c.child_at-above.result c.child_at-below.result) c.child_at-below.result)
    c.watch_node.new.watch c.enter_way.new.watch =
    subst
    (λ steps.
    EntersWay (split_nodes c.args.node w.part.nodes) (role_among (set w.forest t (Some replaced.after))) steps
    c.watch_node.new.watch c.enter_way.new.watch)
    (c.deref-4.ensures.value ∙ way)
    (rw (c.in_ok-split_node.ensures.ok, c.set_pace.ensures.same, replaced.new_is) at c.in_ok-enter_way.ensures) in
    let scope = c.requires.paced.scope in
    let given : (n : ℕ) → pace_in c.set_paces.new.regions n
    ≡ (if is_in (map (λ (s : CycleStep). s.node) (way_on (round_in w.part c.args.node c.child_at-above.result c.child_at-below.result)
    c.child_at-below.result)) n && is_live c.split_node.new.self.nodes n
    then role_among (set w.forest t (Some replaced.after)) n else pace_in c.split_node.new.self n) =
    subst
    (λ (f : List (Option Grown)). (n : ℕ) → pace_in c.set_paces.new.regions n
    ≡ (if is_in (map (λ (s : CycleStep). s.node) (way_on (round_in w.part c.args.node c.child_at-above.result c.child_at-below.result)
    c.child_at-below.result)) n && is_live c.split_node.new.self.nodes n
    then role_among f n else pace_in c.split_node.new.self n)) replaced.new_is
    (subst
    (λ (l : List ℕ). (n : ℕ) → pace_in c.set_paces.new.regions n
    ≡ (if is_in l n && is_live c.split_node.new.self.nodes n then role_among c.replace.new.self n
    else pace_in c.split_node.new.self n))
    (c.deref-6.ensures.value ∙ (c.in_ok-way.ensures ∙ ap (map (λ (s : CycleStep). s.node)) (c.deref-5.ensures.value ∙ way)))
    c.set_paces.ensures.paces) in
    let limits = kept_limits w.part (scope_graph c.scope.result.now) c.scope.result.now.plan.now c.scope.result.now.node
    (ap scope_graph c.scope.ensures ∙ scope.graph)
    (ap (λ (s : NodeScope). s.plan.now) c.scope.ensures ∙ scope.plan)
    (ap (λ (s : NodeScope). s.node) c.scope.ensures ∙ scope.node) c.limits.ensures in
    rw (c.set_paces.ensures.same, c.in_ok-split_node.ensures.ok, c.set_pace.ensures.same)
    (IfOk-weaker _ _ _
    (λ _
    (added : c.add_matches.new.matching
    ≡ record { matches = w.part.matching.matches ++ c.deref-7.result.now; unmatched = w.part.matching.unmatched }).
    rw (added, matches, replaced.new_is) (record {
      paced = record {
        scope = record {
          graph = scope.graph;
          plan = scope.plan;
          node = scope.node;
          defects = scope.defects;
          listed =
              ring_opened_listed w t g at are c.args.node e c.child_at-above.result c.child_at-below.result opens
              c.forget_all.new.links c.open_up-cycle.new.self replaced.after c.watch_node.new.watch has c.args.pieces.now.parts.seams scope.listed;
          rest = record { plus = refl; minus = refl };
        };
        paces = open_paced w t g at are c.args.node e c.child_at-above.result c.child_at-below.result opens
            c.forget_all.new.links c.open_up-cycle.new.self replaced.after c.watch_node.new.watch has c.requires.empty.0 limits
            c.enter_way.new.watch enters c.args.pieces.now.parts.regions c.set_pace.new.self c.split_node.new.self
            c.set_paces.new.regions c.requires.paced.paces c.set_pace.ensures.paces
            (ap (λ r. r.nodes) c.in_ok-split_node.ensures.ok ∙ ap (λ r. split_nodes c.args.node r.nodes) c.set_pace.ensures.same)
            (λ n. ap (λ r. pace_in r n) c.in_ok-split_node.ensures.ok) given;
      };
      keeps = ring_opened w t g at are c.args.node e c.child_at-above.result c.child_at-below.result opens
          c.forget_all.new.links c.open_up-cycle.new.self replaced.after c.watch_node.new.watch has c.requires.empty.0 limits
          c.enter_way.new.watch enters;
      grows_on = ring_goes_on w t g at are c.args.node e c.child_at-above.result c.child_at-below.result opens
          c.forget_all.new.links c.open_up-cycle.new.self replaced.after c.watch_node.new.watch has c.requires.empty.0 limits
          c.enter_way.new.watch enters;
    })) c.add_matches.ensures)

pub branch-branch-requires : goal.branch-branch-requires
branch-branch-requires c = minus_node c.args.pieces.now.forest c.args.node c.requires.empty.0
