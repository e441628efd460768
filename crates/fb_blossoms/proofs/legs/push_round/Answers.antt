use Rattle.std.proofs.Common.{ℕ, ◌≡◌, ◌+◌, ◌%◌, ◌<◌, List, [], ◌∷◌, ◌++◌, length, ◌∙◌, ap, refl, sym, subst, arith}
use Rattle.fb_blossoms.specs.declared.legs.Leg.{Leg}
use Rattle.fb_blossoms.specs.declared.legs.Leg.TheVariants.{Inside, Over}
use Rattle.fb_blossoms.specs.Nodes.{cycle_at}
use Rattle.fb_blossoms.specs.Links.{link_after, node_after}
use Rattle.fb_blossoms.specs.InternalWays.{IsWay}
use Rattle.fb_blossoms.specs.InternalLegs.{AreEndWays, Replaces}
use Rattle.fb_blossoms.proofs.Rounds.{on_round, round_differs, round_link, swapped}
use Rattle.fb_blossoms.proofs.Turns.{IsUnderRound, end_ways_as, on_ok, round_end, round_more, round_start}
use Rattle.fb_blossoms.proofs.legs.push_round.Goals as goal

pub loop-k-init : goal.loop-k-init
loop-k-init c =
    round_start c.args.nest.now.links.now c.args.nest.now.blossoms.now c.args.node c.args.round.onward c.args.round.end c.args.todo.now.items c.args.ends.to c.requires.round.to

pub ways_over-requires-clause-first : goal.ways_over-requires-clause-first
ways_over-requires-clause-first c =
    let small : c.loop-k.k + 1 < length (cycle_at c.args.nest.now.blossoms.now c.args.node) = omega (arith, c.loop-k-test.true, c.requires.round.steps) in
    rw (c.crossing_before-over.ensures.from, c.cycle-cycle.ensures)
    (on_round c.args.nest.now.links.now c.args.nest.now.blossoms.now c.keeps.ensures c.args.node c.args.round.end (c.requires.linked c.args.node) c.requires.round.end c.args.round.onward (c.loop-k.k + 1) small)

pub ways_over-requires-clause-second : goal.ways_over-requires-clause-second
ways_over-requires-clause-second c =
    let small : c.loop-k.k < length (cycle_at c.args.nest.now.blossoms.now c.args.node) = omega (arith, c.loop-k-test.true, c.requires.round.steps) in
    rw (c.crossing_before-over.ensures.to, c.cycle-cycle.ensures)
    (on_round c.args.nest.now.links.now c.args.nest.now.blossoms.now c.keeps.ensures c.args.node c.args.round.end (c.requires.linked c.args.node) c.requires.round.end c.args.round.onward c.loop-k.k small)

pub ways_over-requires-clause-apart : goal.ways_over-requires-clause-apart
ways_over-requires-clause-apart c =
    let small : c.loop-k.k + 1 < length (cycle_at c.args.nest.now.blossoms.now c.args.node) = omega (arith, c.loop-k-test.true, c.requires.round.steps) in
    let less : c.loop-k.k < c.loop-k.k + 1 = omega arith in
    let differ =
    round_differs c.args.nest.now.links.now c.args.nest.now.blossoms.now c.keeps.ensures c.args.node c.args.round.end (c.requires.linked c.args.node) c.requires.round.end c.args.round.onward c.loop-k.k (c.loop-k.k + 1) less small in
    rw (c.crossing_before-over.ensures.from, c.crossing_before-over.ensures.to, c.cycle-cycle.ensures) (λ e. differ (sym e))

pub ways_over-requires-clause-link : goal.ways_over-requires-clause-link
ways_over-requires-clause-link c =
    let small : c.loop-k.k + 1 < length (cycle_at c.args.nest.now.blossoms.now c.args.node) = omega (arith, c.loop-k-test.true, c.requires.round.steps) in
    rw (c.crossing_before-over.ensures.link, c.crossing_before-over.ensures.from, c.crossing_before-over.ensures.to, c.cycle-cycle.ensures)
    (swapped c.args.nest.now.links.now c.args.nest.now.blossoms.now _ _ _
    (round_link c.args.nest.now.links.now c.args.nest.now.blossoms.now c.keeps.ensures c.args.node c.args.round.end (c.requires.linked c.args.node) c.requires.round.end c.args.round.onward c.loop-k.k small))

pub loop-k-preserved : goal.loop-k-preserved
loop-k-preserved c =
    let links = c.args.nest.now.links.now in
    let nodes = c.args.nest.now.blossoms.now in
    let cycle = cycle_at nodes c.args.node in
    let onward = c.args.round.onward in
    let start = c.args.round.end in
    let k = c.loop-k.k in
    let over = c.crossing_before-over.result in
    let ends = c.in_ok-link_ends.link_ends in
    let from : over.from ≡ node_after cycle onward start (k + 1) = c.crossing_before-over.ensures.from ∙ ap (λ y. node_after y onward start (k + 1)) c.cycle-cycle.ensures in
    let to : over.to ≡ node_after cycle onward start k = c.crossing_before-over.ensures.to ∙ ap (λ y. node_after y onward start k) c.cycle-cycle.ensures in
    let link : over.link ≡ link_after cycle onward start k = c.crossing_before-over.ensures.link ∙ ap (λ y. link_after y onward start k) c.cycle-cycle.ensures in
    let ways : AreEndWays links nodes over.link (node_after cycle onward start (k + 1)) (node_after cycle onward start k) ends =
    end_ways_as links nodes over.link over.from over.to _ _ ends c.in_ok-link_ends.ensures from to in
    let small : k < length (cycle_at nodes c.args.node) = omega (arith, c.loop-k-test.true, c.requires.round.steps) in
    let leg : ℕ → Leg = λ x. Inside x (record { from = ends.to; to = c.loop-k.at }) in
    let e : c.push_leg-in-loop-k.new.legs.items ≡ (c.loop-k.todo.items ++ leg (node_after cycle onward start k) ∷ []) ++ Over over.link ∷ [] =
    c.in_ok-push_leg-2.ensures ∙ ap (λ y. y ++ Over over.link ∷ []) (c.in_ok-push_leg.ensures ∙ ap (λ x. c.loop-k.todo.items ++ leg x ∷ []) to) in
    let P : List Leg → Type 0 = IsUnderRound links nodes c.args.node onward start c.args.todo.now.items (k + 1) ends.from c.args.ends.to.defect in
    subst P (sym e)
    (round_more links nodes c.args.node onward start c.keeps.ensures (c.requires.linked c.args.node) c.requires.round.end c.args.todo.now.items k c.loop-k.at c.args.ends.to.defect
    c.loop-k.todo.items c.loop-k.invariant small over.link ends ways link)

pub returns : goal.returns
returns c =
    let links = c.args.nest.now.links.now in
    let nodes = c.args.nest.now.blossoms.now in
    let cycle = cycle_at nodes c.args.node in
    let onward = c.args.round.onward in
    let start = c.args.round.end in
    let k = c.loop-k.k in
    let same : k ≡ c.args.round.steps = omega (arith, c.loop-k-test.false, c.loop-k.auto.k-end) in
    let small : k < length (cycle_at nodes c.args.node) = omega (arith, same, c.requires.round.steps) in
    let even : k % 2 ≡ 0 = omega (arith, same, c.requires.round.even) in
    let Q : ℕ → Type 0 = λ j. IsWay nodes (node_after cycle onward start j) c.args.ends.from in
    let way : IsWay nodes (node_after cycle onward start k) c.args.ends.from = subst Q (sym same) c.requires.round.from in
    let leg : ℕ → Leg = λ x. Inside x (record { from = c.args.ends.from; to = c.loop-k.at }) in
    let first : c.first_of.result ≡ node_after cycle onward start k =
    c.first_of.ensures ∙ (ap (λ y. node_after y onward start c.args.round.steps) c.cycle-cycle.ensures ∙ ap (node_after cycle onward start) (sym same)) in
    let P : List Leg → Type 0 = Replaces links nodes c.args.todo.now.items (Inside c.args.node c.args.ends) [] in
    on_ok _ _ c.push_leg-2.result
    (λ e.
    subst P (sym (e ∙ ap (λ x. c.loop-k.todo.items ++ leg x ∷ []) first))
    (round_end links nodes c.args.node onward start c.keeps.ensures (c.requires.linked c.args.node) c.requires.round.end c.args.todo.now.items k c.loop-k.at c.args.ends.to.defect
    c.loop-k.todo.items c.loop-k.invariant small c.args.ends way refl even))
    c.push_leg-2.ensures
