use Rattle.std.proofs.Common.{ℕ, List, reverse, [], refl, sym, subst, length, ap}
use Rattle.fb_blossoms.specs.declared.legs.Leg.{Leg}
use Rattle.fb_blossoms.specs.declared.legs.Ends.{Ends}
use Rattle.fb_blossoms.specs.declared.legs.Leg.TheVariants.{Inside}
use Rattle.fb_blossoms.specs.InternalWays.{LeadsDown}
use Rattle.fb_blossoms.specs.InternalLegs.{Replaces}
use Rattle.fb_blossoms.proofs.Turns.{on_ok, replaced_by_child, replaced_by_none, replaces_as, round_of, way_shorter_by}
use Rattle.fb_blossoms.proofs.legs.go_inside.Goals as goal

pub returns-then-from-to : goal.returns-then-from-to
returns-then-from-to c =
    replaced_by_none c.args.nest.now.links.now c.args.nest.now.blossoms.now c.keeps.ensures c.args.todo.now.items c.args.node c.args.ends c.requires.leg c.if-from-to.true

pub returns-then-first-last : goal.returns-then-first-last
returns-then-first-last c =
    let links = c.args.nest.now.links.now in
    let nodes = c.args.nest.now.blossoms.now in
    let from = way_shorter_by nodes c.args.node c.args.ends.from.defect c.in-Some-Some.first _ c.pop.new.self.items c.requires.leg.0 c.in-Some-Some.ensures.items in
    let to = way_shorter_by nodes c.args.node c.args.ends.to.defect c.in-Some-Some.last _ c.pop-2.new.self.items c.requires.leg.1 c.in-Some-Some.ensures'.items in
    let inner : Ends = record {
      from = record { defect = c.args.ends.from.defect; through = c.pop.new.self };
      to = record { defect = c.args.ends.to.defect; through = c.pop-2.new.self };
    } in
    let P : ℕ → Type 0 = λ x. LeadsDown nodes x c.args.ends.to.defect (reverse c.pop-2.new.self.items) in
    let Q : List Leg → Type 0 = Replaces links nodes c.args.todo.now.items (Inside c.args.node c.args.ends) [] in
    on_ok _ _ c.push_leg.result
    (λ e.
    subst Q (sym e)
    (replaced_by_child links nodes c.keeps.ensures c.args.todo.now.items c.args.node c.in-Some-Some.first c.args.ends inner (c.requires.linked c.args.node) from.0
    (from.1, subst P (sym c.if-first-last.true) to.1) refl refl))
    c.push_leg.ensures

pub returns : goal.returns
returns c =
    let links = c.args.nest.now.links.now in
    let nodes = c.args.nest.now.blossoms.now in
    let inner : Ends = record {
      from = record { defect = c.args.ends.from.defect; through = c.pop.new.self };
      to = record { defect = c.args.ends.to.defect; through = c.pop-2.new.self };
    } in
    on_ok _ _ c.push_round.result (replaces_as links nodes c.args.todo.now.items c.push_round.new.todo.items c.args.node inner c.args.ends refl refl) c.push_round.ensures

pub push_round-requires-clause-round : goal.push_round-requires-clause-round
push_round-requires-clause-round c =
    let nodes = c.args.nest.now.blossoms.now in
    let from = way_shorter_by nodes c.args.node c.args.ends.from.defect c.in-Some-Some.first _ c.pop.new.self.items c.requires.leg.0 c.in-Some-Some.ensures.items in
    let to = way_shorter_by nodes c.args.node c.args.ends.to.defect c.in-Some-Some.last _ c.pop-2.new.self.items c.requires.leg.1 c.in-Some-Some.ensures'.items in
    let inner : Ends = record {
      from = record { defect = c.args.ends.from.defect; through = c.pop.new.self };
      to = record { defect = c.args.ends.to.defect; through = c.pop-2.new.self };
    } in
    round_of nodes c.args.node c.round_from-round.result inner (length c.cycle-count.result.now) c.place-begin.result c.place-end.result c.in-Some-Some.first c.in-Some-Some.last
    (ap length c.cycle-count.ensures) (c.place-begin.ensures c.args.node from.0) (c.place-end.ensures c.args.node to.0)
    c.round_from-round.ensures.end c.round_from-round.ensures.steps c.round_from-round.ensures.even c.round_from-round.ensures.from from.1 to.1
