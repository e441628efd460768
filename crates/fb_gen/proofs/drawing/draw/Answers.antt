use Rattle.std.proofs.Common.{◌≡◌, ◌∙◌, length, sym, subst}
use Rattle.fb_graph.specs.Limits.{IsShot}
use Rattle.fb_gen.proofs.Hits.{found_as_defects, found_as_shot, drawn_is_shot, drawn_flips, drawn_edges, drawn_even}
use Rattle.fb_gen.specs.Drawing.{state_after}
use Rattle.fb_gen.proofs.drawing.draw.Goals as goal

pub from_rising-shot-requires : goal.from_rising-shot-requires
from_rising-shot-requires c =
    rw (found_as_defects c.args.graph.now _ _ _ _ _ _ c.in_ok-defects.ensures c.deref.ensures.value c.in_ok-flags.ensures.each c.draws.view_is)
    (drawn_is_shot c.args.graph.now _)

pub returns-clause-shot : goal.returns-clause-shot
returns-clause-shot c =
    subst (IsShot c.args.graph.now) (sym (found_as_shot c.args.graph.now _ _ _ _ _ _ _ c.from_rising-shot.ensures c.in_ok-defects.ensures c.deref.ensures.value c.in_ok-flags.ensures.each c.draws.view_is))
    (drawn_is_shot c.args.graph.now _)

pub returns-clause-defects : goal.returns-clause-defects
returns-clause-defects c =
    found_as_shot c.args.graph.now _ _ _ _ _ _ _ c.from_rising-shot.ensures c.in_ok-defects.ensures c.deref.ensures.value c.in_ok-flags.ensures.each c.draws.view_is

pub returns-clause-state : goal.returns-clause-state
returns-clause-state c =
    c.later.view_is
    ∙ subst (λ s. c.flags_of_hits.new.draws ≡ state_after s (length c.args.graph.now.edges)) c.draws.view_is c.in_ok-flags.ensures.state

pub returns-clause-edges : goal.returns-clause-edges
returns-clause-edges c = drawn_edges c.args.graph.now _ _ c.from_rising-shot.result

pub returns-clause-flips : goal.returns-clause-flips
returns-clause-flips c =
    drawn_flips c.args.graph.now _ _ (found_as_shot c.args.graph.now _ _ _ _ _ _ _ c.from_rising-shot.ensures c.in_ok-defects.ensures c.deref.ensures.value c.in_ok-flags.ensures.each c.draws.view_is)

pub returns-clause-even : goal.returns-clause-even
returns-clause-even c =
    drawn_even c.args.graph.now _ _ _ (found_as_shot c.args.graph.now _ _ _ _ _ _ _ c.from_rising-shot.ensures c.in_ok-defects.ensures c.deref.ensures.value c.in_ok-flags.ensures.each c.draws.view_is)
