use Rattle.std.proofs.Common.{ap, refl, ◌∙◌}
use Rattle.fb_plan.specs.Scopes.{scope_graph}
use Rattle.fb_graph.specs.Limits.{IsWithinLimits}
use Rattle.fb_half.specs.Parts.{problem_in}
use Rattle.fb_half.specs.Values.{part_of}
use Rattle.fb_search.proofs.BegunSearches.{kept_limits, kept_watches}
use Rattle.fb_search.proofs.MetTrees.{met_apart, met_attached, met_entered, met_grows, met_link, met_live, met_mate, met_other, met_paced, met_plus, met_put, met_taken}
use Rattle.fb_search.proofs.growing_meets.take_couple.Goals as goal

pub attach-requires-clause-link : goal.attach-requires-clause-link
attach-requires-clause-link c = met_link c.requires.met.0 c.args.met _ c.requires.met.1 c.args.mate c.requires.couple

pub attach-requires-clause-matched_link : goal.attach-requires-clause-matched_link
attach-requires-clause-matched_link c = met_taken c.requires.met.0 c.args.met _ c.requires.met.1 c.args.mate c.requires.couple

pub attach-requires-clause-plus : goal.attach-requires-clause-plus
attach-requires-clause-plus c = met_plus c.requires.met.0 c.args.met _ c.requires.met.1 c.args.mate c.requires.couple

pub attach-requires-clause-minus : goal.attach-requires-clause-minus
attach-requires-clause-minus c = met_other c.requires.met.0 c.args.met _ c.requires.met.1 c.args.mate c.requires.couple

pub attach-requires-clause-matched : goal.attach-requires-clause-matched
attach-requires-clause-matched c = met_mate c.requires.met.0 c.args.met _ c.requires.met.1 c.args.mate c.requires.couple

pub attach-requires-clause-apart : goal.attach-requires-clause-apart
attach-requires-clause-apart c = met_apart c.requires.met.0 c.args.met _ c.requires.met.1 c.args.mate c.requires.couple

pub enter_minus-requires : goal.enter_minus-requires
enter_minus-requires c =
    rw c.set_paces.ensures.same (met_entered c.requires.met.0 c.args.met _ c.requires.met.1 c.args.mate c.requires.couple)

pub watch_node-requires-clause-live : goal.watch_node-requires-clause-live
watch_node-requires-clause-live c =
    rw c.set_paces.ensures.same (met_live c.requires.met.0 c.args.met _ c.requires.met.1 c.args.mate c.requires.couple)

pub returns : goal.returns
returns c w met =
    let scope = c.requires.paced.scope in
    let part = part_of c.args.pieces.now.parts in
    let graph = ap scope_graph c.scope.ensures ∙ scope.graph in
    let plan = ap (λ s. s.plan.now) c.scope.ensures ∙ scope.plan in
    let node = ap (λ s. s.node) c.scope.ensures ∙ scope.node in
    let limits : IsWithinLimits (problem_in part) = kept_limits part _ _ _ graph plan node c.limits.ensures in
    let put = met_put w c.args.met _ met c.args.mate c.requires.couple c.attach.new.self c.in_ok-attach.ensures.ok in
    rw (c.set_paces.ensures.same, put) (record {
      paced = record {
        scope = record {
          graph = scope.graph;
          plan = scope.plan;
          node = scope.node;
          listed = scope.listed;
          defects = scope.defects;
          rest = scope.rest;
        };
        paces = met_paced w c.args.met _ met c.args.mate c.requires.couple c.args.pieces.now.parts.regions c.set_paces.new.regions
            refl c.requires.paced.paces (rw put at c.set_paces.ensures.paces);
      };
      keeps = met_attached w c.args.met _ met c.args.mate c.requires.couple limits c.enter_minus.new.watch c.watch_node.new.watch
          c.keeps.ensures.within (rw c.set_paces.ensures.same at c.in_ok-enter_minus.ensures.ok)
          (kept_watches part _ c.scope.result.now.plan.now c.scope.result.now.node _ c.enter_minus.new.watch
          c.watch_node.new.watch graph (rw c.set_paces.ensures.same at c.watch_node.ensures));
      grows_on = met_grows w c.args.met _ met c.args.mate c.requires.couple limits c.watch_node.new.watch;
    })
