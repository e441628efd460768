use Rattle.fb_search.specs.InternalGrowing.{GrowingValue, growing_of}
use Rattle.fb_search.proofs.ListedSteps.{scope_is, taken_among}
use Rattle.fb_search.proofs.ScopeWalks.{between_scoped, met_scoped}
use Rattle.fb_search.proofs.TreeMeets.{has_met_tree, listed_linked, outside_between}
use Rattle.fb_search.proofs.growing_meets.link_outside.Goals as goal

pub link_between-requires : goal.link_between-requires
link_between-requires c =
    let w : GrowingValue = growing_of c.args.pieces.now in
    between_scoped w.part _ (scope_is _ c.requires.paced.scope) c.args.edge c.args.plus c.args.other
    (outside_between w c.args.edge c.args.plus c.args.other c.requires.meets)

pub returns-clause-paced : goal.returns-clause-paced
returns-clause-paced c =
    let w : GrowingValue = growing_of c.args.pieces.now in
    let scope = c.requires.paced.scope in
    let made = c.in_ok-link.ensures in
    let taken = c.take_match-taken.ensures.matches in
    record {
      scope = record {
        graph = scope.graph;
        plan = scope.plan;
        node = scope.node;
        defects = scope.defects;
        listed = listed_linked w c.args.pieces.now.parts.seams c.link_between.new.links c.in_ok-link.link made.walk c.take_match-taken.new.self.matches
            c.requires.growing made.adds (λ m a. taken_among w.part.matching.matches c.take_match-taken.new.self.matches c.take_match-taken.result m taken a)
            scope.listed;
        rest = scope.rest;
      };
      paces = c.requires.paced.paces;
    }

pub returns-clause-met : goal.returns-clause-met
returns-clause-met c =
    let w : GrowingValue = growing_of c.args.pieces.now in
    let made = c.in_ok-link.ensures in
    has_met_tree w c.args.edge c.args.plus c.args.other c.in_ok-link.link c.take_match-taken.result made.walk
    c.link_between.new.links c.take_match-taken.new.self c.requires.growing c.requires.meets
    (met_scoped w.part _ (scope_is _ c.requires.paced.scope) c.args.edge c.args.plus c.args.other made.walk
    (outside_between w c.args.edge c.args.plus c.args.other c.requires.meets) made.between)
    made.adds c.take_match-taken.ensures.matches c.take_match-taken.ensures.unmatched
