use Rattle.fb_half.specs.Values.{part_of}
use Rattle.fb_half.specs.Translations.{link_by}
use Rattle.fb_search.proofs.Agreed.{cycle_there, outer_in_store}
use Rattle.fb_search.proofs.EndsUnder.{covered_held, uncovered_apart}
use Rattle.fb_search.proofs.EnteredChildren.{child_entered, end_found, end_held}
use Rattle.fb_search.proofs.opening.child_at.Goals as goal

pub end_under-end-requires-clause-blossom : goal.end_under-end-requires-clause-blossom
end_under-end-requires-clause-blossom c =
    let may = c.requires.1 in
    cycle_there c.args.parts.now.regions.nodes c.args.parts.now.blossoms c.args.node may.agreed may.may_split

pub end_under-end-requires-clause-outer : goal.end_under-end-requires-clause-outer
end_under-end-requires-clause-outer c =
    let may = c.requires.1 in
    outer_in_store c.args.parts.now.regions.nodes c.args.parts.now.blossoms c.args.node may.agreed may.may_split.outer

pub child_holding-requires-clause-blossom : goal.child_holding-requires-clause-blossom
child_holding-requires-clause-blossom c =
    let may = c.requires.1 in
    cycle_there c.args.parts.now.regions.nodes c.args.parts.now.blossoms c.args.node may.agreed may.may_split

pub child_holding-requires-clause-holds : goal.child_holding-requires-clause-holds
child_holding-requires-clause-holds c =
    let w = part_of c.args.parts.now in
    let may = c.requires.1 in
    let ends = rw c.ends-from.ensures at c.end_under-end.ensures in
    end_held w c.args.node c.requires.0 c.args.link c.end_under-end.result may c.keeps.ensures
    (end_found w.nodes (link_by w.links c.args.link) c.requires.0 c.args.node c.end_under-end.result may.connects
    may.apart (λ e. ends.first (covered_held w c.args.node c.requires.0 c.args.link may c.keeps.ensures e))
    (λ e. ends.second (uncovered_apart w c.args.node c.requires.0 c.args.link may c.keeps.ensures e)))

pub returns : goal.returns
returns c other may =
    let w = part_of c.args.parts.now in
    let ends = rw c.ends-from.ensures at c.end_under-end.ensures in
    child_entered w c.args.node other c.args.link c.end_under-end.result may c.keeps.ensures
    (end_found w.nodes (link_by w.links c.args.link) other c.args.node c.end_under-end.result may.connects
    may.apart (λ e. ends.first (covered_held w c.args.node other c.args.link may c.keeps.ensures e))
    (λ e. ends.second (uncovered_apart w c.args.node other c.args.link may c.keeps.ensures e)))
    c.child_holding.result c.child_holding.ensures
