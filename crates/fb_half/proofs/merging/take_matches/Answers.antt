use Rattle.std.proofs.Common.{◌∙◌, get_or}
use Rattle.fb_links.specs.Names.{name_by}
use Rattle.fb_half.specs.declared.matches.Match.{Match}
use Rattle.fb_half.specs.InternalStandings.{no_match}
use Rattle.fb_half.specs.Merged.{renamed_match}
use Rattle.fb_half.proofs.RenamedMatches.{same_renaming, taken_more, unlisted_next}
use Rattle.fb_half.proofs.merging.take_matches.Goals as goal

pub add_match-requires : goal.add_match-requires
add_match-requires c =
    let change : Match → Match = renamed_match (name_by c.args.links.now) (name_by c.args.nodes.now) in
    unlisted_next change c.args.matching.now c.loop-m.matching c.args.others.now c.loop-m.m-index no_match c.renamed_match.result c.loop-m-test.true c.requires
    c.loop-m.invariant
    (c.renamed_match.ensures
    ∙ same_renaming _ _ _ _ c.in_ok-new_links.ensures c.in_ok-new_nodes.ensures (get_or c.args.others.now c.loop-m.m-index no_match))

pub loop-m-preserved : goal.loop-m-preserved
loop-m-preserved c =
    let change : Match → Match = renamed_match (name_by c.args.links.now) (name_by c.args.nodes.now) in
    taken_more change c.args.matching.now c.loop-m.matching c.add_match.new.self c.args.others.now c.loop-m.m-index no_match c.renamed_match.result c.loop-m-test.true
    c.loop-m.invariant
    (c.renamed_match.ensures
    ∙ same_renaming _ _ _ _ c.in_ok-new_links.ensures c.in_ok-new_nodes.ensures (get_or c.args.others.now c.loop-m.m-index no_match))
    c.in_ok-add_match.ensures.ok
