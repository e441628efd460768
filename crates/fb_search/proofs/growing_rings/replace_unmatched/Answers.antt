use Rattle.fb_search.proofs.ReplacedNames.{replaced_by, replaced_same, unlisted}
use Rattle.fb_search.proofs.growing_rings.replace_unmatched.Goals as goal

pub add_unmatched-requires : goal.add_unmatched-requires
add_unmatched-requires c =
    unlisted c.args.matching.now c.take_unmatched.new.self c.args.old c.args.new (c.requires.fresh c.if-new-old.true)
    c.take_unmatched.ensures.matches c.take_unmatched.ensures.unmatched

pub returns-in_ok-add_unmatched : goal.returns-in_ok-add_unmatched
returns-in_ok-add_unmatched c =
    replaced_by c.args.matching.now c.take_unmatched.new.self c.add_unmatched.new.self c.args.old c.args.new
    c.take_unmatched.ensures.matches c.take_unmatched.ensures.unmatched c.in_ok-add_unmatched.ensures.ok

pub returns-else-new-old : goal.returns-else-new-old
returns-else-new-old c = replaced_same c.args.matching.now c.args.old c.args.new c.requires.listed c.if-new-old.false
