use Rattle.std.proofs.Common.{◌∙◌}
use Rattle.fb_verify.proofs.Leasts.{is_in-searched}
use Rattle.fb_verify.proofs.parities.is_listed.Goals as goal

pub returns : goal.returns
returns c =
    c.is_ok.ensures.value
    ∙ is_in-searched c.args.numbers.now c.args.number c.binary_search.result c.requires c.binary_search.ensures.position
