use Rattle.std.proofs.Common.{sym, ◌∙◌}
use Rattle.std.proofs.lemmas.List.{take_rest}
use Rattle.fb_verify.proofs.Parts.{split_found, split_alone}
use Rattle.fb_verify.proofs.splitting.split_once.Goals as goal

pub returns-in_default-clause-split : goal.returns-in_default-clause-split
returns-in_default-clause-split c = split_alone c.args.separator c.args.bytes.now (sym c.first_at.ensures ∙ c.in_default.is)

pub returns-clause-split : goal.returns-clause-split
returns-clause-split c =
    rw take_rest (split_found c.args.separator c.args.bytes.now c.in-Some.at (sym c.first_at.ensures ∙ c.in-Some.is))
