use Rattle.std.proofs.Common.{set, sym, ap, ◌∙◌}
use Rattle.fb_regions.proofs.Relinked.{relinked_at, relinked_none}
use Rattle.fb_regions.proofs.heads.set_link.Goals as goal

pub returns-in-Some : goal.returns-in-Some
returns-in-Some c =
    ap (λ r. set c.args.regions.now c.in-Some.place (record r { link = c.args.link })) (sym c.index-regions-place.is)
    ∙ relinked_at c.args.regions.now c.args.leaf c.args.link c.in-Some.place c.index-regions-place.result c.requires.distinct
    (sym (c.requires.index.entry c.args.leaf) ∙ sym c.in-Some.ensures) c.index-regions-place.is

pub returns-in_default : goal.returns-in_default
returns-in_default c =
    sym (relinked_none c.args.regions.now c.args.leaf c.args.link (sym (c.requires.index.entry c.args.leaf) ∙ sym c.in_default.ensures))
