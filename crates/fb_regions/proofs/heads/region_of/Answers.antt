use Rattle.std.proofs.Common.{sym, ◌∙◌, subst}
use Rattle.std.specs.Prelude.{IsSome}
use Rattle.std.proofs.lemmas.Bool.{false≢true}
use Rattle.fb_regions.proofs.Linking.{named_at, named_none}
use Rattle.fb_regions.proofs.heads.region_of.Goals as goal

pub unreachable-requires : goal.unreachable-requires
unreachable-requires c =
    false≢true
    (subst IsSome (named_none c.args.regions.now c.args.name (sym (c.requires.index.entry c.args.name) ∙ sym c.in_default.ensures)) c.requires.known)

pub returns : goal.returns
returns c =
    named_at c.args.regions.now c.args.name c.in-Some.place _ (sym (c.requires.index.entry c.args.name) ∙ sym c.in-Some.ensures)
    c.index-regions-place.is
