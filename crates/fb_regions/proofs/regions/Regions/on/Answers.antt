use Rattle.std.proofs.Common.{◌∙◌, sym, ap, None, replicate}
use Rattle.fb_regions.specs.InternalClock.{all_at}
use Rattle.fb_regions.proofs.Unmarked.{begun_none, heads_none, kept_none, index_none}
use Rattle.fb_regions.proofs.regions.Regions.on.Goals as goal

pub invariant_of-result : goal.invariant_of-result
invariant_of-result g c = (
  kept_none (g.S.Scope.problem c.args.scope.now) _ _ (ap (all_at 0) c.spare.invariant.0)
      (c.spare.invariant.2
      ∙ ap (λ n. replicate n None) (sym c.vertices.ensures ∙ (c.if-vertices.false ∙ c.vertices-2.ensures))),
  index_none _ _ c.spare.invariant.0 c.spare.invariant.1,
  begun_none 0 _ c.spare.invariant.0,
  heads_none 0 _ c.spare.invariant.0,
)
