use Rattle.std.proofs.Common.{◌∙◌, ap, None, replicate}
use Rattle.fb_regions.specs.InternalClock.{all_at}
use Rattle.fb_regions.proofs.Unmarked.{begun_none, heads_none, kept_none, index_none}
use Rattle.fb_regions.proofs.regions.Regions.new.Goals as goal

pub invariant_of-result : goal.invariant_of-result
invariant_of-result g c = (
  kept_none (g.S.Scope.problem c.args.scope.now) _ _ (ap (all_at 0) c.new.ensures.items)
      (c.new-3.ensures ∙ ap (λ n. replicate n None) c.vertices.ensures),
  index_none _ _ c.new.ensures.items c.new-2.ensures.items,
  begun_none 0 _ c.new.ensures.items,
  heads_none 0 _ c.new.ensures.items,
)
