use Rattle.std.proofs.Common.{refl, subst, sym}
use Rattle.fb_search.specs.InternalGrowth.{HasGrownFree, IsGrowthRewatched}
use Rattle.fb_search.proofs.GrownFree.{blocks_after, grown_free_step}
use Rattle.fb_search.proofs.growing.Growing.step_freely.Goals as goal

pub returns-clause-grown : goal.returns-clause-grown
returns-clause-grown g c =
    subst (HasGrownFree c.args.self.now) (sym c.step.ensures)
    (grown_free_step c.args.self.now _ c.args.by c.keeps.ensures (record { same = refl; room = refl }))

pub returns-clause-next : goal.returns-clause-next
returns-clause-next g c next o same is =
    let after = subst (λ s. IsGrowthRewatched s next) c.step.ensures same in (
      blocks_after c.args.self.now next c.args.by o c.keeps.ensures c.requires.free after is,
      grown_free_step c.args.self.now next c.args.by c.keeps.ensures after,
    )
