use Rattle.fb_regions.proofs.ClockMoves.{names_apart}
use Rattle.fb_regions.proofs.PaceNames.{paced_apart}
use Rattle.fb_regions.proofs.regions.Regions.keeps.Goals as goal

pub returns-clause-walks : goal.returns-clause-walks
returns-clause-walks g c = rw (← c.self.view_is) c.self.invariant.0.walks

pub returns-clause-paces : goal.returns-clause-paces
returns-clause-paces g c =
    rw (← c.self.view_is) (λ n. paced_apart c.self.inside.regions.items n (names_apart _ c.self.inside.clock _ c.self.inside.marks c.self.invariant.0))
