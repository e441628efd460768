use Rattle.std.proofs.Common.{◌≡◌, ◌∙◌, ◌==◌, false, get_or, ap, subst}
use Rattle.fb_obstacles.specs.InternalWatch.{StaysRight}
use Rattle.fb_obstacles.proofs.ForgottenBounds.{right_begun}
use Rattle.fb_obstacles.proofs.watching.Watch.place_entered.Goals as goal

pub returns-in-Some-clause-bounds : goal.returns-in-Some-clause-bounds
returns-in-Some-clause-bounds c =
    subst (λ w. StaysRight (λ k. (k == c.args.edge) ≡ false) w c.forget.new.self) c.in-Some.ensures.0
    (subst (λ e. StaysRight (λ k. (k == e) ≡ false) c.place_or_add.new.self c.forget.new.self)
    (ap (λ w. get_or w.edges c.in-Some.place 0) c.in-Some.ensures.0 ∙ c.in-Some.ensures.2) c.forget.ensures.bounds)

pub returns-in-None-clause-bounds : goal.returns-in-None-clause-bounds
returns-in-None-clause-bounds c =
    rw c.in-None.ensures.1
    (right_begun c.args.self.now c.args.edge c.keeps.ensures.bounds c.in-None.ensures.0)
