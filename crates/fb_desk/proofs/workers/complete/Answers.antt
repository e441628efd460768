use Rattle.std.proofs.Common.{◌≡◌, ◌+◌, ◌∙◌, length, ap, sym}
use Rattle.fb_half.proofs.DoneSteps.{made_holds}
use Rattle.fb_desk.proofs.workers.complete.Goals as goal
use Rattle.fb_desk.proofs.workers.complete.Goals.{In_ok-rest}

counted_at : (g : _) (c : In_ok-rest g) → length c.in_ok-rest.book.0 ≡ c.args.counted.made + c.in_ok-rest.rest
counted_at g c =
    sym (ap (λ book. length book.0) c.in_ok-rest.ensures.1)
    ∙ (made_holds (λ made. length c.do_rest.new.book.0 ≡ length c.args.counted.book.0 + made) c.do_rest.result c.in_ok-rest.rest c.in_ok-rest.ensures.0 c.do_rest.ensures
    ∙ ap (λ n. n + c.in_ok-rest.rest) c.args.counted.counted)

pub finish-requires-clause-made : goal.finish-requires-clause-made
finish-requires-clause-made g c = counted_at g (goal.at.finish-requires-clause-made g c).In_ok-rest
