use Rattle.std.proofs.Common.{Result, Ok, Err, refl, rules}
use Rattle.std.specs.Prelude.{OnErr}
use Rattle.fb_shots.proofs.stream.feed.Goals as goal

on_err : {T E P : Type 0} (r : Result T E) → P → OnErr r P
on_err (Ok x) p = tt
on_err (Err e) p = p

pub returns-in_err-feed-clause-err : goal.returns-in_err-feed-clause-err
returns-in_err-feed-clause-err c = on_err c.from_residual.result (search rules, refl)
