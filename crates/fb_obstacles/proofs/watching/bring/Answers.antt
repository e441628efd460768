use Rattle.std.proofs.Common.{◌∙◌, arith}
use Rattle.indexmap.proofs.CallerLemmas.{index_map_len-with_value_at}
use Rattle.fb_obstacles.proofs.watching.bring.Goals as goal

pub exchange-requires-clause-one : goal.exchange-requires-clause-one
exchange-requires-clause-one c =
    omega (arith, c.requires.within, index_map_len-with_value_at c.args.known.now c.args.place c.args.bound)

pub exchange-requires-clause-other : goal.exchange-requires-clause-other
exchange-requires-clause-other c =
    omega (arith, c.requires.order, c.requires.within, index_map_len-with_value_at c.args.known.now c.args.place c.args.bound)

pub returns-clause-len : goal.returns-clause-len
returns-clause-len c =
    c.exchange.ensures.len ∙ index_map_len-with_value_at c.args.known.now c.args.place c.args.bound
