use Rattle.fb_laws.proofs.RingWays.{blossom_opened_along, even_way_round, round_begun}
use Rattle.fb_laws.proofs.part_openings.opened_along.Goals as goal

pub returns-clause-way : goal.returns-clause-way
returns-clause-way c = even_way_round

pub returns-clause-begun : goal.returns-clause-begun
returns-clause-begun c = round_begun

pub returns-clause-opened : goal.returns-clause-opened
returns-clause-opened c = blossom_opened_along
