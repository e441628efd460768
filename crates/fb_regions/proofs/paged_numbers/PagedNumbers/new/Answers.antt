use Rattle.fb_regions.proofs.Paged.{numbers_none}
use Rattle.fb_regions.proofs.paged_numbers.PagedNumbers.new.Goals as goal

pub returns : goal.returns
returns c = rw (c.in_ok-places.ensures.items, c.in_ok-numbers.ensures.items) (numbers_none c.args.count c.div_ceil-pages.result)
