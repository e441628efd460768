use Rattle.std.proofs.Common.{sym}
use Rattle.fb_regions.proofs.Paged.{length-numbers}
use Rattle.fb_regions.proofs.paged_numbers.PagedNumbers.len.Goals as goal

pub returns : goal.returns
returns c = rw (← c.self.view_is) (sym (length-numbers c.self.inside.count c.self.inside.places.items c.self.inside.numbers.items))
