use Rattle.std.proofs.Common.{◌≡◌, ◌++◌, replicate, get_or, arith}
use Rattle.std.proofs.lemmas.Grind.{common_steps}
use Rattle.fb_regions.specs.InternalPages.{no_place}
use Rattle.fb_regions.specs.declared.paged_numbers.TheConstants.{PAGE}
use Rattle.fb_regions.proofs.Paged.{numbers_same, page_filled}
use Rattle.fb_regions.proofs.paged_numbers.filled.Goals as goal

pub returns-clause-paged : goal.returns-clause-paged
returns-clause-paged c =
    let longer : c.resize.new.self.items ≡ c.args.numbers.now.items ++ replicate PAGE 0 = grind (arith, common_steps) in
    let out : get_or c.args.places.now.items c.args.page no_place ≡ no_place = grind (arith, common_steps) in
    page_filled _ _ _ c.requires.paged c.args.page _ _ _ c.requires.page out (omega arith) longer c.resize.ensures.capacity

pub returns-clause-same : goal.returns-clause-same
returns-clause-same c =
    let longer : c.resize.new.self.items ≡ c.args.numbers.now.items ++ replicate PAGE 0 = grind (arith, common_steps) in
    let out : get_or c.args.places.now.items c.args.page no_place ≡ no_place = grind (arith, common_steps) in
    numbers_same _ _ _ c.requires.paged c.args.page _ _ _ c.requires.page out (omega arith) longer c.resize.ensures.capacity
