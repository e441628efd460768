use Rattle.fb_regions.proofs.listing.put_before.Goals as goal

pub returns-in-Some : goal.returns-in-Some
returns-in-Some c = rw (← c.in-Some.ensures) c.put_beside.ensures
