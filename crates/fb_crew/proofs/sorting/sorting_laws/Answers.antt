use Rattle.fb_crew.proofs.EvenPlaces.{sorting_laws}
use Rattle.fb_crew.proofs.sorting.sorting_laws.Goals as goal

pub returns : goal.returns
returns c = sorting_laws
