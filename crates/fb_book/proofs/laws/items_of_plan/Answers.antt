use Rattle.fb_book.proofs.Places.{forest_of_places}
use Rattle.fb_book.proofs.Trees.{forest_of_tree, small_tree}
use Rattle.fb_book.proofs.laws.items_of_plan.Goals as goal

pub returns : goal.returns
returns c = λ tree is. forest_of_places tree.units tree.joins (small_tree tree is).0 (forest_of_tree tree is)
