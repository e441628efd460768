-- A source walk's steps follow one another.
use Rattle.std.proofs.Common.{ℕ, List, [], ◌∷◌}
use Rattle.fb_graph.specs.Problem.{Problem}
use Rattle.fb_graph.specs.Dual.{Node}
use Rattle.fb_links.specs.declared.walk.Step.{Step}
use Rattle.fb_links.specs.Walks.{Runs, IsChained}
use Rattle.fb_links.proofs.Turns.{Runs-chained}
use Rattle.fb_regions.specs.Moves.{IsSourceWalk}
use Rattle.fb_regions.specs.Walks.{IsWalk}

pub walk_runs : (p : Problem) (walk : List Step) (from to : ℕ) → IsWalk p walk from to → Runs walk from to
walk_runs p [] from to same = same
walk_runs p (s ∷ ss) from to (begins, step, more) = (begins, walk_runs p ss s.to to more)

pub source_chained : (p : Problem) (nodes : List Node) (v : ℕ) (walk : List Step) → IsSourceWalk p nodes v walk → IsChained walk
source_chained p nodes v walk (d, from) = Runs-chained walk d v (walk_runs p walk d v from.leads)
