-- Laws of the definitions.
use Rattle.std.specs.Prelude.{ℕ, ◌≡◌, List, Option}
use Rattle.fb_links.specs.declared.walk.Step.{Step}
use Rattle.fb_blossoms.specs.Nodes.{IsNested, Node}
use Rattle.fb_blossoms.specs.Links.{AllLinked}
use Rattle.fb_blossoms.specs.Paths.{IsEvenPath, IsSimpleEvenPath}

-- An even path has an even number of links, leads from its first defect to its last, and passes no defect twice.
abbrev pub EvenPathIsSimple : Type 0
EvenPathIsSimple = (links : List (Option (List Step))) (nodes : List (Option Node)) (name from to : ℕ) (path : List ℕ)
    → IsNested nodes → AllLinked links nodes → IsEvenPath links nodes name from to path → IsSimpleEvenPath links nodes name from to path

-- There is at most one even path inside a node from one of its defects to another.
abbrev pub EvenPathIsUnique : Type 0
EvenPathIsUnique = (links : List (Option (List Step))) (nodes : List (Option Node)) (name from to : ℕ) (path other : List ℕ)
    → IsNested nodes → AllLinked links nodes → IsEvenPath links nodes name from to path → IsEvenPath links nodes name from to other
    → path ≡ other
