-- A set of names.
use Rattle.std.specs.Prelude.{ℕ, ◌≡◌, List, nat_eq}
use Rattle.std.specs.declared.hash.FoldHasher.{FoldHasher}
use Rattle.std.specs.declared.hash.BuildHasherDefault.{BuildHasherDefault}
use Rattle.std.specs.HashSet.{contains, HashSet}
use Rattle.fb_graph.specs.Parity.{is_in}

-- the names in the set are those of the list
abbrev pub AreNames : HashSet ℕ (BuildHasherDefault FoldHasher) → List ℕ → Type 0
AreNames names nodes = (name : ℕ) → contains nat_eq names name ≡ is_in nodes name
