-- Why the cuts that are printed differ as sets.
use Rattle.std.specs.Prelude.{ℕ, ◌≡◌, true, false, List, All, AllPairs}
use Rattle.fb_graph.specs.Parity.{is_in}
use Rattle.fb_graph.specs.Certificate.{AreDistinct}
use Rattle.fb_graph.specs.Printed.{DifferAsSets}
use Rattle.fb_graph.specs.Dual.{AreApart, AreGrown}
use Rattle.fb_graph.specs.declared.parts.Cut.{Cut}

-- Layers of one node differ, since each has a vertex more than the one below it.
abbrev pub LayersDiffer : Type 0
LayersDiffer = (layers : List Cut) → AreGrown layers → All (λ c. AreDistinct c.vertices) layers
    → AllPairs DifferAsSets layers

-- Sets that lie apart differ, if they aren't empty.
abbrev pub ApartDiffer : Type 0
ApartDiffer = (c d : Cut) (v : ℕ) → is_in c.vertices v ≡ true → AreApart c.vertices d.vertices → DifferAsSets c d

-- So does a set within another that holds a vertex more, as a child's in its blossom.
abbrev pub InnerDiffers : Type 0
InnerDiffers = (c d : Cut) (v : ℕ) → is_in c.vertices v ≡ false → is_in d.vertices v ≡ true → DifferAsSets c d
