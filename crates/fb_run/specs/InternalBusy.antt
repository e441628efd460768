-- The shots of a window that need a worker, and their rows put together with those of the others.
use Rattle.std.specs.Prelude.{◌==◌, ◌||◌, Bool, true, false, not, pos, List, [], ◌∷◌, length}
use Rattle.std.specs.Ordering.{int_eq}
use Rattle.fb_graph.specs.Limits.{DecodingGraph, ShotValue}
use Rattle.fb_graph.specs.Signs.{base_of}
use Rattle.fb_graph.specs.declared.parts.Row.{Row}
use Rattle.fb_graph.specs.declared.parts.Row.TheVariants.{Best}

-- The shot has a defect, or an edge that weighs less than 0 for it. Else its correction is no edge.
abbrev pub is_busy_for : DecodingGraph → ShotValue → Bool
is_busy_for g shot = not (length shot.defects == 0) || not (int_eq (base_of g shot) (pos 0))

-- these rows in the places of the busy shots, and empty ones in the others
abbrev pub rows_in_places : List Bool → List Row → List Row
rows_in_places [] rows = []
rows_in_places (false ∷ bs) rows = Best [] (pos 0) (pos 0) [] ∷ rows_in_places bs rows
rows_in_places (true ∷ bs) [] = []
rows_in_places (true ∷ bs) (r ∷ rs) = r ∷ rows_in_places bs rs
