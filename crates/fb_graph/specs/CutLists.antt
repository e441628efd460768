-- Lists of cuts, by place.
use Rattle.std.specs.Prelude.{ℕ, List, [], get_or}
use Rattle.fb_graph.specs.declared.parts.Cut.{Cut}

-- no set, of value 0
abbrev pub no_cut : Cut
no_cut = record { value = 0; vertices = [] }

-- the cut at a place
abbrev pub cut_at : List Cut → ℕ → Cut
cut_at cuts i = get_or cuts i no_cut
