-- Entries that are judged without regard to those before them.
use Rattle.std.specs.Prelude.{ℕ, nat_le, if◌then◌else◌, List, [], ◌∷◌, Option, Some, None}
use Rattle.fb_graph.specs.Parity.{is_in}
use Rattle.fb_graph.specs.Limits.{DecodingGraph}
use Rattle.fb_shots_json.specs.declared.answer.Kind.{Kind}
use Rattle.fb_shots_json.specs.declared.answer.Kind.TheVariants.{DefectOutOfRange, DefectOnVirtual}

-- why a number is no real vertex of the graph
abbrev pub vertex_fault : DecodingGraph → ℕ → Option Kind
vertex_fault g v =
    if nat_le g.vertices v then Some DefectOutOfRange else (if is_in g.virtuals v then Some DefectOnVirtual else None)

-- an entry before others, unless it has a fault
abbrev pub before_fault : Option Kind → ℕ → List ℕ → List ℕ
before_fault (Some kind) v vs = []
before_fault None v vs = v ∷ vs

-- the entries before the first one that is no real vertex
abbrev pub real_prefix : DecodingGraph → List ℕ → List ℕ
real_prefix g [] = []
real_prefix g (v ∷ vs) = before_fault (vertex_fault g v) v (real_prefix g vs)
