-- Which ranges and fusions make a plan of a graph, and the first rule that they break.
use Rattle.std.specs.Prelude.{ℕ, ◌+◌, ◌==◌, ◌&&◌, ◌||◌, Bool, nat_lt, nat_le, if◌then◌else◌, List, [], ◌∷◌, ◌++◌, map, length, get_or, take, find, count_by, Option, Some, None, option_map, Result, Ok, Err}
use Rattle.std.specs.List.{range_with_len, list_any}
use Rattle.std.specs.Option.{option_or}
use Rattle.fb_graph.specs.Problem.{edge_at}
use Rattle.fb_graph.specs.Limits.{DecodingGraph, is_real_in}
use Rattle.fb_graph.specs.Leasts.{least}
use Rattle.fb_plan.specs.Plans.{PlanTree, most_units, names, join_at, goes_across}
use Rattle.fb_plan.specs.declared.parts.OwnedRange.{OwnedRange}
use Rattle.fb_plan.specs.declared.parts.Join.{Join}
use Rattle.fb_plan.specs.declared.faults.PlanFault.{PlanFault}
use Rattle.fb_plan.specs.declared.faults.PlanFault.TheVariants.{TooManyUnits, BadRange, VertexUnowned, VertexTwice, ChildOutOfRange, ChildUsedTwice, NotOneRoot, EdgeAcross}

-- the children of each fusion
abbrev pub joins_of : List Join → List (ℕ × ℕ)
joins_of fusions = map (λ join. (join.left, join.right)) fusions

-- the ranges of each fusion's seam
abbrev pub seams_of : List Join → List (List (ℕ × ℕ))
seams_of fusions = map (λ join. join.seam.items) fusions

-- the ranges of each node: of the units, then of the fusions
abbrev pub ranges_of : List (List (ℕ × ℕ)) → List Join → List (List (ℕ × ℕ))
ranges_of units fusions = units ++ seams_of fusions

-- a node's range
abbrev pub claim_of : ℕ → ℕ × ℕ → OwnedRange
claim_of n range = record { node = n; start = range.0; end = range.1 }

-- all ranges, the first list being of node n
abbrev pub claims_from : ℕ → List (List (ℕ × ℕ)) → List OwnedRange
claims_from n [] = []
claims_from n (ranges ∷ more) = map (claim_of n) ranges ++ claims_from (n + 1) more

-- the range holds the vertex
abbrev pub holds : ℕ → OwnedRange → Bool
holds v c = nat_le c.start v && nat_lt v c.end

-- the range ends before it starts, or beyond the vertices
abbrev pub is_bad_range : ℕ → ℕ × ℕ → Bool
is_bad_range vertices range = nat_lt range.1 range.0 || nat_lt vertices range.1

-- the node has a bad range
abbrev pub is_bad_node : ℕ → List (List (ℕ × ℕ)) → ℕ → Bool
is_bad_node vertices ranges n = list_any (is_bad_range vertices) (get_or ranges n [])

-- the vertex is real and in no range
abbrev pub is_unowned : DecodingGraph → List OwnedRange → ℕ → Bool
is_unowned g claims v = is_real_in g v && count_by (holds v) claims == 0

-- the vertex is real and in two ranges
abbrev pub is_owned_twice : DecodingGraph → List OwnedRange → ℕ → Bool
is_owned_twice g claims v = is_real_in g v && nat_lt 1 (count_by (holds v) claims)

-- the node of the range that holds the vertex; None for a virtual vertex
abbrev pub owner_in : DecodingGraph → List OwnedRange → ℕ → Option ℕ
owner_in g claims v = if is_real_in g v then option_map (λ c. c.node) (find (holds v) claims) else None

-- fusion i names a node that isn't below its own number
abbrev pub is_out_of_range : ℕ → List (ℕ × ℕ) → ℕ → Bool
is_out_of_range units joins i = nat_le (units + i) (join_at joins i).0 || nat_le (units + i) (join_at joins i).1

-- one of the fusions names the node
abbrev pub is_named : List (ℕ × ℕ) → ℕ → Bool
is_named joins n = list_any (λ join. names join n) joins

-- fusion i names one node twice, or a node that an earlier one names
abbrev pub is_used_twice : List (ℕ × ℕ) → ℕ → Bool
is_used_twice joins i =
    (join_at joins i).0 == (join_at joins i).1
    || is_named (take i joins) (join_at joins i).0 || is_named (take i joins) (join_at joins i).1

-- the plan of the units' ranges, the fusions' children and their seams, if these break no rule
abbrev pub tree_by : DecodingGraph → List (List (ℕ × ℕ)) → List (ℕ × ℕ) → List (List (ℕ × ℕ)) → PlanTree
tree_by g units joins seams = record {
  units = length units;
  joins = joins;
  owners = map (owner_in g (claims_from 0 (units ++ seams))) (range_with_len 0 g.vertices);
}

-- Each rule, with the place that breaks it first.
abbrev pub units_fault : List (List (ℕ × ℕ)) → Option PlanFault
units_fault units = if nat_lt most_units (length units) then Some TooManyUnits else None

abbrev pub range_fault : ℕ → List (List (ℕ × ℕ)) → Option PlanFault
range_fault vertices ranges = option_map BadRange (least (length ranges) (is_bad_node vertices ranges))

abbrev pub unowned_fault : DecodingGraph → List OwnedRange → Option PlanFault
unowned_fault g claims = option_map VertexUnowned (least g.vertices (is_unowned g claims))

abbrev pub twice_fault : DecodingGraph → List OwnedRange → Option PlanFault
twice_fault g claims = option_map VertexTwice (least g.vertices (is_owned_twice g claims))

abbrev pub child_fault : ℕ → List (ℕ × ℕ) → Option PlanFault
child_fault units joins = option_map ChildOutOfRange (least (length joins) (is_out_of_range units joins))

abbrev pub use_fault : List (ℕ × ℕ) → Option PlanFault
use_fault joins = option_map ChildUsedTwice (least (length joins) (is_used_twice joins))

abbrev pub root_fault : ℕ → ℕ → Option PlanFault
root_fault units joins = if units == joins + 1 then None else Some NotOneRoot

abbrev pub edge_fault : DecodingGraph → PlanTree → Option PlanFault
edge_fault g t = option_map EdgeAcross (least (length g.edges) (λ e. goes_across t (edge_at g.edges e)))

-- the first fault of the list
abbrev pub first_of_faults : List (Option PlanFault) → Option PlanFault
first_of_faults [] = None
first_of_faults (fault ∷ faults) = option_or fault (first_of_faults faults)

-- the first rule that is broken
abbrev pub plan_fault : DecodingGraph → List (List (ℕ × ℕ)) → List (ℕ × ℕ) → List (List (ℕ × ℕ)) → Option PlanFault
plan_fault g units joins seams = first_of_faults (
    units_fault units
    ∷ range_fault g.vertices (units ++ seams)
    ∷ unowned_fault g (claims_from 0 (units ++ seams))
    ∷ twice_fault g (claims_from 0 (units ++ seams))
    ∷ child_fault (length units) joins
    ∷ use_fault joins
    ∷ root_fault (length units) (length joins)
    ∷ edge_fault g (tree_by g units joins seams)
    ∷ [])

abbrev pub or_fault : Option PlanFault → PlanTree → Result PlanTree PlanFault
or_fault (Some fault) t = Err fault
or_fault None t = Ok t

-- the plan of the units' ranges, the fusions' children and their seams, or the first rule that they break
abbrev pub plan_by : DecodingGraph → List (List (ℕ × ℕ)) → List (ℕ × ℕ) → List (List (ℕ × ℕ))
    → Result PlanTree PlanFault
plan_by g units joins seams = or_fault (plan_fault g units joins seams) (tree_by g units joins seams)

-- the plan of the units' ranges and the fusions, or the first rule that they break
abbrev pub plan_from : DecodingGraph → List (List (ℕ × ℕ)) → List Join → Result PlanTree PlanFault
plan_from g units fusions = plan_by g units (joins_of fusions) (seams_of fusions)
