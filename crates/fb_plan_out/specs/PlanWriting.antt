-- The text of a plan: one JSON value (RFC 8259) without spaces, and a newline.
use Rattle.std.specs.Prelude.{ℕ, ◌+◌, List, [], ◌∷◌, ◌++◌, length, map, codes, decimal}
use Rattle.std.specs.List.{range_with_len}
use Rattle.json.specs.Json.{Json, number, array, object, Items, no_items, item, no_members, member}
use Rattle.json.specs.Tree.{json_tokens}
use Rattle.json.specs.Print.{print}
use Rattle.fb_plan.specs.Plans.{PlanTree, join_at}
use Rattle.fb_plan.specs.Vertices.{owned_by}
use Rattle.fb_layers.specs.Runs.{runs}

abbrev pub items_from : List Json → Items
items_from [] = no_items
items_from (j ∷ js) = item j (items_from js)

-- a pair of numbers
abbrev pub pair_json : ℕ × ℕ → Json
pair_json p = array (item (number (decimal p.0)) (item (number (decimal p.1)) no_items))

-- a list of ranges
abbrev pub ranges_json : List (ℕ × ℕ) → Json
ranges_json ranges = array (items_from (map pair_json ranges))

-- the ranges of a node: the maximal runs of consecutive vertices that it owns, rising
abbrev pub ranges_at : PlanTree → ℕ → List (ℕ × ℕ)
ranges_at t n = runs (owned_by t n)

-- a unit is its ranges
abbrev pub unit_json : PlanTree → ℕ → Json
unit_json t n = ranges_json (ranges_at t n)

-- a fusion: its two nodes as `of`, and the ranges of its seam as `interface`
abbrev pub fusion_json : PlanTree → ℕ → Json
fusion_json t i = object
    (member (codes "of") (pair_json (join_at t.joins i))
    (member (codes "interface") (ranges_json (ranges_at t (t.units + i))) no_members))

abbrev pub units_json : PlanTree → Json
units_json t = array (items_from (map (unit_json t) (range_with_len 0 t.units)))

abbrev pub fusions_json : PlanTree → Json
fusions_json t = array (items_from (map (fusion_json t) (range_with_len 0 (length t.joins))))

-- a plan: its `units`, then its `fusions`
unfoldable pub plan_json : PlanTree → Json
plan_json t = object (member (codes "units") (units_json t) (member (codes "fusions") (fusions_json t) no_members))

-- the text of a plan
abbrev pub text_of_plan : PlanTree → List ℕ
text_of_plan t = print (json_tokens (plan_json t)) ++ 10 ∷ []
