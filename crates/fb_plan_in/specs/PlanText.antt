-- The plan of a text: one JSON value (RFC 8259), an object with `units` and `fusions`, or the first rule that the text
-- breaks. Other members are ignored.
use Rattle.std.specs.Prelude.{ℕ, nat_lt, if◌then◌else◌, List, [], ◌∷◌, ◌++◌, length, map, codes, Option, Some, None, option_map, option_and_then, Result, Ok, Err}
use Rattle.serde_json.specs.Data.{Data, Items, no_items, item}
use Rattle.serde_json.specs.Find.{get, as_array}
use Rattle.fb_graph.specs.Limits.{DecodingGraph}
use Rattle.fb_json.specs.JsonText.{most_bytes, with_option, with_result, value_of, natural_of, entries_by}
use Rattle.fb_plan.specs.Plans.{PlanTree}
use Rattle.fb_plan.specs.Rules.{plan_by}
use Rattle.fb_plan.specs.declared.faults.PlanMember.TheVariants as member
use Rattle.fb_plan.specs.declared.faults.PlanPlace.{PlanPlace}
use Rattle.fb_plan.specs.declared.faults.PlanPlace.TheVariants as place
use Rattle.fb_plan.specs.declared.faults.PlanFault.{PlanFault}
use Rattle.fb_plan.specs.declared.faults.PlanFault.TheVariants.{TooLong, NotJson, Missing, NotWhole}

-- exactly two whole numbers of at least 0
abbrev pub two_of : Items → Option (ℕ × ℕ)
two_of (item a (item b no_items)) =
    option_and_then (λ first. option_map (λ second. (first, second)) (natural_of b)) (natural_of a)
two_of _ = None

-- a pair: a list of two whole numbers of at least 0
abbrev pub pair_of : Data → Option (ℕ × ℕ)
pair_of d = option_and_then two_of (as_array d)

-- pairs before those that a result has
abbrev pub after : {A : Type 0} → List A → Option (List A) → Option (List A)
after before None = None
after before (Some more) = Some (before ++ more)

-- the pairs of a list; None if an entry is no pair
abbrev pub pairs_of : Items → Option (List (ℕ × ℕ))
pairs_of no_items = Some []
pairs_of (item d ds) = option_and_then (λ pair. after (pair ∷ []) (pairs_of ds)) (pair_of d)

-- the ranges of a node: a list of pairs
abbrev pub ranges_of : Data → Option (List (ℕ × ℕ))
ranges_of d = option_and_then pairs_of (as_array d)

-- a fusion of two nodes, with the ranges of its seam
pub record Fusion : Type 0 where
  pub left : ℕ
  pub right : ℕ
  pub seam : List (ℕ × ℕ)

-- a fusion: an object with its two nodes as `of` and the ranges of its seam as `interface`
abbrev pub fusion_of : Data → Option Fusion
fusion_of d =
    option_and_then (λ nodes. option_and_then (λ interface.
    option_and_then (λ pair.
    option_map (λ seam. record { left = pair.0; right = pair.1; seam = seam }) (ranges_of interface))
    (pair_of nodes)) (get (codes "interface") d)) (get (codes "of") d)

-- the entries of a list, the first of which has number i, or the place of the first one that isn't of its form
abbrev pub entries_of : {A : Type 0} → (Data → Option A) → (ℕ → PlanPlace) → ℕ → Items → Result (List A) PlanFault
entries_of entry_of at = entries_by entry_of (λ i. NotWhole (at i))

-- what the value says: the ranges of each unit, and the fusions
unfoldable pub parts_of : Data → Result (List (List (ℕ × ℕ)) × List Fusion) PlanFault
parts_of d =
    with_option (get (codes "units") d) (Missing member.Units) (λ units.
    with_option (get (codes "fusions") d) (Missing member.Fusions) (λ fusions.
    with_option (as_array units) (NotWhole place.Units) (λ units.
    with_option (as_array fusions) (NotWhole place.Fusions) (λ fusions.
    with_result (entries_of ranges_of place.Unit 0 units) (λ ranges.
    with_result (entries_of fusion_of place.Fusion 0 fusions) (λ joins.
    Ok (ranges, joins)))))))

-- what a text says
abbrev pub parts_of_text : List ℕ → Result (List (List (ℕ × ℕ)) × List Fusion) PlanFault
parts_of_text bytes =
    if nat_lt most_bytes (length bytes) then Err TooLong
    else with_option (value_of bytes) NotJson parts_of

-- the plan of these ranges and fusions, or the first rule that they break
unfoldable pub plan_of : DecodingGraph → List (List (ℕ × ℕ)) → List Fusion → Result PlanTree PlanFault
plan_of g units fusions = plan_by g units (map (λ f. (f.left, f.right)) fusions) (map (λ f. f.seam) fusions)

-- the plan of a text over a graph, or the first rule that the text breaks
abbrev pub plan_of_text : List ℕ → DecodingGraph → Result PlanTree PlanFault
plan_of_text bytes g = with_result (parts_of_text bytes) (λ parts. plan_of g parts.0 parts.1)
