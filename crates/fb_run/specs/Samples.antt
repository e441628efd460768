-- What a sample draws, and the text that it writes.
use Rattle.std.specs.Prelude.{◌≡◌, ℕ, zero, suc, ◌*◌, ℤ, pos, ◌+ℤ◌, List, [], ◌∷◌, ◌++◌, length, codes, decimal}
use Rattle.std.specs.Fmt.{signed_decimal}
use Rattle.fb_crew.specs.Windows.{AreRows, defect_count}
use Rattle.fb_gen.specs.Drawing.{hits_of, shot_from, state_after}
use Rattle.fb_graph.specs.Limits.{DecodingGraph, ShotValue}
use Rattle.fb_graph.specs.declared.parts.Row.{Row}
use Rattle.fb_graph.specs.declared.parts.Row.TheVariants.{Best, Odd}
use Rattle.fb_plan.specs.Plans.{PlanTree}
use Rattle.fb_report.specs.Texts.{line}
use Rattle.fb_request.specs.Requests.{Sampling}

-- The shots that are drawn one after another from a state of the generator, which goes on from shot to shot: each edge
-- of a shot takes one draw.
abbrev pub drawn_shots : DecodingGraph → (rate state count : ℕ) → List ShotValue
drawn_shots g rate x zero = []
drawn_shots g rate x (suc n) =
    shot_from g (hits_of x rate (length g.edges)) ∷ drawn_shots g rate (state_after x (length g.edges)) n

-- the weight of a row's correction
abbrev pub weight_in : Row → ℤ
weight_in (Best edges base weight cuts) = weight
weight_in (Odd v) = pos 0

-- the weight of all corrections
abbrev pub weights_in : List Row → ℤ
weights_in [] = pos 0
weights_in (r ∷ rs) = weight_in r +ℤ weights_in rs

-- `count` drawn shots have these many defects, and their corrections this weight
pub record HaveSums (g : DecodingGraph) (rate start count defects : ℕ) (weight : ℤ) : Type 0 where
  pub rows : List Row
  pub decoded : AreRows g (drawn_shots g rate start count) rows
  pub defects_of : defects ≡ defect_count (drawn_shots g rate start count)
  pub weight_of : weight ≡ weights_in rows

-- the first line: what the text is, and the version of its format
unfoldable pub sample_head : List ℕ
sample_head = line (codes "fusion-sample") (codes "1" ∷ [])

-- the line of the lattice, its plan and the draws
unfoldable pub sizes_line : Sampling → List ℕ
sizes_line s =
    line (codes "distance") (decimal s.distance ∷ codes "rounds" ∷ decimal s.rounds ∷ codes "units" ∷ decimal s.units
    ∷ codes "rate" ∷ decimal s.rate ∷ codes "start" ∷ decimal s.start ∷ [])

-- the line of the shots, their defects, and the weight of their corrections
unfoldable pub sums_line : (shots defects : ℕ) (weight : ℤ) → List ℕ
sums_line shots defects weight =
    line (codes "shots") (decimal shots ∷ codes "defects" ∷ decimal defects ∷ codes "weight" ∷ signed_decimal weight ∷ [])

-- the last line: the numbers of units and of fusions that were solved
unfoldable pub work_line : (units fusions : ℕ) → List ℕ
work_line units fusions = line (codes "done") (codes "units" ∷ decimal units ∷ codes "fusions" ∷ decimal fusions ∷ [])

-- the whole text of a sample, by the plan, the number of defects and the weight of the corrections
unfoldable pub sample_text : Sampling → PlanTree → (defects : ℕ) (weight : ℤ) → List ℕ
sample_text s t defects weight =
    sample_head
    ++ (sizes_line s
    ++ (sums_line s.shots defects weight
    ++ work_line (t.units * s.shots) (length t.joins * s.shots)))
