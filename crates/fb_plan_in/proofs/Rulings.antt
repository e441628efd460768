-- What the rules of a plan say of joins is what they say of the fusions that the joins are.
use Rattle.std.proofs.Common.{◌≡◌, ℕ, List, map, refl}
use Rattle.std.proofs.lemmas.Simd.{map-map}
use Rattle.fb_graph.specs.Limits.{DecodingGraph}
use Rattle.fb_plan.specs.Rules.{plan_from}
use Rattle.fb_plan.specs.declared.parts.Join.{Join}
use Rattle.fb_plan_in.specs.PlanText.{Fusion, plan_of}
use Rattle.fb_plan_in.specs.InternalFusions.{fusion_from}

pub plan_of_joins : (g : DecodingGraph) (units : List (List (ℕ × ℕ))) (joins : List Join)
    → plan_from g units joins ≡ plan_of g units (map fusion_from joins)
unfolding plan_of
plan_of_joins g units joins =
    rw (map-map seam_of fusion_from joins, map-map nodes_of fusion_from joins) refl
  where
    seam_of : Fusion → List (ℕ × ℕ)
    seam_of f = f.seam

    nodes_of : Fusion → ℕ × ℕ
    nodes_of f = (f.left, f.right)
