-- A dual state over a part of a problem is one over the whole.
use Rattle.std.proofs.Common.{◌≡◌, false, List, [], append-nil, Option, refl, subst}
use Rattle.std.proofs.lemmas.Bool.{false≢true}
use Rattle.fb_graph.specs.Laws.{IsPart}
use Rattle.fb_graph.specs.Limits.{IsWithinLimits}
use Rattle.fb_graph.specs.NestUnions.{AreParts}
use Rattle.fb_graph.specs.Problem.{Problem}
use Rattle.fb_regions.specs.declared.marks.Mark.{Mark}
use Rattle.fb_regions.specs.declared.region.Region.{Region}
use Rattle.fb_regions.specs.InternalKept.{IsKept}
use Rattle.fb_regions.proofs.MergedStates.{kept_both}
use Rattle.fb_regions.proofs.Unmarked.{kept_none}

-- the problem without a real vertex
abbrev nothing_of : Problem → Problem
nothing_of whole = record whole { vertices = 0; is_real = λ v. false }

beside_nothing : (part whole : Problem) → IsPart part whole → AreParts part (nothing_of whole) whole
beside_nothing part whole is = record {
  left_part = is;
  right_part = record { edges = refl; real = λ v h. absurd (false≢true h); defects = λ v h. refl };
  separated = record { vertices = λ v h. refl; edges = λ i d less h. refl };
}

pub kept_widened : (part whole : Problem) (regions : List Region) (marks : List (Option Mark)) → IsWithinLimits whole → IsPart part whole
    → part.vertices ≡ whole.vertices → IsKept part regions marks → IsKept whole regions marks
kept_widened part whole regions marks limits is room one =
    subst (λ l. IsKept whole l marks) (append-nil regions)
    (kept_both part (nothing_of whole) whole regions [] marks [] (λ x. x) limits (beside_nothing part whole is) one
    (kept_none (nothing_of whole) [] [] refl refl) (record { apart = λ a b h k e. e; fresh = λ a live. absurd (false≢true live) })
    marks (record { count = refl; marks = λ v. refl }) room)
