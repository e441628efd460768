-- The state without nodes.
use Rattle.std.proofs.Common.{ℕ, ◌≡◌, List, [], replicate, Option, None, Some, sym, subst, arith, rules}
use Rattle.std.proofs.lemmas.Grind.{common_steps}
use Rattle.fb_graph.specs.Problem.{Problem}
use Rattle.fb_regions.specs.declared.marks.Mark.{Mark}
use Rattle.fb_regions.specs.declared.region.Region.{Region}
use Rattle.fb_regions.specs.InternalClock.{HaveBegun, all_at}
use Rattle.fb_regions.specs.InternalHeads.{HaveHeads}
use Rattle.fb_regions.specs.InternalKept.{IsKept}
use Rattle.fb_regions.specs.InternalListings.{region_named}
use Rattle.fb_regions.specs.InternalPlaces.{IsIndex}

pub kept_none : (p : Problem) (regions : List Region) (marks : List (Option Mark)) → regions ≡ []
    → marks ≡ replicate p.vertices None → IsKept p regions marks
kept_none p regions marks none unmarked = rw (none, unmarked) (grind (arith, common_steps))

pub index_none : (regions : List Region) (places : List (Option ℕ)) → regions ≡ [] → places ≡ [] → IsIndex regions places
index_none regions places none empty = rw (none, empty) (search rules)

pub begun_none : (clock : ℕ) (regions : List Region) → regions ≡ [] → HaveBegun clock regions
begun_none clock regions none = subst (HaveBegun clock) (sym none) (λ k d less. absurd (omega (arith, less)))

pub heads_none : (clock : ℕ) (regions : List Region) → regions ≡ [] → HaveHeads (region_named (all_at clock regions))
heads_none clock regions none =
    subst (λ l. HaveHeads (region_named (all_at clock l))) (sym none)
    (record {
      heads = λ x r e. absurd (let clash : None ≡ Some r = e in cc);
      leaves = λ x r e childless. absurd (let clash : None ≡ Some r = e in cc);
      apart = λ x c d r s t e c_in d_in f g same. absurd (let clash : None ≡ Some r = e in cc);
      leads = λ x r e. absurd (let clash : None ≡ Some r = e in cc);
    })
