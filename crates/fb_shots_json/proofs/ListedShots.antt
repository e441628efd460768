-- The shot that is made of the defects and the changes of a line.
use Rattle.std.proofs.Common.{◌≡◌, ℕ, ℤ, eqb, List, sym, ap, ◌∙◌}
use Rattle.std.specs.List.Sorted.{IsPermutation, IsStrictlyIncreasing}
use Rattle.std.proofs.lemmas.List.Sorted.{list_any-IsPermutation}
use Rattle.fb_graph.specs.Limits.{DecodingGraph, IsShot, ShotValue, turned_by}
use Rattle.fb_graph.proofs.Sets.{rising_same}

-- defects that rise already are not moved
same_defects : (listed sorted : List ℕ) → IsStrictlyIncreasing listed → IsStrictlyIncreasing sorted → IsPermutation listed sorted
    → sorted ≡ listed
same_defects listed sorted low high permuted =
    rising_same sorted listed high low (λ v. sym (list_any-IsPermutation (λ u. eqb u v) listed sorted permuted))

pub listed_shot : (g : DecodingGraph) (defects : List ℕ) (changes : List (ℕ × ℤ)) (shot : ShotValue) → IsStrictlyIncreasing defects
    → IsShot g shot → IsPermutation defects shot.defects → shot.changes ≡ changes
    → record { defects = defects; changes = changes; turned = turned_by g changes } ≡ shot
listed_shot g defects changes shot rising is permuted same =
    sym (ap (λ ds. record { defects = ds; changes = shot.changes; turned = shot.turned }) (same_defects defects shot.defects rising is.rising permuted)
    ∙ (ap (λ ts. record { defects = defects; changes = shot.changes; turned = ts }) is.turned
    ∙ ap (λ (cs : List (ℕ × ℤ)). record { defects = defects; changes = cs; turned = turned_by g cs }) same))
