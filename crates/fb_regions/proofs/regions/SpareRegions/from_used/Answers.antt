use Rattle.std.proofs.Common.{ℕ, ◌≡◌, ◌∙◌, List, length, replicate, Option, None, ap, sym}
use Rattle.std.proofs.lemmas.List.{length-replicate}
use Rattle.fb_regions.specs.declared.marks.Mark.{Mark}
use Rattle.fb_regions.proofs.regions.SpareRegions.from_used.Goals as goal

counted : (marks : List (Option Mark)) (n : ℕ) → marks ≡ replicate n None → length marks ≡ n
counted marks n none = ap length none ∙ length-replicate n None

pub invariant_of-result : goal.invariant_of-result
invariant_of-result c =
    let none : (marks : List (Option Mark)) (n : ℕ) → marks ≡ replicate n None → marks ≡ replicate (length marks) None =
    λ marks n none. none ∙ ap (λ k. replicate k None) (sym (counted marks n none)) in
    (c.clear.ensures.items, c.clear-2.ensures.items, none _ (length c.args.marks) search)

pub returns : goal.returns
returns c = counted _ _ search
