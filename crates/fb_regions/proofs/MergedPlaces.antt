-- Names of regions that are put behind others, one after another.
use Rattle.std.proofs.Common.{ℕ, ◌≡◌, false, List, [], ◌∷◌, ◌++◌, sym, ap, ◌∙◌, subst, append_assoc}
use Rattle.std.proofs.lemmas.List.{map-append}
use Rattle.fb_graph.specs.Parity.{is_in}
use Rattle.fb_graph.specs.Certificate.{AreDistinct}
use Rattle.fb_regions.specs.declared.region.Region.{Region}
use Rattle.fb_regions.specs.InternalMerged.{renamed_region, renamed_regions}
use Rattle.fb_regions.proofs.ByName.{names}
use Rattle.fb_regions.proofs.Listed.{distinct_before}

-- in a distinct list the next number isn't among those before it
pub fresh_next : (f : ℕ → ℕ) (rs rest all : List Region) (r : Region) → rs ++ renamed_regions f (r ∷ rest) ≡ all
    → AreDistinct (names all) → is_in (names rs) (f r.name) ≡ false
fresh_next f rs rest all r is distinct =
    distinct_before (names rs) (names (renamed_regions f rest)) (f r.name)
    (subst AreDistinct (map-append (λ s. s.name) rs (renamed_regions f (r ∷ rest)))
    (subst (λ l. AreDistinct (names l)) (sym is) distinct))

pub renamed_push : (f : ℕ → ℕ) (rs new rest all : List Region) (r : Region) → rs ++ renamed_regions f (r ∷ rest) ≡ all
    → new ≡ rs ++ renamed_region f r ∷ [] → new ++ renamed_regions f rest ≡ all
renamed_push f rs new rest all r was is =
    ap (λ l. l ++ renamed_regions f rest) is
    ∙ (append_assoc rs (renamed_region f r ∷ []) (renamed_regions f rest) ∙ was)
