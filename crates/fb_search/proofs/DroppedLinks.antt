-- The links that are forgotten where a search ends can be: each of them is there, once.
use Rattle.std.proofs.Common.{ℕ, ◌≡◌, All, true, List, ◌++◌, get_or, is_some, sym, ap, ◌∙◌}
use Rattle.std.specs.List.Sorted.{IsPermutation}
use Rattle.std.proofs.lemmas.Bool.{false≢true}
use Rattle.fb_graph.specs.Parity.{is_in}
use Rattle.fb_graph.specs.Certificate.{AreDistinct}
use Rattle.fb_graph.specs.Problem.{Problem}
use Rattle.fb_graph.proofs.Sets.{is_in_at}
use Rattle.fb_laws.proofs.OpenedBlossoms.{distinct_permuted, same_permuted}
use Rattle.fb_laws.proofs.TreePaths.{distinct_right}
use Rattle.fb_links.specs.declared.walk.Step.{Step}
use Rattle.fb_links.specs.Table.{Adds, is_live}
use Rattle.fb_half.specs.Parts.{AreLinksOf}
use Rattle.fb_search.proofs.EndedLinks.{new_number}
use Rattle.fb_links.proofs.MovedLinks.{Table}
use Rattle.fb_graph.proofs.Floods.{is_in-right}

pub dropped_once : (p : Problem) (old : Table) (ids kept gone : List ℕ) → AreLinksOf p old ids → IsPermutation ids (kept ++ gone)
    → AreDistinct gone
dropped_once p old ids kept gone are moved = distinct_right kept gone (distinct_permuted ids (kept ++ gone) moved are.distinct)

pub dropped_live : (p : Problem) (old mid : Table) (ids kept gone : List ℕ) (id : ℕ) (walk : List Step) → AreLinksOf p old ids
    → IsPermutation ids (kept ++ gone) → Adds old mid id walk → All (λ k. is_live mid k ≡ true) gone
dropped_live p old mid ids kept gone id walk are moved adds i d less =
    ap is_some (adds.others (get_or gone i d) other)
    ∙ (are.live (get_or gone i d)
    ∙ (sym (same_permuted ids (kept ++ gone) moved (get_or gone i d)) ∙ is_in-right kept gone (get_or gone i d) (is_in_at gone i d less)))
  where
    other : get_or gone i d ≡ id → ⊥
    other same =
        false≢true (sym (new_number p old mid ids kept gone id walk are moved adds).1
        ∙ (ap (is_in gone) (sym same) ∙ is_in_at gone i d less))
