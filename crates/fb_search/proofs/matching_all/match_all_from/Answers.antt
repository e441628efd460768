use Rattle.std.proofs.Common.{ℕ, ◌≡◌, ◌<◌, ◌∙◌, List, [], ◌∷◌, get_or, length, ap, arith, refl, sym}
use Rattle.std.proofs.lemmas.Result.{IfOk-weaker}
use Rattle.fb_graph.specs.Parity.{is_in}
use Rattle.fb_graph.proofs.Sets.{is_in_at}
use Rattle.fb_half.specs.Parts.{PartValue}
use Rattle.fb_search.specs.Progress.{IsSearched}
use Rattle.fb_search.proofs.matching_all.match_all_from.Goals as goal

none_in : (xs : List ℕ) → length xs < 1 → xs ≡ []
none_in [] less = refl
none_in (x ∷ xs) less = absurd (omega (arith, less))

-- the search from the only unmatched node leaves none
all_searched : (root : ℕ) (before after : PartValue) → length before.matching.unmatched < 2 → IsSearched root before after
    → after.matching.unmatched ≡ []
all_searched root before after one is = none_in after.matching.unmatched (omega (arith, one, is.fewer))

pub search_from-requires-clause-unmatched : goal.search_from-requires-clause-unmatched
search_from-requires-clause-unmatched g c =
    ap (λ l. is_in l (get_or c.unmatched-2.result.now 0 0)) (sym c.unmatched-2.ensures)
    ∙ is_in_at c.unmatched-2.result.now 0 0 (omega (arith, c.in-len1.len_at_least))

pub returns-in-len1-clause-none : goal.returns-in-len1-clause-none
returns-in-len1-clause-none g c =
    let one : length c.in_ok-work.work.matching.unmatched < 2 = omega (arith, ap length c.unmatched-2.ensures, c.in-len1.len_below) in
    IfOk-weaker c.search_from.result _ _ (λ r is. all_searched _ c.in_ok-work.work r.0 one is) c.search_from.ensures.searched
